-- `image_lookup::entry` meets its contract: a number of at most four bytes fits 32 bits.
-- Assumes nothing.
use native.Mathlib.Omega.{arith}
use Rattle.image_lookup.proofs.ReadingLaws.{four_bytes}
use Rattle.image_lookup.proofs.entry.Goals as goal

pub overflow_cast-result : goal.overflow_cast-result
overflow_cast-result c = omega (arith, four_bytes _ _ (omega arith) c.number_at-number.ensures.small)
