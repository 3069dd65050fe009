-- `metadata::count` meets its contract: a number of at most three bytes fits 32 bits.
-- Assumes nothing.
use native.Mathlib.Omega.{arith}
use Rattle.metadata.proofs.ReadingLaws.{three_bytes}
use Rattle.metadata.proofs.count.Goals as goal

pub overflow_cast-result : goal.overflow_cast-result
overflow_cast-result c = omega (arith, three_bytes _ _ (omega arith) c.number_at-number.ensures.small)
