-- `image_verify::data::Section::read` meets its contract: a number of at most four bytes fits 32 bits.
-- Assumes nothing.
use native.Mathlib.Nat.{lt_of_lt_of_le, pow-le-pow_right}
use native.Mathlib.Omega.{arith}
use lib.Dec.{lit<}
use Rattle.image_verify.proofs.data.Section.read.Goals as goal

pub overflow_cast-result : goal.overflow_cast-result
overflow_cast-result c =
    let w = c.number_at.ensures in
    record { fits = lt_of_lt_of_le w.small (pow-le-pow_right {n = 256} (lit< tt) {j = 4} (omega arith)) }
