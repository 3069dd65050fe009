-- `ground::spread_nibble` meets its contract: a remainder by 2 is a bit's digit, its factor the bit's worth.
-- Assumes nothing.
use native.Mathlib.Omega.{arith}
use Rattle.bits.specs.Numbers.{bits_of, value}
use Rattle.bits.proofs.ValueLaws.{digit-odd}
use Rattle.ground.proofs.spread_nibble.Goals as goal

pub returns : goal.returns
unfolding bits_of value
returns c = simp digit-odd (omega arith)
