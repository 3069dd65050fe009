-- `prefix::half_bit` meets its contract: bit i from the top is the lowest after a shift by 63 - i.
-- Assumes nothing.
use mathlib.Core.Path.{sym}
use borrow.Author.Rules.{rules}
use Rattle.bits.proofs.NumbersLaws.{get_or-bits_of}
use Rattle.prefix.proofs.half_bit.Goals as goal

pub returns : goal.returns
returns c = sym (get_or-bits_of 63 _ _ (search rules))
