-- `prefix::same_top` meets its contract: the halves' common bits are the leading zeros of their xor.
-- Assumes nothing.
use borrow.Author.Rules.{rules}
use Rattle.bits.proofs.NumbersLaws.{length-lcp-bits_of}
use Rattle.prefix.proofs.same_top.Goals as goal

pub returns : goal.returns
returns c = length-lcp-bits_of 64 _ _ (search rules) (search rules)
