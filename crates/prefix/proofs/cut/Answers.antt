-- `prefix::cut` meets its contract: the second half goes whole, or the first stays whole.
-- Assumes nothing.
use borrow.Author.Rules.{rules}
use Rattle.prefix.proofs.KeysLaws.{cut_short, cut-long}
use Rattle.prefix.proofs.cut.Goals as goal

pub returns-then-n-lt64 : goal.returns-then-n-lt64
returns-then-n-lt64 c =
    cut_short _ _ _ _ (search rules) (search rules) c.high.ensures (search rules) _ (search rules) c.of_halves.ensures c.keep.ensures

pub returns : goal.returns
returns c =
    cut-long _ _ _ _ (search rules) (search rules) c.high-2.ensures (search rules) _ _ (search rules) c.low.ensures c.of_halves-2.ensures
    c.keep-2.ensures
