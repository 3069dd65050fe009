-- `prefix::valid` meets its contract: by the half in which the width ends.
-- Assumes nothing.
use borrow.Author.Rules.{rules}
use Rattle.prefix.proofs.KeysLaws.{valid_short, valid-long, valid_full}
use Rattle.prefix.proofs.valid.Goals as goal

pub returns-then-p-lt64 : goal.returns-then-p-lt64
returns-then-p-lt64 c =
    valid_short _ _ _ _ c.high.ensures c.low.ensures (search rules) c.clear_after.ensures (search rules)

pub returns-then-p-lt128 : goal.returns-then-p-lt128
returns-then-p-lt128 c = valid-long _ _ _ c.low-then-p-lt128.ensures c.clear_after-then-p-lt128.ensures (search rules) (search rules)

pub returns : goal.returns
returns c = valid_full _ (search rules)
