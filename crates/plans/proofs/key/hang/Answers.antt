-- `plans::key::hang` meets its contract: the header is written, and the one link below it.
-- Assumes nothing.
use borrow.Author.Rules.{rules}
use Rattle.plans.proofs.PartsLaws.{hang_on_top, hang_on_node}
use Rattle.plans.proofs.key.hang.Goals as goal

pub returns-in_default : goal.returns-in_default
returns-in_default c = hang_on_top _ _ _ _ _ (rw c.in_default.is at c.in_ok-r.ensures) c.write_header.ensures

pub returns : goal.returns
returns c =
    hang_on_node _ _ _ _ _ (rw c.in-Some.is at c.in_ok-r.ensures) _ c.write_header-2.ensures
    (rw c.read_header-h.ensures) c.bit.ensures c.write_side.ensures (search rules)
