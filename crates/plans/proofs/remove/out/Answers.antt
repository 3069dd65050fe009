-- `plans::remove::out` meets its contract: a node with two sides stays, and stores nothing.
-- Assumes nothing.
use Rattle.plans.proofs.RemovalLaws.{out_on_both}
use Rattle.plans.proofs.remove.out.Goals as goal

pub returns-in_default : goal.returns-in_default
returns-in_default c =
    out_on_both _ _ _ _ c.node_of.ensures c.write_record.ensures c.requires.1 c.in_default.is-0.1 c.in_default.is-1.1
