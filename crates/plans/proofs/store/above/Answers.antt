-- `plans::store::above` meets its contract: where it comes to the end, what is written is as the plan has it.
-- Assumes nothing.
use Rattle.plans.proofs.PlanningLaws.{above_on_done}
use Rattle.plans.proofs.store.above.Goals as goal

pub returns : goal.returns
returns c =
    above_on_done _ _ _ _ _ _ _ c.in_ok-node_at.ensures c.key_of-p.ensures c.if-p-gt128.false c.if-p-k.false
    c.hang.ensures c.leaf_above.ensures c.write_record.ensures c.requires.1 c.in_ok-hang.was
