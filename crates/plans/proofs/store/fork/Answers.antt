-- `plans::store::fork` meets its contract: where it comes to the end, what is written is as the plan has it.
-- Assumes nothing.
use Rattle.plans.proofs.MakingLaws.{inside-hung, inside-with_record}
use Rattle.plans.proofs.PartsLaws.{spare_on_taken}
use Rattle.plans.proofs.PlanningLaws.{fork_on_done}
use Rattle.plans.proofs.store.fork.Goals as goal

pub write_record-requires-2 : goal.write_record-requires-2
write_record-requires-2 c =
    inside-with_record _ _ _ _ _ c.write_record.ensures (inside-hung c.hang.ensures (spare_on_taken _ _ c.in_ok-y.ensures))

pub returns : goal.returns
returns c =
    fork_on_done _ _ _ _ _ _ _ _ c.in_ok-y.ensures c.hang.ensures c.leaf.ensures c.forked.ensures
    c.write_record.ensures c.write_record-2.ensures c.requires.2 c.in_ok-hang.was
