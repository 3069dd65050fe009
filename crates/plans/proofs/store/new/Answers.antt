-- `plans::store::new` meets its contract: where nothing is met, what is written is as the plan has it.
-- Assumes nothing.
use Rattle.plans.proofs.PlanningLaws.{new_on_done}
use Rattle.plans.proofs.store.new.Goals as goal

pub returns-in_ok-hang-in-Matching : goal.returns-in_ok-hang-in-Matching
returns-in_ok-hang-in-Matching c =
    rw c.in-Matching.is
    (new_on_done _ _ _ _ _ _ c.in-Matching.field-0 c.hang.ensures c.leaf.ensures c.write_record.ensures c.requires.1
    c.in_ok-hang-in-Matching.was)
