-- `plans::store::here` meets its contract: what the link leads to, with the zone number.
-- Assumes nothing.
use Rattle.plans.proofs.PlanningLaws.{here_on_node}
use Rattle.plans.proofs.store.here.Goals as goal

pub returns : goal.returns
returns c = here_on_node _ _ _ _ c.in_ok-r.ensures c.node_of.ensures c.write_record.ensures
