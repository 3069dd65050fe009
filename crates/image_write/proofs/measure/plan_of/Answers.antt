-- `image_write::measure::plan_of` meets its contract: the tree is counted from the root, and an empty one
-- is one node.
-- Assumes nothing.
use Rattle.image_write.proofs.WholeLaws.{part_holds, planned_holds}
use Rattle.image_write.proofs.measure.plan_of.Goals as goal

pub count_below-requires : goal.count_below-requires
count_below-requires c = part_holds _ c.requires.0 _ c.read_header-root.ensures c.requires.1

pub returns : goal.returns
returns c m h =
    planned_holds _ _ _ _ _ c.read_header-root.ensures c.count_below.ensures c.max-nodes.ensures m h (c.measure-runs.ensures m h)
