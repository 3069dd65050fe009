-- `ground::interleaved` meets its contract: the first word has the upper 16 bits of each in turn, the second
-- the lower.
-- Assumes nothing.
use Rattle.ground.proofs.CellsLaws.{prefix_of-turns}
use Rattle.ground.proofs.interleaved.Goals as goal

pub returns : goal.returns
returns c = prefix_of-turns _ _ _ (cc)
