-- `ground::scaled` meets its contract: z is within half, so their sum is the shifted number, not below 0.
-- Assumes nothing.
use borrow.Author.Rules.{rules}
use Rattle.ground.proofs.CellsLaws.{scaled_back}
use Rattle.ground.proofs.scaled.Goals as goal

pub returns : goal.returns
returns c =
    scaled_back _ _ _ _ c.ranges.z c.from-wide.ensures c.from-most.ensures (search rules) (search rules)
