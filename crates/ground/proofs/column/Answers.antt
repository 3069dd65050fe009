-- `ground::column` meets its contract: its two calls are the two parts of the definition.
-- Assumes nothing.
use mir.Facts.{to_z-of_z}
use Rattle.ground.specs.Cells.{column}
use Rattle.ground.proofs.column.Goals as goal

pub returns : goal.returns
unfolding column
returns c = rw (c.min.ensures, c.scaled.ensures, to_z-of_z c.ranges.lon)
