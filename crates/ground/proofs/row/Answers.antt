-- `ground::row` meets its contract: its two calls are the two parts of the definition.
-- Assumes nothing.
use mir.Facts.{to_z-of_z}
use Rattle.ground.specs.Cells.{row}
use Rattle.ground.proofs.row.Goals as goal

pub returns : goal.returns
unfolding row
returns c = rw (c.min.ensures, c.scaled.ensures, to_z-of_z c.ranges.lat)
