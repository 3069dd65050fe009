-- `ground::cell` meets its contract: each way out is one case of `cell_of`.
-- Assumes nothing.
use mir.Facts.{to_z-of_z}
use Rattle.ground.proofs.CellsLaws.{cell_of-longitude, cell_of-latitude, cell_of_at, cell-promise}
use Rattle.ground.proofs.cell.Goals as goal
use Rattle.ground.proofs.cell.Goals.{then-not-inside-via-then-not-inside, then-not-inside-via-else-not-inside+then-not-inside-2}

pub returns-then-not-inside : goal.returns-then-not-inside
returns-then-not-inside c =
    let lon = to_z-of_z c.ranges.longitude in
    let lat = to_z-of_z c.ranges.latitude in
    cell-promise _ _ _
    (elim c.then-not-inside.branch [
      | then-not-inside-via-then-not-inside w ↦ cell_of-longitude _ _ (cc (lon, w.if-not-inside.true))
      | then-not-inside-via-else-not-inside+then-not-inside-2 w ↦ cell_of-latitude _ _ (cc (lon, w.if-not-inside.false)) (cc (lat, w.if-not-inside-2.true))
    ])

pub returns : goal.returns
returns c =
    let lon = to_z-of_z c.ranges.longitude in
    let lat = to_z-of_z c.ranges.latitude in
    cell-promise _ _ _ (cell_of_at _ _ _ (cc (lon, c.if-not-inside.false)) (cc (lat, c.if-not-inside-2.false)) (cc (lon, lat)))
