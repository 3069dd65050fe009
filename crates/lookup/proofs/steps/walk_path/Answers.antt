-- `lookup::steps::walk_path` meets its contract: the walk goes on from where the descent stopped.
-- Assumes nothing.
use native.Mathlib.Omega.{arith}
use Rattle.records.proofs.LayoutLaws.{is_table_true}
use Rattle.lookup.proofs.DescentLaws.{low-walk_in}
use Rattle.lookup.proofs.ReadingLaws.{walked_from}
use Rattle.lookup.proofs.steps.walk_path.Goals as goal

pub read_header-h-requires : goal.read_header-h-requires
read_header-h-requires g c = (is_table_true _ c.requires).least

pub walk_on-requires : goal.walk_on-requires
walk_on-requires g c =
    let d = c.descend-note.ensures.descended in
    let e = low-walk_in _ _ _ _ c.walk_of-s.ensures in
    (omega (arith, d.few, e), omega (arith, d.early, e))

pub returns : goal.returns
returns g c =
    walked_from _ _ _ _ _ _ _ _ _ _ _ c.descend-note.ensures c.last.ensures c.walk_of-s.ensures c.walk_on.ensures
