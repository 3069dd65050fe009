-- `lookup::descent::descend` meets its contract. The loop's invariant is the contract's: the walk from the top
-- comes to what the walk from here does. The measure is how many of 64 bits the next node need not share.
-- Assumes nothing.
use native.Mathlib.Omega.{arith}
use borrow.Author.Rules.{rules}
use Rattle.lookup.proofs.DescentLaws.{turned-passed, room_most, low_past}
use Rattle.lookup.proofs.PassingLaws.{reached_start, reached_past}
use Rattle.records.proofs.LayoutLaws.{is_table_true}
use Rattle.lookup.proofs.descent.descend.Goals as goal

pub ends-requires : goal.ends-requires
ends-requires g c = (is_table_true _ c.requires.0).least

pub returns-then-not-ends : goal.returns-then-not-ends
returns-then-not-ends g c = reached_start _ _ _ _ _ _ _ c.none-note.ensures (search rules) (search rules) c.top-d.ensures

pub loop-x-init : goal.loop-x-init
loop-x-init g c = reached_start _ _ _ _ _ _ _ c.none-note.ensures (search rules) (search rules) c.top-d.ensures

pub with-note-requires : goal.with-note-requires
with-note-requires g c =
    let p = turned-passed _ _ _ _ _ _ c.turn_at.ensures c.in-Some.is in
    let most = room_most c.args.table.now _ c.requires.0 p.room in
    omega arith

pub loop-x-smaller : goal.loop-x-smaller
loop-x-smaller g c =
    let p = turned-passed _ _ _ _ _ _ c.turn_at.ensures c.in-Some.is in
    omega (arith, p.grown, p.early, low_past _ _ _ _ c.past-d.ensures.0)

pub loop-x-preserved : goal.loop-x-preserved
loop-x-preserved g c =
    let p = turned-passed _ _ _ _ _ _ c.turn_at.ensures c.in-Some.is in
    reached_past _ _ _ _ _ _ _ _ _ _ (search rules) p c.loop-x.invariant c.with-note.ensures _ c.past-d.ensures
