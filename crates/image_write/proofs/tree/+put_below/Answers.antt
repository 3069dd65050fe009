-- `image_write::tree::put_below` meets its contract: what hangs on a node's sides is written by the same
-- function, then the node's own fork, then the way to it.
-- Assumes nothing.
use Prim.Native.Nat.{ℕ, ◌+◌, ◌-◌, ◌/◌}
use native.Mathlib.Omega.{arith}
use mathlib.Core.Path.{◌≡◌, refl, sym, ◌∙◌}
use lib.ListN.{length}
use borrow.Author.Rules.{rules}
use Rattle.image_write.proofs.PartLaws.{inside-hangs}
use Rattle.image_write.proofs.StockLaws.{stocked_length}
use Rattle.image_write.proofs.PlantLaws.{grows-tip, Node, planted_low, planted_high, planted-stalk, planted-fork, planted_left, planted_right, grew-forked, grew_end}
use Rattle.image_write.proofs.tree.+put_below.Goals as goal
use Rattle.image_write.proofs.tree.+put_below.Goals.{After-here_of-here, After-put_below-y}

pub returns-then-l-eq0 : goal.returns-then-l-eq0
returns-then-l-eq0 t c = grows-tip _ _ _ _ _ _ _ _ (search rules)

pub read_record-r-requires : goal.read_record-r-requires
read_record-r-requires t c = inside-hangs _ _ _ _ c.requires.hangs (search rules)

pub overflow_sub-own : goal.overflow_sub-own
overflow_sub-own t c = planted_low _ _ _ _ _ _ _ _ c.requires (search rules) _ c.read_record-r.ensures

pub here_of-here-requires : goal.here_of-here-requires
here_of-here-requires t c = stocked_length _ _ _ _ c.requires.stocked

-- the node whose parts are written
node : (t : ℕ) (c : After-here_of-here t)
    → Node c.args.table.now c.args.l c.args.a c.args.above c.args.next c.args.p.now.nodes c.args.p.now.runs
    c.args.out.now c.read_record-r.result c.key_of-k.result
    (c.args.next + (c.read_record-r.result.tag / 2 - c.args.a)) c.here_of-here.result
node t c =
    record {
      some_link = search rules;
      record_is = c.read_record-r.ensures;
      key_is = c.key_of-k.ensures;
      place = refl;
      here = c.here_of-here.ensures;
    }

pub put_stalk-top-requires : goal.put_stalk-top-requires
put_stalk-top-requires t c =
    planted-stalk _ _ _ _ _ _ _ _ c.requires (search rules) _ c.read_record-r.ensures _ c.key_of-k.ensures

pub returns-then-both_end : goal.returns-then-both_end
returns-then-both_end t c p =
    grew_end _ _ _ _ _ _ _ _ _ _ _ _ (node t (goal.at.returns-then-both_end t c).After-here_of-here) p
    (sym c.both_end.ensures ∙ (search rules)) _ _ c.put_stalk-top.ensures

pub put_below-x-requires : goal.put_below-x-requires
put_below-x-requires t c =
    let low = planted_low _ _ _ _ _ _ _ _ c.requires (search rules) _ c.read_record-r.ensures in
    let high = planted_high _ _ _ _ _ _ _ _ c.requires (search rules) _ c.read_record-r.ensures in (
      omega arith,
      planted_left _ _ _ _ _ _ _ _ _ _ _ _ (node t (goal.at.put_below-x-requires t c).After-here_of-here) c.requires
          (sym c.both_end.ensures ∙ (search rules)),
    )

pub put_below-y-requires : goal.put_below-y-requires
put_below-y-requires t c =
    let low = planted_low _ _ _ _ _ _ _ _ c.requires (search rules) _ c.read_record-r.ensures in
    let high = planted_high _ _ _ _ _ _ _ _ c.requires (search rules) _ c.read_record-r.ensures in (
      omega arith,
      planted_right _ _ _ _ _ _ _ _ _ _ _ _ (node t (goal.at.put_below-y-requires t c).After-here_of-here) c.requires
          (sym c.both_end.ensures ∙ (search rules)) _ _ c.put_below-x.ensures,
    )

-- the output is as long after the two sides as before
same_sides : (t : ℕ) (c : After-put_below-y t) → length c.put_below-y.new.out ≡ length c.args.out.now
same_sides t c = c.put_below-y.auto.out ∙ c.put_below-x.auto.out

pub put_fork-requires : goal.put_fork-requires
put_fork-requires t c =
    rw (same_sides t (goal.at.put_fork-requires t c).After-put_below-y)
    (planted-fork _ _ _ _ _ _ _ _ _ _ _ _ (node t (goal.at.put_fork-requires t c).After-here_of-here) c.requires
    (sym c.both_end.ensures ∙ c.if-both_end.false))

pub put_stalk-top-requires-2 : goal.put_stalk-top-requires-2
put_stalk-top-requires-2 t c =
    rw (c.put_fork.auto.out, same_sides t (goal.at.put_stalk-top-requires-2 t c).After-put_below-y)
    (planted-stalk _ _ _ _ _ _ _ _ c.requires (search rules) _ c.read_record-r.ensures _ c.key_of-k.ensures)

pub returns : goal.returns
returns t c p =
    grew-forked _ _ _ _ _ _ _ _ _ _ _ _ (node t (goal.at.returns t c).After-here_of-here) p
    (sym c.both_end.ensures ∙ c.if-both_end.false) _ _ c.put_below-x.ensures _ _ c.put_below-y.ensures _ _ _ c.put_fork.ensures
    c.put_stalk-top-2.ensures
