-- `listing::touring::tour` meets its contract: each turn is one of the definition.
-- Assumes nothing.
use native.Mathlib.Omega.{arith}
use mathlib.Core.Path.{refl, sym, ◌∙◌}
use Rattle.std.proofs.lemmas.Result.{err_from_is_err_and}
use borrow.Author.Rules.{rules}
use Rattle.listing.proofs.StackLaws.{stack_is, room_on-full}
use Rattle.listing.proofs.TourOnLaws.{entry_put_most, tour_on_deep, tour_on_over, tour_on_more, tour_on-spent, tour_on-bad, tour_on_node, tour_on_start}
use Rattle.listing.proofs.touring.tour.Goals as goal

pub loop-count-init : goal.loop-count-init
loop-count-init c = record { given_few = search rules; passed_few = search rules; length_is = refl; same = tour_on_start _ _ _ _ _ _ }

pub returns-then-l-eq0 : goal.returns-then-l-eq0
returns-then-l-eq0 c =
    rw c.next-l.ensures.open
    (tour_on_over _ _ _ _ _ _ _ _ _ _ (sym c.next-l.ensures.answer) c.loop-count.links.within _ c.loop-count.invariant.same (search rules))

pub returns-then-given-size : goal.returns-then-given-size
returns-then-given-size c =
    rw c.next-l.ensures.open
    (tour_on_more _ _ _ _ _ _ _ _ _ _ (sym c.next-l.ensures.answer) c.loop-count.links.within _ c.loop-count.invariant.same (search rules)
    (search rules))

pub returns-in_err-r : goal.returns-in_err-r
returns-in_err-r c =
    let p = err_from_is_err_and c.from_residual.result c.from_residual.ensures.1 in
    rw (p.1, p.2, c.next-l.ensures.open)
    (tour_on-bad _ _ _ _ _ _ _ _ _ _ (sym c.next-l.ensures.answer) c.loop-count.links.within _ c.loop-count.invariant.same (search rules)
    (search rules) (omega arith) _ c.visit_at.ensures _ c.in_err-r.was)

pub returns-in_err-push : goal.returns-in_err-push
returns-in_err-push c =
    let p = err_from_is_err_and c.from_residual-in_err-push.result c.from_residual-in_err-push.ensures.1 in
    let full = room_on-full _ _ (sym c.in_err-push.was ∙ c.push.ensures.answer) in
    let deep = rw c.next-l.ensures.open at full.0 in
    rw (p.1, p.2, full.1, c.push.ensures.open, c.next-l.ensures.open)
    (tour_on_deep _ _ _ _ _ _ _ _ _ _
    (tour_on_node _ _ _ _ _ _ _ _ _ _ (sym c.next-l.ensures.answer) c.loop-count.links.within _ c.loop-count.invariant.same (search rules)
    (search rules) (omega arith) _ c.visit_at.ensures _ _ _ _ _ c.in_ok-r.was refl c.put_entry-given.ensures)
    deep)

pub loop-count-preserved : goal.loop-count-preserved
loop-count-preserved c =
    record {
      given_few = omega (arith, entry_put_most _ _ _ _ _ c.put_entry-given.ensures);
      passed_few = omega arith;
      length_is = c.put_entry-given.auto.out ∙ c.loop-count.invariant.length_is;
      same =
          tour_on_node _ _ _ _ _ _ _ _ _ _ (sym c.next-l.ensures.answer) c.loop-count.links.within _ c.loop-count.invariant.same (search rules)
          (search rules) (omega arith) _ c.visit_at.ensures _ _ _ _ _ c.in_ok-r.was
          (rw c.next-l.ensures.open at (stack_is _ _ _ c.push.ensures.open (c.in_ok-push.ensures.depth (search rules)))) c.put_entry-given.ensures;
    }

pub returns-then-count-budget : goal.returns-then-count-budget
returns-then-count-budget c =
    rw c.next-l.ensures.open
    (tour_on-spent _ _ _ _ _ _ _ _ _ _ (sym c.next-l.ensures.answer) c.loop-count.links.within _ c.loop-count.invariant.same (search rules)
    (search rules) (omega arith))
