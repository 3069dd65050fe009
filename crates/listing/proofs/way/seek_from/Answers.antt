-- `listing::way::seek_from` meets its contract: each turn is a step of the definition, and fewer links are open
-- than the stack has room for.
-- Assumes nothing.
use native.Mathlib.Omega.{arith}
use mathlib.Core.Path.{refl, sym, ap, ◌∙◌}
use Rattle.std.specs.Prelude.{Ok}
use Rattle.std.proofs.lemmas.Result.{err_from_is_err_and}
use borrow.Author.Rules.{rules}
use Rattle.listing.specs.Touring.{seek_from}
use Rattle.listing.proofs.StackLaws.{stack_is, room_on-full, depth-push_on}
use Rattle.listing.proofs.TouringLaws.{sought_on_on, sought_on_done, seek_on_end, seek_on-bad, seek_on_done, seek_on_on}
use Rattle.listing.proofs.way.seek_from.Goals as goal

pub loop-next-init : goal.loop-next-init
unfolding seek_from
loop-next-init c = record { found_few = search rules; low_few = search rules; open_few = omega arith; same = rw c.requires refl }

pub loop-next-smaller : goal.loop-next-smaller
loop-next-smaller c =
    omega (arith, sought_on_on _ _ _ _ _ c.sought_at.ensures _ _ _ (c.in_ok-x.was ∙ ap Ok c.in-On.is))

pub loop-next-preserved : goal.loop-next-preserved
loop-next-preserved c =
    let at_loop = c.loop-next.invariant in
    let step = c.in_ok-x.was ∙ ap Ok c.in-On.is in
    let w = sought_on_on _ _ _ _ _ c.sought_at.ensures _ _ _ step in
    let pushed = c.in_ok-push-in-On.ensures.depth (search rules) in
    record {
      found_few = omega arith;
      low_few = w.1;
      open_few = omega (arith, pushed, depth-push_on c.loop-next.links.open c.loop-next.links.depth c.in-On.side (omega arith));
      same =
          seek_on_on _ _ _ _ _ _ _ _ _ c.sought_at.ensures at_loop.same (omega arith) (search rules) _ _ _ _ _ step
          (stack_is _ _ _ c.push-in-On.ensures.open pushed);
    }

pub returns-in_err-x : goal.returns-in_err-x
returns-in_err-x c =
    let p = err_from_is_err_and c.from_residual.result c.from_residual.ensures.1 in
    rw (p.1, p.2)
    (seek_on-bad _ _ _ _ _ _ _ _ _ c.sought_at.ensures c.loop-next.invariant.same (omega arith) (search rules) _ c.in_err-x.was)

pub returns-in_err-push-in-Done : goal.returns-in_err-push-in-Done
returns-in_err-push-in-Done c =
    let w = sought_on_done _ _ _ _ _ c.sought_at.ensures _ _ (c.in_ok-x.was ∙ ap Ok c.in-Done.is) in
    let full = room_on-full _ _ (sym c.in_err-push-in-Done.was ∙ c.push.ensures.answer) in
    absurd (omega (arith, depth-push_on c.loop-next.links.open c.loop-next.links.depth c.in-Done.side (omega arith)))

pub returns-in_err-push-in-On : goal.returns-in_err-push-in-On
returns-in_err-push-in-On c =
    let w = sought_on_on _ _ _ _ _ c.sought_at.ensures _ _ _ (c.in_ok-x.was ∙ ap Ok c.in-On.is) in
    let full = room_on-full _ _ (sym c.in_err-push-in-On.was ∙ c.push-in-On.ensures.answer) in
    absurd (omega (arith, depth-push_on c.loop-next.links.open c.loop-next.links.depth c.in-On.side (omega arith)))

pub returns-then-next-eq0 : goal.returns-then-next-eq0
returns-then-next-eq0 c = seek_on_end _ _ _ _ _ _ _ _ _ c.loop-next.invariant.same (search rules)

pub returns-in_ok-push-in-Done : goal.returns-in_ok-push-in-Done
returns-in_ok-push-in-Done c =
    seek_on_done _ _ _ _ _ _ _ _ _ c.sought_at.ensures c.loop-next.invariant.same (omega arith) (search rules)
    _ _ _ _ (c.in_ok-x.was ∙ ap Ok c.in-Done.is) (stack_is _ _ _ c.push.ensures.open (c.in_ok-push-in-Done.ensures.depth (search rules)))
