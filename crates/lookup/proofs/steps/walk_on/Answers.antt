-- `lookup::steps::walk_on` meets its contract. The loop's invariant: the walk from here is the walk from where it
-- began, and there are no more nodes than bits that the next one must share. The measure is how many of 129 these
-- bits lack.
-- Assumes nothing.
use native.Mathlib.Omega.{arith}
use mathlib.Core.Path.{◌≡◌, refl, sym, ap, ◌∙◌}
use Rattle.std.specs.Prelude.{Ok, Some}
use Rattle.lookup.specs.Walking.{step_on}
use Rattle.lookup.specs.declared.Step.TheVariants.{Down, Last}
use Rattle.lookup.proofs.WalkingLaws.{Grows, step_on_grown, step_on_given, step_on-refused, walk_on_down, walk_on-last, walk_on_end, walk_on-bad}
use Rattle.lookup.proofs.steps.walk_on.Goals as goal
use Rattle.lookup.proofs.steps.walk_on.Goals.{In-Some-Down, In-Some-Last}

down : (c : In-Some-Down) → step_on c.args.table.now c.args.k.prefix c.loop-w.s ≡ Ok (Down c.in-Some-Down.w c.in-Some-Down.d)
down c = step_on_given _ _ _ _ (sym c.step_at.ensures ∙ c.in-Some-Down.is ∙ ap Some c.in-Some-Down.field-0-is)

last : (c : In-Some-Last) → step_on c.args.table.now c.args.k.prefix c.loop-w.s ≡ Ok (Last c.in-Some-Last.w c.in-Some-Last.b)
last c = step_on_given _ _ _ _ (sym c.step_at.ensures ∙ c.in-Some-Last.is ∙ ap Some c.in-Some-Last.field-0-is)

down-grows : (c : In-Some-Down)
    → Grows c.loop-w.s (Ok (Down c.in-Some-Down.w c.in-Some-Down.d))
down-grows c = step_on_grown _ _ _ _ _ refl (down c)

last-grows : (c : In-Some-Last)
    → Grows c.loop-w.s (Ok (Last c.in-Some-Last.w c.in-Some-Last.b))
last-grows c = step_on_grown _ _ _ _ _ refl (last c)

pub loop-w-preserved : goal.loop-w-preserved
loop-w-preserved c =
    let here = (goal.at.loop-w-preserved c).In-Some-Down in
    let g = down-grows here in (
      omega arith,
      omega arith,
      walk_on_down _ _ _ _ _ _ _ refl c.loop-w.invariant.2 (omega arith) _ _ (down here),
    )

pub returns-in-None : goal.returns-in-None
returns-in-None c =
    walk_on-bad _ _ _ _ _ _ _ refl c.loop-w.invariant.2 (omega arith) _ (step_on-refused _ _ _ (sym c.step_at.ensures ∙ c.in-None.is))

pub returns-in-Some-Last : goal.returns-in-Some-Last
returns-in-Some-Last c =
    walk_on-last _ _ _ _ _ _ _ refl c.loop-w.invariant.2 (omega arith) _ _ (last (goal.at.returns-in-Some-Last c).In-Some-Last)

pub returns-in-Some-End : goal.returns-in-Some-End
returns-in-Some-End c =
    walk_on_end _ _ _ _ _ _ _ refl c.loop-w.invariant.2 (omega arith) (step_on_given _ _ _ _ (sym c.step_at.ensures ∙ c.in-Some-End.is ∙ ap Some c.in-Some-End.field-0-is))

pub overflow_cast-widths : goal.overflow_cast-widths
overflow_cast-widths c = omega (arith, down-grows (goal.at.overflow_cast-widths c).In-Some-Down)

pub bounds-widths-n : goal.bounds-widths-n
bounds-widths-n c = omega (arith, down-grows (goal.at.bounds-widths-n c).In-Some-Down)

pub loop-w-smaller : goal.loop-w-smaller
loop-w-smaller c = omega (arith, down-grows (goal.at.loop-w-smaller c).In-Some-Down)

pub overflow_cast-widths-in-Some-Last : goal.overflow_cast-widths-in-Some-Last
overflow_cast-widths-in-Some-Last c = omega (arith, last-grows (goal.at.overflow_cast-widths-in-Some-Last c).In-Some-Last)

pub bounds-widths-n-in-Some-Last : goal.bounds-widths-n-in-Some-Last
bounds-widths-n-in-Some-Last c = omega (arith, last-grows (goal.at.bounds-widths-n-in-Some-Last c).In-Some-Last)
