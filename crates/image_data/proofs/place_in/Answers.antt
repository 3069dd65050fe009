-- `image_data::place_in` meets its contract. The loop's invariant: a number of the run stands from `low` on
-- and not after `high`. The measure is what lies between them.
-- Assumes nothing.
use Prim.Native.Nat.{◌+◌, ◌-◌, ◌*◌, ◌/◌, ◌≤◌}
use native.Mathlib.Omega.{arith}
use mathlib.Core.Path.{◌≡◌}
use borrow.Author.Rules.{rules}
use Rattle.image_data.proofs.PlaceLaws.{between-all, between-after, between-before, placed-between, entry-le}
use Rattle.image_data.proofs.place_in.Goals as goal
use Rattle.image_data.proofs.place_in.Goals.{In-loop-low}

inside : (c : In-loop-low)
    → let args = c.args in
    let at_loop = c.loop-low in
    (args.s + 1) * (at_loop.low + (at_loop.high - at_loop.low) / 2) + 1 + args.s ≤ (args.s + 1) * args.count
inside c = entry-le _ _ _ (search rules)

pub loop-low-init : goal.loop-low-init
loop-low-init c = (search rules, search rules, between-all _ _ _ _ _)

pub loop-low-preserved-then-number-z : goal.loop-low-preserved-then-number-z
loop-low-preserved-then-number-z c =
    let b = c.loop-low.invariant.2 in
    (search rules, search rules, between-after _ _ _ _ _ _ _ _ _ (search rules) c.number_at-number.ensures.number b (search rules))

pub loop-low-preserved : goal.loop-low-preserved
loop-low-preserved c =
    let b = c.loop-low.invariant.2 in
    (search rules, search rules, between-before _ _ _ _ _ _ _ _ _ (search rules) c.number_at-number.ensures.number b (search rules))

pub returns : goal.returns
returns c =
    let at_loop = c.loop-low in
    let e : at_loop.low ≡ at_loop.high = omega arith in
    placed-between _ _ _ _ _ _ (search rules) (rw (← e) at at_loop.invariant.2)

pub overflow_mul-s : goal.overflow_mul-s
overflow_mul-s c = omega (arith, inside (goal.at.overflow_mul-s c).In-loop-low)

pub overflow_add-at : goal.overflow_add-at
overflow_add-at c = omega (arith, inside (goal.at.overflow_add-at c).In-loop-low)

pub overflow_add-at-in-loop-low : goal.overflow_add-at-in-loop-low
overflow_add-at-in-loop-low c = omega (arith, inside (goal.at.overflow_add-at-in-loop-low c).In-loop-low)

pub number_at-number-requires : goal.number_at-number-requires
number_at-number-requires c = omega (arith, inside (goal.at.number_at-number-requires c).In-loop-low)
