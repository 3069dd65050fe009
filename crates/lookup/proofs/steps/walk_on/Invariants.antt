-- `lookup::steps::walk_on` meets its contract. The loop's invariant: the walk from here is the walk from where it
-- began, and there are no more nodes than bits that the next one must share. The measure is how many of 129 these
-- bits lack.
-- Assumes nothing.
use Prim.Native.Nat.{◌-◌, ◌≤◌}
use mathlib.Core.Path.{◌≡◌}
use Rattle.lookup.specs.Walking.{walk_on}
use Rattle.lookup.proofs.steps.walk_on.Given as goal

abbrev pub invariant-loop-w : goal.invariant-loop-w
invariant-loop-w l = (l.n ≤ l.s.low) × (l.s.low ≤ 129) × (walk_on (130 - l.n) l.table l.k.prefix l.n l.widths l.s ≡ walk_on (130 - l.initial.n) l.table l.k.prefix l.initial.n l.initial.widths l.initial.s)

abbrev pub decreases-loop-w : goal.decreases-loop-w
decreases-loop-w l = 129 - l.s.low
