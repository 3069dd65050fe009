-- `accepted::others`: no more are accepted than were tried.
-- Assumes nothing.
use Prim.Native.Nat.{◌≤◌}
use Rattle.accepted.proofs.others.Given as goal

abbrev pub invariant-loop-v : goal.invariant-loop-v
invariant-loop-v l = l.yes ≤ l.v
