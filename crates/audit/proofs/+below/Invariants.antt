-- The measure of `audit::below`: how many levels there may be, 130 less the width from which the place takes
-- nodes on. Assumes nothing.
use Prim.Native.Nat.{◌-◌}
use Rattle.audit.specs.Bounds.{low_of}
use Rattle.audit.proofs.+below.Given as goal

abbrev pub decreases-below : goal.decreases-below
decreases-below l = 130 - low_of l.at
