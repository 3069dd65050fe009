-- The measure of `image_write::measure::count_below`: how many levels there may be, 130 less the width from
-- which the part takes nodes on. Assumes nothing.
use Prim.Native.Nat.{◌-◌}
use Rattle.image_write.proofs.measure.+count_below.Given as goal

abbrev pub decreases-count_below : goal.decreases-count_below
decreases-count_below l = 130 - l.a
