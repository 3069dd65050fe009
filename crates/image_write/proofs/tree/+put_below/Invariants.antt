-- The measure of `image_write::tree::put_below`: how many levels there may be, 130 less the width from which
-- the part takes nodes on. Assumes nothing.
use Prim.Native.Nat.{◌-◌}
use Rattle.image_write.proofs.tree.+put_below.Given as goal

abbrev pub decreases-put_below : goal.decreases-put_below
decreases-put_below l = 130 - l.a
