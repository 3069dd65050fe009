-- The measures of `image_verify::tree::below` and `image_verify::tree::side`, which call each other: `below`
-- calls `side` with a level less, and `side` calls `below` with the same levels, so the measure is twice the
-- levels, and one more for `side`. Assumes nothing.
use Prim.Native.Nat.{◌+◌}
use Rattle.image_verify.proofs.tree.Tree.+below_side.Given as goal

abbrev pub decreases-below : goal.decreases-below
decreases-below l = l.left + l.left

abbrev pub decreases-side : goal.decreases-side
decreases-side l = l.left + l.left + 1
