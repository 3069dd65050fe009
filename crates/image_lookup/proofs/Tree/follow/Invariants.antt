-- `image_lookup::Tree::follow` meets its contract. The loop's invariant: the walk by the bits left, from the node
-- here, is the walk from the start.
-- Assumes nothing.
use Prim.Native.Nat.{◌+◌, ◌*◌, ◌≤◌}
use mathlib.Core.Path.{◌≡◌}
use lib.ListN.{length}
use Rattle.bits.specs.Numbers.{bits_of}
use Rattle.image_lookup.specs.Following.{follow_on}
use Rattle.image_lookup.proofs.Tree.follow.Given as goal

abbrev pub invariant-loop-i : goal.invariant-loop-i
invariant-loop-i l =
    (l.i ≤ 32) × (6 * l.node + 6 ≤ length l.self.bytes.now) × (follow_on l.self.bytes.now l.self.nodes l.node (bits_of l.i l.word) ≡ follow_on l.self.bytes.now l.self.nodes l.from (bits_of 32 l.word))
