-- `image_lookup::Tree::walk` meets its contract. The loop's invariant: the walk by the words left, from the node
-- here, is the walk from the start.
-- Assumes nothing.
use Prim.Native.Nat.{◌+◌, ◌*◌, ◌≤◌}
use mathlib.Core.Path.{◌≡◌}
use lib.ListN.{length, drop}
use Rattle.image_lookup.specs.Looking.{walk_on}
use Rattle.image_lookup.specs.Following.{words_bits}
use Rattle.image_lookup.proofs.Tree.walk.Given as goal

abbrev pub invariant-loop-word : goal.invariant-loop-word
invariant-loop-word l =
    (6 * l.node + 6 ≤ length l.self.bytes.now) × (walk_on l.self.bytes.now l.self.nodes l.node (words_bits (drop l.word-index l.word-items)) ≡ walk_on l.self.bytes.now l.self.nodes 0 (words_bits l.fn.words))
