-- `image_lookup::Tree::walk` meets its contract. The loop's invariant: the walk by the words left, from the node
-- here, is the walk from the start.
-- Assumes nothing.
use native.Mathlib.Omega.{arith}
use mathlib.Core.Path.{◌∙◌}
use Rattle.image_lookup.proofs.ReadingLaws.{walk_on-stop, walk_on_next}
use Rattle.image_lookup.proofs.Tree.walk.Goals as goal

pub returns-then-self-node : goal.returns-then-self-node
returns-then-self-node c =
    c.leaf.ensures
    ∙ walk_on-stop _ _ _ c.loop-word.word-index c.args.words (omega arith) _ c.follow-node.ensures c.if-self-node.true
    ∙ c.loop-word.invariant.1

pub loop-word-preserved : goal.loop-word-preserved
loop-word-preserved c =
    let next = walk_on_next _ _ _ c.loop-word.word-index c.args.words (omega arith) _ c.follow-node.ensures c.if-self-node.false in
    (omega arith, next ∙ c.loop-word.invariant.1)
