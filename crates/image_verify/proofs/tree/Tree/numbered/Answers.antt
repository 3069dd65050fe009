-- `image_verify::tree::Tree::numbered` meets its contract: the nodes from the top down, at most 128 on a way.
-- Assumes nothing.
use Rattle.image_verify.proofs.CheckLaws.{tree_on-none, tree_on-bad, tree_on_to}
use Rattle.image_verify.proofs.tree.Tree.numbered.Goals as goal

pub returns-then-self-eq0 : goal.returns-then-self-eq0
returns-then-self-eq0 c = tree_on-none _ _ _ c.if-self-eq0.true

pub returns-in-None : goal.returns-in-None
returns-in-None c = tree_on-bad _ _ _ c.below.result c.below.ensures c.in-None.is

pub returns-in-Some : goal.returns-in-Some
returns-in-Some c = tree_on_to _ _ _ c.below.result c.below.ensures _ _ c.in-Some.is
