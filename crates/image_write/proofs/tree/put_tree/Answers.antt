-- `image_write::tree::put_tree` meets its contract: where the tree's top is a leaf, the image has one node
-- more.
-- Assumes nothing.
use borrow.Author.Rules.{rules}
use Rattle.image_write.proofs.WholeLaws.{stands-topped}
use Rattle.image_write.proofs.tree.put_tree.Goals as goal

pub returns-then-x-eq0 : goal.returns-then-x-eq0
returns-then-x-eq0 c =
    stands-topped _ _ _ _ _ _ _ c.put_below-x.ensures _ (search rules) c.put_fork.ensures
