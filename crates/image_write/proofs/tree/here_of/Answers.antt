-- `image_write::tree::here_of` meets its contract: an odd tag has a zone, whose entry is found in the data
-- section.
-- Assumes nothing.
use borrow.Author.Rules.{rules}
use Rattle.image_write.proofs.StockLaws.{here_above, here-own}
use Rattle.image_write.proofs.tree.here_of.Goals as goal

pub returns-then-r-eq0 : goal.returns-then-r-eq0
returns-then-r-eq0 c = here_above _ _ _ c.args.r _ (search rules)

pub returns : goal.returns
returns c = here-own _ _ _ c.args.r _ _ (search rules) c.offset_of.ensures
