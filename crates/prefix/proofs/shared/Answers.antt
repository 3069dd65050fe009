-- `prefix::shared` meets its contract: the least of the two widths and of the words' common bits.
-- Assumes nothing.
use borrow.Author.Rules.{rules}
use Rattle.prefix.proofs.KeysLaws.{shared-promise}
use Rattle.prefix.proofs.shared.Goals as goal

pub returns : goal.returns
returns c = shared-promise _ _ _ (search rules)
