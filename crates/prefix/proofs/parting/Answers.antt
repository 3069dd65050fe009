-- `prefix::parting` meets its contract: the first i + 1 bits of the xor, as a number.
-- Assumes nothing.
use borrow.Author.Rules.{rules}
use Rattle.prefix.proofs.HalvesLaws.{parting-promise}
use Rattle.prefix.proofs.parting.Goals as goal

pub returns : goal.returns
returns c = parting-promise _ _ _ (search rules) (search rules) (search rules)
