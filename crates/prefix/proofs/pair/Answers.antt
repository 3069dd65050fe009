-- `prefix::pair` meets its contract: the bits of y stand below those of x.
-- Assumes nothing.
use borrow.Author.Rules.{rules}
use Rattle.prefix.proofs.HalvesLaws.{bits_of_pair}
use Rattle.prefix.proofs.pair.Goals as goal

pub returns : goal.returns
returns c = bits_of_pair _ _ _ (search rules) (search rules)
