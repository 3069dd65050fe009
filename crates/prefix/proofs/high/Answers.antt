-- `prefix::high` meets its contract: the first two words are the first 64 bits.
-- Assumes nothing.
use Rattle.prefix.proofs.HalvesLaws.{high_pair}
use Rattle.prefix.proofs.high.Goals as goal

pub returns : goal.returns
returns c = high_pair _ _ c.pair.ensures
