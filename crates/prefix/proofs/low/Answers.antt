-- `prefix::low` meets its contract: the last two words are the last 64 bits.
-- Assumes nothing.
use Rattle.prefix.proofs.HalvesLaws.{low_pair}
use Rattle.prefix.proofs.low.Goals as goal

pub returns : goal.returns
returns c = low_pair _ _ c.pair.ensures
