-- `records::high_at` meets its contract: the first two words are the first half of the key.
-- Assumes nothing.
use Rattle.records.proofs.FieldsLaws.{high_at}
use Rattle.records.proofs.high_at.Goals as goal

pub returns : goal.returns
returns c = λ l e. high_at _ _ l e _ c.pair.ensures
