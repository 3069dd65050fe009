-- `records::zone_at` meets its contract: the word is the record's zone number.
-- Assumes nothing.
use Rattle.records.proofs.FieldsLaws.{zone-at}
use Rattle.records.proofs.zone_at.Goals as goal

pub returns : goal.returns
returns c = λ l e. zone-at _ _ l e
