-- `records::tag_at` meets its contract: the word is the record's tag.
-- Assumes nothing.
use Rattle.records.proofs.FieldsLaws.{tag_at}
use Rattle.records.proofs.tag_at.Goals as goal

pub returns : goal.returns
returns c = λ l e. tag_at _ _ l e
