-- `records::left_at` meets its contract: the word is the link of the side of 0.
-- Assumes nothing.
use Rattle.records.proofs.FieldsLaws.{left_at}
use Rattle.records.proofs.left_at.Goals as goal

pub returns : goal.returns
returns c = λ l e. left_at _ _ l e
