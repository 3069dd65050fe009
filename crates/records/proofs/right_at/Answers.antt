-- `records::right_at` meets its contract: the word is the link of the side of 1.
-- Assumes nothing.
use Rattle.records.proofs.FieldsLaws.{right_at}
use Rattle.records.proofs.right_at.Goals as goal

pub returns : goal.returns
returns c = λ l e. right_at _ _ l e
