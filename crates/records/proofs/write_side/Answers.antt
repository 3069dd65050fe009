-- `records::write_side` meets its contract: one word is set.
-- Assumes nothing.
use Rattle.records.proofs.LayoutLaws.{with_record_left, with_record_right}
use Rattle.records.proofs.write_side.Goals as goal

pub returns-then-right : goal.returns-then-right
returns-then-right c = with_record_right _ _ _ _ c.if-right.true

pub returns : goal.returns
returns c = with_record_left _ _ _ _ c.if-right.false
