-- `lookup::steps::step_at` meets its contract: the record that is read is one of the table's.
-- Assumes nothing.
use borrow.Author.Rules.{rules}
use Rattle.records.proofs.LayoutLaws.{inside_tested}
use Rattle.lookup.proofs.steps.step_at.Goals as goal

pub read_record-requires : goal.read_record-requires
read_record-requires c = inside_tested _ _ _ c.has_room.ensures (search rules)
