-- `listing::touring::visit_at` meets its contract: a record is read where the table has it.
-- Assumes nothing.
use borrow.Author.Rules.{rules}
use Rattle.records.proofs.LayoutLaws.{inside_tested}
use Rattle.listing.proofs.touring.visit_at.Goals as goal

pub read_record-r-requires : goal.read_record-r-requires
read_record-r-requires c = inside_tested _ _ _ c.has_room.ensures (search rules)
