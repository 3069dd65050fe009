-- `listing::way::sought_at` meets its contract: a record is read where the table has it.
-- Assumes nothing.
use borrow.Author.Rules.{rules}
use Rattle.records.proofs.LayoutLaws.{inside_tested}
use Rattle.listing.proofs.way.sought_at.Goals as goal

pub read_record-requires : goal.read_record-requires
read_record-requires c = inside_tested _ _ _ c.has_room.ensures (search rules)
