-- `records::read_record` meets its contract: eight words are read, one after the other.
-- Assumes nothing.
use borrow.Author.Rules.{rules}
use Rattle.records.specs.Layout.{record_at}
use Rattle.records.proofs.read_record.Goals as goal

pub returns : goal.returns
unfolding record_at
returns c = search rules
