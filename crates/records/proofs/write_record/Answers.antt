-- `records::write_record` meets its contract: eight words are set, one after the other, and a set keeps the
-- length.
-- Assumes nothing.
use borrow.Author.Rules.{rules}
use Rattle.records.specs.Layout.{with_record}
use Rattle.records.proofs.write_record.Goals as goal

pub returns : goal.returns
unfolding with_record
returns c = search rules
