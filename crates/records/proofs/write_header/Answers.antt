-- `records::write_header` meets its contract: two words are set.
-- Assumes nothing.
use borrow.Author.Rules.{rules}
use Rattle.records.specs.Layout.{with_header}
use Rattle.records.proofs.write_header.Goals as goal

pub returns : goal.returns
unfolding with_header
returns c = search rules
