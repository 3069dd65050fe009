-- `records::read_header` meets its contract: the two words are read.
-- Assumes nothing.
use borrow.Author.Rules.{rules}
use Rattle.records.specs.Layout.{header_at}
use Rattle.records.proofs.read_header.Goals as goal

pub returns : goal.returns
unfolding header_at
returns c = search rules
