-- `records::is_table` meets its contract: the three tests are those of the definition.
-- Assumes nothing.
use borrow.Author.Rules.{rules}
use Rattle.records.specs.Layout.{is_table}
use Rattle.records.proofs.is_table.Goals as goal

pub returns : goal.returns
unfolding is_table
returns c = search rules
