-- `records::key_of` meets its contract: the key is the record's own words.
-- Assumes nothing.
use borrow.Author.Rules.{rules}
use Rattle.records.specs.Layout.{key_of}
use Rattle.records.proofs.key_of.Goals as goal

pub returns : goal.returns
unfolding key_of
returns c = search rules
