-- `records::has_room` meets its contract: the two tests are those of the definition.
-- Assumes nothing.
use borrow.Author.Rules.{rules}
use Rattle.records.specs.Layout.{room_of}
use Rattle.records.proofs.has_room.Goals as goal

pub returns : goal.returns
unfolding room_of
returns c = search rules
