-- `plans::remove::twin` meets its contract: where it comes to the end, what is written is as the plan has it.
-- Assumes nothing.
use borrow.Author.Rules.{rules}
use Rattle.plans.proofs.RemovalLaws.{twin_on_done}
use Rattle.plans.proofs.remove.twin.Goals as goal

pub returns : goal.returns
returns c =
    twin_on_done _ _ _ _ (search rules) c.bit.ensures c.side_of.ensures c.hang.ensures
    c.read_header-h.ensures c.freed.ensures c.freed-2.ensures c.write_record.ensures c.write_record-2.ensures
    c.requires.1 c.requires.2 c.in_ok-hang.was
