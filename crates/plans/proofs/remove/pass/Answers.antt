-- `plans::remove::pass` meets its contract: where it comes to the end, what is written is as the plan has it.
-- Assumes nothing.
use Rattle.plans.proofs.RemovalLaws.{pass_on_done}
use Rattle.plans.proofs.remove.pass.Goals as goal

pub returns : goal.returns
returns c =
    pass_on_done _ _ _ _ _ c.hang.ensures c.read_header-h.ensures c.freed.ensures c.write_record.ensures
    c.requires.1 c.in_ok-hang.was
