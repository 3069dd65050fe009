-- `audit::audit` meets its contract: the tests are those of the definition, in its order.
-- Assumes nothing.
use native.Mathlib.Omega.{arith}
use borrow.Author.Rules.{rules}
use Rattle.audit.proofs.CheckingLaws.{is_table-table, audit_on_length, audit_on-bad, audit_on-chained}
use Rattle.audit.proofs.PromiseLaws.{check-promise}
use Rattle.audit.proofs.audit.Goals as goal

pub returns-then-not-is_table : goal.returns-then-not-is_table
returns-then-not-is_table c = check-promise _ _ (audit_on_length _ _ c.is_table.ensures (search rules))

pub read_header-h-requires : goal.read_header-h-requires
read_header-h-requires c = (is_table-table _ _ c.is_table.ensures (search rules)).least

pub overflow_sub-c : goal.overflow_sub-c
overflow_sub-c c = let n = is_table-table _ _ c.is_table.ensures (search rules) in omega arith

pub overflow_cast-c : goal.overflow_cast-c
overflow_cast-c c = let n = is_table-table _ _ c.is_table.ensures (search rules) in omega arith

pub returns-in-None : goal.returns-in-None
returns-in-None c =
    check-promise _ _
    (audit_on-bad _ _ c.is_table.ensures (search rules) _ c.read_header-h.ensures _ c.below.ensures c.in-None.is)

pub returns-in-Some : goal.returns-in-Some
returns-in-Some c =
    check-promise _ _
    (audit_on-chained _ _ c.is_table.ensures (search rules) _ c.read_header-h.ensures _ c.below.ensures
    _ _ c.in-Some.is c.chain.ensures)
