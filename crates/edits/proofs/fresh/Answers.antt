-- `edits::fresh` meets its contract: the length is tested, and then the words are written in the order of the
-- definition.
-- Assumes nothing.
use native.Mathlib.Omega.{arith}
use mathlib.Core.Path.{sym, ◌∙◌}
use lib.ListN.{length}
use borrow.Author.Rules.{rules}
use borrow.Author.Tests.{not-false}
use Rattle.records.proofs.LayoutLaws.{Table, is_table_true}
use Rattle.edits.proofs.FreshLaws.{fresh_done}
use Rattle.edits.proofs.fresh.Goals as goal

pub write_record-requires : goal.write_record-requires
write_record-requires c =
    let t : Table (length c.args.table.now) = is_table_true _ (sym c.is_table.ensures ∙ not-false _ (search rules)) in
    record { fits = omega arith }

pub returns : goal.returns
returns c =
    fresh_done _ _ c.is_table.ensures _ _ _ _ (search rules) c.freed.ensures
    c.write_record.ensures c.chain.ensures c.write_header.ensures
