-- `edits::chain` meets its contract. The loop's invariant: the records from 1 to l are made spare, and the
-- length stays.
-- Assumes nothing.
use mathlib.Core.Path.{◌≡◌}
use lib.ListN.{length}
use Rattle.edits.specs.Fresh.{chained_on}
use Rattle.edits.proofs.chain.Given as goal

abbrev pub invariant-loop-l : goal.invariant-loop-l
invariant-loop-l l = (length l.table ≡ length l.initial.table) × (l.table ≡ chained_on l.initial.table l.c l.l)
