-- `image_verify::used::mark_records` meets its contract. The loop's invariant: what the first j records
-- mean is marked.
-- Assumes nothing.
use Rattle.image_verify.proofs.StretchLaws.{Used}
use Rattle.image_verify.proofs.used.mark_records.Given as goal

abbrev pub invariant-loop-j : goal.invariant-loop-j
invariant-loop-j l = Used l.bytes l.n l.span.base l.span.stop l.initial.marks l.j l.marks
