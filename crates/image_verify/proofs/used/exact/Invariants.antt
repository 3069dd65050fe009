-- `image_verify::used::exact` meets its contract. The loop's invariant: up to `base` records and entries
-- agree, and nothing is marked. The measure is how many bytes are left.
-- Assumes nothing.
use Prim.Native.Nat.{◌-◌}
use Rattle.image_verify.proofs.CoveredLaws.{Covered}
use Rattle.image_verify.proofs.used.exact.Given as goal

abbrev pub invariant-loop-base : goal.invariant-loop-base
invariant-loop-base l = Covered l.section.bytes.now l.n l.section.end l.base l.at l.marks

abbrev pub decreases-loop-base : goal.decreases-loop-base
decreases-loop-base l = l.section.end - l.base
