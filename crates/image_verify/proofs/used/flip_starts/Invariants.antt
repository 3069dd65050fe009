-- `image_verify::used::flip_starts` meets its contract. The loop's invariant: with the starts from here on
-- turned over too, the marks are what they must become. The measure is how many bytes are left.
-- Assumes nothing.
use Prim.Native.Nat.{◌-◌, ◌≤◌}
use Rattle.image_verify.proofs.StretchLaws.{Flipping}
use Rattle.image_verify.proofs.used.flip_starts.Given as goal

abbrev pub invariant-loop-at : goal.invariant-loop-at
invariant-loop-at l = (l.span.base ≤ l.at) × (l.at ≤ l.section.end) × Flipping l.section.bytes.now l.first l.section.end l.span.base l.span.stop l.initial.marks l.at l.marks

abbrev pub decreases-loop-at : goal.decreases-loop-at
decreases-loop-at l = l.section.end - l.at
