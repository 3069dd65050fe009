-- `image_verify::data::Section::entries` meets its contract. The loop's invariant: the entries from here on come to
-- what all come to. The measure is how many bytes are left.
-- Assumes nothing.
use Prim.Native.Nat.{◌-◌, ◌≤◌}
use mathlib.Core.Path.{◌≡◌}
use lib.ListN.{length}
use Rattle.image_verify.specs.Verifying.{entries_on}
use Rattle.image_verify.proofs.data.Section.entries.Given as goal

abbrev pub invariant-loop-x : goal.invariant-loop-x
invariant-loop-x l =
    (l.at ≤ l.self.end) × (entries_on (length l.self.bytes.now) l.self.bytes.now l.at l.self.end l.low ≡ entries_on (length l.self.bytes.now) l.self.bytes.now l.start l.self.end 0)

abbrev pub decreases-loop-x : goal.decreases-loop-x
decreases-loop-x l = l.self.end - l.at
