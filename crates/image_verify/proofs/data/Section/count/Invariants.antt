-- `image_verify::data::Section::count` meets its contract. The loop's invariant: those counted and those from
-- here on are all, and no more are counted than bytes passed. The measure is how many bytes are left.
-- Assumes nothing.
use Prim.Native.Nat.{◌+◌, ◌-◌, ◌≤◌}
use mathlib.Core.Path.{◌≡◌}
use lib.ListN.{length}
use Rattle.image_verify.specs.Describing.{entry_count}
use Rattle.image_verify.proofs.data.Section.count.Given as goal

abbrev pub invariant-loop-x : goal.invariant-loop-x
invariant-loop-x l =
    (l.start + l.k ≤ l.at) × (l.at ≤ l.self.end) × (l.k + entry_count (length l.self.bytes.now) l.self.bytes.now l.at l.self.end ≡ entry_count (length l.self.bytes.now) l.self.bytes.now l.start l.self.end)

abbrev pub decreases-loop-x : goal.decreases-loop-x
decreases-loop-x l = l.self.end - l.at
