-- `image_data::place_in` meets its contract. The loop's invariant: a number of the run stands from `low` on
-- and not after `high`. The measure is what lies between them.
-- Assumes nothing.
use Prim.Native.Nat.{◌-◌, ◌≤◌}
use Rattle.image_data.proofs.PlaceLaws.{Between}
use Rattle.image_data.proofs.place_in.Given as goal

abbrev pub invariant-loop-low : goal.invariant-loop-low
invariant-loop-low l = (l.low ≤ l.high) × (l.high ≤ l.count) × Between l.bytes l.at l.s l.count l.z l.low l.high

abbrev pub decreases-loop-low : goal.decreases-loop-low
decreases-loop-low l = l.high - l.low
