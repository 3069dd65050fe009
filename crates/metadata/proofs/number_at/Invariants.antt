-- `metadata::number_at` meets its contract. The loop's invariant: v is the number of the bytes before.
-- Assumes nothing.
use Prim.Native.Nat.{◌^◌, ◌<◌}
use mathlib.Core.Path.{◌≡◌}
use lib.ListN.{take}
use Rattle.metadata.specs.Frames.{value_of}
use Rattle.metadata.proofs.number_at.Given as goal

abbrev pub invariant-loop-b : goal.invariant-loop-b
invariant-loop-b l = (l.v ≡ value_of (take l.b-index l.b-items)) × (l.v < 256 ^ l.b-index)
