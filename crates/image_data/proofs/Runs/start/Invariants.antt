-- `image_data::Runs::start` meets its contract. The loop's invariant: the sum so far is where run i starts.
-- Assumes nothing.
use Rattle.std.proofs.Common.{◌≡◌, ◌≤◌, ◌*◌, ◌^◌}
use Rattle.image_data.specs.Runs.{start_of}
use Rattle.image_data.proofs.Runs.start.Given as goal

abbrev pub invariant-loop-i : goal.invariant-loop-i
invariant-loop-i l = record { is : l.start ≡ start_of l.self l.i; small : l.start ≤ l.i * 2 ^ 35 }
