-- `image_data::Runs::with` meets its contract: no run has more entries than the section has bytes.
-- Assumes nothing.
use Rattle.std.proofs.Common.{arith}
use Rattle.image_data.proofs.RunsLaws.{run-le}
use Rattle.image_data.proofs.Runs.with.Goals as goal

pub overflow_add-more : goal.overflow_add-more
overflow_add-more c = omega (arith, run-le c.args.self c.args.s (omega arith))
