-- `metadata::put_number` meets its contract: the last n of the number's eight bytes.
-- Assumes nothing.
use native.Mathlib.Omega.{arith}
use Rattle.metadata.proofs.WritingLaws.{last-bytes}
use Rattle.metadata.proofs.put_number.Goals as goal

pub returns : goal.returns
returns c = rw (last-bytes _ c.args.n c.args.v c.to_be_bytes-bytes.ensures (omega arith)) at c.put.ensures
