-- `metadata::bytes_in` meets its contract: the bytes are counted by the leading zeros.
-- Assumes nothing.
use native.Mathlib.Omega.{arith}
use Rattle.image.proofs.BytesLaws.{short-leading_zeros}
use Rattle.metadata.proofs.bytes_in.Goals as goal

pub returns : goal.returns
returns c = (short-leading_zeros c.args.v (omega arith), omega arith)
