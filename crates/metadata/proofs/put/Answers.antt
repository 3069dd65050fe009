-- `metadata::put` meets its contract: the bytes of s stand in the part that is copied into.
-- Assumes nothing.
use native.Mathlib.Omega.{arith}
use Rattle.metadata.proofs.WritingLaws.{put-part}
use Rattle.metadata.proofs.put.Goals as goal

pub returns : goal.returns
returns c = put-part _ c.args.s.now c.args.at _ _ c.requires (omega arith) c.copy_from_slice.ensures.after
