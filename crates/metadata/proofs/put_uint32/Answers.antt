-- `metadata::put_uint32` meets its contract: the control byte, then the bytes of the number.
-- Assumes nothing.
use Prim.Native.Nat.{◌+◌}
use mathlib.Core.Path.{sym}
use mathlib.Core.List.{[], ◌∷◌}
use Rattle.image.specs.Bytes.{uint32}
use Rattle.metadata.proofs.WritingLaws.{put-number}
use Rattle.metadata.proofs.put_uint32.Goals as goal

pub returns : goal.returns
unfolding uint32
returns c =
    let n = c.bytes_in-n in
    rw (sym n.ensures.0) (put-number ((0xC0 + n.result) ∷ []) n.result c.args.v n.ensures.0 c.put_number.ensures)
