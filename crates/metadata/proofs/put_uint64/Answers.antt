-- `metadata::put_uint64` meets its contract: the size, the byte 02, then the bytes of the number.
-- Assumes nothing.
use native.Mathlib.Numerals.{add-one}
use mathlib.Core.Path.{sym}
use mathlib.Core.List.{[], ◌∷◌}
use Rattle.image.specs.Bytes.{uint64}
use Rattle.metadata.proofs.WritingLaws.{put-number}
use Rattle.metadata.proofs.put_uint64.Goals as goal

pub returns : goal.returns
unfolding uint64
returns c =
    let n = c.bytes_in-n in
    rw (sym n.ensures.0) (put-number (n.result ∷ 2 ∷ []) n.result c.args.v n.ensures.0 (rw (add-one c.args.at) at c.put_number.ensures))
