-- `metadata::put_between` meets its contract: five byte strings, one after the other.
-- Assumes nothing.
use Rattle.image.specs.Bytes.{short, text, uint16}
use Rattle.metadata.specs.Writing.{between}
use Rattle.metadata.proofs.WritingLaws.{put-append}
use Rattle.metadata.proofs.put_between.Goals as goal

pub returns : goal.returns
unfolding between text uint16 short
returns c =
    let two = put-append c.put-version.ensures c.put-kind.ensures in
    let three = put-append two c.put-major.ensures in
    let four = put-append three c.put-minor.ensures in
    put-append four c.put.ensures
