-- `metadata::put_tail` meets its contract: the parts of the tail, one after the other.
-- Assumes nothing.
use Rattle.image.specs.Bytes.{text}
use Rattle.image.specs.Image.{marker}
use Rattle.metadata.proofs.TailLaws.{opening, tail_of_parts}
use Rattle.metadata.proofs.WritingLaws.{put-append}
use Rattle.metadata.proofs.put_tail.Goals as goal

pub returns : goal.returns
unfolding opening marker text
returns c =
    let last = put-append c.put-number.ensures c.put_uint64.ensures in
    let fixed = put-append c.put_between-last.ensures last in
    let nodes = put-append c.put_uint32-fixed.ensures fixed in
    let pairs = put-append c.put-nodes.ensures nodes in
    rw (tail_of_parts _ _) (put-append c.put-pairs.ensures pairs)
