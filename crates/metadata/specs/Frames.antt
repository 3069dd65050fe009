-- The marker and the metadata at the end of an image, as a reader finds them from the last byte on.
-- Paper 01, "The image": "Parts in order: .. the 14 bytes .., metadata."
--   value_of bs, number_at bs at n   the number that bytes spell, the highest first; that of n bytes from `at` on
--   tail_of n epoch       the marker and the metadata, for n nodes
--   steps_back bs at b f  how many steps back from `at` the byte b stands, f where it is not among the next f
--   count_on bs           the node count by a few byte tests: right for every image
--   frame_on bs           the node count and the epoch, where the bytes end as an image does, every byte compared
-- Assumes nothing.
use Rattle.std.specs.Prelude.{ℕ, zero, suc, ◌+◌, ◌-◌, ◌*◌, ◌^◌, cond, List, [], ◌∷◌, ◌++◌, ltb, eqb, bytes_eq, length, take, drop, get_or, Option, Some, None}
use Rattle.image.specs.Image.{size24, marker, metadata}
use Rattle.metadata.specs.declared.Nodes.{Nodes}
use Rattle.metadata.specs.declared.Tail.{Tail}

-- "Big-endian throughout."
abbrev pub value_of : List ℕ → ℕ
value_of [] = 0
value_of (b ∷ bs) = b * 256 ^ length bs + value_of bs

unfoldable pub number_at : List ℕ → ℕ → ℕ → ℕ
number_at bs at n = value_of (take n (drop at bs))

unfoldable pub tail_of : ℕ → ℕ → List ℕ
tail_of n epoch = marker ++ metadata size24 n epoch

abbrev pub steps_back : List ℕ → ℕ → ℕ → ℕ → ℕ
steps_back bs at b zero = 0
steps_back bs at b (suc f) = cond (eqb (get_or bs at 0) b) 0 (suc (steps_back bs (at - 1) b f))

-- the bytes of the epoch: its key, 4B build_epoch, starts 14 bytes before the epoch's own (12 of the key, two
-- of the size), and no letter of the key is 4B, so that the first 4B met is the key's
unfoldable pub epoch_bytes : List ℕ → ℕ
epoch_bytes bs = steps_back bs (length bs - 14) 0x4B 9

-- the bytes of the node count, in the same way, by the key 4A node_count: from the node count's end to the
-- epoch's key there are 113 bytes, the same in every image
unfoldable pub nodes_bytes : List ℕ → ℕ → ℕ
nodes_bytes bs e = 1 + steps_back bs (length bs - e - 140) 0x4A 3

-- the node count of a bytes, where the epoch has e
abbrev pub nodes_of : List ℕ → ℕ → ℕ → Nodes
nodes_of bs a e = record { count = number_at bs (length bs - e - 127 - a) a; width = a; epoch_width = e }

-- (177 bytes: the shortest image)
unfoldable pub count_on : List ℕ → Option Nodes
count_on bs =
    cond (ltb (length bs) 177) None
    (cond (eqb (epoch_bytes bs) 9) None
    (cond (eqb (nodes_bytes bs (epoch_bytes bs)) 4) None
    (Some (nodes_of bs (nodes_bytes bs (epoch_bytes bs)) (epoch_bytes bs)))))

abbrev pub frame_of : List ℕ → Option Nodes → Option Tail
frame_of bs None = None
frame_of bs (Some x) =
    let start = length bs - (154 + x.width + x.epoch_width) in
    let epoch = number_at bs (length bs - x.epoch_width) x.epoch_width in
    cond (bytes_eq (drop start bs) (tail_of x.count epoch)) (Some (record { nodes = x.count; start = start; epoch = epoch })) None

unfoldable pub frame_on : List ℕ → Option Tail
frame_on bs = frame_of bs (count_on bs)
