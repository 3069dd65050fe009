-- The image of a list: one byte string, over the record size.
-- Paper 01, "The image". The record size is 24 bits there; 28 and 32 are known to come (paper 02), and are
-- defined once with it.
--   Size, size_bits      the record sizes
--   proper_prefixes k    the proper prefixes of a string, shortest first
--   image_nodes s        the strings that are image nodes, in their order
--   Side, Fork           what a side of a node holds; the two sides of a node
--   forks_of m           the sides of all nodes of the image of m
--   zones_of fs          the zone numbers that some side uses, ascending, each once
--   offset zs z          where the entry of z starts in the data section
--   record_of            a side as a number
--   node_bytes, tree_bytes the search tree
--   metadata, marker     the fixed parts
--   image size m epoch   the whole
--   fits size m          every record fits the size
--   image_length         the paper's length
--   IsImage              bytes are the image of a list and an epoch
-- Assumes nothing.
use Rattle.std.specs.Prelude.{ℕ, suc, ◌+◌, ◌*◌, ◌/◌, ◌^◌, ◌<◌, ◌≡◌, Bool, true, false, cond, ◌&&◌, List, [], ◌∷◌, ◌++◌, map, T, leb, ltb, eqb, length, replicate}
use Rattle.std.proofs.Math.Option
use Rattle.std.proofs.Math.Option.{Option, none, some}
use Rattle.bits.specs.Lists.{each, all}
use Rattle.bits.specs.Bits.{Bits, equal}
use Rattle.zones.specs.Maps.{Entry, Map, keys, ascending, longest_match}
use Rattle.zones.specs.Nodes.{in_order}
use Rattle.image.specs.Bytes.{bytes_of, short, ascii, text, uint16, uint32, uint64}

-- "each two 24-bit records"
pub data Size : Type 0 where
  size24 size28 size32 : Size

abbrev pub size_bits : Size → ℕ
size_bits size24 = 24
size_bits size28 = 28
size_bits size32 = 32

-- ---- which strings are image nodes, and their sides

abbrev pub proper_prefixes : Bits → List Bits
proper_prefixes [] = []
proper_prefixes (x ∷ k) = [] ∷ map (λ p. x ∷ p) (proper_prefixes k)

-- "the empty string always, and every string that is a proper prefix of a stored one. They are numbered from
-- 0 in the order above."
unfoldable pub image_nodes : List Bits → List Bits
image_nodes s = in_order ([] ∷ each proper_prefixes s)

-- a string's number among the image nodes
abbrev pub number_in : List Bits → Bits → Option ℕ
number_in [] p = none
number_in (q ∷ qs) p = cond (equal q p) (some 0) (Option.map suc (number_in qs p))

pub data Side : Type 0 where
  to_node : ℕ → Side
  no_data : Side
  to_zone : ℕ → Side

abbrev pub leaf_of : Option Entry → Side
leaf_of none = no_data
leaf_of (some e) = to_zone e.zone

abbrev pub node_or : Option ℕ → Side → Side
node_or none s = s
node_or (some i) s = to_node i

-- "Side x of node p: if p followed by x is a node, its number; else the entry of the longest stored prefix of
-- that string, or no data."
unfoldable pub side : Map → List Bits → Bits → Side
side m ns px = node_or (number_in ns px) (leaf_of (longest_match px m))

-- "left (bit 0) then right"
pub record Fork : Type 0 where
  pub left : Side
  pub right : Side

unfoldable pub forks_in : Map → List Bits → List Fork
forks_in m ns = map (λ p. record { left = side m ns (p ++ (false ∷ [])); right = side m ns (p ++ (true ∷ [])) }) ns

unfoldable pub forks_of : Map → List Fork
forks_of m = forks_in m (image_nodes (keys m))

-- ---- the data section

abbrev pub add_at : Bool → Bool → ℕ → ℕ → List ℕ → List ℕ → List ℕ
add_at true b z y ys rest = z ∷ y ∷ ys
add_at false true z y ys rest = y ∷ ys
add_at false false z y ys rest = y ∷ rest

abbrev pub add : ℕ → List ℕ → List ℕ
add z [] = z ∷ []
add z (y ∷ ys) = add_at (ltb z y) (eqb z y) z y ys (add z ys)

abbrev pub add_side : Side → List ℕ → List ℕ
add_side (to_node i) zs = zs
add_side no_data zs = zs
add_side (to_zone z) zs = add z zs

-- "the different zone numbers that some record uses, ascending, each once"
abbrev pub zones_of : List Fork → List ℕ
zones_of [] = []
zones_of (f ∷ fs) = add_side f.left (add_side f.right (zones_of fs))

-- "as MaxMind uint32"
unfoldable pub data_of : List ℕ → List ℕ
data_of zs = each uint32 zs

-- the length of the entries before that of z
abbrev pub offset : List ℕ → ℕ → ℕ
offset [] z = 0
offset (y ∷ ys) z = cond (eqb y z) 0 (length (uint32 y) + offset ys z)

-- ---- the search tree

-- "A record below N is a node; equal to N is no data; N + 16 + d means the data entry at offset d."
abbrev pub record_of : ℕ → List ℕ → Side → ℕ
record_of n zs (to_node i) = i
record_of n zs no_data = n
record_of n zs (to_zone z) = n + 16 + offset zs z

-- (28: "the middle byte's upper half is the left record's top four bits, the lower half the right record's",
-- paper 02)
abbrev pub node_bytes : Size → ℕ → ℕ → List ℕ
node_bytes size24 l r = bytes_of 3 l ++ bytes_of 3 r
node_bytes size28 l r = bytes_of 3 l ++ ((l / 2 ^ 24 * 16 + r / 2 ^ 24) ∷ bytes_of 3 r)
node_bytes size32 l r = bytes_of 4 l ++ bytes_of 4 r

-- the bytes of a node
abbrev pub node_length : Size → ℕ
node_length size24 = 6
node_length size28 = 7
node_length size32 = 8

unfoldable pub tree_bytes : Size → ℕ → List ℕ → List Fork → List ℕ
tree_bytes s n zs fs = each (λ f. node_bytes s (record_of n zs f.left) (record_of n zs f.right)) fs

-- ---- the metadata

-- "byte E7, then seven pairs in this order"
unfoldable pub metadata : Size → ℕ → ℕ → List ℕ
metadata s n epoch =
    0xE7
    ∷ text (ascii "node_count") ++ uint32 n
    ++ text (ascii "record_size") ++ uint16 (size_bits s)
    ++ text (ascii "ip_version") ++ uint16 6
    ++ text (ascii "database_type") ++ text (ascii "Ground-Cells")
    ++ text (ascii "binary_format_major_version") ++ uint16 2
    ++ text (ascii "binary_format_minor_version") ++ uint16 0
    ++ text (ascii "build_epoch") ++ uint64 epoch

-- "the 14 bytes AB CD EF 4D 61 78 4D 69 6E 64 2E 63 6F 6D"
unfoldable pub marker : List ℕ
marker = 0xAB ∷ 0xCD ∷ 0xEF ∷ 0x4D ∷ 0x61 ∷ 0x78 ∷ 0x4D ∷ 0x69 ∷ 0x6E ∷ 0x64 ∷ 0x2E ∷ 0x63 ∷ 0x6F ∷ 0x6D ∷ []

-- ---- the whole

-- "Parts in order: search tree, 16 zero bytes, data section, the 14 bytes .., metadata."
unfoldable pub image_of : Size → ℕ → List Fork → List ℕ
image_of s epoch fs =
    tree_bytes s (length fs) (zones_of fs) fs ++ replicate 16 0 ++ data_of (zones_of fs) ++ marker ++ metadata s (length fs) epoch

unfoldable pub image : Size → Map → ℕ → List ℕ
image s m epoch = image_of s epoch (forks_of m)

-- "It has an image only if every record fits 24 bits"
unfoldable pub fits_in : Size → ℕ → List ℕ → Fork → Bool
fits_in s n zs f = ltb (record_of n zs f.left) (2 ^ size_bits s) && ltb (record_of n zs f.right) (2 ^ size_bits s)

unfoldable pub fits : Size → Map → Bool
fits s m = all (fits_in s (length (forks_of m)) (zones_of (forks_of m))) (forks_of m)

-- "Length = 6N + D + 170 + bytes of N + bytes of the epoch, D being the data section's length."
unfoldable pub image_length : Size → Map → ℕ → ℕ
image_length s m epoch =
    node_length s * length (forks_of m) + length (data_of (zones_of (forks_of m))) + 170 + length (short (length (forks_of m))) + length (short epoch)

-- "the bytes are the image of some list of prefixes and some epoch" (docs/DECISIONS.md, "A list of an image")
pub record IsImage (s : Size) (bytes : List ℕ) (m : Map) (epoch : ℕ) : Type 0 where
  -- "A list names each prefix at most once."
  pub ascends : T (ascending m)
  -- "a width from 0 to 128"
  pub narrow : T (all (λ e. leb (length e.key) 128) m)
  -- "any unsigned 32-bit number"
  pub zones_fit : T (all (λ e. ltb e.zone (2 ^ 32)) m)
  pub records_fit : T (fits s m)
  -- "any 64-bit number given by the caller"
  pub epoch_fits : epoch < 2 ^ 64
  pub bytes_are : bytes ≡ image s m epoch
