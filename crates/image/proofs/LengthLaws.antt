-- The laws of the image's length: it is the paper's formula, for every list and every record size.
-- No contract cites this file.
-- Assumes nothing.
use Prim.Native.Nat.{ℕ, zero, suc, ◌+◌, ◌-◌, ◌*◌, ◌/◌, ◌^◌, ◌≤◌, ◌<◌}
use native.Mathlib.Nat.{zero-add, suc-add, mul-suc, div-eq_of_lt, pow-le-pow_right, lt_of_lt_of_le}
use native.Mathlib.Omega.{arith}
use mathlib.Core.Path.{◌≡◌, refl, ap, subst}
use mathlib.Core.Bool.{Bool, true, false, cond}
use mathlib.Core.List.{List, [], ◌∷◌}
use lib.Dec.{eqb}
use lib.ListN.{length, length-append, length-replicate}
use Rattle.zones.specs.Maps.{Map}
use Rattle.image.specs.Bytes.{bytes_of, without_zeros, short, text, uint16, uint32, uint64}
use Rattle.image.specs.Image.{Size, size24, size28, size32, size_bits, Fork, node_bytes, node_length, tree_bytes}
use Rattle.image.specs.Image.{metadata, marker, image_of, image, image_length}

-- ---- bytes_of, short

pub length-bytes_of : (n v : ℕ) → length (bytes_of n v) ≡ n
length-bytes_of zero v = refl
length-bytes_of (suc n) v = ap suc (length-bytes_of n v)

length-without_zeros : (bs : List ℕ) → length (without_zeros bs) ≤ length bs
length-without_zeros [] = omega arith
length-without_zeros (b ∷ bs) = at (eqb b 0) (length-without_zeros bs)
  where
    at : (t : Bool) → length (without_zeros bs) ≤ length bs → length (cond t (without_zeros bs) (b ∷ bs)) ≤ suc (length bs)
    at true h = omega arith
    at false h = omega arith

pub length_short : (v : ℕ) → length (short v) ≤ 8
unfolding short
length_short v = length-without_zeros (bytes_of 8 v)

-- leading bytes of a number that needs none of them
without_zeros-bytes_of : (j n v : ℕ) → v < 256 ^ n → without_zeros (bytes_of (j + n) v) ≡ without_zeros (bytes_of n v)
without_zeros-bytes_of zero n v h = rw zero-add
without_zeros-bytes_of (suc j) n v h =
    let p : 256 ^ n ≤ 256 ^ (j + n) = pow-le-pow_right (omega arith) (omega arith) in
    let d : v / 256 ^ (j + n) ≡ 0 = div-eq_of_lt (lt_of_lt_of_le h p) in
    rw (suc-add, d) (without_zeros-bytes_of j n v h)

-- a number below 256 ^ n has at most n bytes
pub length_short_below : (n v : ℕ) → n ≤ 8 → v < 256 ^ n → length (short v) ≤ n
unfolding short
length_short_below n v k h =
    let e : 8 - n + n ≡ 8 = omega arith in
    let w : without_zeros (bytes_of 8 v) ≡ without_zeros (bytes_of n v) =
    subst (λ (x : ℕ). without_zeros (bytes_of x v) ≡ without_zeros (bytes_of n v)) e (without_zeros-bytes_of (8 - n) n v h) in
    rw w (omega (arith, length-without_zeros (bytes_of n v), length-bytes_of n v))

pub length-uint32 : (v : ℕ) → v < 2 ^ 32 → length (uint32 v) ≤ 5
unfolding uint32
length-uint32 v h = omega (arith, length_short_below 4 v (omega arith) h)

-- ---- the search tree

pub length-node_bytes : (s : Size) (l r : ℕ) → length (node_bytes s l r) ≡ node_length s
length-node_bytes size24 l r = refl
length-node_bytes size28 l r = refl
length-node_bytes size32 l r = refl

pub length-tree_bytes : (s : Size) (n : ℕ) (zs : List ℕ) (fs : List Fork) → length (tree_bytes s n zs fs) ≡ node_length s * length fs
unfolding tree_bytes
length-tree_bytes s n zs [] = omega arith
length-tree_bytes s n zs (f ∷ fs) =
    simp (length-append, length-node_bytes, length-tree_bytes s n zs fs, mul-suc) (omega arith)

-- ---- the metadata

length-size : (s : Size) → length (uint16 (size_bits s)) ≡ 2
unfolding uint16 short
length-size size24 = refl
length-size size28 = refl
length-size size32 = refl

-- the numbers that are the same in every image
length-fixed : length (uint16 6) + length (uint16 2) + length (uint16 0) ≡ 5
unfolding uint16 short
length-fixed = refl

pub length-metadata : (s : Size) (n epoch : ℕ) → length (metadata s n epoch) ≡ 140 + length (short n) + length (short epoch)
unfolding metadata text uint32 uint64
length-metadata s n epoch = simp (length-append, length-size) (omega (arith, length-fixed))

-- ---- the whole

pub length-image : (s : Size) (m : Map) (epoch : ℕ) → length (image s m epoch) ≡ image_length s m epoch
unfolding image image_of image_length marker
length-image s m epoch = simp (length-append, length-tree_bytes, length-metadata, length-replicate) (omega arith)
