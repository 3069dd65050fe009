-- The laws of what the lookup reads in the image of a list: each record is that of its side, and a record of a
-- zone leads to its number. No contract cites this file.
-- Assumes nothing.
use Prim.Native.Nat.{ℕ, zero, suc, ◌+◌, ◌-◌, ◌*◌, ◌^◌, ◌≤◌, ◌<◌}
use native.Mathlib.Nat.{add-zero}
use native.Mathlib.Omega.{arith}
use mathlib.Core.Path.{◌≡◌, refl, sym, ap, ◌∙◌}
use mathlib.Core.Bool.{Bool, true, false}
use mathlib.Core.List.{List, [], ◌∷◌, ◌++◌, append_assoc, Memᴰ}
use lib.Dec.{ltb, ltb→lt}
use lib.ListN.{length, drop, get_or, replicate, length-append, length-drop}
use lib.Seq.{take-append_seam, drop-append-le, drop-append-add, drop-drop, get_or-drop}
use Rattle.std.specs.Prelude.{Some, None, Ok}
use Rattle.bits.proofs.ListsLaws.{and_left, and_right, all_mem}
use Rattle.zones.specs.Maps.{Map}
use Rattle.image.specs.Bytes.{bytes_of, short, uint32}
use Rattle.image.specs.Image.{size24, Fork, forks_of, zones_of, data_of, offset, record_of, tree_bytes, fits_in, fits, IsImage}
use Rattle.image.proofs.LengthLaws.{length_short_below, length-tree_bytes}
use Rattle.image.proofs.ZonesLaws.{drop-offset, offset-le}
use Rattle.image.proofs.LookupLaws.{side_at, fork_no}
use Rattle.image.proofs.TreeBytesLaws.{drop-tree_bytes}
use Rattle.metadata.specs.Frames.{number_at, tail_of}
use Rattle.metadata.proofs.ValueLaws.{value_of-bytes_of, value_of_short}
use Rattle.metadata.proofs.ImageLaws.{front_of, image_parts}
use Rattle.image_lookup.specs.Looking.{record_in, entry_on, leaf_on}
use Rattle.image_lookup.proofs.ReadingLaws.{entry_on-zone, leaf_on-none, leaf_on-entry}

-- ---- entry_on

-- a number with its control byte is read as it
entry_on-uint32 : (bs after : List ℕ) (at z : ℕ) → z < 2 ^ 32 → drop at bs ≡ uint32 z ++ after → entry_on bs at ≡ Ok (Some z)
unfolding uint32 number_at
entry_on-uint32 bs after at z h e =
    let few : length (short z) ≤ 4 = length_short_below 4 z (omega arith) h in
    let b : get_or bs at 0 ≡ 0xC0 + length (short z) =
    sym (ap (λ (n : ℕ). get_or bs n 0) (add-zero at)) ∙ sym (get_or-drop at bs 0 0) ∙ ap (λ (xs : List ℕ). get_or xs 0 0) e in
    let s : get_or bs at 0 - 0xC0 ≡ length (short z) = omega arith in
    let l : length bs - at ≡ suc (length (short z) + length after) = sym (length-drop at bs) ∙ ap length e ∙ ap suc (length-append (short z) after) in
    let d : drop (at + 1) bs ≡ short z ++ after = sym (drop-drop 1 at bs) ∙ ap (drop 1) e in
    let n : z ≡ number_at bs (at + 1) (get_or bs at 0 - 0xC0) = sym (rw (s, d, take-append_seam (short z) after) (value_of_short z (omega arith))) in
    sym (entry_on-zone bs at (omega arith) (omega arith) (omega arith) z n)

-- ---- record_in

-- the records of a node, from its bytes
number_at_node : (bs after : List ℕ) (at l r : ℕ) → l < 2 ^ 24 → r < 2 ^ 24 → drop at bs ≡ bytes_of 3 l ++ bytes_of 3 r ++ after
    → (number_at bs (at + 0) 3 ≡ l) × (number_at bs (at + 3) 3 ≡ r)
unfolding number_at
number_at_node bs after at l r hl hr e =
    let left : drop (at + 0) bs ≡ bytes_of 3 l ++ bytes_of 3 r ++ after = rw (add-zero at) e in
    let right : drop (at + 3) bs ≡ bytes_of 3 r ++ after = sym (drop-drop 3 at bs) ∙ ap (drop 3) e in
    (rw left (value_of-bytes_of 3 l hl), rw right (value_of-bytes_of 3 r hr))

pub mem-fork_no : (fs : List Fork) (i : ℕ) → i < length fs → Memᴰ (fork_no fs i) fs
mem-fork_no [] i h = absurd (omega arith)
mem-fork_no (f ∷ fs) zero h = Memᴰ.head refl
mem-fork_no (f ∷ fs) (suc i) h = Memᴰ.tail (mem-fork_no fs i (omega arith))

module _ {bs : List ℕ} {m : Map} {epoch : ℕ} (h : IsImage size24 bs m epoch) where
  abbrev nodes : ℕ
  nodes = length (forks_of m)

  abbrev zones : List ℕ
  zones = zones_of (forks_of m)

  tree_first : bs ≡ tree_bytes size24 nodes zones (forks_of m) ++ (replicate 16 0 ++ (data_of zones ++ tail_of nodes epoch))
  unfolding front_of
  tree_first = image_parts h ∙ simp append_assoc

  fork-fits : (f : Fork) → Memᴰ f (forks_of m) → (record_of nodes zones f.left < 2 ^ 24) × (record_of nodes zones f.right < 2 ^ 24)
  unfolding fits fits_in
  fork-fits f i =
      let both = all_mem (fits_in size24 nodes zones) (forks_of m) h.records_fit f i in
      let l = ltb (record_of nodes zones f.left) (2 ^ 24) in
      let r = ltb (record_of nodes zones f.right) (2 ^ 24) in
      (ltb→lt _ _ (and_left l r both), ltb→lt _ _ (and_right l r both))

  pub record_in-image : (i : ℕ) (x : Bool) → i < nodes → record_in bs i x ≡ record_of nodes zones (side_at x (fork_no (forks_of m) i))
  unfolding record_in
  record_in-image i x l =
      let u = drop-tree_bytes size24 nodes zones (forks_of m) (replicate 16 0 ++ (data_of zones ++ tail_of nodes epoch)) i l in
      let both = fork-fits (fork_no (forks_of m) i) (mem-fork_no (forks_of m) i l) in
      let w =
      number_at_node bs u.0 (6 * i) (record_of nodes zones (fork_no (forks_of m) i).left) (record_of nodes zones (fork_no (forks_of m) i).right)
      both.0 both.1 (ap (drop (6 * i)) tree_first ∙ u.1) in
      side x w
    where
      side : (x : Bool) → (number_at bs (6 * i + 0) 3 ≡ record_of nodes zones (fork_no (forks_of m) i).left) × (number_at bs (6 * i + 3) 3 ≡ record_of nodes zones (fork_no (forks_of m) i).right)
          → record_in bs i x ≡ record_of nodes zones (side_at x (fork_no (forks_of m) i))
      side false w = w.0
      side true w = w.1

  -- ---- leaf_on

  -- the entry of a zone, where its record leads
  drop-zone : (z : ℕ) → Memᴰ z zones → (after : List ℕ) × (drop (5 * nodes + (nodes + 16 + offset zones z)) bs ≡ uint32 z ++ after)
  drop-zone z i =
      let tree : List ℕ = tree_bytes size24 nodes zones (forks_of m) in
      let zeros : List ℕ = replicate 16 0 in
      let data' : List ℕ = data_of zones in
      let tail : List ℕ = tail_of nodes epoch in
      let off : ℕ = offset zones z in
      let e : 5 * nodes + (nodes + 16 + off) ≡ length tree + (length zeros + off) = omega (arith, length-tree_bytes size24 nodes zones (forks_of m)) in (
        drop (off + length (uint32 z)) data' ++ tail,
        ap (drop (5 * nodes + (nodes + 16 + off))) tree_first
            ∙ ap (λ (n : ℕ). drop n (tree ++ (zeros ++ (data' ++ tail)))) e
            ∙ drop-append-add tree (zeros ++ (data' ++ tail)) (length zeros + off)
            ∙ drop-append-add zeros (data' ++ tail) off
            ∙ drop-append-le off data' tail (omega (arith, offset-le z zones i))
            ∙ ap (λ (xs : List ℕ). xs ++ tail) (drop-offset z zones i)
            ∙ append_assoc (uint32 z) (drop (off + length (uint32 z)) data') tail,
      )

  pub leaf_on-no_data : leaf_on bs nodes nodes ≡ Ok None
  leaf_on-no_data = sym (leaf_on-none bs nodes nodes refl)

  pub leaf_on-zone : (z : ℕ) → Memᴰ z zones → z < 2 ^ 32 → leaf_on bs nodes (nodes + 16 + offset zones z) ≡ Ok (Some z)
  leaf_on-zone z i l =
      let u = drop-zone z i in
      sym (leaf_on-entry bs nodes (nodes + 16 + offset zones z) (λ e. omega arith) (omega arith) (Ok (Some z))
      (sym (entry_on-uint32 bs u.0 (5 * nodes + (nodes + 16 + offset zones z)) z l u.1)))
