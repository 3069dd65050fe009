-- The laws of a table's map as an image: its prefixes and zones are narrow and few enough, so that it has an
-- image, and its forks and zones are those of the trie that the table's tree grows into. No contract cites this
-- file.
-- Assumes nothing.
use Prim.Native.Nat.{ℕ, ◌+◌, ◌*◌, ◌^◌, ◌≤◌, ◌<◌}
use native.Mathlib.Omega.{arith}
use mathlib.Core.Path.{◌≡◌, refl, sym, ap, ◌∙◌}
use mathlib.Core.Logic.{inl, inr}
use mathlib.Core.Bool.{Bool, true, false, cond}
use mathlib.Core.List.Memᴰ
use mathlib.Core.List.{List, ◌++◌, Memᴰ}
use mathlib.Core.Option.{Option, none, some}
use lib.Dec.{T, leb, ltb, le→leb, lt→ltb}
use lib.ListN.{length, length-append, get_or}
use Rattle.bits.specs.Lists.{all}
use Rattle.bits.specs.Bits.{Bits}
use Rattle.bits.specs.Numbers.{odd}
use Rattle.bits.proofs.ListsLaws.{mem-all}
use Rattle.zones.specs.Maps.{Entry, Map}
use Rattle.zones.specs.Tree.{Tree, tip, node, own, entries}
use Rattle.zones.proofs.TreeLaws.{mem-keys}
use Rattle.records.specs.Layout.{record_at, zone_of}
use Rattle.records.specs.Holds.{labels, Linked, Holds}
use Rattle.records.proofs.OnceLaws.{length_once}
use Rattle.records.proofs.HoldsLaws.{ascending_holds}
use Rattle.records.proofs.EntriesLaws.{narrow_holds, length_holds}
use Rattle.image.specs.Image.{size24, data_of, zones_of, forks_of, image, IsImage}
use Rattle.image.specs.Tries.{size, refs, top_trie}
use Rattle.image.proofs.FitsLaws.{zones_of_stored, zone_below, short-enough, fits-table}
use Rattle.image.proofs.PreorderLaws.{length-refs}
use Rattle.image.proofs.GrowLaws.{forks_of-grow}

-- the words are 32-bit words
abbrev pub Machine : List ℕ → Type 0
Machine ws = (i : ℕ) → get_or ws i 0 < 2 ^ 32

-- ---- the zones of a table's tree

small-zone : (ws : List ℕ) → Machine ws → (a z : ℕ) → zone_of (record_at ws a) ≡ some z → z < 2 ^ 32
unfolding zone_of record_at
small-zone ws w a z e = at (odd (record_at ws a).tag) e
  where
    at : (b : Bool) → cond b (some (record_at ws a).zone) none ≡ some z → z < 2 ^ 32
    at true q = let i : (record_at ws a).zone ≡ z = cc in rw (← i) (w (8 * a + 4))
    at false q = let i : ◌≡◌ {A = ℕ} 0 1 = cc in absurd (omega arith)

small-own : (ws : List ℕ) → Machine ws → (a : ℕ) (s : Bits) (v : Option ℕ) → zone_of (record_at ws a) ≡ v → (e : Entry) → Memᴰ e (own s v) → e.zone < 2 ^ 32
small-own ws w a s (some z) b e (Memᴰ.head q) = rw q (small-zone ws w a z b)
small-own ws w a s none b e absent = elim absent [ ]
small-own ws w a s (some z) b e (Memᴰ.tail x7) = elim x7 [ ]

small-entries : (ws : List ℕ) → Machine ws → (l : ℕ) (t : Tree ℕ) → Linked (record_at ws) l t → (e : Entry) → Memᴰ e (entries t) → e.zone < 2 ^ 32
small-entries ws w l tip h e i = absurd (Memᴰ.not-nil i)
small-entries ws w l (node a s v x y) h e i =
    elim (Memᴰ.append_cases (own s v) i) [
      | inl j ↦ small-own ws w a s v h.1.zone e j
      | inr j ↦ elim (Memᴰ.append_cases (entries x) j) [
        | inl k ↦ small-entries ws w (record_at ws a).left x h.2 e k
        | inr k ↦ small-entries ws w (record_at ws a).right y h.3 e k
      ]
    ]

-- ---- a table's map

module _ (ws : List ℕ) (m : Map) (h : Holds ws m) where
  pub few-labels : length (labels h.tree) ≤ 65535
  few-labels =
      omega (
        arith,
        length-append (labels h.tree) h.chain,
        length_once h.records (labels h.tree ++ h.chain) h.once,
        h.most_records,
      )

  pub forks_of_holds : forks_of m ≡ refs 0 (top_trie h.tree)
  forks_of_holds =
      ap forks_of (sym h.map_is) ∙ forks_of-grow 128 h.tree (omega arith) h.good (rw h.map_is (narrow_holds h))

  pub length-forks_of_holds : length (forks_of m) ≡ size (top_trie h.tree)
  length-forks_of_holds = ap length forks_of_holds ∙ length-refs 0 (top_trie h.tree)

  narrow-all : T (all (λ e. leb (length e.key) 128) m)
  narrow-all =
      mem-all (λ e. leb (length e.key) 128) m (λ e i. le→leb (length e.key) 128 (narrow_holds h e.key (mem-keys m e i)))

  module _ (w : Machine ws) where
    zoned-all : T (all (λ e. ltb e.zone (2 ^ 32)) m)
    zoned-all =
        mem-all (λ e. ltb e.zone (2 ^ 32)) m
        (λ e i. lt→ltb e.zone (2 ^ 32) (small-entries ws w _ h.tree h.linked e (rw h.map_is i)))

    pub zones_fit : T (all (λ z. ltb z (2 ^ 32)) (zones_of (forks_of m)))
    zones_fit =
        mem-all (λ z. ltb z (2 ^ 32)) (zones_of (forks_of m)) (λ z i. lt→ltb z (2 ^ 32) (zone_below m zoned-all z (zones_of_stored m z i)))

    pub records_fit : length (forks_of m) + 16 + length (data_of (zones_of (forks_of m))) ≤ 2 ^ 24
    records_fit = omega (arith, short-enough m (length_holds h) narrow-all zoned-all)

    -- "every table's list does" have an image
    pub is_image_holds : (epoch : ℕ) → epoch < 2 ^ 64 → IsImage size24 (image size24 m epoch) m epoch
    is_image_holds epoch small =
        record {
          ascends = ascending_holds h;
          narrow = narrow-all;
          zones_fit = zoned-all;
          records_fit = fits-table m (ascending_holds h) (length_holds h) narrow-all zoned-all size24;
          epoch_fits = small;
          bytes_are = refl;
        }
