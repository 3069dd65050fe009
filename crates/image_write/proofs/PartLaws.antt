-- The laws of a part of a table's tree: the node that hangs from a link, as the record read there has it, and
-- the trie that the part grows into. No contract cites this file.
-- Assumes nothing.
use Prim.Native.Nat.{ℕ, ◌+◌, ◌-◌, ◌/◌, ◌≤◌}
use native.Mathlib.Omega.{arith}
use mathlib.Core.Path.{◌≡◌, refl, sym, ◌∙◌, subst}
use mathlib.Core.Bool.{Bool, true, false, not, ◌&&◌, ◌||◌}
use mathlib.Core.List.{List}
use mathlib.Core.Option.{Option}
use lib.Dec.{eqb}
use lib.ListN.{length, length-append, length-drop, drop}
use borrow.Author.Tests.{eqb-true, eqb-false}
use Rattle.bits.specs.Bits.{Bits}
use Rattle.zones.specs.Tree.{Tree, node, full}
use Rattle.records.specs.Layout.{record_at}
use Rattle.records.specs.Inside.{Inside}
use Rattle.records.specs.Holds.{labels, Bears}
use Rattle.records.specs.Hanging.{Hangs}
use Rattle.records.specs.declared.Record.{Record}
use Rattle.records.proofs.HangingLaws.{hangs-tip, hangs_node}
use Rattle.image.specs.Tries.{Trie, leaf, fork, size, stalk, nearer, grow}
use Rattle.image.proofs.GrowLaws.{crown-cond, size-stalk}
use Rattle.image_zones.specs.Used.{both_end}

-- ---- the node at a link, by the record r that is read there

pub record Seen (ws : List ℕ) (l a : ℕ) (t : Tree ℕ) (r : Record) : Type 0 where
  pub string : Bits
  pub zone : Option ℕ
  pub left : Tree ℕ
  pub right : Tree ℕ
  pub is_node : t ≡ node l string zone left right
  pub bears : Bears r string zone
  pub low : a ≤ r.tag / 2
  pub high : r.tag / 2 ≤ 128
  pub width : r.tag / 2 ≡ length string
  pub hangs_left : Hangs ws r.left (r.tag / 2 + 1) left
  pub hangs_right : Hangs ws r.right (r.tag / 2 + 1) right

pub inside-hangs : (ws : List ℕ) (l a : ℕ) (t : Tree ℕ) → Hangs ws l a t → (l ≡ 0 → ⊥) → Inside ws l
inside-hangs ws l a t h n = (hangs_node ws l a t h n).inside

pub seen : (ws : List ℕ) (l a : ℕ) (t : Tree ℕ) (r : Record) → Hangs ws l a t → (l ≡ 0 → ⊥) → r ≡ record_at ws l → Seen ws l a t r
seen ws l a t r h n e =
    let k = hangs_node ws l a t h n in
    subst (λ (x : Record). Seen ws l a t x) (sym e)
    (record {
      string = k.string;
      zone = k.zone;
      left = k.left;
      right = k.right;
      is_node = k.is_node;
      bears = k.bears;
      low = omega (arith, k.low, k.width);
      high = omega (arith, k.high, k.width);
      width = k.width;
      hangs_left = rw k.width k.hangs_left;
      hangs_right = rw k.width k.hangs_right;
    })

-- ---- full

hangs_full : (ws : List ℕ) (l a : ℕ) (t : Tree ℕ) → Hangs ws l a t → (l ≡ 0 → ⊥) → full t ≡ true
hangs_full ws l a t h n = rw (hangs_node ws l a t h n).is_node

hangs_empty : (ws : List ℕ) (l a : ℕ) (t : Tree ℕ) → Hangs ws l a t → l ≡ 0 → full t ≡ false
hangs_empty ws l a t h e = rw (hangs-tip ws l a t h e)

-- a link tells whether something hangs there
full-link : (ws : List ℕ) (l a : ℕ) (t : Tree ℕ) → Hangs ws l a t → full t ≡ not (eqb l 0)
full-link ws l a t h = at (eqb l 0) refl
  where
    at : (b : Bool) → eqb l 0 ≡ b → full t ≡ not b
    at true e = hangs_empty ws l a t h (eqb-true l 0 e)
    at false e = hangs_full ws l a t h (eqb-false l 0 e)

module _ (ws : List ℕ) (l a : ℕ) (t : Tree ℕ) (r : Record) (s : Seen ws l a t r) where
  pub full_sides : (full s.left || full s.right) ≡ not (both_end r)
  unfolding both_end
  full_sides =
      rw (full-link ws r.left (r.tag / 2 + 1) s.left s.hangs_left, full-link ws r.right (r.tag / 2 + 1) s.right s.hangs_right)
      (not-and (eqb r.left 0) (eqb r.right 0))
    where
      not-and : (x y : Bool) → (not x || not y) ≡ not (x && y)
      not-and true y = refl
      not-and false y = refl

  -- what hangs on the sides grows into these
  abbrev pub side_trie : Option ℕ → Tree ℕ → Trie
  side_trie o u = grow (nearer s.zone o) (r.tag / 2 + 1) u

  pub grow_end : (o : Option ℕ) → both_end r ≡ true → grow o a t ≡ stalk (drop a s.string) o (leaf (nearer s.zone o))
  grow_end o e = rw (s.is_node, crown-cond, full_sides, e)

  pub grow-fork : (o : Option ℕ) → both_end r ≡ false
      → grow o a t ≡ stalk (drop a s.string) o (fork (side_trie o s.left) (side_trie o s.right))
  grow-fork o e = rw (s.is_node, crown-cond, full_sides, e, s.width)

  -- ---- size

  pub length_way : length (drop a s.string) ≡ r.tag / 2 - a
  length_way = length-drop a s.string ∙ rw (← s.width)

  pub size_end : (o : Option ℕ) → both_end r ≡ true → size (grow o a t) ≡ r.tag / 2 - a
  size_end o e = rw (grow_end o e, size-stalk) (omega (arith, length_way))

  pub size-fork : (o : Option ℕ) → both_end r ≡ false
      → size (grow o a t) ≡ r.tag / 2 - a + 1 + size (side_trie o s.left) + size (side_trie o s.right)
  size-fork o e = rw (grow-fork o e, size-stalk) (omega (arith, length_way))

  pub labels_seen : length (labels t) ≡ 1 + length (labels s.left) + length (labels s.right)
  labels_seen = rw s.is_node (omega (arith, length-append (labels s.left) (labels s.right)))
