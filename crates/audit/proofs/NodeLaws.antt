-- The laws of a record that may be a node: the test of one record, and what a node of a linked tree is.
-- No contract cites this file.
--   Rooms ws ls     the words ws have a record for every link of ls
--   branches r      the record r stores a number or has both links
-- Assumes nothing.
use Prim.Native.Nat.{ℕ}
use native.Mathlib.Omega.{arith}
use mathlib.Core.Path.{◌≡◌, refl}
use mathlib.Core.Logic.{inl, inr}
use mathlib.Core.Bool.{Bool, true, false, ◌&&◌, ◌||◌, cond}
use mathlib.Core.List.Memᴰ
use mathlib.Core.List.{List, ◌∷◌, ◌++◌, Memᴰ}
use mathlib.Core.Option as maps
use lib.Dec.{T, ltb}
use lib.ListN.{length}
use borrow.Author.Tests.{ltb-true, lt-ltb}
use Rattle.bits.specs.Bits.{Bits, is_prefix}
use Rattle.bits.specs.Numbers.{odd}
use Rattle.bits.proofs.ListsLaws.{T_true, true-T, and_left, and_right, and_both}
use Rattle.prefix.specs.Keys.{string_of, is_valid, Valid}
use Rattle.prefix.proofs.KeysLaws.{is_valid_true, valid-is_valid}
use Rattle.zones.specs.Tree.{Tree, tip, node, full, Branch}
use Rattle.records.specs.Layout.{room_of, key_of, zone_of}
use Rattle.records.specs.Holds.{Memory, labels, Bears, Linked}
use Rattle.records.specs.declared.Record.{Record}
use Rattle.records.proofs.LayoutLaws.{room_of_true}
use Rattle.audit.specs.Checking.{Place, stem, stands, is_node}

-- ---- Rooms

abbrev pub Rooms : List ℕ → List ℕ → Type 0
Rooms ws ls = (a : ℕ) → Memᴰ a ls → room_of (length ws) a ≡ true

pub rooms_cons : (ws : List ℕ) (a : ℕ) (ls : List ℕ) → room_of (length ws) a ≡ true → Rooms ws ls → Rooms ws (a ∷ ls)
rooms_cons ws a ls h rooms b (Memᴰ.head e) = rw e h
rooms_cons ws a ls h rooms b (Memᴰ.tail i) = rooms b i

pub rooms-append : (ws xs ys : List ℕ) → Rooms ws xs → Rooms ws ys → Rooms ws (xs ++ ys)
rooms-append ws xs ys rx ry b i = elim (Memᴰ.append_cases xs i) [ inl j ↦ rx b j | inr j ↦ ry b j ]

-- ---- full: a side is full exactly if its link is above 0

pub linked_full : (mem : Memory) (l : ℕ) (t : Tree ℕ) → Linked mem l t → T (ltb 0 l) → T (full t)
linked_full mem l tip e h = absurd (omega (arith, ltb-true 0 l (T_true (ltb 0 l) h)))
linked_full mem l (node a s v x y) e h = tt

full-linked : (ws : List ℕ) (mem : Memory) (l : ℕ) (t : Tree ℕ) → Linked mem l t → Rooms ws (labels t) → T (full t) → T (ltb 0 l)
full-linked ws mem l (node a s v x y) e rooms f =
    let above = room_of_true (length ws) a (rooms a (Memᴰ.head refl)) in
    true-T (ltb 0 l) (lt-ltb 0 l (omega (arith, e.0)))
full-linked ws mem l tip e rooms f = elim f [ ]

-- ---- branches

abbrev pub branches : Record → Bool
branches r = odd r.tag || (ltb 0 r.left && ltb 0 r.right)

module _ (r : Record) (x y : Tree ℕ) where
  pub branches_true : (T (ltb 0 r.left) → T (full x)) → (T (ltb 0 r.right) → T (full y)) → T (branches r) → Branch (zone_of r) x y
  unfolding zone_of
  branches_true f g = at (odd r.tag)
    where
      at : (b : Bool) → T (b || (ltb 0 r.left && ltb 0 r.right)) → Branch (cond b (maps.some r.zone) maps.none) x y
      at true h = tt
      at false h = (f (and_left (ltb 0 r.left) (ltb 0 r.right) h), g (and_right (ltb 0 r.left) (ltb 0 r.right) h))

  branch-branches : (T (full x) → T (ltb 0 r.left)) → (T (full y) → T (ltb 0 r.right)) → Branch (zone_of r) x y → T (branches r)
  unfolding zone_of
  branch-branches f g = at (odd r.tag)
    where
      at : (b : Bool) → Branch (cond b (maps.some r.zone) maps.none) x y → T (b || (ltb 0 r.left && ltb 0 r.right))
      at true h = tt
      at false h = and_both (ltb 0 r.left) (ltb 0 r.right) (f h.0) (g h.1)

-- ---- is_node

pub is_node_true : (r : Record) (at : Place) → is_node r at ≡ true
    → Valid (key_of r) × T (is_prefix (stem at) (string_of (key_of r))) × T (branches r)
unfolding is_node stands
is_node_true r at e =
    let v = is_valid (key_of r) in
    let p = is_prefix (stem at) (string_of (key_of r)) in
    let h : T (v && (p && branches r)) = true-T (v && (p && branches r)) e in
    let i = and_right v (p && branches r) h in
    (is_valid_true (key_of r) (T_true v (and_left v (p && branches r) h)), and_left p (branches r) i, and_right p (branches r) i)

bears-is_node : (r : Record) (s : Bits) (v : maps.Option ℕ) (at : Place) → Bears r s v → T (is_prefix (stem at) s) → T (branches r)
    → is_node r at ≡ true
unfolding is_node stands
bears-is_node r s v at b p h =
    rw (valid-is_valid (key_of r) b.valid, b.string, T_true (is_prefix (stem at) s) p) (T_true (branches r) h)

module _ (ws : List ℕ) (mem : Memory) (a : ℕ) (s : Bits) (v : maps.Option ℕ) (x y : Tree ℕ) where
  -- a node of a linked tree passes
  pub linked-is_node : (l : ℕ) (at : Place) → Linked mem l (node a s v x y) → Rooms ws (labels x) → Rooms ws (labels y)
      → T (is_prefix (stem at) s) → Branch v x y → is_node (mem a) at ≡ true
  linked-is_node l at e rx ry p h =
      let f = full-linked ws mem (mem a).left x e.2 rx in
      let g = full-linked ws mem (mem a).right y e.3 ry in
      bears-is_node (mem a) s v at e.1 p (branch-branches (mem a) x y f g (rw e.1.zone h))
