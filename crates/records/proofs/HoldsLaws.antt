-- The laws of words that are a table of a map: its links have room, its map ascends, its records add up, so
-- that a replacement is never refused, its tree's shape is the map's, and there is one such map; and when
-- other words are linked alike. No contract cites this file.
-- Assumes nothing.
use Prim.Native.Nat.{ℕ, ◌+◌, ◌<◌}
use native.Mathlib.Omega.{arith}
use mathlib.Core.Path.{◌≡◌, refl, sym, ap, ◌∙◌}
use mathlib.Core.Bool.{true, false}
use mathlib.Core.List.Memᴰ
use mathlib.Core.List.{List, [], ◌∷◌, ◌++◌, Memᴰ}
use mathlib.Core.Option.{some}
use lib.Dec.{T}
use lib.ListN.{length, length-append}
use borrow.Author.Tests.{le-ltb}
use Rattle.prefix.specs.Keys.{string_of}
use Rattle.zones.specs.Maps.{Entry, Map, keys, ascending, get}
use Rattle.zones.specs.Nodes.{nodes, overflows}
use Rattle.zones.specs.Tree.{Tree, tip, node, entries}
use Rattle.zones.specs.Searching.{strings}
use Rattle.zones.specs.TreeEdits.{shape}
use Rattle.zones.proofs.MapsLaws.{overflows_stored}
use Rattle.zones.proofs.TreeLaws.{ascending-entries, nodes-entries}
use Rattle.zones.proofs.ShapeLaws.{shape_ext}
use Rattle.records.specs.Layout.{is_table, capacity, room_of, key_of, zone_of}
use Rattle.records.specs.Holds.{Memory, labels, Linked, Chained, Holds}
use Rattle.records.proofs.LayoutLaws.{is_table-table_length, capacity-table_length, room_of-table_length}
use Rattle.records.proofs.OnceLaws.{once-bounds, length_once}

-- ---- labels

pub length-labels : (t : Tree ℕ) → length (labels t) ≡ length (strings t)
length-labels tip = refl
length-labels (node a s v l r) = simp (length-append, length-labels l, length-labels r)

-- ---- Linked

-- two memories that agree at a tree's labels link it alike
pub linked_ext : (mem nem : Memory) (l : ℕ) (t : Tree ℕ) → ((a : ℕ) → Memᴰ a (labels t) → mem a ≡ nem a)
    → Linked mem l t → Linked nem l t
linked_ext mem nem l tip f h = h
linked_ext mem nem l (node a s v x y) f h =
    let e = f a (Memᴰ.head refl) in
    let left = linked_ext mem nem (mem a).left x (λ b i. f b (Memᴰ.tail (Memᴰ.append_left (labels y) i))) h.2 in
    let right = linked_ext mem nem (mem a).right y (λ b i. f b (Memᴰ.tail (Memᴰ.append_right (labels x) i))) h.3 in
    (h.0, rw e at h.1, rw e at left, rw e at right)

abbrev Positive : Tree ℕ → Type 0
Positive t = (a : ℕ) → Memᴰ a (labels t) → 0 < a

-- one memory links one tree from one link
linked_single : (mem : Memory) (l : ℕ) (t u : Tree ℕ) → Positive t → Positive u → Linked mem l t → Linked mem l u → t ≡ u
linked_single mem l tip tip p q h k = refl
linked_single mem l tip (node b s v x y) p q h k = absurd (omega (arith, q b (Memᴰ.head refl), k.0))
linked_single mem l (node a s v x y) tip p q h k = absurd (omega (arith, p a (Memᴰ.head refl), h.0))
linked_single mem l (node a s v x y) (node b r w z u) p q h k =
    let link : a ≡ b = sym h.0 ∙ k.0 in
    let string : s ≡ r = sym h.1.string ∙ ap (λ (c : ℕ). string_of (key_of (mem c))) link ∙ k.1.string in
    let zone : v ≡ w = sym h.1.zone ∙ ap (λ (c : ℕ). zone_of (mem c)) link ∙ k.1.zone in
    let left = linked_single mem (mem a).left x z (λ c i. p c (Memᴰ.tail (Memᴰ.append_left (labels y) i)))
    (λ c i. q c (Memᴰ.tail (Memᴰ.append_left (labels u) i))) h.2 (rw (← link) at k.2) in
    let right = linked_single mem (mem a).right y u (λ c i. p c (Memᴰ.tail (Memᴰ.append_right (labels x) i)))
    (λ c i. q c (Memᴰ.tail (Memᴰ.append_right (labels z) i))) h.3 (rw (← link) at k.3) in
    λ i. node (link i) (string i) (zone i) (left i) (right i)

-- ---- Chained

pub chained_ext : (mem nem : Memory) (l : ℕ) (ls : List ℕ) → ((a : ℕ) → Memᴰ a ls → mem a ≡ nem a)
    → Chained mem l ls → Chained nem l ls
chained_ext mem nem l [] f h = h
chained_ext mem nem l (a ∷ ls) f h =
    let e = f a (Memᴰ.head refl) in
    let rest = chained_ext mem nem (mem a).left ls (λ b i. f b (Memᴰ.tail i)) h.2 in
    (h.0, rw e at h.1, rw e at rest)

-- ---- Holds

module _ {ws : List ℕ} {m : Map} where
  pub is_table_holds : Holds ws m → is_table (length ws) ≡ true
  is_table_holds h = ap is_table h.length_is ∙ is_table-table_length h.records h.some_records h.most_records

  pub ascending_holds : Holds ws m → T (ascending m)
  ascending_holds h = rw h.map_is at (ascending-entries [] h.tree h.good)

  room_once : (h : Holds ws m) (a : ℕ) → Memᴰ a (labels h.tree ++ h.chain) → room_of (length ws) a ≡ true
  room_once h a i = let b = once-bounds h.records (labels h.tree ++ h.chain) h.once a i in
      rw h.length_is (room_of-table_length h.records a b.0 b.1)

  pub labels-room : (h : Holds ws m) (a : ℕ) → Memᴰ a (labels h.tree) → room_of (length ws) a ≡ true
  labels-room h a i = room_once h a (Memᴰ.append_left h.chain i)

  pub chain-room : (h : Holds ws m) (a : ℕ) → Memᴰ a h.chain → room_of (length ws) a ≡ true
  chain-room h a i = room_once h a (Memᴰ.append_right (labels h.tree) i)

  -- the nodes and the spare records add up to the table's records
  pub nodes_holds : (h : Holds ws m) → length (nodes (keys m)) + length h.chain ≡ h.records
  nodes_holds h =
      let n : nodes (keys m) ≡ strings h.tree = rw h.map_is at (nodes-entries [] h.tree h.good) in
      rw (n, ← length-labels h.tree, ← length-append) (length_once h.records (labels h.tree ++ h.chain) h.once)

  -- a replacement is never Full
  pub overflows-replaced : Holds ws m → (e : Entry) (z : ℕ) → get e.key m ≡ some z → overflows (capacity (length ws)) e m ≡ false
  overflows-replaced h e z s =
      let records : capacity (length ws) ≡ h.records = ap capacity h.length_is ∙ capacity-table_length h.records in
      overflows_stored (capacity (length ws)) e m z (ascending_holds h) s ∙ le-ltb (capacity (length ws)) (length (nodes (keys m))) (omega (arith, nodes_holds h, records))

  labels-positive : (h : Holds ws m) → Positive h.tree
  labels-positive h a i = (once-bounds h.records (labels h.tree ++ h.chain) h.once a (Memᴰ.append_left h.chain i)).0

-- one memory holds one map
pub holds_single : {ws : List ℕ} {m n : Map} → Holds ws m → Holds ws n → m ≡ n
holds_single h k =
    sym h.map_is
    ∙ ap (λ (t : Tree ℕ). entries t) (linked_single _ _ h.tree k.tree (labels-positive h) (labels-positive k) h.linked k.linked) ∙ k.map_is

-- two tables of one map have trees of one shape
pub shape_holds : {ws us : List ℕ} {m : Map} (h : Holds ws m) (g : Holds us m) → shape h.tree ≡ shape g.tree
shape_holds h g = shape_ext [] h.tree g.tree h.good g.good (h.map_is ∙ sym g.map_is)
