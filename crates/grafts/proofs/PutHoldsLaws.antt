-- The laws of a store below an open place of a map's tree: words that are linked so hold the map with the
-- entry put in, and when a table has too few records for it. Then the records by value that a store writes,
-- as nodes. No contract cites this file.
--   Spot                where the search for a key ends in the tree of a table
-- Assumes nothing.
use Prim.Native.Nat.{ℕ, ◌+◌, ◌*◌, ◌%◌, ◌≤◌, ◌<◌}
use native.Mathlib.Omega.{arith}
use mathlib.Core.Path.{◌≡◌, sym, ap, ◌∙◌, subst}
use mathlib.Core.Bool.{true, false}
use mathlib.Core.List.{List, [], ◌++◌}
use mathlib.Core.Option.{none, some}
use lib.ListN.{length, take, length-append}
use borrow.Author.Tests.{eq-eqb, ne_eqb, lt-ltb, le-ltb}
use Rattle.prefix.specs.Keys.{string_of, Valid, cut_of}
use Rattle.prefix.specs.declared.Prefix.{Prefix}
use Rattle.prefix.proofs.KeysLaws.{valid-cut_of, string_of-cut_of}
use Rattle.zones.specs.Maps.{Map, keys, put}
use Rattle.zones.specs.Nodes.{nodes, overflows}
use Rattle.zones.specs.Tree.{Tree, Good, entries}
use Rattle.zones.specs.Searching.{strings}
use Rattle.zones.specs.TreeEdits.{put_tree}
use Rattle.zones.specs.Focus.{Context, plug}
use Rattle.zones.proofs.PutLaws.{good-put_tree, entries-put_tree, nodes-put}
use Rattle.records.specs.Layout.{capacity, record_at, header_at, zone_of}
use Rattle.records.specs.Holds.{labels, Bears, Linked, Chained, times, Holds}
use Rattle.records.proofs.LayoutLaws.{capacity-table_length}
use Rattle.records.proofs.OnceLaws.{times-append, length_once}
use Rattle.records.proofs.HoldsLaws.{length-labels, nodes_holds}
use Rattle.records.proofs.GraftLaws.{times-plug, length-plug, Framed, holds-edit}
use Rattle.lookup.proofs.FramesLaws.{Frames}
use Rattle.plans.specs.Planning.{node_of, entry_of}
use Rattle.grafts.proofs.PlanRemoveLaws.{key_of-node_of}

-- ---- overflows

capacity_holds : {ws : List ℕ} {m : Map} (h : Holds ws m) → capacity (length ws) ≡ h.records
capacity_holds h = ap capacity h.length_is ∙ capacity-table_length h.records

-- a table that holds the map with the entry has records enough
pub overflows_holds : (ws us : List ℕ) (k : Prefix) (z : ℕ) (m : Map) → Holds us (put (entry_of k z) m) → length us ≡ length ws
    → overflows (capacity (length ws)) (entry_of k z) m ≡ false
unfolding overflows
overflows_holds ws us k z m h e =
    let n = nodes_holds h in
    rw (← e, capacity_holds h) (le-ltb h.records (length (nodes (keys (put (entry_of k z) m)))) (omega arith))

-- ---- Spot

-- the search for the key k ends at the open place of c, below which u lies
pub record Spot {ws : List ℕ} {m : Map} (h : Holds ws m) (k : Prefix) (z : ℕ) (c : Context ℕ) (u : Tree ℕ) : Type 0 where
  pub valid : Valid k
  pub is : h.tree ≡ plug c u
  pub frames : Frames ws k c
  -- a store of z there is the store in the whole tree
  pub whole : (a b : ℕ) → plug c (put_tree a b (entry_of k z) u) ≡ put_tree a b (entry_of k z) h.tree

times-plugged : (c : Context ℕ) (u t : Tree ℕ) (ls chain : List ℕ) (j : ℕ)
    → times j (labels t) + times j ls ≡ times j (labels u) + times j chain
    → times j (labels (plug c t) ++ ls) ≡ times j (labels (plug c u) ++ chain)
times-plugged c u t ls chain j e =
    rw (times-append j (labels (plug c t)), times-append j (labels (plug c u)), times-plug j c t, times-plug j c u) (omega arith)

module _ {ws : List ℕ} {m : Map} {h : Holds ws m} {k : Prefix} {z : ℕ} {c : Context ℕ} {u : Tree ℕ} (spot : Spot h k z c u) where
  -- words with the new part linked in the place
  pub holds-put : (a b : ℕ) (t : Tree ℕ) (us ls : List ℕ) (l : ℕ) → put_tree a b (entry_of k z) u ≡ t → length us ≡ length ws
      → Framed (record_at us) (header_at us).root c l → Linked (record_at us) l t → Chained (record_at us) (header_at us).spare ls
      → ((j : ℕ) → times j (labels t) + times j ls ≡ times j (labels u) + times j h.chain) → Holds us (put (entry_of k z) m)
  holds-put a b t us ls l e n f i j once =
      let q : plug c t ≡ put_tree a b (entry_of k z) h.tree = ap (plug c) (sym e) ∙ spot.whole a b in
      let g : Good [] (plug c t) = rw q (good-put_tree [] a b (entry_of k z) h.tree tt h.good) in
      let p : entries (plug c t) ≡ put (entry_of k z) m =
      ap entries q ∙ entries-put_tree [] a b (entry_of k z) h.tree tt h.good ∙ ap (put (entry_of k z)) h.map_is in
      subst (Holds us) p (holds-edit h c u t us ls l spot.is n f i j g (λ y. times-plugged c u t ls h.chain y (once y)))

  -- a new part with more nodes than the old one and the spare records have
  pub overflows_short : (t : Tree ℕ) → put_tree 0 0 (entry_of k z) u ≡ t → length (labels u) + length h.chain < length (labels t)
      → overflows (capacity (length ws)) (entry_of k z) m ≡ true
  unfolding overflows
  overflows_short t e more =
      let q : plug c t ≡ put_tree 0 0 (entry_of k z) h.tree = ap (plug c) (sym e) ∙ spot.whole 0 0 in
      let n : nodes (keys (put (entry_of k z) m)) ≡ strings (plug c t) =
      rw (q, ← h.map_is) (nodes-put 0 0 (entry_of k z) h.tree h.good) in
      let r : length (labels (plug c u)) + length h.chain ≡ h.records =
      rw (spot.is, length-append) at (length_once h.records (labels h.tree ++ h.chain) h.once) in
      rw (n, ← length-labels (plug c t), capacity_holds h)
      (lt-ltb h.records (length (labels (plug c t))) (omega (arith, length-plug c t, length-plug c u)))

-- ---- Bears: the records that a store writes

-- a node that stores z
pub bears_stored : (k : Prefix) (z left right : ℕ) → Valid k → Bears (node_of k (2 * k.width + 1) z left right) (string_of k) (some z)
unfolding zone_of node_of
bears_stored k z left right v =
    let e = key_of-node_of k (2 * k.width + 1) z left right (omega arith) in
    record { valid = rw e v; string = ap string_of e; zone = rw (eq-eqb ((2 * k.width + 1) % 2) 1 (omega arith)) }

-- a node at the first n bits of k that stores nothing
pub bears_branch : (k : Prefix) (n left right : ℕ) → Valid k → n ≤ k.width
    → Bears (node_of (cut_of k n) (2 * n) 0 left right) (take n (string_of k)) none
unfolding zone_of node_of cut_of
bears_branch k n left right v i =
    let e = key_of-node_of (cut_of k n) (2 * n) 0 left right (omega arith) in
    record {
      valid = rw e (valid-cut_of k n i v.narrow);
      string = ap string_of e ∙ string_of-cut_of k n i v.narrow;
      zone = rw (ne_eqb ((2 * n) % 2) 1 (omega arith));
    }
