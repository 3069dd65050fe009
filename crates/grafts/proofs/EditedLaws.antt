-- The laws of words that an edit has changed where a search ended: they are a table of the tree so changed.
-- A node is made anew in its place, or what lies in the open place gives way to a part of it and the other
-- records become spare. No contract cites this file.
-- Assumes nothing.
use Prim.Native.Nat.{ℕ, ◌+◌, ◌≤◌, ◌<◌}
use native.Mathlib.Omega.{arith}
use mathlib.Core.Path.{◌≡◌, refl, sym}
use mathlib.Core.List.{List, [], ◌∷◌, ◌++◌, Memᴰ}
use mathlib.Core.Option.{Option}
use lib.ListN.{length}
use Rattle.bits.specs.Bits.{Bits}
use Rattle.zones.specs.Maps.{Map}
use Rattle.zones.specs.Tree.{Tree, node, Good, entries}
use Rattle.zones.specs.Focus.{Context, plug, link_at}
use Rattle.records.specs.Layout.{record_at, header_at}
use Rattle.records.specs.Holds.{labels, Bears, Linked, Chained, times, Holds}
use Rattle.records.proofs.OnceLaws.{times-append, mem-times}
use Rattle.records.proofs.HoldsLaws.{linked_ext, chained_ext}
use Rattle.records.proofs.GraftLaws.{labels_above, times-plug, Opened, framed_ext, holds-edit}
use Rattle.grafts.proofs.HangLaws.{root_with, Hanged, framed-hang}
use Rattle.grafts.proofs.OpenedLaws.{aside-link_at, opened_at, opened_once, opened-bounds}

module _ {ws : List ℕ} {m : Map} (h : Holds ws m) (c : Context ℕ) (t : Tree ℕ) (e : h.tree ≡ plug c t) where
  -- a chain whose records are as they were
  chained_kept : (us : List ℕ) → ((b : ℕ) → 1 ≤ times b h.chain → record_at ws b ≡ record_at us b)
      → Chained (record_at us) (header_at ws).spare h.chain
  chained_kept us f =
      chained_ext (record_at ws) (record_at us) (header_at ws).spare h.chain (λ b i. f b (mem-times b h.chain i)) h.chained

  -- what holds of the open place and the chain holds of the whole
  times-edit : (t' : Tree ℕ) (ls : List ℕ) (b : ℕ) → times b (labels t') + times b ls ≡ times b (labels t) + times b h.chain
      → times b (labels (plug c t') ++ ls) ≡ times b (labels (plug c t) ++ h.chain)
  times-edit t' ls b i =
      rw (times-append b (labels (plug c t')) ls, times-append b (labels (plug c t)) h.chain, times-plug b c t, times-plug b c t')
      (omega arith)

  -- ---- what lies in the open place gives way to a part of it

  -- the words us have the link l in the open place, the records fs are none of the tree's any more, and
  -- those that are neither one of fs nor the node above the open place are as they were
  module _ (us fs : List ℕ) (t' : Tree ℕ) (l : ℕ)
      (others : (b : ℕ) → 0 < b → (b ≡ link_at 0 c → ⊥) → times b fs ≡ 0 → record_at us b ≡ record_at ws b)
      (parts : (b : ℕ) → times b (labels t) ≡ times b (labels t') + times b fs) where
    same_below : (b : ℕ) → 1 ≤ times b (labels t') + times b h.chain → record_at ws b ≡ record_at us b
    same_below b i =
        let n = parts b in
        let j = opened_once h c t e b in
        let p = (opened-bounds h c t e b (omega arith)).0 in
        sym (others b p (aside-link_at c b p (omega arith)) (omega arith))

    same_above : (b : ℕ) → Memᴰ b (labels_above c) → (b ≡ link_at 0 c → ⊥) → record_at us b ≡ record_at ws b
    same_above b i d =
        let n = parts b in
        let j = opened_once h c t e b in
        let q = mem-times b (labels_above c) i in
        others b (opened-bounds h c t e b (omega arith)).0 d (omega arith)

    pub holds-cut : length us ≡ length ws → (header_at us).root ≡ root_with c (header_at ws).root l → Hanged ws us c l
        → Linked (record_at ws) l t'
        → (Chained (record_at us) (header_at ws).spare h.chain → Chained (record_at us) (header_at us).spare (fs ++ h.chain))
        → Good [] (plug c t') → Holds us (entries (plug c t'))
    holds-cut n root w i chains g =
        let framed = framed-hang ws us c (opened_at h c t e).link l (opened_at h c t e).framed root w same_above (λ b. omega (arith, opened_once h c t e b)) in
        let linked = linked_ext (record_at ws) (record_at us) l t' (λ b j. same_below b (omega (arith, mem-times b (labels t') j))) i in
        let chained = chains (chained_kept us (λ b j. same_below b (omega arith))) in
        holds-edit h c t t' us (fs ++ h.chain) l e n framed linked chained g
        (λ b. times-edit t' (fs ++ h.chain) b (omega (arith, times-append b fs h.chain, parts b)))

-- ---- a node is made anew in its place

module _ {ws : List ℕ} {m : Map} (h : Holds ws m) (c : Context ℕ) (a : ℕ) (p : Bits) (v v' : Option ℕ) (x y : Tree ℕ)
    (e : h.tree ≡ plug c (node a p v x y)) (us : List ℕ) (others : (b : ℕ) → 0 < b → (b ≡ a → ⊥) → record_at us b ≡ record_at ws b) where
  abbrev before : Opened (record_at ws) (header_at ws).root c (node a p v x y)
  before = opened_at h c (node a p v x y) e

  same_here : (b : ℕ) → 1 ≤ times b (labels x ++ labels y) + times b (labels_above c) + times b h.chain → record_at ws b ≡ record_at us b
  same_here b i =
      let j = opened_once h c (node a p v x y) e b in
      sym (others b (opened-bounds h c (node a p v x y) e b (omega arith)).0
      (λ q. let n = mem-times b (a ∷ []) (Memᴰ.head q) in omega arith))

  -- a side stays linked
  linked-side : (t : Tree ℕ) (l : ℕ) → ((b : ℕ) → times b (labels t) ≤ times b (labels x ++ labels y)) → Linked (record_at ws) l t
      → Linked (record_at us) l t
  linked-side t l f = linked_ext (record_at ws) (record_at us) l t (λ b i. same_here b (omega (arith, mem-times b (labels t) i, f b)))

  linked-here : Bears (record_at us a) p v' → (record_at us a).left ≡ (record_at ws a).left → (record_at us a).right ≡ (record_at ws a).right
      → Linked (record_at us) before.link (node a p v' x y)
  linked-here bears left right =
      let (same, b, i, j) = before.linked in
      let low = linked-side x (record_at ws a).left (λ b. omega (arith, times-append b (labels x) (labels y))) i in
      let high = linked-side y (record_at ws a).right (λ b. omega (arith, times-append b (labels x) (labels y))) j in
      (same, bears, rw left low, rw right high)

  -- the record of a bears v', and has the links that it had
  pub holds-here : length us ≡ length ws → header_at us ≡ header_at ws → Bears (record_at us a) p v'
      → (record_at us a).left ≡ (record_at ws a).left → (record_at us a).right ≡ (record_at ws a).right
      → Good [] (plug c (node a p v' x y)) → Holds us (entries (plug c (node a p v' x y)))
  holds-here n q bears left right g =
      let framed = framed_ext (record_at ws) (record_at us) (header_at ws).root c before.link
      (λ b i. same_here b (omega (arith, mem-times b (labels_above c) i))) before.framed in
      let chained = chained_kept h c (node a p v x y) e us (λ b i. same_here b (omega arith)) in
      holds-edit h c (node a p v x y) (node a p v' x y) us h.chain before.link e n (rw q framed) (linked-here bears left right)
      (rw q chained) g (λ b. times-edit h c (node a p v x y) e (node a p v' x y) h.chain b refl)
