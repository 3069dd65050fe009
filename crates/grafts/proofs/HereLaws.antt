-- The laws of the words once a store is written at a node that has the key's string: its record gets the
-- number, no other record changes, and they hold the map with the entry put in. No contract cites this file.
-- Assumes nothing.
use Prim.Native.Nat.{ℕ, ◌+◌, ◌*◌, ◌≤◌, ◌<◌}
use native.Mathlib.Omega.{arith}
use mathlib.Core.Path.{◌≡◌, refl, sym}
use mathlib.Core.List.{List}
use mathlib.Core.Option.{Option, some}
use lib.ListN.{length}
use borrow.Author.Tests.{eq-eqb}
use Rattle.bits.specs.Bits.{Bits}
use Rattle.prefix.specs.Keys.{string_of}
use Rattle.prefix.specs.declared.Prefix.{Prefix}
use Rattle.zones.specs.Maps.{Map, put}
use Rattle.zones.specs.Tree.{Tree, node}
use Rattle.zones.specs.TreeEdits.{put_tree}
use Rattle.zones.specs.Focus.{Context}
use Rattle.records.specs.Layout.{place, record_at, header_at}
use Rattle.records.specs.Holds.{labels, Linked, Chained, times, Holds}
use Rattle.records.proofs.OnceLaws.{times-append, mem-times}
use Rattle.records.proofs.HoldsLaws.{linked_ext, chained_ext}
use Rattle.records.proofs.GraftLaws.{labels_above, Framed, framed_ext}
use Rattle.plans.specs.Planning.{nowhere_of, node_of, applied}
use Rattle.plans.specs.Making.{Fitting}
use Rattle.plans.proofs.AppliedLaws.{length-applied, header_at-applied, record_at-applied_one, record_at-applied_other}
use Rattle.plans.specs.Planning.{entry_of}
use Rattle.grafts.proofs.PlanHoldsLaws.{here_plan}
use Rattle.grafts.proofs.OpenedLaws.{opened_at, opened_once, opened-bounds, long-enough}
use Rattle.grafts.proofs.PutHoldsLaws.{Spot, holds-put, bears_stored}

module _ {ws : List ℕ} {m : Map} {h : Holds ws m} {k : Prefix} {z : ℕ} {c : Context ℕ} {a : ℕ} {p : Bits} {v : Option ℕ} {l r : Tree ℕ}
    (spot : Spot h k z c (node a p v l r)) (same-string : p ≡ string_of k) where
  abbrev here_words : List ℕ
  here_words = applied ws (here_plan ws k z a)

  -- how often a link other than the node's own stands in the tree and the chain
  others : ℕ → ℕ
  others b = times b (labels l) + times b (labels r) + times b (labels_above c) + times b h.chain

  here-bounds : (0 < a) × (place a + 8 ≤ length ws)
  here-bounds = opened-bounds h c (node a p v l r) spot.is a (rw (eq-eqb a a refl) (omega arith))

  fitting-here : Fitting ws (here_plan ws k z a)
  unfolding nowhere_of
  fitting-here =
      let w = long-enough h c (node a p v l r) spot.is in
      record { header = w; one = here-bounds.1; two = omega arith; three = omega arith }

  record-here : record_at here_words a ≡ node_of k (2 * k.width + 1) z (record_at ws a).left (record_at ws a).right
  unfolding nowhere_of
  record-here =
      let low = here-bounds.0 in
      record_at-applied_one ws (here_plan ws k z a) fitting-here low (λ e. omega arith) (λ e. omega arith)

  header-here : header_at here_words ≡ header_at ws
  header-here = header_at-applied ws (here_plan ws k z a) fitting-here.header

  record-others : (b : ℕ) → 1 ≤ others b → record_at ws b ≡ record_at here_words b
  unfolding others nowhere_of
  record-others b i =
      let s = times-append b (labels l) (labels r) in
      let low = (opened-bounds h c (node a p v l r) spot.is b (omega arith)).0 in
      let d : b ≡ a → ⊥ = λ e. let once = rw (eq-eqb b a e) at (opened_once h c (node a p v l r) spot.is b) in omega arith in
      sym (record_at-applied_other ws (here_plan ws k z a) b low d (λ e. omega arith) (λ e. omega arith))

  framed-here : Framed (record_at here_words) (header_at here_words).root c a
  unfolding others
  framed-here =
      let o = opened_at h c (node a p v l r) spot.is in
      let f : Framed (record_at ws) (header_at ws).root c a = rw o.linked.0 at o.framed in
      rw header-here
      (framed_ext (record_at ws) (record_at here_words) (header_at ws).root c a
      (λ b i. record-others b (omega (arith, mem-times b (labels_above c) i))) f)

  linked-here : Linked (record_at here_words) a (node a p (some z) l r)
  unfolding others node_of
  linked-here =
      let o = (opened_at h c (node a p v l r) spot.is).linked in
      let left = linked_ext (record_at ws) (record_at here_words) (record_at ws a).left l
      (λ b i. record-others b (omega (arith, mem-times b (labels l) i))) o.2 in
      let right = linked_ext (record_at ws) (record_at here_words) (record_at ws a).right r
      (λ b i. record-others b (omega (arith, mem-times b (labels r) i))) o.3 in
      let bears = bears_stored k z (record_at ws a).left (record_at ws a).right spot.valid in
      (refl, rw (record-here, same-string) bears, rw record-here left, rw record-here right)

  chained-here : Chained (record_at here_words) (header_at here_words).spare h.chain
  unfolding others
  chained-here =
      rw header-here
      (chained_ext (record_at ws) (record_at here_words) (header_at ws).spare h.chain
      (λ b i. record-others b (omega (arith, mem-times b h.chain i))) h.chained)

  pub holds-here : put_tree 0 0 (entry_of k z) (node a p v l r) ≡ node a p (some z) l r → Holds here_words (put (entry_of k z) m)
  holds-here e =
      holds-put spot 0 0 (node a p (some z) l r) here_words h.chain a e (length-applied ws _) framed-here linked-here chained-here
      (λ j. refl)
