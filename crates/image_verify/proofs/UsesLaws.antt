-- The bytes of the data section that some record means are those where a used zone number's entry starts.
-- No contract cites this file.
-- Assumes nothing.
use Prim.Native.Nat.{ℕ, zero, suc, ◌+◌, ◌-◌, ◌*◌, ◌≤◌, ◌<◌}
use native.Mathlib.Decide.{dec_lt, ℕ_discrete}
use native.Mathlib.Omega.{arith}
use mathlib.Core.Path.{◌≡◌, refl, ap, ◌∙◌}
use mathlib.Core.Logic.{inl, inr}
use mathlib.Core.Bool.{Bool, ◌||◌}
use mathlib.Core.List.{List}
use mathlib.Core.Option.{none, some}
use lib.Dec.{T, eqb, eqb→eq, eqb_refl}
use borrow.Author.Tests.{eq-eqb}
use Rattle.bits.specs.Lists.{any}
use Rattle.bits.proofs.ListsLaws.{true-T, or_left, or_right, or_cases, any_append}
use Rattle.image.specs.Image.{Fork, offset, record_of}
use Rattle.image.specs.Tries.{Trie, leaf, fork, size, ref, refs}
use Rattle.image.proofs.ZonesLaws.{uses, used_by}
use Rattle.image_verify.specs.Verifying.{record_no, among_first, uses_on}
use Rattle.image_verify.proofs.StandsLaws.{Stands}

-- ---- among_first

among_first_true : (k : ℕ) (bs : List ℕ) (r : ℕ) → T (among_first k bs r) → (j : ℕ) × (j < k) × (record_no bs j ≡ r)
among_first_true (suc k) bs r h =
    elim (or_cases (eqb (record_no bs k) r) (among_first k bs r) h) [
      | inl e ↦ (k, omega arith, eqb→eq (record_no bs k) r e)
      | inr i ↦ let w = among_first_true k bs r i in (w.0, omega (arith, w.1), w.2)
    ]
among_first_true zero bs r h = elim h [ ]

record-among_first : (k : ℕ) (bs : List ℕ) (r j : ℕ) → j < k → record_no bs j ≡ r → T (among_first k bs r)
record-among_first zero bs r j h e = absurd (omega arith)
record-among_first (suc k) bs r j h e =
    elim (ℕ_discrete j k) [
      | yes q ↦ or_left (eqb (record_no bs k) r) (among_first k bs r) (true-T (eqb (record_no bs k) r) (eq-eqb (record_no bs k) r (rw q at e)))
      | no q ↦ or_right (eqb (record_no bs k) r) (among_first k bs r) (record-among_first k bs r j (omega arith) e)
    ]

-- ---- the records of a trie's zone numbers

-- a record that means the byte p of the data section
pub record-uses_on : (bs : List ℕ) (n j p : ℕ) → j < 2 * n → record_no bs j + 5 * n ≡ p → T (uses_on bs n p)
unfolding uses_on
record-uses_on bs n j p h e = record-among_first (2 * n) bs (p - 5 * n) j h (omega arith)

module _ (n : ℕ) (zs : List ℕ) where
  ref-zone : (j : ℕ) (u : Trie) → j + size u ≤ n → n + 16 ≤ record_of n zs (ref j u)
      → (z : ℕ) × T (uses z (ref j u)) × (record_of n zs (ref j u) ≡ n + 16 + offset zs z)
  ref-zone j (leaf none) h k = absurd (omega arith)
  ref-zone j (leaf (some z)) h k = (z, eqb_refl z, refl)
  ref-zone j (fork l r) h k = absurd (omega arith)

  uses-ref : (j z : ℕ) (u : Trie) → T (uses z (ref j u)) → record_of n zs (ref j u) ≡ n + 16 + offset zs z
  uses-ref j z (leaf (some y)) h = rw (eqb→eq z y h)
  uses-ref j z (leaf none) h = elim h [ ]
  uses-ref j z (fork _ _) h = elim h [ ]

-- ---- the zone numbers that a fork and the parts below it use

module _ (z i : ℕ) (l r : Trie) where
  abbrev top : Fork
  top = record { left = ref (suc i) l; right = ref (suc i + size l) r }

  abbrev used_in_left : Bool
  used_in_left = any (used_by z) (refs (suc i) l)

  abbrev used_in_right : Bool
  used_in_right = any (used_by z) (refs (suc i + size l) r)

  any-fork : any (used_by z) (refs i (fork l r)) ≡ (used_by z top || (used_in_left || used_in_right))
  any-fork = ap (λ (b : Bool). used_by z top || b) (any_append (used_by z) (refs (suc i) l) (refs (suc i + size l) r))

  pub used_top_left : T (uses z (ref (suc i) l)) → T (any (used_by z) (refs i (fork l r)))
  used_top_left h = rw any-fork (or_left (used_by z top) (used_in_left || used_in_right) (or_left (uses z top.left) (uses z top.right) h))

  pub used_top_right : T (uses z (ref (suc i + size l) r)) → T (any (used_by z) (refs i (fork l r)))
  used_top_right h = rw any-fork (or_left (used_by z top) (used_in_left || used_in_right) (or_right (uses z top.left) (uses z top.right) h))

  pub used_left : T used_in_left → T (any (used_by z) (refs i (fork l r)))
  used_left h = rw any-fork (or_right (used_by z top) (used_in_left || used_in_right) (or_left used_in_left used_in_right h))

  pub used_right : T used_in_right → T (any (used_by z) (refs i (fork l r)))
  used_right h = rw any-fork (or_right (used_by z top) (used_in_left || used_in_right) (or_right used_in_left used_in_right h))

  -- where a number is used
  pub data Place : Type 0 where
    at_left : T (uses z (ref (suc i) l)) → Place
    at_right : T (uses z (ref (suc i + size l) r)) → Place
    below_left : T used_in_left → Place
    below_right : T used_in_right → Place

  pub place : T (any (used_by z) (refs i (fork l r))) → Place
  place h =
      elim (or_cases (used_by z top) (used_in_left || used_in_right) (rw any-fork at h)) [
        | inl j ↦ elim (or_cases (uses z top.left) (uses z top.right) j) [ inl k ↦ at_left k | inr k ↦ at_right k ]
        | inr j ↦ elim (or_cases used_in_left used_in_right j) [ inl k ↦ below_left k | inr k ↦ below_right k ]
      ]

-- ---- the records of a part

-- which record of a part the record j is: of its top, or of one of the two parts below, of which the left one
-- ends before the node k
data Which (i k j : ℕ) : Type 0 where
  top_left : j ≡ 2 * i → Which i k j
  top_right : j ≡ 2 * i + 1 → Which i k j
  in_left : 2 * suc i ≤ j → j < 2 * k → Which i k j
  in_right : 2 * k ≤ j → Which i k j

which : (i k j : ℕ) → 2 * i ≤ j → Which i k j
which i k j h =
    elim (ℕ_discrete j (2 * i)) [
      | yes p ↦ top_left p
      | no p ↦ elim (ℕ_discrete j (2 * i + 1)) [
        | yes q ↦ top_right q
        | no q ↦ elim (dec_lt j (2 * k)) [ yes r ↦ in_left (omega arith) r | no r ↦ in_right (omega arith) ]
      ]
    ]

module _ (bs : List ℕ) (n : ℕ) (zs : List ℕ) where
  -- the record j means the entry of a number that fs use
  abbrev Means : List Fork → ℕ → Type 0
  Means fs j = (z : ℕ) × T (any (used_by z) fs) × (record_no bs j ≡ n + 16 + offset zs z)

  -- a record of a part that is neither a node nor no data
  stands_used : (i : ℕ) (t : Trie) → i + size t ≤ n → Stands bs n zs i t → (j : ℕ) → 2 * i ≤ j → j < 2 * (i + size t) → n + 16 ≤ record_no bs j
      → Means (refs i t) j
  stands_used i (leaf o) h s j a b k = absurd (omega arith)
  stands_used i (fork l r) h s j a b k =
      at (which i (suc i + size l) j a) (λ p q. stands_used (suc i) l (omega arith) s.2 j p q k)
      (λ p. stands_used (suc i + size l) r (omega arith) s.3 j p (omega arith) k)
    where
      at : Which i (suc i + size l) j → (2 * suc i ≤ j → j < 2 * (suc i + size l) → Means (refs (suc i) l) j)
          → (2 * (suc i + size l) ≤ j → Means (refs (suc i + size l) r) j) → Means (refs i (fork l r)) j
      at (top_left q) hl hr =
          let e = ap (record_no bs) q ∙ s.0 in
          let w = ref-zone n zs (suc i) l (omega arith) (rw e at k) in (w.0, used_top_left w.0 i l r w.1, e ∙ w.2)
      at (top_right q) hl hr =
          let e = ap (record_no bs) q ∙ s.1 in
          let w = ref-zone n zs (suc i + size l) r (omega arith) (rw e at k) in (w.0, used_top_right w.0 i l r w.1, e ∙ w.2)
      at (in_left p q) hl hr = let w = hl p q in (w.0, used_left w.0 i l r w.1, w.2)
      at (in_right p) hl hr = let w = hr p in (w.0, used_right w.0 i l r w.1, w.2)

  -- a record before number k means the entry of z
  abbrev Meant : ℕ → ℕ → Type 0
  Meant z k = (j : ℕ) × (j < k) × (record_no bs j ≡ n + 16 + offset zs z)

  used-stands : (z i : ℕ) (t : Trie) → Stands bs n zs i t → T (any (used_by z) (refs i t)) → Meant z (2 * (i + size t))
  used-stands z i (fork l r) s h = at (place z i l r h) (used-stands z (suc i) l s.2) (used-stands z (suc i + size l) r s.3)
    where
      at : Place z i l r → (T (any (used_by z) (refs (suc i) l)) → Meant z (2 * (suc i + size l)))
          → (T (any (used_by z) (refs (suc i + size l) r)) → Meant z (2 * (suc i + size l + size r))) → Meant z (2 * (i + size (fork l r)))
      at (at_left u) hl hr = (2 * i, omega arith, s.0 ∙ uses-ref n zs (suc i) z l u)
      at (at_right u) hl hr = (2 * i + 1, omega arith, s.1 ∙ uses-ref n zs (suc i + size l) z r u)
      at (below_left u) hl hr = let w = hl u in (w.0, omega (arith, w.1), w.2)
      at (below_right u) hl hr = let w = hr u in (w.0, omega (arith, w.1), w.2)
  used-stands z i (leaf _) s h = elim h [ ]

  -- ---- uses_on

  -- the data section starts at the byte 6n + 16
  module _ (t : Trie) (all_of : size t ≡ n) (s : Stands bs n zs 0 t) where
    pub uses_on_true : (p : ℕ) → 6 * n + 16 ≤ p → T (uses_on bs n p) → (z : ℕ) × T (any (used_by z) (refs 0 t)) × (p ≡ 6 * n + 16 + offset zs z)
    unfolding uses_on
    uses_on_true p h u =
        let w = among_first_true (2 * n) bs (p - 5 * n) u in
        let e : record_no bs w.0 ≡ p - 5 * n = w.2 in
        let v = stands_used 0 t (omega arith) s w.0 (omega arith) (omega (arith, w.1)) (omega arith) in
        (v.0, v.1, omega (arith, v.2))

    pub used-uses_on : (z : ℕ) → T (any (used_by z) (refs 0 t)) → T (uses_on bs n (6 * n + 16 + offset zs z))
    used-uses_on z u =
        let w = used-stands z 0 t s u in
        record-uses_on bs n w.0 (6 * n + 16 + offset zs z) (omega (arith, w.1)) (omega (arith, w.2))
