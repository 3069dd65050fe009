-- The records mean the entries' starts, every one and nothing else, exactly if the entries are those of the
-- zone numbers that the tree uses. No contract cites this file.
-- Assumes nothing.
use Prim.Native.Nat.{ℕ, zero, suc, ◌+◌, ◌-◌, ◌*◌, ◌≤◌, ◌<◌}
use native.Mathlib.Decide.{ℕ_discrete}
use native.Mathlib.Omega.{arith}
use mathlib.Core.Path.{◌≡◌, refl, sym, ◌∙◌, subst}
use mathlib.Core.Bool.{Bool, true, false, cond}
use mathlib.Core.List.{List, [], ◌∷◌, Memᴰ}
use mathlib.Core.Option.{some, none}
use lib.Dec.{T, eqb, eqb→eq}
use lib.ListN.{length}
use borrow.Author.Tests.{eqb-false, eqb-true}
use Rattle.bits.specs.Lists.{any}
use Rattle.bits.proofs.ListsLaws.{and_left, and_right, test_ext, any_mem, mem-any}
use Rattle.image.specs.Bytes.{uint32}
use Rattle.image.specs.Image.{Fork, zones_of, offset}
use Rattle.image.specs.Tries.{Trie, leaf, fork, size, ref, refs}
use Rattle.image.proofs.ZonesLaws.{ascending-zones_of, uses, used_by, mem-zones_of, zones_of_mem, one_byte, offset-lt}
use Rattle.image.proofs.AscendingLaws.{ascending_ext}
use Rattle.image_verify.specs.Verifying.{record_no, uses_on, starts_at, agree, exact_from, exact_on}
use Rattle.image_verify.proofs.StandsLaws.{Stands, Zoned}
use Rattle.image_verify.proofs.UsesLaws.{Place, at_left, at_right, below_left, below_right, place, record-uses_on, uses_on_true, used-uses_on}
use Rattle.image_verify.proofs.GrownLaws.{Known}
use Rattle.image_verify.proofs.EntriesLaws.{Entries, starts_at-entry, starts_at_true}

-- ---- exact_from

agree_same : (a b : Bool) → a ≡ b → agree a b ≡ true
agree_same true true e = refl
agree_same true false e = sym e
agree_same false true e = e
agree_same false false e = refl

agree_true : (a b : Bool) → T (agree a b) → a ≡ b
agree_true true true h = refl
agree_true false false h = refl
agree_true false true h = elim h [ ]
agree_true true false h = elim h [ ]

module _ (bs : List ℕ) (n end : ℕ) where
  -- the byte p is meant by a record exactly if an entry starts there
  abbrev Exact : ℕ → Type 0
  Exact p = uses_on bs n p ≡ starts_at (length bs) bs (6 * n + 16) end p

  exact-from : (k p : ℕ) → ((q : ℕ) → p ≤ q → q < p + k → Exact q) → exact_from k bs n end p ≡ true
  exact-from zero p h = refl
  exact-from (suc k) p h =
      rw (agree_same (uses_on bs n p) (starts_at (length bs) bs (6 * n + 16) end p) (h p (omega arith) (omega arith)))
      (exact-from k (p + 1) (λ q a b. h q (omega arith) (omega arith)))

  from_exact : (k p : ℕ) → T (exact_from k bs n end p) → (q : ℕ) → p ≤ q → q < p + k → Exact q
  from_exact zero p h q a b = absurd (omega arith)
  from_exact (suc k) p h q a b =
      let s : Bool = starts_at (length bs) bs (6 * n + 16) end p in
      elim (ℕ_discrete p q) [
        | yes e ↦ (let here = agree_true (uses_on bs n p) s (and_left (agree (uses_on bs n p) s) (exact_from k bs n end (p + 1)) h) in
            rw e at here)
        | no e ↦ from_exact k (p + 1) (and_right (agree (uses_on bs n p) s) (exact_from k bs n end (p + 1)) h) q (omega arith) (omega arith)
      ]

-- ---- ascending numbers

-- ---- offset

offset_inj : (zs : List ℕ) (y z : ℕ) → Memᴰ y zs → Memᴰ z zs → offset zs y ≡ offset zs z → y ≡ z
offset_inj (x ∷ xs) y z i j e = go (eqb x y) (eqb x z) refl refl e (offset_inj xs y z)
  where
    tail : (w : ℕ) → eqb x w ≡ false → Memᴰ w (x ∷ xs) → Memᴰ w xs
    tail w q (Memᴰ.head p) = absurd (eqb-false x w q (sym p))
    tail w q (Memᴰ.tail p) = p

    go : (a b : Bool) → eqb x y ≡ a → eqb x z ≡ b → cond a 0 (length (uint32 x) + offset xs y) ≡ cond b 0 (length (uint32 x) + offset xs z)
        → (Memᴰ y xs → Memᴰ z xs → offset xs y ≡ offset xs z → y ≡ z) → y ≡ z
    go true true p q e ih = sym (eqb-true x y p) ∙ eqb-true x z q
    go true false p q e ih = absurd (omega (arith, one_byte x))
    go false true p q e ih = absurd (omega (arith, one_byte x))
    go false false p q e ih = ih (tail y p i) (tail z q j) (omega arith)
offset_inj [] y z i j e = elim i [ ]

-- ---- the zone numbers that a tree uses

pub used_mem : (z : ℕ) (fs : List Fork) → T (any (used_by z) fs) → Memᴰ z (zones_of fs)
used_mem z fs h = let w = any_mem (used_by z) fs h in zones_of_mem z fs w.0 w.1 w.2

mem_used : (z : ℕ) (fs : List Fork) → Memᴰ z (zones_of fs) → T (any (used_by z) fs)
mem_used z fs i = let w = mem-zones_of z fs i in mem-any (used_by z) fs w.0 w.1 w.2

module _ (zs : List ℕ) (z : ℕ) where
  zoned-ref : (i : ℕ) (u : Trie) → Zoned zs u → T (uses z (ref i u)) → Memᴰ z zs
  zoned-ref i (leaf (some y)) h k = rw (eqb→eq z y k) h
  zoned-ref i (leaf none) h k = elim k [ ]
  zoned-ref i (fork _ _) h k = elim k [ ]

  -- each is in zs
  used-zoned : (i : ℕ) (t : Trie) → Zoned zs t → T (any (used_by z) (refs i t)) → Memᴰ z zs
  used-zoned i (fork l r) h k = go (place z i l r k) (used-zoned (suc i) l h.0) (used-zoned (suc i + size l) r h.1)
    where
      go : Place z i l r → (T (any (used_by z) (refs (suc i) l)) → Memᴰ z zs) → (T (any (used_by z) (refs (suc i + size l) r)) → Memᴰ z zs)
          → Memᴰ z zs
      go (at_left u) a b = zoned-ref (suc i) l h.0 u
      go (at_right u) a b = zoned-ref (suc i + size l) r h.1 u
      go (below_left u) a b = a u
      go (below_right u) a b = b u
  used-zoned i (leaf _) h k = elim k [ ]

-- ---- exact_on

module _ (bs : List ℕ) (n end : ℕ) (zs : List ℕ) (e : Entries bs (6 * n + 16) end zs) (l : length zs ≤ length bs) where
  -- of a tree that uses just the numbers of the entries
  pub exact_on-zones : (t : Trie) → size t ≡ n → Stands bs n zs 0 t → zones_of (refs 0 t) ≡ zs → exact_on bs n end ≡ true
  unfolding exact_on
  exact_on-zones t c s q =
      exact-from bs n end (end - (6 * n + 16)) (6 * n + 16)
      (λ p a b. test_ext (uses_on bs n p) (starts_at (length bs) bs (6 * n + 16) end p)
      (λ u. let w = uses_on_true bs n zs t c s p a u in
      rw w.2 (starts_at-entry bs end (length bs) (6 * n + 16) zs w.0 l e (rw q at (used_mem w.0 (refs 0 t) w.1))))
      (λ u. let w = starts_at_true bs end (length bs) (6 * n + 16) zs p e u in
      rw w.2 (used-uses_on bs n zs t c s w.0 (mem_used w.0 (refs 0 t) (subst (λ (ys : List ℕ). Memᴰ w.0 ys) (sym q) w.1)))))

  module _ (x : T (exact_on bs n end)) where
    exact_at : (p : ℕ) → 6 * n + 16 ≤ p → p < end → Exact bs n end p
    unfolding exact_on
    exact_at p a b = from_exact bs n end (end - (6 * n + 16)) (6 * n + 16) x p a (omega arith)

    -- every record that means data means an entry
    pub exact_on-known : (k : ℕ) → k < 2 * n → Known n (end - (6 * n + 16)) zs (record_no bs k)
    exact_on-known k h a b =
        let p : ℕ = record_no bs k + 5 * n in
        let u : T (uses_on bs n p) = record-uses_on bs n k p h refl in
        let w = starts_at_true bs end (length bs) (6 * n + 16) zs p e (rw (exact_at p (omega arith) (omega arith)) at u) in
        (w.0, w.1, omega (arith, w.2))

    -- the entries are those of the tree's numbers
    pub zones_of-exact_on : (t : Trie) → size t ≡ n → Stands bs n zs 0 t → Zoned zs t → zones_of (refs 0 t) ≡ zs
    zones_of-exact_on t c s h = ascending_ext (zones_of (refs 0 t)) zs (ascending-zones_of (refs 0 t)) e.ascends (λ z i. used-zoned zs z 0 t h (mem_used z (refs 0 t) i)) back
      where
        back : (z : ℕ) → Memᴰ z zs → Memᴰ z (zones_of (refs 0 t))
        back z i =
            let p : ℕ = 6 * n + 16 + offset zs z in
            let b : p < end = omega (arith, e.ends, offset-lt z zs i) in
            let u : T (uses_on bs n p) = rw (exact_at p (omega arith) b) (starts_at-entry bs end (length bs) (6 * n + 16) zs z l e i) in
            let w = uses_on_true bs n zs t c s p (omega arith) u in
            let same : z ≡ w.0 = offset_inj zs z w.0 i (used-zoned zs w.0 0 t h w.1) (omega (arith, w.2)) in
            rw same (used_mem w.0 (refs 0 t) w.1)
