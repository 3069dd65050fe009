-- The laws of the stretches one after the other: as long as no mark is left, records and entries agree so
-- far, and a mark that is left is a byte at which they do not. No contract cites this file.
-- Assumes nothing.
use Prim.Native.Nat.{ℕ, zero, suc, ◌+◌, ◌-◌, ◌*◌, ◌≤◌, ◌<◌}
use native.Mathlib.Decide.{dec_lt}
use native.Mathlib.Omega.{arith}
use mathlib.Core.Path.{◌≡◌, refl, sym, ◌∙◌}
use mathlib.Core.Bool.{Bool, true, false, ◌&&◌, ◌||◌, not}
use mathlib.Core.List.{List}
use lib.Dec.{ltb}
use lib.ListN.{length, replicate, length-replicate}
use borrow.Author.Tests.{lt-ltb, ltb-true, not-true, not-false}
use Rattle.marks.specs.Marks.{has, Marks, differ}
use Rattle.marks.proofs.MarksLaws.{has_fresh}
use Rattle.image_verify.specs.Verifying.{uses_on, agree, starts_at, exact_from, exact_on}
use Rattle.image_verify.specs.Starts.{Flipped}
use Rattle.image_verify.proofs.StretchLaws.{and_false}

-- ---- exact_on

module _ (bs : List ℕ) (n end : ℕ) where
  abbrev start : ℕ
  start = 6 * n + 16

  -- a record means the byte p exactly if an entry starts there
  abbrev Agrees : ℕ → Bool → Type 0
  Agrees p b = agree (uses_on bs n p) (starts_at (length bs) bs start end p) ≡ b

  exact_from_yes : (k q : ℕ) → ((p : ℕ) → q ≤ p → p < q + k → Agrees p true) → exact_from k bs n end q ≡ true
  exact_from_yes zero q h = refl
  exact_from_yes (suc k) q h = rw (h q (omega arith) (omega arith)) (exact_from_yes k (q + 1) (λ p l g. h p (omega arith) (omega arith)))

  exact_from_no : (k q p : ℕ) → q ≤ p → p < q + k → Agrees p false → exact_from k bs n end q ≡ false
  exact_from_no zero q p l g h = absurd (omega arith)
  exact_from_no (suc k) q p l g h = by (dec_lt q p) (λ d. exact_from_no k (q + 1) p d (omega arith) h)
    where
      by : Dec (q < p) → (q + 1 ≤ p → exact_from k bs n end (q + 1) ≡ false) → exact_from (suc k) bs n end q ≡ false
      by (yes d) ih = rw (ih (omega arith)) (and_false (agree (uses_on bs n q) (starts_at (length bs) bs start end q)))
      by (no d) ih = let e : q ≡ p = omega arith in rw (e, h)

  pub exact_on_no : (p : ℕ) → start ≤ p → p < end → Agrees p false → false ≡ exact_on bs n end
  unfolding exact_on
  exact_on_no p l g h = sym (exact_from_no (end - start) start p l (omega arith) h)

  -- ---- Covered

  -- up to `base` records and entries agree, nothing is marked, and the next start is `at`
  pub record Covered (base at : ℕ) (ws : List ℕ) : Type 0 where
    pub full : length ws ≡ 4096
    pub clean : (e : ℕ) → has ws e ≡ false
    pub low : start ≤ base
    pub high : base ≤ end
    pub after : base ≤ at
    pub inside : at ≤ end
    pub agreed : (p : ℕ) → start ≤ p → p < base → Agrees p true
    pub rest : (p : ℕ) → base ≤ p → starts_at (length bs) bs start end p ≡ starts_at (length bs) bs at end p

  pub covered_start : (m : ℕ) → m ≡ 4096 → start ≤ end → Covered start start (replicate m 0)
  covered_start m e h =
      record {
        full = length-replicate m 0 ∙ e;
        clean = has_fresh m;
        low = omega arith;
        high = h;
        after = omega arith;
        inside = h;
        agreed = λ p l g. absurd (omega arith);
        rest = λ p h. refl;
      }

  pub exact_on_yes : (base at : ℕ) (ws : List ℕ) → Covered base at ws → end ≤ base → true ≡ exact_on bs n end
  unfolding exact_on
  exact_on_yes base at ws c h =
      let l = c.low in
      let g = c.high in
      sym (exact_from_yes (end - start) start (λ p i j. c.agreed p i (omega arith)))

  -- ---- a stretch

  module _ (base at stop r : ℕ) (ws ws1 ws2 : List ℕ) (c : Covered base at ws) (most : stop ≤ end)
      (m : Marks ws1 (λ e. has ws e || (ltb (base + e) stop && uses_on bs n (base + e)))) (f : Flipped bs at end base stop ws1 r ws2) where
    -- what is marked in the end
    left : (e : ℕ) → has ws2 e ≡ differ (ltb (base + e) stop && uses_on bs n (base + e)) (ltb (base + e) stop && starts_at (length bs) bs start end (base + e))
    left e = f.marks.marked e ∙ rw (m.marked e, c.clean e, c.rest (base + e) (omega arith))

    left-inside : (e : ℕ) → base + e < stop → has ws2 e ≡ not (agree (uses_on bs n (base + e)) (starts_at (length bs) bs start end (base + e)))
    left-inside e h = left e ∙ rw (lt-ltb (base + e) stop h) (by (uses_on bs n (base + e)) (starts_at (length bs) bs start end (base + e)))
      where
        by : (a b : Bool) → differ a b ≡ not (agree a b)
        by true true = refl
        by true false = refl
        by false true = refl
        by false false = refl

    pub covered_next : base < stop → ((e : ℕ) → has ws2 e ≡ false) → Covered stop r ws2
    covered_next h clean =
        let low = c.low in
        record {
          full = f.marks.full;
          clean = clean;
          low = omega arith;
          high = most;
          after = f.after;
          inside = f.inside;
          agreed = λ p l g. by p l g (dec_lt p base);
          rest = λ p l. c.rest p (omega arith) ∙ f.rest p l;
        }
      where
        by : (p : ℕ) → start ≤ p → p < stop → Dec (p < base) → Agrees p true
        by p l g (yes d) = c.agreed p l d
        by p l g (no d) =
            let e : base + (p - base) ≡ p = omega arith in
            let q = sym (left-inside (p - base) (omega arith)) ∙ clean (p - base) in
            not-false _ (rw e at q)

    pub uncovered : (d : ℕ) → has ws2 d ≡ true → false ≡ exact_on bs n end
    uncovered d h = by (ltb (base + d) stop) refl
      where
        by : (b : Bool) → ltb (base + d) stop ≡ b → false ≡ exact_on bs n end
        by true q =
            let l = ltb-true (base + d) stop q in
            let low = c.low in
            exact_on_no (base + d) (omega arith) (omega arith) (not-true _ (sym (left-inside d l) ∙ h))
        by false q = let z : false ≡ true = sym (left d ∙ rw q) ∙ h in cc
