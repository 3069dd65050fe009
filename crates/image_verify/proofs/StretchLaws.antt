-- The laws of the bytes that records mean and of those at which entries start, as they are marked and
-- turned over stretch by stretch. No contract cites this file.
-- Assumes nothing.
use Prim.Native.Nat.{ℕ, ◌+◌, ◌-◌, ◌*◌, ◌≤◌, ◌<◌}
use native.Mathlib.Decide.{dec_lt}
use native.Mathlib.Numerals.{add-one}
use native.Mathlib.Omega.{arith}
use mathlib.Core.Path.{◌≡◌, refl, sym, ap, ◌∙◌}
use mathlib.Core.Bool.{Bool, true, false, ◌&&◌, ◌||◌}
use mathlib.Core.List.{List}
use lib.Dec.{ltb, eqb}
use lib.ListN.{length}
use borrow.Author.Tests.{lt-ltb, eq-eqb, ne_eqb, ltb-true, eqb-true, eqb-false}
use Rattle.metadata.specs.Frames.{number_at}
use Rattle.marks.specs.Marks.{has, Marks, differ}
use Rattle.marks.proofs.MarksLaws.{or_false, differ_false}
use Rattle.image_verify.specs.Verifying.{read_on, record_no, among_first, uses_on, starts_at}
use Rattle.image_verify.specs.Starts.{next_of, Flipped}
use Rattle.image_verify.proofs.StartsLaws.{next_of-nearer, starts_at-before, starts_at-here, starts_at_next}

-- ---- a byte that may be one of the stretch

pub and_false : (b : Bool) → (b && false) ≡ false
and_false true = refl
and_false false = refl

-- whether the byte e of a stretch is p
abbrev is_here : ℕ → ℕ → ℕ → ℕ → Bool
is_here p base stop e = ltb (base + e) stop && eqb p (base + e)

-- ---- uses_on

join-tests : (h l a b : Bool) → ((h || (l && a)) || (l && b)) ≡ (h || (l && (b || a)))
join-tests true l a b = refl
join-tests false false a b = refl
join-tests false true true true = refl
join-tests false true true false = refl
join-tests false true false true = refl
join-tests false true false false = refl

eqb-sub : (r m p : ℕ) → m ≤ p → eqb (r + m) p ≡ eqb r (p - m)
eqb-sub r m p h = at (eqb r (p - m)) refl
  where
    at : (b : Bool) → eqb r (p - m) ≡ b → eqb (r + m) p ≡ b
    at true q = let e = eqb-true r (p - m) q in eq-eqb (r + m) p (omega arith)
    at false q = let e = eqb-false r (p - m) q in ne_eqb (r + m) p (λ z. e (omega arith))

-- the marks ws₀, and those of the bytes that one of the first j records means
module _ (bs : List ℕ) (n base stop : ℕ) (ws₀ : List ℕ) where
  abbrev pub Used : ℕ → List ℕ → Type 0
  Used j ws = Marks ws (λ e. has ws₀ e || (ltb (base + e) stop && among_first j bs (base + e - 5 * n)))

  pub used-none : length ws₀ ≡ 4096 → Used 0 ws₀
  used-none full =
      record { full = full; marked = λ e. sym (ap (λ (b : Bool). has ws₀ e || b) (and_false (ltb (base + e) stop)) ∙ or_false (has ws₀ e)) }

  pub used_next : (j : ℕ) (ws ws' : List ℕ) (r : ℕ) → 5 * n ≤ base → Used j ws → r ≡ number_at bs (3 * j) 3
      → Marks ws' (λ e. has ws e || is_here (r + 5 * n) base stop e) → Used (j + 1) ws'
  unfolding record_no
  used_next j ws ws' r h u q m =
      record {
        full = m.full;
        marked = λ e.
            let s = eqb-sub r (5 * n) (base + e) (omega arith) in
            m.marked e
            ∙ rw (u.marked e, s, add-one j, ← q)
            (join-tests (has ws₀ e) (ltb (base + e) stop) (among_first j bs (base + e - 5 * n)) (eqb r (base + e - 5 * n)));
      }

  pub used_all : (j : ℕ) (ws : List ℕ) → j ≡ 2 * n → Used j ws → Marks ws (λ e. has ws₀ e || (ltb (base + e) stop && uses_on bs n (base + e)))
  unfolding uses_on
  used_all j ws e u = record { full = u.full; marked = λ i. rw (← e) (u.marked i) }

-- ---- starts turned over

-- at any other byte the entries from the next one on say the same
starts_at_other : (bs : List ℕ) (end p at : ℕ) → end ≤ length bs → at < end → (p ≡ at → ⊥)
    → starts_at (length bs) bs at end p ≡ starts_at (length bs) bs (next_of end (read_on bs at end)) end p
starts_at_other bs end p at most h u = by (dec_lt p at)
  where
    by : Dec (p < at) → starts_at (length bs) bs at end p ≡ starts_at (length bs) bs (next_of end (read_on bs at end)) end p
    by (yes l) =
        let w = next_of-nearer bs at end h in
        let k = w.above in
        starts_at-before bs end p most at l ∙ sym (starts_at-before bs end p most (next_of end (read_on bs at end)) (omega arith))
    by (no l) = starts_at_next bs end p most at h (omega arith)

-- the starts from `at` on are still to be turned over
module _ (bs : List ℕ) (first end base stop : ℕ) (ws₀ : List ℕ) where
  pub record Flipping (at : ℕ) (ws : List ℕ) : Type 0 where
    pub full : length ws ≡ 4096
    pub same : (e : ℕ) → differ (has ws e) (ltb (base + e) stop && starts_at (length bs) bs at end (base + e))
        ≡ differ (has ws₀ e) (ltb (base + e) stop && starts_at (length bs) bs first end (base + e))
    pub rest : (p : ℕ) → stop ≤ p → starts_at (length bs) bs first end p ≡ starts_at (length bs) bs at end p

  pub flipping_start : length ws₀ ≡ 4096 → Flipping first ws₀
  flipping_start full = record { full = full; same = λ e. refl; rest = λ p h. refl }

  module _ (most : end ≤ length bs) (inside : stop ≤ end) (at : ℕ) (h : at < stop) where
    abbrev after : ℕ
    after = next_of end (read_on bs at end)

    flip_at : (e : ℕ) (a b : Bool) → base ≤ at → eqb (at - base) e ≡ b
        → differ (differ a b) (ltb (base + e) stop && starts_at (length bs) bs after end (base + e))
        ≡ differ a (ltb (base + e) stop && starts_at (length bs) bs at end (base + e))
    flip_at e a true l q =
        let z = eqb-true (at - base) e q in
        let p : base + e ≡ at = omega arith in
        let w = next_of-nearer bs at end (omega arith) in
        let k = w.above in
        rw (p, lt-ltb at stop h, starts_at-here bs end at most at (omega arith) refl, starts_at-before bs end at most after (omega arith))
        (flip_twice a)
      where
        flip_twice : (a : Bool) → differ (differ a true) false ≡ differ a true
        flip_twice true = refl
        flip_twice false = refl
    flip_at e a false l q =
        let z = eqb-false (at - base) e q in
        rw (← starts_at_other bs end (base + e) at most (omega arith) (λ p. z (omega arith)), differ_false a)

    pub flipping_next : (ws ws' : List ℕ) (next : ℕ) → base ≤ at → Flipping at ws → Marks ws' (λ e. differ (has ws e) (eqb (at - base) e))
        → next ≡ next_of end (read_on bs at end) → Flipping next ws'
    flipping_next ws ws' next l f m q =
        rw q
        record {
          full = m.full;
          same = λ e. rw (m.marked e) (flip_at e (has ws e) (eqb (at - base) e) l refl ∙ f.same e);
          rest = λ p k. f.rest p k ∙ starts_at_next bs end p most at (omega arith) (omega arith);
        }

  pub flipping_end : (at : ℕ) (ws : List ℕ) → end ≤ length bs → stop ≤ at → at ≤ end → Flipping at ws → Flipped bs first end base stop ws₀ at ws
  flipping_end at ws most h l f =
      record { marks = record { full = f.full; marked = λ e. all_done e (ltb (base + e) stop) refl }; after = h; inside = l; rest = f.rest }
    where
      all_done : (e : ℕ) (b : Bool) → ltb (base + e) stop ≡ b
          → has ws e ≡ differ (has ws₀ e) (ltb (base + e) stop && starts_at (length bs) bs first end (base + e))
      all_done e b q = sym (differ_false (has ws e)) ∙ ap (λ (x : Bool). differ (has ws e) x) (sym (quiet b q)) ∙ f.same e
        where
          quiet : (b : Bool) → ltb (base + e) stop ≡ b → (ltb (base + e) stop && starts_at (length bs) bs at end (base + e)) ≡ false
          quiet true r = let k = ltb-true (base + e) stop r in rw (starts_at-before bs end (base + e) most at (omega arith)) (and_false (ltb (base + e) stop))
          quiet false r = rw r
