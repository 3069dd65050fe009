-- The laws of a fresh table: what its records and its header are, and that it holds the empty map.
-- No contract cites this file.
-- Assumes nothing.
use Prim.Native.Nat.{ℕ, zero, suc, ◌+◌, ◌≤◌, ◌<◌}
use native.Mathlib.Nat.{eq-or-lt_of_le}
use native.Mathlib.Omega.{arith}
use mathlib.Core.Path.{◌≡◌, refl, sym, ◌∙◌}
use mathlib.Core.Logic.{◌⊎◌, inl, inr}
use mathlib.Core.Bool.{Bool, true, false, ◌&&◌, cond}
use mathlib.Core.List.{List, [], ◌∷◌}
use lib.Dec.{leb, ltb, eqb}
use lib.ListN.{length}
use borrow.Author.Tests.{ltb-true, ltb-false, leb-true, leb-false, lt-ltb, le-ltb, eq-eqb, ne_eqb}
use Rattle.zones.specs.Tree.{tip}
use Rattle.records.specs.Layout.{table_length, is_table, capacity, place, record_at, header_at, with_record, is_spare}
use Rattle.records.specs.Inside.{Inside}
use Rattle.records.specs.Holds.{Memory, Chained, times, Once, Holds}
use Rattle.records.proofs.LayoutLaws.{Table, is_table_true, length-with_record, record_at-with_record_same, record_at-with_record_other, header_at-with_record, length-with_header, record_at-with_header, header_at-with_header}
use Rattle.plans.specs.Planning.{freed_of}
use Rattle.edits.specs.Fresh.{next_of, chained_on, fresh_on}

-- ---- chained_on

module _ (ws : List ℕ) (c : ℕ) where
  pub length-chained_on : (n : ℕ) → length (chained_on ws c n) ≡ length ws
  unfolding chained_on
  length-chained_on zero = refl
  length-chained_on (suc n) = length-with_record (chained_on ws c n) (suc n) (freed_of (next_of (suc n) c)) ∙ length-chained_on n

  pub header_at-chained_on : (n : ℕ) → header_at (chained_on ws c n) ≡ header_at ws
  unfolding chained_on
  header_at-chained_on zero = refl
  header_at-chained_on (suc n) =
      header_at-with_record (chained_on ws c n) (suc n) (freed_of (next_of (suc n) c)) (omega arith) ∙ header_at-chained_on n

  pub record_at-chained_on_above : (n l : ℕ) → n < l → record_at (chained_on ws c n) l ≡ record_at ws l
  unfolding chained_on
  record_at-chained_on_above zero l h = refl
  record_at-chained_on_above (suc n) l h =
      record_at-with_record_other (chained_on ws c n) (suc n) (freed_of (next_of (suc n) c)) l (omega arith)
      ∙ record_at-chained_on_above n l (omega arith)

  -- a record that is made spare: the last one, or one before it
  record_at-chained_on_at : (n l : ℕ) → place (suc n) + 8 ≤ length ws → (l ≡ suc n) ⊎ (l < suc n)
      → (l ≤ n → record_at (chained_on ws c n) l ≡ freed_of (next_of l c))
      → record_at (chained_on ws c (suc n)) l ≡ freed_of (next_of l c)
  unfolding chained_on
  record_at-chained_on_at n l f (inl e) ih =
      let i : Inside (chained_on ws c n) (suc n) = record { fits = rw (length-chained_on n) f } in
      rw e (record_at-with_record_same (chained_on ws c n) (suc n) (freed_of (next_of (suc n) c)) i)
  record_at-chained_on_at n l f (inr h) ih =
      record_at-with_record_other (chained_on ws c n) (suc n) (freed_of (next_of (suc n) c)) l (omega arith) ∙ ih (omega arith)

  pub record_at-chained_on : (n l : ℕ) → 0 < l → l ≤ n → place n + 8 ≤ length ws → record_at (chained_on ws c n) l ≡ freed_of (next_of l c)
  record_at-chained_on zero l h g f = absurd (omega arith)
  record_at-chained_on (suc n) l h g f =
      record_at-chained_on_at n l f (eq-or-lt_of_le g) (λ i. record_at-chained_on n l h i (omega arith))

-- ---- count_up

-- n numbers from a on
abbrev pub count_up : ℕ → ℕ → List ℕ
count_up a zero = []
count_up a (suc n) = a ∷ count_up (a + 1) n

times-count_up_below : (l a n : ℕ) → l < a → times l (count_up a n) ≡ 0
times-count_up_below l a zero h = refl
times-count_up_below l a (suc n) h = rw (ne_eqb l a (omega arith)) (omega (arith, times-count_up_below l (a + 1) n (omega arith)))

times-count_up_above : (l a n : ℕ) → a + n ≤ l → times l (count_up a n) ≡ 0
times-count_up_above l a zero h = refl
times-count_up_above l a (suc n) h = rw (ne_eqb l a (omega arith)) (omega (arith, times-count_up_above l (a + 1) n (omega arith)))

times-count_up-inside : (l a n : ℕ) → a ≤ l → l < a + n → times l (count_up a n) ≡ 1
times-count_up-inside l a zero h g = absurd (omega arith)
times-count_up-inside l a (suc n) h g = at (eq-or-lt_of_le h) (times-count_up-inside l (a + 1) n)
  where
    at : (a ≡ l) ⊎ (a < l) → (a + 1 ≤ l → l < a + 1 + n → times l (count_up (a + 1) n) ≡ 1)
        → cond (eqb l a) 1 0 + times l (count_up (a + 1) n) ≡ 1
    at (inl e) ih = rw (eq-eqb l a (sym e), times-count_up_below l (a + 1) n (omega arith))
    at (inr f) ih = rw (ne_eqb l a (omega arith)) (omega (arith, ih (omega arith) (omega arith)))

pub once-count_up : (c : ℕ) → Once c (count_up 1 c)
once-count_up c l = at (ltb 0 l) (leb l c) refl refl
  where
    at : (a b : Bool) → ltb 0 l ≡ a → leb l c ≡ b → times l (count_up 1 c) ≡ cond (a && b) 1 0
    at true true e f = times-count_up-inside l 1 c (ltb-true 0 l e) (omega (arith, leb-true l c f))
    at true false e f = times-count_up_above l 1 c (omega (arith, leb-false l c f))
    at false b e f = times-count_up_below l 1 c (omega (arith, ltb-false 0 l e))

-- a memory whose records 1 to c are made spare has a chain of them all
chained-count_up : (mem : Memory) (c : ℕ) → ((l : ℕ) → 0 < l → l ≤ c → mem l ≡ freed_of (next_of l c)) → (n a : ℕ) → a + n ≡ c
    → Chained mem (next_of a c) (count_up (a + 1) n)
unfolding is_spare freed_of
chained-count_up mem c f zero a h = rw (le-ltb a c (omega arith))
chained-count_up mem c f (suc n) a h =
    let e = f (a + 1) (omega arith) (omega arith) in
    (rw (lt-ltb a c (omega arith)), rw e, rw e (chained-count_up mem c f n (a + 1) (omega arith)))

-- ---- fresh_on

pub length-fresh_on : (ws : List ℕ) → length (fresh_on ws) ≡ length ws
unfolding fresh_on
length-fresh_on ws = simp (length-with_header, length-chained_on, length-with_record)

module _ (ws : List ℕ) (h : Table (length ws)) where
  some-capacity : 1 ≤ capacity (length ws)
  unfolding capacity
  some-capacity = omega arith

  most-capacity : capacity (length ws) ≤ 65535
  unfolding capacity
  most-capacity = omega arith

  length-capacity : length ws ≡ table_length (capacity (length ws))
  unfolding capacity
  length-capacity = omega arith

  header_at-fresh_on : header_at (fresh_on ws) ≡ record { root = 0; spare = 1 }
  unfolding fresh_on
  header_at-fresh_on = header_at-with_header _ _ (simp (length-chained_on, length-with_record) (omega arith))

  record_at-fresh_on : (l : ℕ) → 0 < l → l ≤ capacity (length ws) → record_at (fresh_on ws) l ≡ freed_of (next_of l (capacity (length ws)))
  unfolding fresh_on
  record_at-fresh_on l f g =
      record_at-with_header _ _ l f
      ∙ record_at-chained_on (with_record ws 0 (freed_of 0)) (capacity (length ws)) (capacity (length ws)) l f g
      (rw length-with_record (omega (arith, length-capacity)))

-- a fresh table holds the empty map
pub fresh_on_holds : (ws : List ℕ) → is_table (length ws) ≡ true → Holds (fresh_on ws) []
fresh_on_holds ws t =
    let h = is_table_true (length ws) t in
    let c = capacity (length ws) in
    let first : (header_at (fresh_on ws)).spare ≡ next_of 0 c = rw (header_at-fresh_on ws h, lt-ltb 0 c (some-capacity ws h)) in
    record {
      records = c;
      some_records = some-capacity ws h;
      most_records = most-capacity ws h;
      length_is = length-fresh_on ws ∙ length-capacity ws h;
      tree = tip;
      good = tt;
      map_is = refl;
      linked = rw (header_at-fresh_on ws h);
      chain = count_up 1 c;
      chained = rw first (chained-count_up (record_at (fresh_on ws)) c (record_at-fresh_on ws h) c 0 (omega arith));
      once = once-count_up c;
    }
