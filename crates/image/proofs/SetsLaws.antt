-- The laws of runs of stores: one run after another, two apart from each other, and what lies behind them.
-- No contract cites this file.
-- Assumes nothing.
use Prim.Native.Nat.{ℕ, suc, ◌+◌, ◌≤◌, ◌<◌}
use native.Mathlib.Omega.{arith}
use mathlib.Core.Path.{◌≡◌, refl, sym, ap, ◌∙◌}
use mathlib.Core.List.{List, [], ◌∷◌, ◌++◌}
use lib.ListN.{length, drop, set}
use lib.Seq.{sets, set_comm, drop-set-lt}

module _ {A : Type 0} where
  pub sets-append : (l : List A) (i : ℕ) (xs ys : List A) → sets l i (xs ++ ys) ≡ sets (sets l i xs) (i + length xs) ys
  sets-append l i [] ys = let e : i ≡ i + 0 = omega arith in ap (λ (n : ℕ). sets l n ys) e
  sets-append l i (x ∷ xs) ys =
      let e : suc i + length xs ≡ i + suc (length xs) = omega arith in
      sets-append (set l i x) (suc i) xs ys ∙ ap (λ (n : ℕ). sets (sets l i (x ∷ xs)) n ys) e

  pub drop-sets : (n : ℕ) (l : List A) (i : ℕ) (xs : List A) → i + length xs ≤ n → drop n (sets l i xs) ≡ drop n l
  drop-sets n l i [] h = refl
  drop-sets n l i (x ∷ xs) h = drop-sets n (set l i x) (suc i) xs (omega arith) ∙ drop-set-lt n l i x (omega arith)

  set-sets : (l : List A) (i : ℕ) (x : A) (j : ℕ) (ys : List A) → i < j → sets (set l i x) j ys ≡ set (sets l j ys) i x
  set-sets l i x j [] h = refl
  set-sets l i x j (y ∷ ys) h = rw (set_comm l i j x y (λ e. omega (arith, e))) (set-sets (set l j y) i x (suc j) ys (omega arith))

  pub sets_comm : (l : List A) (i : ℕ) (xs : List A) (j : ℕ) (ys : List A) → i + length xs ≤ j
      → sets (sets l i xs) j ys ≡ sets (sets l j ys) i xs
  sets_comm l i [] j ys h = refl
  sets_comm l i (x ∷ xs) j ys h =
      sets_comm (set l i x) (suc i) xs j ys (omega arith)
      ∙ ap (λ (m : List A). sets m (suc i) xs) (set-sets l i x j ys (omega arith))

  -- a run that is stored just before another
  pub sets-before : (l : List A) (i : ℕ) (xs : List A) (j : ℕ) (ys : List A) → i + length xs ≡ j → sets (sets l j ys) i xs ≡ sets l i (xs ++ ys)
  sets-before l i xs j ys e =
      sym (sets_comm l i xs j ys (omega arith)) ∙ ap (λ (n : ℕ). sets (sets l i xs) n ys) (sym e) ∙ sym (sets-append l i xs ys)

  -- and one that is stored just after it
  pub sets-after : (l : List A) (i : ℕ) (xs : List A) (j : ℕ) (ys : List A) → i + length xs ≡ j → sets (sets l i xs) j ys ≡ sets l i (xs ++ ys)
  sets-after l i xs j ys e = ap (λ (n : ℕ). sets (sets l i xs) n ys) (sym e) ∙ sym (sets-append l i xs ys)
