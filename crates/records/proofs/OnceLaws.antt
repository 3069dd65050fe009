-- The laws of how often a link stands in a list: what stands there once is a member within its bounds,
-- a list that has every record from 1 to c once is c long, and c different records are all of them.
-- No contract cites this file.
-- Assumes nothing.
use Prim.Native.Nat.{ℕ, zero, suc, ◌+◌, ◌≤◌, ◌<◌}
use native.Mathlib.Decide.{dec_lt}
use native.Mathlib.Omega.{arith}
use mathlib.Core.Path.{◌≡◌, refl, sym, ap, ◌∙◌}
use mathlib.Core.Bool.{Bool, true, false, not, ◌&&◌, cond}
use mathlib.Core.List.{List, [], ◌∷◌, ◌++◌, Memᴰ}
use lib.Dec.{leb, ltb, eqb}
use lib.ListN.{length}
use borrow.Author.Tests.{eq-eqb, eqb-true, eqb-false, ltb-true, leb-true, lt-ltb, le-leb, lt-leb, ltb-false, leb-false}
use Rattle.bits.specs.Lists.{keep}
use Rattle.records.specs.Holds.{times, Once}

-- ---- times

pub times-append : (l : ℕ) (xs ys : List ℕ) → times l (xs ++ ys) ≡ times l xs + times l ys
times-append l [] ys = omega arith
times-append l (x ∷ xs) ys = omega (arith, times-append l xs ys)

pub mem-times : (l : ℕ) (xs : List ℕ) → Memᴰ l xs → 1 ≤ times l xs
mem-times l (x ∷ xs) (Memᴰ.head e) = rw (eq-eqb l x e) (omega arith)
mem-times l (x ∷ xs) (Memᴰ.tail i) = omega (arith, mem-times l xs i)
mem-times l [] x' = elim x' [ ]

times_mem_at : (b : Bool) (l x : ℕ) (xs : List ℕ) → eqb l x ≡ b → 1 ≤ cond b 1 0 + times l xs → (1 ≤ times l xs → Memᴰ l xs) → Memᴰ l (x ∷ xs)
times_mem_at true l x xs e h ih = Memᴰ.head (eqb-true l x e)
times_mem_at false l x xs e h ih = Memᴰ.tail (ih (omega arith))

pub times_mem : (l : ℕ) (xs : List ℕ) → 1 ≤ times l xs → Memᴰ l xs
times_mem l [] h = absurd (omega arith)
times_mem l (x ∷ xs) h = times_mem_at (eqb l x) l x xs refl h (times_mem l xs)

-- ---- Once

module _ (c : ℕ) (ls : List ℕ) (once : Once c ls) where
  once-bounds_at : (a b : Bool) (l : ℕ) → ltb 0 l ≡ a → leb l c ≡ b → 1 ≤ cond (a && b) 1 0 → (0 < l) × (l ≤ c)
  once-bounds_at true true l e f h = (ltb-true 0 l e, leb-true l c f)
  once-bounds_at true false l e f h = absurd (omega arith)
  once-bounds_at false b l e f h = absurd (omega arith)

  -- what stands there is a record
  pub once-bounds : (l : ℕ) → Memᴰ l ls → (0 < l) × (l ≤ c)
  once-bounds l i = once-bounds_at (ltb 0 l) (leb l c) l refl refl (rw (once l) at (mem-times l ls i))

  pub once_most : (l : ℕ) → times l ls ≤ 1
  once_most l = rw (once l) (at (ltb 0 l && leb l c))
    where
      at : (b : Bool) → cond b 1 0 ≤ 1
      at true = omega arith
      at false = omega arith

  -- every record stands there
  pub once_mem : (l : ℕ) → 0 < l → l ≤ c → Memᴰ l ls
  once_mem l h k = times_mem l ls (rw (once l, lt-ltb 0 l h, le-leb l c k) (omega arith))

-- the list without a link
drop_one : ℕ → List ℕ → List ℕ
drop_one l = keep (λ a. not (eqb l a))

length-drop_one : (l : ℕ) (ls : List ℕ) → length ls ≡ times l ls + length (drop_one l ls)
unfolding drop_one
length-drop_one l [] = refl
length-drop_one l (a ∷ ls) = at (eqb l a) (length-drop_one l ls)
  where
    at : (b : Bool) → length ls ≡ times l ls + length (drop_one l ls)
        → length (a ∷ ls) ≡ (cond b 1 0 + times l ls) + length (cond (not b) (a ∷ drop_one l ls) (drop_one l ls))
    at true ih = omega arith
    at false ih = omega arith

times-drop_one : (l j : ℕ) (ls : List ℕ) → times j (drop_one l ls) ≡ cond (eqb l j) 0 (times j ls)
unfolding drop_one
times-drop_one l j [] = at (eqb l j)
  where
    at : (b : Bool) → ◌≡◌ {A = ℕ} 0 (cond b 0 0)
    at true = refl
    at false = refl
times-drop_one l j (a ∷ ls) = at (eqb l a) (eqb l j) (eqb j a) refl refl refl (times-drop_one l j ls)
  where
    at : (b d e : Bool) → eqb l a ≡ b → eqb l j ≡ d → eqb j a ≡ e → times j (drop_one l ls) ≡ cond d 0 (times j ls)
        → times j (cond (not b) (a ∷ drop_one l ls) (drop_one l ls)) ≡ cond d 0 (cond e 1 0 + times j ls)
    at true true e p q r ih = ih
    at true false true p q r ih = absurd (eqb-false l j q (eqb-true l a p ∙ sym (eqb-true j a r)))
    at true false false p q r ih = ih ∙ omega arith
    at false true true p q r ih = absurd (eqb-false l a p (eqb-true l j q ∙ eqb-true j a r))
    at false true false p q r ih = rw r (omega arith)
    at false false true p q r ih = rw r (omega arith)
    at false false false p q r ih = rw r (omega arith)

none_once : (ls : List ℕ) → Once 0 ls → ls ≡ []
none_once [] once = refl
none_once (a ∷ ls) once = let b = once-bounds 0 (a ∷ ls) once a (Memᴰ.head refl) in absurd (omega arith)

leb-suc : (l c : ℕ) → (suc c ≡ l → ⊥) → leb l (suc c) ≡ leb l c
leb-suc l c q = at (leb l (suc c)) (leb l c) refl refl
  where
    at : (b d : Bool) → leb l (suc c) ≡ b → leb l c ≡ d → b ≡ d
    at true true e f = refl
    at false false e f = refl
    at true false e f = absurd (q (omega (arith, leb-true l (suc c) e, leb-false l c f)))
    at false true e f = absurd (omega (arith, leb-false l (suc c) e, leb-true l c f))

last_gone : (l c : ℕ) → suc c ≡ l → ◌≡◌ {A = ℕ} 0 (cond (ltb 0 l && leb l c) 1 0)
last_gone l c q = rw (lt-leb l c (omega arith)) (at (ltb 0 l))
  where
    at : (b : Bool) → ◌≡◌ {A = ℕ} 0 (cond (b && false) 1 0)
    at true = refl
    at false = refl

once_less : (c : ℕ) (ls : List ℕ) → Once (suc c) ls → Once c (drop_one (suc c) ls)
once_less c ls once l = times-drop_one (suc c) l ls ∙ at (eqb (suc c) l) refl
  where
    at : (b : Bool) → eqb (suc c) l ≡ b → cond b 0 (times l ls) ≡ cond (ltb 0 l && leb l c) 1 0
    at true e = last_gone l c (eqb-true (suc c) l e)
    at false e = once l ∙ rw (leb-suc l c (eqb-false (suc c) l e))

-- "every other record": a list with every record from 1 to c once is c long
pub length_once : (c : ℕ) (ls : List ℕ) → Once c ls → length ls ≡ c
length_once zero ls once = ap length (none_once ls once)
length_once (suc c) ls once =
    let t : times (suc c) ls ≡ 1 = rw (once (suc c), lt-ltb 0 (suc c) (omega arith), le-leb (suc c) (suc c) (omega arith)) in
    omega (arith, length-drop_one (suc c) ls, length_once c (drop_one (suc c) ls) (once_less c ls once))

-- ---- lists of different records

-- no link stands there twice, and each is a record from 1 to c
abbrev Different : List ℕ → Type 0
Different ls = (l : ℕ) → times l ls ≤ 1

abbrev Within : ℕ → List ℕ → Type 0
Within c ls = (l : ℕ) → Memᴰ l ls → (0 < l) × (l ≤ c)

different-drop_one : (l : ℕ) (ls : List ℕ) → Different ls → Different (drop_one l ls)
different-drop_one l ls most j = rw (times-drop_one l j ls) (at (eqb l j))
  where
    at : (b : Bool) → cond b 0 (times j ls) ≤ 1
    at true = omega arith
    at false = most j

within-drop_one : (c : ℕ) (ls : List ℕ) → Within (suc c) ls → Within c (drop_one (suc c) ls)
within-drop_one c ls within l i = at (eqb (suc c) l) refl (rw (times-drop_one (suc c) l ls) at (mem-times l (drop_one (suc c) ls) i))
  where
    at : (b : Bool) → eqb (suc c) l ≡ b → 1 ≤ cond b 0 (times l ls) → (0 < l) × (l ≤ c)
    at true e h = absurd (omega arith)
    at false e h = let w = within l (times_mem l ls h) in let d = eqb-false (suc c) l e in (w.0, omega arith)

-- of c records at most c are different
length-different : (c : ℕ) (ls : List ℕ) → Different ls → Within c ls → length ls ≤ c
length-different zero [] most within = omega arith
length-different zero (a ∷ ls) most within = let w = within a (Memᴰ.head refl) in absurd (omega arith)
length-different (suc c) ls most within =
    let rest = length-different c (drop_one (suc c) ls) (different-drop_one (suc c) ls most) (within-drop_one c ls within) in
    omega (arith, length-drop_one (suc c) ls, most (suc c))

different_cons : (l : ℕ) (ls : List ℕ) → times l ls ≡ 0 → Different ls → Different (l ∷ ls)
different_cons l ls h most j = at (eqb j l) refl
  where
    at : (b : Bool) → eqb j l ≡ b → cond b 1 0 + times j ls ≤ 1
    at true e = rw (eqb-true j l e, h) (omega arith)
    at false e = omega (arith, most j)

within_cons : (c l : ℕ) (ls : List ℕ) → 0 < l → l ≤ c → Within c ls → Within c (l ∷ ls)
within_cons c l ls h k within j (Memᴰ.head e) = (omega arith, omega arith)
within_cons c l ls h k within j (Memᴰ.tail i) = within j i

-- c different records are all of them: with one that is missing they would be one too many
pub once_full : (c : ℕ) (ls : List ℕ) → ((l : ℕ) → times l ls ≤ 1) → ((l : ℕ) → Memᴰ l ls → (0 < l) × (l ≤ c)) → length ls ≡ c
    → Once c ls
once_full c ls most within len l = at (ltb 0 l) (leb l c) refl refl (dec_lt 0 (times l ls))
  where
    at : (a b : Bool) → ltb 0 l ≡ a → leb l c ≡ b → Dec (0 < times l ls) → times l ls ≡ cond (a && b) 1 0
    at true true e f (yes h) = omega (arith, most l)
    at true true e f (no h) =
        let different = different_cons l ls (omega arith) most in
        let inside = within_cons c l ls (ltb-true 0 l e) (leb-true l c f) within in
        absurd (omega (arith, length-different c (l ∷ ls) different inside))
    at true false e f (yes h) = absurd (omega (arith, leb-false l c f, (within l (times_mem l ls h)).1))
    at true false e f (no h) = omega arith
    at false b e f (yes h) = absurd (omega (arith, ltb-false 0 l e, (within l (times_mem l ls h)).0))
    at false b e f (no h) = omega arith
