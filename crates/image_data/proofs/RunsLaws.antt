-- The laws of the runs of a data section: it is as long as its runs, ascending numbers are their runs in
-- order, and the runs of two lists add up. No contract cites this file.
--   below s zs   the numbers of zs that take fewer than s bytes
--   from s zs    those that take s bytes or more
-- Assumes nothing.
use Prim.Native.Nat.{ℕ, zero, suc, ◌+◌, ◌*◌, ◌^◌, ◌≤◌, ◌<◌}
use native.Mathlib.Nat.{add-zero, lt_of_lt_of_le}
use native.Mathlib.Omega.{arith}
use mathlib.Core.Path.{◌≡◌, refl, sym, ap, ◌∙◌}
use mathlib.Core.Bool.{Bool, true, false, cond}
use mathlib.Core.List.{List, [], ◌∷◌, ◌++◌, append_assoc}
use lib.Dec.{T, ltb, leb, eqb, ltb→lt, lt→ltb}
use lib.ListN.{length, get_or, set, length-append}
use lib.Seq.{get_or-set_other}
use borrow.Author.Tests.{ltb-true, ltb-false, eqb-true, eqb-false, ne_eqb, lt-ltb, le-ltb, le-leb, lt-leb}
use Rattle.bits.specs.Lists.{all, keep}
use Rattle.bits.proofs.ListsLaws.{and_left, and_right, all_mem, keep-none, keep-every, keep_append}
use Rattle.image.specs.Bytes.{short, uint32}
use Rattle.image.specs.Image.{data_of}
use Rattle.image.specs.Ascending.{ascending_numbers}
use Rattle.image.proofs.LengthLaws.{length_short_below}
use Rattle.image.proofs.BytesLaws.{length_short_mono}
use Rattle.image_data.specs.Runs.{run_of, count_of, runs_of, share_of, length_of, start_of, one_more}
use Rattle.image_data.specs.declared.Runs.{Runs}

abbrev pub below : ℕ → List ℕ → List ℕ
below s zs = keep (λ z. ltb (length (short z)) s) zs

abbrev pub from : ℕ → List ℕ → List ℕ
from s zs = keep (λ z. leb s (length (short z))) zs

-- ---- a number and a run

-- what the tests say of a number of n bytes: it stands before, in or after the run of s bytes
data Side (n s : ℕ) : Bool → Bool → Bool → Bool → Type 0 where
  before : n < s → Side n s true true false false
  inside : n ≡ s → Side n s true false true true
  after : s < n → Side n s false false false true

side-at : (b e : Bool) (n s : ℕ) → ltb n s ≡ b → eqb n s ≡ e → Side n s (ltb n (suc s)) b e (leb s n)
side-at true true n s h k = absurd (omega (arith, ltb-true n s h, eqb-true n s k))
side-at true false n s h k = let l = ltb-true n s h in rw (lt-ltb n (suc s) (omega arith), lt-leb s n l) (before l)
side-at false true n s h k =
    let e = eqb-true n s k in
    rw (lt-ltb n (suc s) (omega arith), le-leb s n (omega arith)) (inside e)
side-at false false n s h k =
    let f = eqb-false n s k in
    let l : s < n = omega (arith, ltb-false n s h) in
    rw (le-ltb n (suc s) (omega arith), le-leb s n (omega arith)) (after l)

side : (n s : ℕ) → Side n s (ltb n (suc s)) (ltb n s) (eqb n s) (leb s n)
side n s = side-at (ltb n s) (eqb n s) n s refl refl

-- ---- lengths

pub length-uint32_short : (z : ℕ) → length (uint32 z) ≡ suc (length (short z))
unfolding uint32
length-uint32_short z = refl

below_next_at : (z s : ℕ) (xs ys rs : List ℕ) {a b c d : Bool} → Side (length (short z)) s a b c d
    → length (data_of xs) ≡ length (data_of ys) + suc s * length rs
    → length (data_of (cond a (z ∷ xs) xs)) ≡ length (data_of (cond b (z ∷ ys) ys)) + suc s * length (cond c (z ∷ rs) rs)
unfolding data_of
below_next_at z s xs ys rs (before l) h = simp length-append (omega arith)
below_next_at z s xs ys rs (inside e) h = simp length-append (omega (arith, length-uint32_short z))
below_next_at z s xs ys rs (after l) h = h

length_below-suc : (s : ℕ) (zs : List ℕ) → length (data_of (below (suc s) zs)) ≡ length (data_of (below s zs)) + suc s * count_of s zs
unfolding count_of data_of
length_below-suc s [] = omega arith
length_below-suc s (z ∷ zs) =
    below_next_at z s (below (suc s) zs) (below s zs) (run_of s zs) (side (length (short z)) s) (length_below-suc s zs)

below_zero : (zs : List ℕ) → below 0 zs ≡ []
below_zero zs = keep-none (λ z. ltb (length (short z)) 0) zs (λ a i h. omega (arith, ltb→lt (length (short a)) 0 h))

length_below_zero : (zs : List ℕ) → length (data_of (below 0 zs)) ≡ 0
unfolding data_of
length_below_zero zs = ap (λ (l : List ℕ). length (data_of l)) (below_zero zs)

pub share_of-runs : (s : ℕ) (zs : List ℕ) → s ≤ 4 → share_of (runs_of zs) s ≡ count_of s zs
unfolding runs_of
share_of-runs zero zs h = refl
share_of-runs (suc zero) zs h = refl
share_of-runs (suc (suc zero)) zs h = refl
share_of-runs (suc (suc (suc zero))) zs h = refl
share_of-runs (suc (suc (suc (suc zero)))) zs h = refl
share_of-runs (suc (suc (suc (suc (suc s))))) zs h = absurd (omega arith)

-- the run of s bytes starts where the numbers of fewer bytes end
pub length_below : (s : ℕ) (zs : List ℕ) → s ≤ 5 → length (data_of (below s zs)) ≡ start_of (runs_of zs) s
length_below zero zs h = length_below_zero zs
length_below (suc s) zs h =
    rw (length_below-suc s zs, length_below s zs (omega arith), share_of-runs s zs (omega arith))

-- a run ends inside the section
pub run-le : (r : Runs) (s : ℕ) → s ≤ 4 → start_of r s + (s + 1) * share_of r s ≤ length_of r
unfolding length_of
run-le r zero h = omega arith
run-le r (suc zero) h = omega arith
run-le r (suc (suc zero)) h = omega arith
run-le r (suc (suc (suc zero))) h = omega arith
run-le r (suc (suc (suc (suc zero)))) h = omega arith
run-le r (suc (suc (suc (suc (suc s))))) h = absurd (omega arith)

-- ---- numbers below 2 ^ 32

-- all of them take at most four bytes
below_five : (zs : List ℕ) → T (all (λ z. ltb z (2 ^ 32)) zs) → below 5 zs ≡ zs
below_five zs h =
    keep-every (λ z. ltb (length (short z)) 5) zs
    (λ a i. lt→ltb (length (short a)) 5 (omega (arith, length_short_below 4 a (omega arith) (ltb→lt a (2 ^ 32) (all_mem (λ z. ltb z (2 ^ 32)) zs h a i)))))

pub length-data_of-runs : (zs : List ℕ) → T (all (λ z. ltb z (2 ^ 32)) zs) → length (data_of zs) ≡ length_of (runs_of zs)
unfolding length_of
length-data_of-runs zs h = ap (λ (l : List ℕ). length (data_of l)) (sym (below_five zs h)) ∙ length_below 5 zs (omega arith)

-- ---- ascending numbers

-- after a number of s bytes or more there is none of fewer
below_none : (s z : ℕ) (zs : List ℕ) → s ≤ length (short z) → T (all (ltb z) zs) → T (all (λ y. ltb y (2 ^ 32)) zs) → below s zs ≡ []
below_none s z zs l h k =
    keep-none (λ y. ltb (length (short y)) s) zs (λ a i q.
    let least : z < a = ltb→lt z a (all_mem (ltb z) zs h a i) in
    let most : a < 2 ^ 32 = ltb→lt a (2 ^ 32) (all_mem (λ y. ltb y (2 ^ 32)) zs k a i) in
    omega (arith, length_short_mono z a least (lt_of_lt_of_le most (omega arith)), ltb→lt (length (short a)) s q))

module _ (s : ℕ) where
  below-suc_at : (z : ℕ) (zs : List ℕ) {a b c d : Bool} → Side (length (short z)) s a b c d → (s ≤ length (short z) → below s zs ≡ [])
      → below (suc s) zs ≡ below s zs ++ run_of s zs
      → cond a (z ∷ below (suc s) zs) (below (suc s) zs) ≡ cond b (z ∷ below s zs) (below s zs) ++ cond c (z ∷ run_of s zs) (run_of s zs)
  below-suc_at z zs (before l) e h = ap (λ (l : List ℕ). z ∷ l) h
  below-suc_at z zs (inside q) e h = let n = e (omega arith) in rw n (ap (λ (l : List ℕ). z ∷ l) (rw n at h))
  below-suc_at z zs (after l) e h = h

  pub below_suc : (zs : List ℕ) → T (ascending_numbers zs) → T (all (λ z. ltb z (2 ^ 32)) zs) → below (suc s) zs ≡ below s zs ++ run_of s zs
  below_suc [] h k = refl
  below_suc (z ∷ zs) h k =
      let rest = and_right (ltb z (2 ^ 32)) (all (λ y. ltb y (2 ^ 32)) zs) k in
      below-suc_at z zs (side (length (short z)) s) (λ l. below_none s z zs l (and_left (all (ltb z) zs) (ascending_numbers zs) h) rest)
      (below_suc zs (and_right (all (ltb z) zs) (ascending_numbers zs) h) rest)

  below-from_at : (z : ℕ) (zs : List ℕ) {a b c d : Bool} → Side (length (short z)) s a b c d → (s ≤ length (short z) → below s zs ≡ [])
      → zs ≡ below s zs ++ from s zs → z ∷ zs ≡ cond b (z ∷ below s zs) (below s zs) ++ cond d (z ∷ from s zs) (from s zs)
  below-from_at z zs (before l) e h = ap (λ (l : List ℕ). z ∷ l) h
  below-from_at z zs (inside q) e h = let n = e (omega arith) in rw n (ap (λ (l : List ℕ). z ∷ l) (h ∙ rw n))
  below-from_at z zs (after l) e h = let n = e (omega arith) in rw n (ap (λ (l : List ℕ). z ∷ l) (h ∙ rw n))

  below-from : (zs : List ℕ) → T (ascending_numbers zs) → T (all (λ z. ltb z (2 ^ 32)) zs) → zs ≡ below s zs ++ from s zs
  below-from [] h k = refl
  below-from (z ∷ zs) h k =
      let rest = and_right (ltb z (2 ^ 32)) (all (λ y. ltb y (2 ^ 32)) zs) k in
      below-from_at z zs (side (length (short z)) s) (λ l. below_none s z zs l (and_left (all (ltb z) zs) (ascending_numbers zs) h) rest)
      (below-from zs (and_right (all (ltb z) zs) (ascending_numbers zs) h) rest)

-- what stands before a run, the run, and what stands after it
pub around_run : (s : ℕ) (zs : List ℕ) → T (ascending_numbers zs) → T (all (λ z. ltb z (2 ^ 32)) zs)
    → zs ≡ below s zs ++ (run_of s zs ++ from (suc s) zs)
around_run s zs h k =
    below-from (suc s) zs h k ∙ ap (λ (l : List ℕ). l ++ from (suc s) zs) (below_suc s zs h k) ∙ append_assoc (below s zs) (run_of s zs) (from (suc s) zs)

pub runs_in-order : (zs : List ℕ) → T (ascending_numbers zs) → T (all (λ z. ltb z (2 ^ 32)) zs)
    → zs ≡ run_of 0 zs ++ (run_of 1 zs ++ (run_of 2 zs ++ (run_of 3 zs ++ run_of 4 zs)))
runs_in-order zs h k =
    sym (below_five zs k)
    ∙ simp (below_suc 4 zs h k, below_suc 3 zs h k, below_suc 2 zs h k, below_suc 1 zs h k, below_suc 0 zs h k, below_zero zs, append_assoc)

-- ---- runs add up

pub count_of-append : (s : ℕ) (xs ys : List ℕ) → count_of s (xs ++ ys) ≡ count_of s xs + count_of s ys
unfolding count_of
count_of-append s xs ys = rw (keep_append (λ z. eqb (length (short z)) s) xs ys, length-append)

-- the runs of two lists together, run by run
pub runs_of-append : (xs ys : List ℕ) (s : ℕ) → s ≤ 4 → share_of (runs_of (xs ++ ys)) s ≡ share_of (runs_of xs) s + share_of (runs_of ys) s
runs_of-append xs ys s h = rw (share_of-runs s (xs ++ ys) h, share_of-runs s xs h, share_of-runs s ys h) (count_of-append s xs ys)

-- ---- one more number

count_of_one : (s z : ℕ) → count_of s (z ∷ []) ≡ cond (eqb (length (short z)) s) 1 0
unfolding count_of
count_of_one s z = at (eqb (length (short z)) s)
  where
    at : (b : Bool) → length (cond b (z ∷ []) []) ≡ cond b 1 0
    at true = refl
    at false = refl

one_more_is : (a b c d e n : ℕ) → n ≤ 4
    → ◌≡◌ {A = Runs}
    record { counts = (a + cond (eqb n 0) 1 0) ∷ (b + cond (eqb n 1) 1 0) ∷ (c + cond (eqb n 2) 1 0) ∷ (d + cond (eqb n 3) 1 0) ∷ (e + cond (eqb n 4) 1 0) ∷ [] }
    (one_more (record { counts = a ∷ b ∷ c ∷ d ∷ e ∷ [] }) n)
one_more_is a b c d e zero h = simp add-zero
one_more_is a b c d e (suc zero) h = simp add-zero
one_more_is a b c d e (suc (suc zero)) h = simp add-zero
one_more_is a b c d e (suc (suc (suc zero))) h = simp add-zero
one_more_is a b c d e (suc (suc (suc (suc zero)))) h = simp add-zero
one_more_is a b c d e (suc (suc (suc (suc (suc n))))) h = absurd (omega arith)

pub runs_of-snoc : (zs : List ℕ) (z : ℕ) → z < 2 ^ 32 → runs_of (zs ++ (z ∷ [])) ≡ one_more (runs_of zs) (length (short z))
unfolding runs_of
runs_of-snoc zs z h =
    simp (count_of-append, count_of_one) (one_more_is _ _ _ _ _ (length (short z)) (length_short_below 4 z (omega arith) h))

more_here : (xs : List ℕ) (s : ℕ) → get_or (set xs s (get_or xs s 0 + 1)) s 0 ≤ get_or xs s 0 + 1
more_here [] s = omega arith
more_here (x ∷ xs) zero = omega arith
more_here (x ∷ xs) (suc s) = more_here xs s

share_of-more : (r : Runs) (s i : ℕ) → share_of (one_more r s) i ≤ share_of r i + cond (eqb i s) 1 0
share_of-more r s i = at (eqb i s) refl
  where
    at : (b : Bool) → eqb i s ≡ b → share_of (one_more r s) i ≤ share_of r i + cond b 1 0
    at true q = let e = eqb-true i s q in rw e (more_here r.counts s)
    at false q = rw (get_or-set_other r.counts s i (share_of r s + 1) 0 (eqb-false i s q)) (omega arith)

-- a number takes five bytes at most
one_entry : (s : ℕ) → cond (eqb 0 s) 1 0 + 2 * cond (eqb 1 s) 1 0 + 3 * cond (eqb 2 s) 1 0 + 4 * cond (eqb 3 s) 1 0 + 5 * cond (eqb 4 s) 1 0 ≤ 5
one_entry zero = omega arith
one_entry (suc zero) = omega arith
one_entry (suc (suc zero)) = omega arith
one_entry (suc (suc (suc zero))) = omega arith
one_entry (suc (suc (suc (suc zero)))) = omega arith
one_entry (suc (suc (suc (suc (suc s))))) =
    let n : ℕ = suc (suc (suc (suc (suc s)))) in
    let no : (i : ℕ) → i < 5 → eqb i n ≡ false = λ i h. ne_eqb i n (λ e. omega arith) in
    rw (no 0 (omega arith), no 1 (omega arith), no 2 (omega arith), no 3 (omega arith), no 4 (omega arith)) (omega arith)

pub length_of-one_more : (r : Runs) (s : ℕ) → length_of (one_more r s) ≤ length_of r + 5
unfolding length_of
length_of-one_more r s =
    omega (arith, share_of-more r s 0, share_of-more r s 1, share_of-more r s 2, share_of-more r s 3, share_of-more r s 4, one_entry s)
