-- The laws of numbers as bytes: which they are, and that a number without leading zero bytes is its lowest
-- bytes, as many as it needs. No contract cites this file.
-- Assumes nothing.
use Prim.Native.Nat.{ℕ, zero, suc, ◌+◌, ◌-◌, ◌*◌, ◌/◌, ◌%◌, ◌^◌, ◌≤◌, ◌<◌}
use native.Mathlib.Nat.{lt_trans, lt_of_lt_of_le, mul-suc, pow-suc, mod-lt, mod-eq_of_lt, div-lt_iff_lt-mul, pow-succ', one-le-pow}
use native.Mathlib.Nat.{div-add-mod'}
use native.Mathlib.Omega.{arith}
use mathlib.Core.Path.{◌≡◌, refl, sym, ap, ◌∙◌}
use mathlib.Core.Bool.{Bool, true, false, cond}
use lib.Dec.{T, ltb, eqb, lt→ltb, lit<}
use lib.ListN.{length}
use lib.Count.{count_leading_zeros, leading_length}
use lib.Pow.{pow_mono, pow-add}
use borrow.Author.Tests.{ltb-true, ltb-false, eqb-true}
use Rattle.bits.specs.Lists.{all}
use Rattle.bits.proofs.ListsLaws.{and_both}
use Rattle.image.specs.Bytes.{bytes_of, without_zeros, short}
use Rattle.image.proofs.LengthLaws.{length-bytes_of, length_short, length_short_below}

-- ---- bytes_of

pub all-bytes_of : (n v : ℕ) → T (all (λ b. ltb b 256) (bytes_of n v))
all-bytes_of zero v = tt
all-bytes_of (suc n) v =
    and_both (ltb (v / 256 ^ n % 256) 256) (all (λ b. ltb b 256) (bytes_of n v)) (lt→ltb (v / 256 ^ n % 256) 256 (mod-lt (v / 256 ^ n) (lit< tt)))
    (all-bytes_of n v)

-- ---- short

without_zeros-lowest_at : (b : Bool) (n v : ℕ) → without_zeros (bytes_of n v) ≡ bytes_of (length (without_zeros (bytes_of n v))) v
    → cond b (without_zeros (bytes_of n v)) (bytes_of (suc n) v) ≡ bytes_of (length (cond b (without_zeros (bytes_of n v)) (bytes_of (suc n) v))) v
without_zeros-lowest_at true n v h = h
without_zeros-lowest_at false n v h = rw (length-bytes_of n v)

without_zeros-lowest : (n v : ℕ) → without_zeros (bytes_of n v) ≡ bytes_of (length (without_zeros (bytes_of n v))) v
without_zeros-lowest zero v = refl
without_zeros-lowest (suc n) v = without_zeros-lowest_at (eqb (v / 256 ^ n % 256) 0) n v (without_zeros-lowest n v)

-- it is the lowest bytes
pub short-lowest : (v : ℕ) → short v ≡ bytes_of (length (short v)) v
unfolding short
short-lowest v = without_zeros-lowest 8 v

-- a number whose highest byte is 0 needs one byte less
below_zero : (n v : ℕ) → v < 256 ^ suc n → v / 256 ^ n % 256 ≡ 0 → v < 256 ^ n
below_zero n v h e =
    let p : 0 < 256 ^ n = one-le-pow n 256 (lit< tt) in
    let q : v / 256 ^ n < 256 = (div-lt_iff_lt-mul p).1 (rw (pow-succ' 256 n) at h) in
    let z : v / 256 ^ n ≡ 0 = rw (mod-eq_of_lt q) at e in
    let d : v / 256 ^ n * 256 ^ n + v % 256 ^ n ≡ v = div-add-mod' v (256 ^ n) in
    omega (arith, ap (λ (x : ℕ). x * 256 ^ n) z, mod-lt v p)

without_zeros-fits_at : (b : Bool) (n v : ℕ) → eqb (v / 256 ^ n % 256) 0 ≡ b → v < 256 ^ suc n → (v < 256 ^ n → v < 256 ^ length (without_zeros (bytes_of n v)))
    → v < 256 ^ length (cond b (without_zeros (bytes_of n v)) (bytes_of (suc n) v))
without_zeros-fits_at true n v e h k = k (below_zero n v h (eqb-true (v / 256 ^ n % 256) 0 e))
without_zeros-fits_at false n v e h k = rw (length-bytes_of n v) h

without_zeros-fits : (n v : ℕ) → v < 256 ^ n → v < 256 ^ length (without_zeros (bytes_of n v))
without_zeros-fits zero v h = h
without_zeros-fits (suc n) v h = without_zeros-fits_at (eqb (v / 256 ^ n % 256) 0) n v refl h (without_zeros-fits n v)

-- the number fits these bytes
pub short-fits : (v : ℕ) → v < 2 ^ 64 → v < 256 ^ length (short v)
unfolding short
short-fits v h = without_zeros-fits 8 v h

pub length_short_pos : (v : ℕ) → 1 ≤ v → v < 2 ^ 64 → 1 ≤ length (short v)
length_short_pos v h k = at (length (short v)) (short-fits v k)
  where
    at : (n : ℕ) → v < 256 ^ n → 1 ≤ n
    at zero q = absurd (omega arith)
    at (suc n) q = omega arith

-- 0 has none
pub length_short_some : (v : ℕ) → 1 ≤ length (short v) → 1 ≤ v
unfolding short
length_short_some zero h = absurd (omega arith)
length_short_some (suc v) h = omega arith

-- a larger number has no fewer bytes
pub length_short_mono : (v w : ℕ) → v < w → w < 2 ^ 64 → length (short v) ≤ length (short w)
length_short_mono v w h k = length_short_below (length (short w)) v (length_short w) (lt_trans h (short-fits w k))

pub all_short : (v : ℕ) → T (all (λ b. ltb b 256) (short v))
all_short v = rw (short-lowest v) (all-bytes_of (length (short v)) v)

-- ---- how many bytes, by the number's leading zeros

pub pow_bytes : (n : ℕ) → 256 ^ n ≡ 2 ^ (8 * n)
pow_bytes zero = refl
pow_bytes (suc n) = rw (pow-succ' 256 n, pow_bytes n, mul-suc 8 n) (sym (ap (λ (k : ℕ). 2 ^ k) (omega arith) ∙ pow-add 2 8 (8 * n)))

pow_lt_cancel : (i j : ℕ) → 2 ^ i < 2 ^ j → i < j
pow_lt_cancel i j h = at (ltb i j) refl
  where
    at : (b : Bool) → ltb i j ≡ b → i < j
    at true e = ltb-true i j e
    at false e = absurd (omega (arith, pow_mono (ltb-false i j e)))

-- m bits and no fewer
short-bits : (v m : ℕ) → m ≤ 64 → v < 2 ^ m → 2 ^ m ≤ 2 * v + 1 → (m + 7) / 8 ≡ length (short v)
short-bits v m b h k =
    let j : ℕ = (m + 7) / 8 in
    let n : ℕ = length (short v) in
    let low : n ≤ j =
    length_short_below j v (omega arith) (rw (pow_bytes j) (lt_of_lt_of_le h (pow_mono (omega arith)))) in
    let l : 2 ^ m < 2 ^ suc (8 * n) =
    omega (arith, pow-suc 2 (8 * n), rw (pow_bytes n) at (short-fits v (lt_of_lt_of_le h (pow_mono b)))) in
    let high : m < suc (8 * n) = pow_lt_cancel m (suc (8 * n)) l in
    omega arith

pub short-leading_zeros : (v : ℕ) → v < 2 ^ 64 → 8 - count_leading_zeros 64 v / 8 ≡ length (short v)
short-leading_zeros v h =
    let t = leading_length 64 v h in
    let e : count_leading_zeros 64 v + t.0 ≡ 64 = t.1 in
    omega (arith, short-bits v t.0 (omega arith) t.2 t.3)
