-- The laws of numbers as bit strings, for every count of bits. No contract cites this file.
-- Assumes nothing.
use Prim.Native.Nat.{ℕ, zero, suc, ◌+◌, ◌-◌, ◌*◌, ◌/◌, ◌%◌, ◌^◌, ◌≤◌, ◌<◌}
use native.Mathlib.Nat.{not-suc-le-zero, le_of_suc-le-suc, suc-sub-suc, sub-zero, suc-add, add_comm, zero-add, mod-lt, pow-suc}
use native.Mathlib.Nat.{eq-or-lt_of_le, div-eq_of_lt, mod-eq_of_lt, div-add-mod', mul_assoc, mul_comm, mul-mod_left, zero-mul, one-mul}
use native.Mathlib.Numerals.{add-one}
use native.Mathlib.Omega.{arith}
use mathlib.Core.Path.{◌≡◌, refl, sym, ap, ◌∙◌, subst}
use mathlib.Core.Logic.{◌⊎◌, inl, inr, ◌≢◌}
use mathlib.Core.Bool.{Bool, true, false, not, ◌&&◌, cond}
use mathlib.Core.List.{◌∷◌, ◌++◌}
use lib.Dec.{eqb, ltb}
use lib.ListN.{length, get_or, take, drop}
use lib.Seq.{take_at, drop_at}
use lib.Pow.{pow_pos, shr-shr, shl-shr, shl_exact, shr_lt, mod-pow-add}
use lib.Bits.{bit_xor, xor_add_and, and_le_l, and_le_r, xor_shr, xor_self, xor_lt}
use lib.Count.{count_leading_zeros, leading_length}
use borrow.Author.Tests.{eqb-true, eqb-false, ltb-true, ltb-false, eq-eqb, ne_eqb}
use Rattle.std.specs.declared.cmp.Ordering.TheVariants.{Less, Equal, Greater}
use Rattle.std.specs.Ordering.{ordering_reverse, nat_cmp}
use Rattle.bits.specs.Bits.{Bits, lcp, order}
use Rattle.bits.specs.Numbers.{odd, bits_of, clear, blank}
use Rattle.bits.proofs.BitsLaws.{lcp_self, order_refl, order_flip}
use Rattle.bits.proofs.BlankLaws.{blank-append, blank-all}

-- ---- odd

pub odd_true : (x : ℕ) → odd x ≡ true → x % 2 ≡ 1
odd_true x e = eqb-true (x % 2) 1 e

pub odd_false : (x : ℕ) → odd x ≡ false → x % 2 ≡ 0
odd_false x e = let h : x % 2 ≢ 1 = eqb-false (x % 2) 1 e in omega arith

odd_same : (x y : ℕ) (b : Bool) → odd x ≡ b → odd y ≡ b → x % 2 ≡ y % 2
odd_same x y true h k = odd_true x h ∙ sym (odd_true y k)
odd_same x y false h k = odd_false x h ∙ sym (odd_false y k)

-- a number is its half and its lowest bit
pub odd_inj : (x y : ℕ) → x / 2 ≡ y / 2 → odd x ≡ odd y → x ≡ y
odd_inj x y e h = omega (arith, odd_same x y (odd y) h refl)

-- ---- bits_of

pub length-bits_of : (n x : ℕ) → length (bits_of n x) ≡ n
unfolding bits_of
length-bits_of zero x = refl
length-bits_of (suc n) x = ap suc (length-bits_of n x)

get_or-bits_of_at : (n x i : ℕ) → i < n → get_or (bits_of n x) i false ≡ odd (x / 2 ^ (n - suc i))
unfolding bits_of
get_or-bits_of_at zero x i h = absurd (not-suc-le-zero h)
get_or-bits_of_at (suc n) x zero h = rw (suc-sub-suc, sub-zero)
get_or-bits_of_at (suc n) x (suc i) h = rw suc-sub-suc (get_or-bits_of_at n x i (le_of_suc-le-suc h))

-- of suc n bits, bit i is the lowest after a shift by n - i
pub get_or-bits_of : (n x i : ℕ) → i < suc n → get_or (bits_of (suc n) x) i false ≡ odd (x / 2 ^ (n - i))
get_or-bits_of n x i h = get_or-bits_of_at (suc n) x i h ∙ rw suc-sub-suc

-- the first j bits are those of the number shifted down, and the others those of the number itself
pub bits_of-add : (j m x : ℕ) → bits_of (j + m) x ≡ bits_of j (x / 2 ^ m) ++ bits_of m x
unfolding bits_of
bits_of-add zero m x = rw zero-add
bits_of-add (suc j) m x = rw (suc-add, shr-shr, add_comm m j, bits_of-add j m x)

pub take-bits_of : (j m x : ℕ) → take j (bits_of (j + m) x) ≡ bits_of j (x / 2 ^ m)
take-bits_of j m x = rw bits_of-add (take_at (bits_of j (x / 2 ^ m)) (bits_of m x) j (length-bits_of j (x / 2 ^ m)))

pub drop-bits_of : (j m x : ℕ) → drop j (bits_of (j + m) x) ≡ bits_of m x
drop-bits_of j m x = rw bits_of-add (drop_at (bits_of j (x / 2 ^ m)) (bits_of m x) j (length-bits_of j (x / 2 ^ m)))

-- a number of suc n bits by its first bit and the others
mod-suc : (n x : ℕ) → x % 2 ^ suc n ≡ (x / 2 ^ n % 2) * 2 ^ n + x % 2 ^ n
mod-suc n x = rw (← add-one n, add_comm n 1) (mod-pow-add x 1 n)

mod_one : (n x : ℕ) → odd (x / 2 ^ n) ≡ true → x % 2 ^ suc n ≡ 2 ^ n + x % 2 ^ n
mod_one n x e = mod-suc n x ∙ rw (odd_true (x / 2 ^ n) e, one-mul)

mod_zero : (n x : ℕ) → odd (x / 2 ^ n) ≡ false → x % 2 ^ suc n ≡ x % 2 ^ n
mod_zero n x e = mod-suc n x ∙ rw (odd_false (x / 2 ^ n) e, zero-mul, zero-add)

bits_of-mod : (n x y : ℕ) → bits_of n x ≡ bits_of n y → x % 2 ^ n ≡ y % 2 ^ n
unfolding bits_of
bits_of-mod zero x y e = omega arith
bits_of-mod (suc n) x y e = go (odd (y / 2 ^ n)) head refl (bits_of-mod n x y tail)
  where
    head : odd (x / 2 ^ n) ≡ odd (y / 2 ^ n)
    head = cc

    tail : bits_of n x ≡ bits_of n y
    tail = cc

    go : (b : Bool) → odd (x / 2 ^ n) ≡ b → odd (y / 2 ^ n) ≡ b → x % 2 ^ n ≡ y % 2 ^ n → x % 2 ^ suc n ≡ y % 2 ^ suc n
    go true h k t = omega (arith, mod_one n x h, mod_one n y k)
    go false h k t = omega (arith, mod_zero n x h, mod_zero n y k)

pub bits_of_inj : (n x y : ℕ) → x < 2 ^ n → y < 2 ^ n → bits_of n x ≡ bits_of n y → x ≡ y
bits_of_inj n x y hx hy e = sym (mod-eq_of_lt hx) ∙ bits_of-mod n x y e ∙ mod-eq_of_lt hy

-- ---- clear

-- no bit of the n lowest is set exactly where they are 0 as a number
pub clear-bits_of : (n x : ℕ) → clear (bits_of n x) ≡ eqb (x % 2 ^ n) 0
unfolding bits_of
clear-bits_of zero x = sym (eq-eqb (x % 1) 0 (omega arith))
clear-bits_of (suc n) x = go (odd (x / 2 ^ n)) refl (clear-bits_of n x)
  where
    go : (b : Bool) → odd (x / 2 ^ n) ≡ b → clear (bits_of n x) ≡ eqb (x % 2 ^ n) 0 → (not b && clear (bits_of n x)) ≡ eqb (x % 2 ^ suc n) 0
    go true h e = sym (ne_eqb (x % 2 ^ suc n) 0 (λ q. omega (arith, mod_one n x h, pow_pos n)))
    go false h e = rw (mod_zero n x h) e

-- ---- blank

blank_zero : (m z x : ℕ) → bits_of m (z * 2 ^ m) ≡ blank 0 (bits_of m x)
unfolding bits_of
blank_zero zero z x = refl
blank_zero (suc m) z x =
    let e : z * 2 ^ suc m ≡ z * 2 * 2 ^ m = ap (λ (k : ℕ). z * k) (pow-suc 2 m ∙ mul_comm (2 ^ m) 2) ∙ sym (mul_assoc z 2 (2 ^ m)) in
    let d : z * 2 % 2 ≡ 0 = mul-mod_left z 2 in
    rw (e, shl-shr, d, blank_zero m (z * 2) x)

pub bits_of_zero : (n x : ℕ) → bits_of n 0 ≡ blank 0 (bits_of n x)
bits_of_zero n x = ap (bits_of n) (sym (zero-mul (2 ^ n))) ∙ blank_zero n 0 x

bits_of-blank_at : (j m x : ℕ) → bits_of (j + m) (x / 2 ^ m * 2 ^ m) ≡ blank j (bits_of (j + m) x)
bits_of-blank_at j m x =
    let a : Bits = bits_of j (x / 2 ^ m) in
    let l : length a ≡ j = length-bits_of j (x / 2 ^ m) in
    let z : j - length a ≡ 0 = omega arith in
    rw (bits_of-add j m, bits_of-add j m, shl-shr, blank_zero m (x / 2 ^ m) x, blank-append j a, z, blank-all j a (omega arith))

-- at w bits, a shift down by w - n and up again keeps the first n
pub bits_of-blank : (w n x : ℕ) → n ≤ w → x < 2 ^ w → bits_of w ((x / 2 ^ (w - n) * 2 ^ (w - n)) % 2 ^ w) ≡ blank n (bits_of w x)
bits_of-blank w n x h hx =
    let e : n + (w - n) ≡ w = omega arith in
    ap (bits_of w) (shl_exact n (w - n) w (shr_lt n (w - n) (rw e hx)) (omega arith))
    ∙ subst (λ (k : ℕ). bits_of k (x / 2 ^ (w - n) * 2 ^ (w - n)) ≡ blank n (bits_of k x)) e (bits_of-blank_at n (w - n) x)

-- ---- lcp

lcp_same : (x y : Bool) (a b : Bits) → x ≡ y → length (lcp (x ∷ a) (y ∷ b)) ≡ suc (length (lcp a b))
lcp_same false false a b e = refl
lcp_same false true a b e = cc
lcp_same true false a b e = cc
lcp_same true true a b e = refl

lcp_other : (x y : Bool) (a b : Bits) → (x ≡ y → ⊥) → length (lcp (x ∷ a) (y ∷ b)) ≡ 0
lcp_other false false a b h = absurd (h refl)
lcp_other false true a b h = refl
lcp_other true false a b h = refl
lcp_other true true a b h = absurd (h refl)

half-shift : (n x : ℕ) → x / 2 ^ n / 2 ≡ x / 2 ^ suc n
half-shift n x = shr-shr x n 1 ∙ rw add-one

-- numbers that agree from one bit up agree from a higher one up
shift_more : (x y m n : ℕ) → m ≤ n → x / 2 ^ m ≡ y / 2 ^ m → x / 2 ^ n ≡ y / 2 ^ n
shift_more x y m n h e =
    let k : m + (n - m) ≡ n = omega arith in
    subst (λ (j : ℕ). x / 2 ^ j ≡ y / 2 ^ j) k
    (sym (shr-shr x m (n - m)) ∙ ap (λ (z : ℕ). z / 2 ^ (n - m)) e ∙ shr-shr y m (n - m))

odd_other : (m x y : ℕ) → x / 2 ^ suc m ≡ y / 2 ^ suc m → (x / 2 ^ m ≡ y / 2 ^ m → ⊥) → odd (x / 2 ^ m) ≡ odd (y / 2 ^ m) → ⊥
odd_other m x y e ne h = ne (odd_inj (x / 2 ^ m) (y / 2 ^ m) (half-shift m x ∙ e ∙ sym (half-shift m y)) h)

-- numbers that agree from bit suc m up, and not at bit m: all but the suc m lowest bits are common
lcp_next : (n x y m : ℕ) → x / 2 ^ suc m ≡ y / 2 ^ suc m → (x / 2 ^ m ≡ y / 2 ^ m → ⊥) → (suc m ≡ suc n) ⊎ (suc m < suc n)
    → (suc m ≤ n → length (lcp (bits_of n x) (bits_of n y)) + suc m ≡ n) → length (lcp (bits_of (suc n) x) (bits_of (suc n) y)) + suc m ≡ suc n
unfolding bits_of
lcp_next n x y m e ne (inl q) ih =
    let d : odd (x / 2 ^ n) ≡ odd (y / 2 ^ n) → ⊥ =
    subst (λ (j : ℕ). odd (x / 2 ^ j) ≡ odd (y / 2 ^ j) → ⊥) (omega arith) (odd_other m x y e ne) in
    omega (arith, lcp_other (odd (x / 2 ^ n)) (odd (y / 2 ^ n)) (bits_of n x) (bits_of n y) d)
lcp_next n x y m e ne (inr l) ih =
    let d : odd (x / 2 ^ n) ≡ odd (y / 2 ^ n) = ap odd (shift_more x y (suc m) n (le_of_suc-le-suc l) e) in
    omega (arith, lcp_same (odd (x / 2 ^ n)) (odd (y / 2 ^ n)) (bits_of n x) (bits_of n y) d, ih (le_of_suc-le-suc l))

lcp_at : (n x y m : ℕ) → suc m ≤ n → x / 2 ^ suc m ≡ y / 2 ^ suc m → (x / 2 ^ m ≡ y / 2 ^ m → ⊥)
    → length (lcp (bits_of n x) (bits_of n y)) + suc m ≡ n
lcp_at zero x y m h e ne = absurd (not-suc-le-zero h)
lcp_at (suc n) x y m h e ne = lcp_next n x y m e ne (eq-or-lt_of_le h) (λ l. lcp_at n x y m l e ne)

lcp-all : (n x y : ℕ) → x ≡ y → length (lcp (bits_of n x) (bits_of n y)) ≡ n
lcp-all n x y e = rw e (ap length (lcp_self (bits_of n y)) ∙ length-bits_of n y)

-- xor is 0 of equal numbers alone
xor_zero : (x y : ℕ) → bit_xor x y ≡ 0 → x ≡ y
xor_zero x y e = omega (arith, xor_add_and x y, and_le_l x y, and_le_r x y)

-- a number with bit m and none above it is not 0 from there
high_bit : (m z : ℕ) → 2 ^ suc m ≤ 2 * z + 1 → z / 2 ^ m ≡ 0 → ⊥
high_bit m z h e =
    let p : 2 ^ suc m ≡ 2 ^ m * 2 = pow-suc 2 m in
    let r : z / 2 ^ m * 2 ^ m + z % 2 ^ m ≡ z = div-add-mod' z (2 ^ m) in
    let b : z % 2 ^ m < 2 ^ m = mod-lt z (pow_pos m) in
    let w : z / 2 ^ m * 2 ^ m ≡ 0 * 2 ^ m = ap (λ (k : ℕ). k * 2 ^ m) e in
    omega arith

lcp-xor : (m n x y : ℕ) → m ≤ n → bit_xor x y < 2 ^ m → 2 ^ m ≤ 2 * bit_xor x y + 1 → length (lcp (bits_of n x) (bits_of n y)) + m ≡ n
lcp-xor zero n x y h l g = omega (arith, lcp-all n x y (xor_zero x y (omega arith)))
lcp-xor (suc m) n x y h l g =
    lcp_at n x y m h
    (xor_zero (x / 2 ^ suc m) (y / 2 ^ suc m) (sym (xor_shr x y (suc m)) ∙ div-eq_of_lt l))
    (λ q. high_bit m (bit_xor x y) g (xor_shr x y m ∙ rw q (xor_self (y / 2 ^ m))))

-- the common bits of two numbers are the leading zeros of their xor
pub length-lcp-bits_of : (n x y : ℕ) → x < 2 ^ n → y < 2 ^ n → count_leading_zeros n (bit_xor x y) ≡ length (lcp (bits_of n x) (bits_of n y))
length-lcp-bits_of n x y hx hy =
    let t = leading_length n (bit_xor x y) (xor_lt n x y hx hy) in
    let h : count_leading_zeros n (bit_xor x y) + t.0 ≡ n = t.1 in
    omega (arith, lcp-xor t.0 n x y (omega arith) t.2 t.3)

-- ---- order

order_lt : (n x y : ℕ) → x % 2 ^ n < y % 2 ^ n → order (bits_of n x) (bits_of n y) ≡ Less
unfolding bits_of
order_lt zero x y h = absurd (omega arith)
order_lt (suc n) x y h = go (odd (x / 2 ^ n)) (odd (y / 2 ^ n)) refl refl (order_lt n x y)
  where
    go : (p q : Bool) → odd (x / 2 ^ n) ≡ p → odd (y / 2 ^ n) ≡ q → (x % 2 ^ n < y % 2 ^ n → order (bits_of n x) (bits_of n y) ≡ Less)
        → order (p ∷ bits_of n x) (q ∷ bits_of n y) ≡ Less
    go false false hp hq ih = ih (omega (arith, mod_zero n x hp, mod_zero n y hq))
    go false true hp hq ih = refl
    go true false hp hq ih = absurd (omega (arith, mod_one n x hp, mod_zero n y hq, mod-lt y (pow_pos n)))
    go true true hp hq ih = ih (omega (arith, mod_one n x hp, mod_one n y hq))

pub order-bits_of : (n x y : ℕ) → x < 2 ^ n → y < 2 ^ n → order (bits_of n x) (bits_of n y) ≡ nat_cmp x y
order-bits_of n x y hx hy = go (ltb x y) (eqb x y) refl refl
  where
    ex : x % 2 ^ n ≡ x
    ex = mod-eq_of_lt hx

    ey : y % 2 ^ n ≡ y
    ey = mod-eq_of_lt hy

    go : (p q : Bool) → ltb x y ≡ p → eqb x y ≡ q → order (bits_of n x) (bits_of n y) ≡ cond p Less (cond q Equal Greater)
    go true q hp hq = order_lt n x y (omega (arith, ltb-true x y hp, ex, ey))
    go false true hp hq = rw (eqb-true x y hq) (order_refl (bits_of n y))
    go false false hp hq =
        let h : x ≢ y = eqb-false x y hq in
        let l : y < x = omega (arith, ltb-false x y hp) in
        order_flip (bits_of n y) (bits_of n x) ∙ ap ordering_reverse (order_lt n y x (omega (arith, ex, ey)))
