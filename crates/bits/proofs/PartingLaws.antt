-- Where two numbers part, as bit strings: by a shift of their xor, with no count of zeros.
-- No contract cites this file.
-- Assumes nothing.
use Prim.Native.Nat.{ℕ, suc, ◌+◌, ◌-◌, ◌*◌, ◌/◌, ◌^◌, ◌≤◌, ◌<◌}
use native.Mathlib.Nat.{mod-lt, pow-suc, div-add-mod', mul-le-mul_right, suc-mul}
use native.Mathlib.Omega.{arith}
use mathlib.Core.Path.{◌≡◌}
use lib.ListN.{length}
use lib.Pow.{pow_pos, pow_mono}
use lib.Bits.{bit_xor, xor_lt}
use lib.Count.{leading_length}
use Rattle.bits.specs.Bits.{lcp}
use Rattle.bits.specs.Numbers.{bits_of}
use Rattle.bits.proofs.NumbersLaws.{length-lcp-bits_of}

-- a number of t bits that is below 2 ^ m has at most m, and one that is not has more
bits_most : (t m z : ℕ) → 2 ^ t ≤ 2 * z + 1 → z < 2 ^ m → t ≤ m
bits_most t m z g h =
    let n : m < t → ⊥ = λ l. let p : 2 ^ suc m ≤ 2 ^ t = pow_mono l in omega (arith, pow-suc 2 m) in
    omega arith

bits_more : (t m z : ℕ) → z < 2 ^ t → 2 ^ m ≤ z → m < t
bits_more t m z g h =
    let n : t ≤ m → ⊥ = λ l. let p : 2 ^ t ≤ 2 ^ m = pow_mono l in omega arith in
    omega arith

-- a number by what a shift down leaves of it
shifted_least : (d m z : ℕ) → d ≤ z / 2 ^ m → d * 2 ^ m ≤ z
shifted_least d m z h =
    let p : d * 2 ^ m ≤ z / 2 ^ m * 2 ^ m = mul-le-mul_right (2 ^ m) h in
    omega (arith, div-add-mod' z (2 ^ m))

shifted_most : (d m z : ℕ) → z / 2 ^ m ≤ d → z < suc d * 2 ^ m
shifted_most d m z h =
    let p : z / 2 ^ m * 2 ^ m ≤ d * 2 ^ m = mul-le-mul_right (2 ^ m) h in
    omega (arith, div-add-mod' z (2 ^ m), mod-lt z (pow_pos m), suc-mul d (2 ^ m))

-- where numbers of suc n bits part, by the first suc i bits of their xor as a number: 0 says that the first
-- suc i bits are common, 1 that the first i are and no more, and anything else that fewer are
module _ (n x y i : ℕ) (hx : x < 2 ^ suc n) (hy : y < 2 ^ suc n) (h : i < suc n) where
  parting_length : (t : ℕ) × (length (lcp (bits_of (suc n) x) (bits_of (suc n) y)) + t ≡ suc n) × (bit_xor x y < 2 ^ t)
      × (2 ^ t ≤ 2 * bit_xor x y + 1)
  parting_length =
      let t = leading_length (suc n) (bit_xor x y) (xor_lt (suc n) x y hx hy) in
      (t.0, rw (← length-lcp-bits_of (suc n) x y hx hy) t.1, t.2, t.3)

  pub parting-after : bit_xor x y / 2 ^ (n - i) ≡ 0 → i < length (lcp (bits_of (suc n) x) (bits_of (suc n) y))
  parting-after e =
      let t = parting_length in
      let b = shifted_most 0 (n - i) (bit_xor x y) (omega arith) in
      omega (arith, t.1, bits_most t.0 (n - i) (bit_xor x y) t.3 (omega arith))

  pub parting_at : bit_xor x y / 2 ^ (n - i) ≡ 1 → length (lcp (bits_of (suc n) x) (bits_of (suc n) y)) ≡ i
  parting_at e =
      let t = parting_length in
      let b = shifted_most 1 (n - i) (bit_xor x y) (omega arith) in
      let a = shifted_least 1 (n - i) (bit_xor x y) (omega arith) in
      let p : 2 ^ suc (n - i) ≡ 2 ^ (n - i) * 2 = pow-suc 2 (n - i) in
      let u = bits_most t.0 (suc (n - i)) (bit_xor x y) t.3 (omega arith) in
      omega (arith, t.1, bits_more t.0 (n - i) (bit_xor x y) t.2 (omega arith))

  pub parting-before : 1 < bit_xor x y / 2 ^ (n - i) → length (lcp (bits_of (suc n) x) (bits_of (suc n) y)) < i
  parting-before e =
      let t = parting_length in
      let a = shifted_least 2 (n - i) (bit_xor x y) e in
      let p : 2 ^ suc (n - i) ≡ 2 ^ (n - i) * 2 = pow-suc 2 (n - i) in
      omega (arith, t.1, bits_more t.0 (suc (n - i)) (bit_xor x y) t.2 (omega arith))
