-- The laws of `value`, the number that a bit string is. A string is had back from its length and its number,
-- and a number below 2 ^ n from its n bits. No contract cites this file.
-- Assumes nothing.
use Prim.Native.Nat.{ℕ, zero, suc, ◌+◌, ◌*◌, ◌/◌, ◌%◌, ◌^◌, ◌<◌}
use native.Mathlib.Nat.{zero-add, add_assoc, zero-mul, add-mul, mul_assoc, mul_comm, pow-suc, mod-lt, mod-eq_of_lt}
use native.Mathlib.Omega.{arith}
use mathlib.Core.Path.{◌≡◌, refl, sym, ap, ◌∙◌}
use mathlib.Core.Bool.{Bool, true, false}
use mathlib.Core.List.{[], ◌∷◌, ◌++◌}
use lib.Arith.{mod-mul}
use lib.Dec.{eqb, lit<}
use lib.ListN.{length}
use lib.Pow.{pow_pos}
use Rattle.bits.specs.Bits.{Bits}
use Rattle.bits.specs.Numbers.{odd, bits_of, digit, value_from, value}
use Rattle.bits.proofs.NumbersLaws.{length-bits_of}

-- ---- digit

digit-eqb : (x : ℕ) → x < 2 → digit (eqb x 1) ≡ x
digit-eqb zero h = refl
digit-eqb (suc zero) h = refl
digit-eqb (suc (suc x)) h = absurd (omega arith)

pub digit-odd : (x : ℕ) → digit (odd x) ≡ x % 2
digit-odd x = digit-eqb (x % 2) (mod-lt x (lit< tt))

-- ---- value_from

pub value_from-value : (a : ℕ) (k : Bits) → value_from a k ≡ a * 2 ^ length k + value k
unfolding value
value_from-value a [] = omega arith
value_from-value a (x ∷ k) =
    value_from-value (a * 2 + digit x) k
    ∙ rw (value_from-value (0 * 2 + digit x) k, zero-mul, zero-add, pow-suc, mul_comm (2 ^ length k) 2)
    (simp (add-mul, mul_assoc, add_assoc))

pub value_from-append : (a : ℕ) (p k : Bits) → value_from a (p ++ k) ≡ value_from (value_from a p) k
value_from-append a [] k = refl
value_from-append a (x ∷ p) k = value_from-append (a * 2 + digit x) p k

-- ---- value

pub value_cons : (x : Bool) (k : Bits) → value (x ∷ k) ≡ digit x * 2 ^ length k + value k
unfolding value
value_cons x k = rw (zero-mul, zero-add) (value_from-value (digit x) k)

pub value-append : (p k : Bits) → value (p ++ k) ≡ value p * 2 ^ length k + value k
unfolding value
value-append p k = value_from-append 0 p k ∙ value_from-value (value p) k

pub value-lt : (k : Bits) → value k < 2 ^ length k
unfolding value
value-lt [] = lit< tt
value-lt (false ∷ k) = omega (arith, value_cons false k, pow-suc 2 (length k), value-lt k)
value-lt (true ∷ k) = omega (arith, value_cons true k, pow-suc 2 (length k), value-lt k)

-- a first bit and what follows it are had back from their number
value_inj_at : (x y : Bool) (p k : Bits) → length p ≡ length k
    → digit x * 2 ^ length p + value p ≡ digit y * 2 ^ length p + value k → (value p ≡ value k → p ≡ k) → x ∷ p ≡ y ∷ k
value_inj_at false false p k l e rest = ap (λ (q : Bits). false ∷ q) (rest (omega arith))
value_inj_at true true p k l e rest = ap (λ (q : Bits). true ∷ q) (rest (omega arith))
value_inj_at false true p k l e rest = absurd (omega (arith, value-lt p))
value_inj_at true false p k l e rest = let h : value k < 2 ^ length p = rw l (value-lt k) in absurd (omega arith)

-- strings of one length with one number are one string
pub value_inj : (p k : Bits) → length p ≡ length k → value p ≡ value k → p ≡ k
value_inj [] [] l e = refl
value_inj [] (y ∷ k) l e = absurd (omega arith)
value_inj (x ∷ p) [] l e = absurd (omega arith)
value_inj (x ∷ p) (y ∷ k) l e =
    value_inj_at x y p k (omega arith)
    (sym (value_cons x p) ∙ e ∙ value_cons y k ∙ ap (λ (n : ℕ). digit y * 2 ^ n + value k) (sym (omega arith)))
    (value_inj p k (omega arith))

pub value-bits_of-mod : (n x : ℕ) → value (bits_of n x) ≡ x % 2 ^ n
unfolding bits_of value
value-bits_of-mod zero x = omega arith
value-bits_of-mod (suc n) x =
    value_cons (odd (x / 2 ^ n)) (bits_of n x)
    ∙ rw (length-bits_of n x, digit-odd (x / 2 ^ n), value-bits_of-mod n x, pow-suc, mul_comm (2 ^ n) 2)
    (sym (mod-mul x {m = 2} {c = 2 ^ n} (lit< tt) (pow_pos n)))

pub value-bits_of : (n x : ℕ) → x < 2 ^ n → value (bits_of n x) ≡ x
value-bits_of n x h = value-bits_of-mod n x ∙ mod-eq_of_lt h

-- ---- bits_of

pub bits_of-value : (k : Bits) → bits_of (length k) (value k) ≡ k
bits_of-value k = value_inj _ k (length-bits_of _ _) (value-bits_of _ _ (value-lt k))

pub bits_of-mod : (n x : ℕ) → bits_of n (x % 2 ^ n) ≡ bits_of n x
bits_of-mod n x =
    value_inj _ _ (length-bits_of n _ ∙ sym (length-bits_of n x))
    (value-bits_of n _ (mod-lt x (pow_pos n)) ∙ sym (value-bits_of-mod n x))
