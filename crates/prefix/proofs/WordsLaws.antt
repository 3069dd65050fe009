-- The laws of the 128 bits of a prefix's four words. Each goes by steps over a word before the rest.
-- No contract cites this file.
-- Assumes nothing.
use Prim.Native.Nat.{ℕ, ◌-◌, ◌^◌, ◌<◌}
use native.Mathlib.Omega.{arith}
use mathlib.Core.Path.{◌≡◌, refl, sym, ap₂, ◌∙◌}
use mathlib.Core.Bool.{Bool}
use mathlib.Core.List.{[], ◌∷◌, ◌++◌}
use lib.ListN.{length, length-append}
use Rattle.std.specs.Ordering.{nat_cmp, ordering_then}
use Rattle.bits.specs.Bits.{Bits, order}
use Rattle.bits.specs.Numbers.{bits_of, blank}
use Rattle.bits.proofs.BlankLaws.{blank-append, order-append}
use Rattle.bits.proofs.NumbersLaws.{length-bits_of, bits_of_inj, order-bits_of}
use Rattle.prefix.specs.Keys.{word_bits}
use Rattle.prefix.specs.declared.Prefix.{Prefix}

-- every word is a number of 32 bits, as the machine has it
abbrev pub Small : Prefix → Type 0
Small p = (p.w0 < 2 ^ 32) × (p.w1 < 2 ^ 32) × (p.w2 < 2 ^ 32) × (p.w3 < 2 ^ 32)

one_length : (x y : ℕ) → length (bits_of 32 x) ≡ length (bits_of 32 y)
one_length x y = length-bits_of 32 x ∙ sym (length-bits_of 32 y)

sub_two : (n : ℕ) → n - 32 - 32 ≡ n - 64
sub_two n = omega arith

sub_three : (n : ℕ) → n - 64 - 32 ≡ n - 96
sub_three n = omega arith

-- ---- word_bits

pub length-word_bits : (p : Prefix) → length (word_bits p) ≡ 128
unfolding word_bits
length-word_bits p = simp (length-append, length-bits_of)

-- ---- blank

blank_step : (n x : ℕ) (r : Bits) → blank n (bits_of 32 x ++ r) ≡ blank n (bits_of 32 x) ++ blank (n - 32) r
blank_step n x r = blank-append n (bits_of 32 x) r ∙ rw length-bits_of

pub blank-word_bits : (p : Prefix) (n : ℕ)
    → blank n (word_bits p)
    ≡ blank n (bits_of 32 p.w0) ++ (blank (n - 32) (bits_of 32 p.w1) ++ (blank (n - 64) (bits_of 32 p.w2) ++ blank (n - 96) (bits_of 32 p.w3)))
unfolding word_bits
blank-word_bits p n = rw (blank_step n, blank_step (n - 32), sub_two, blank_step (n - 64), sub_three)

-- ---- order

order_step : (x y : ℕ) (r s : Bits) → x < 2 ^ 32 → y < 2 ^ 32 → order (bits_of 32 x ++ r) (bits_of 32 y ++ s) ≡ ordering_then (nat_cmp x y) (order r s)
order_step x y r s hx hy = order-append (bits_of 32 x) (bits_of 32 y) r s (one_length x y) ∙ rw (order-bits_of 32 x y hx hy)

pub order-word_bits : (a b : Prefix) → Small a → Small b
    → order (word_bits a) (word_bits b)
    ≡ ordering_then (nat_cmp a.w0 b.w0) (ordering_then (nat_cmp a.w1 b.w1) (ordering_then (nat_cmp a.w2 b.w2) (nat_cmp a.w3 b.w3)))
unfolding word_bits
order-word_bits a b sa sb =
    rw (order_step _ _ _ _ sa.0 sb.0, order_step _ _ _ _ sa.1 sb.1, order_step _ _ _ _ sa.2 sb.2, order-bits_of 32 _ _ sa.3 sb.3)

-- ---- word_bits_inj

append_inj : (a b r s : Bits) → length a ≡ length b → a ++ r ≡ b ++ s → (a ≡ b) × (r ≡ s)
append_inj [] [] r s l e = (refl, e)
append_inj [] (y ∷ b) r s l e = absurd (omega arith)
append_inj (x ∷ a) [] r s l e = absurd (omega arith)
append_inj (x ∷ a) (y ∷ b) r s l e =
    let h : x ≡ y = cc in
    let t : a ++ r ≡ b ++ s = cc in
    let i = append_inj a b r s (omega arith) t in
    (ap₂ (λ (z : Bool) (u : Bits). z ∷ u) h i.0, i.1)

word_inj : (x y : ℕ) (r s : Bits) → x < 2 ^ 32 → y < 2 ^ 32 → bits_of 32 x ++ r ≡ bits_of 32 y ++ s → (x ≡ y) × (r ≡ s)
word_inj x y r s hx hy e =
    let i = append_inj (bits_of 32 x) (bits_of 32 y) r s (one_length x y) e in
    (bits_of_inj 32 x y hx hy i.0, i.1)

pub word_bits_inj : (a b : Prefix) → Small a → Small b → word_bits a ≡ word_bits b → (a.w0 ≡ b.w0) × (a.w1 ≡ b.w1) × (a.w2 ≡ b.w2) × (a.w3 ≡ b.w3)
unfolding word_bits
word_bits_inj a b sa sb e =
    let i0 = word_inj a.w0 b.w0 _ _ sa.0 sb.0 e in
    let i1 = word_inj a.w1 b.w1 _ _ sa.1 sb.1 i0.1 in
    let i2 = word_inj a.w2 b.w2 _ _ sa.2 sb.2 i1.1 in
    (i0.0, i1.0, i2.0, bits_of_inj 32 a.w3 b.w3 sa.3 sb.3 i2.1)
