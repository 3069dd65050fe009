-- The laws of `value_of`, the number that bytes spell: a number is had back from its bytes, and bytes from their
-- number and their length. No contract cites this file.
-- Assumes nothing.
use Prim.Native.Nat.{ℕ, zero, suc, ◌+◌, ◌*◌, ◌/◌, ◌%◌, ◌^◌, ◌≤◌, ◌<◌}
use native.Mathlib.Nat.{lt_of_lt_of_le, mod-eq_of_lt, pow-succ', pow-le-pow_right, one-le-pow}
use native.Mathlib.Omega.{arith}
use mathlib.Core.Path.{◌≡◌, refl, sym, ap, ◌∙◌}
use mathlib.Core.Bool.{Bool}
use mathlib.Core.List.{List, [], ◌∷◌, ◌++◌}
use lib.Arith.{digits_lt, digits_div, digits_mod, mod-mul}
use lib.Dec.{T, ltb, ltb→lt, lit<}
use lib.ListN.{length, take, drop, length-take}
use lib.Seq.{take-nil, drop-nil, take-append_seam, drop-append_seam}
use Rattle.bits.specs.Lists.{all}
use Rattle.bits.proofs.ListsLaws.{and_left, and_right, and_both}
use Rattle.image.specs.Bytes.{bytes_of, short}
use Rattle.image.proofs.LengthLaws.{length-bytes_of}
use Rattle.image.proofs.BytesLaws.{all-bytes_of, short-lowest, short-fits}
use Rattle.metadata.specs.Frames.{value_of, number_at}

pow_pos : (n : ℕ) → 0 < 256 ^ n
pow_pos n = one-le-pow n 256 (lit< tt)

-- ---- value_of

pub value_of-lt : (bs : List ℕ) → T (all (λ b. ltb b 256) bs) → value_of bs < 256 ^ length bs
value_of-lt [] h = lit< tt
value_of-lt (b ∷ bs) h =
    rw (pow-succ' 256 (length bs))
    (digits_lt (ltb→lt b 256 (and_left (ltb b 256) (all (λ x. ltb x 256) bs) h)) (value_of-lt bs (and_right (ltb b 256) (all (λ x. ltb x 256) bs) h)))

value_of-bytes_of-mod : (n v : ℕ) → value_of (bytes_of n v) ≡ v % 256 ^ n
value_of-bytes_of-mod zero v = omega arith
value_of-bytes_of-mod (suc n) v =
    rw (length-bytes_of n v, value_of-bytes_of-mod n v, pow-succ' 256 n) (sym (mod-mul v {m = 256} {c = 256 ^ n} (lit< tt) (pow_pos n)))

pub value_of-bytes_of : (n v : ℕ) → v < 256 ^ n → value_of (bytes_of n v) ≡ v
value_of-bytes_of n v h = value_of-bytes_of-mod n v ∙ mod-eq_of_lt h

pub value_of_short : (v : ℕ) → v < 2 ^ 64 → value_of (short v) ≡ v
value_of_short v h = ap value_of (short-lowest v) ∙ value_of-bytes_of (length (short v)) v (short-fits v h)

-- a first byte and what follows it are had back from their number
value_of_inj_at : (c a b x y : ℕ) → x < c → y < c → a * c + x ≡ b * c + y → (a ≡ b) × (x ≡ y)
value_of_inj_at c a b x y hx hy e = (
  sym (digits_div a hx) ∙ ap (λ (z : ℕ). z / c) e ∙ digits_div b hy,
  sym (digits_mod a hx) ∙ ap (λ (z : ℕ). z % c) e ∙ digits_mod b hy,
)

-- bytes of one length with one number are the same
pub value_of_inj : (as' bs : List ℕ) → length as' ≡ length bs → T (all (λ b. ltb b 256) as') → T (all (λ b. ltb b 256) bs)
    → value_of as' ≡ value_of bs → as' ≡ bs
value_of_inj [] [] l h k e = refl
value_of_inj [] (b ∷ bs) l h k e = absurd (omega arith)
value_of_inj (a ∷ as') [] l h k e = absurd (omega arith)
value_of_inj (a ∷ as') (b ∷ bs) l h k e =
    let ha = and_right (ltb a 256) (all (λ x. ltb x 256) as') h in
    let hb = and_right (ltb b 256) (all (λ x. ltb x 256) bs) k in
    let q : length bs ≡ length as' = omega arith in
    let w =
    value_of_inj_at (256 ^ length as') a b (value_of as') (value_of bs) (value_of-lt as' ha) (rw q at (value_of-lt bs hb))
    (e ∙ ap (λ (n : ℕ). b * 256 ^ n + value_of bs) q) in
    cc (w.0, value_of_inj as' bs (sym q) ha hb w.1)

pub bytes_of-value_of : (bs : List ℕ) → T (all (λ b. ltb b 256) bs) → bytes_of (length bs) (value_of bs) ≡ bs
bytes_of-value_of bs h =
    value_of_inj (bytes_of (length bs) (value_of bs)) bs (length-bytes_of (length bs) (value_of bs)) (all-bytes_of (length bs) (value_of bs)) h
    (value_of-bytes_of (length bs) (value_of bs) (value_of-lt bs h))

-- ---- number_at

-- what stands after other bytes
pub number_at-append : (xs ys zs : List ℕ) (at n : ℕ) → length xs ≡ at → length ys ≡ n → number_at (xs ++ (ys ++ zs)) at n ≡ value_of ys
unfolding number_at
number_at-append xs ys zs at n e q = rw (← e, ← q, drop-append_seam xs (ys ++ zs), take-append_seam ys zs)

pub all-take-drop : (f : ℕ → Bool) (n at : ℕ) (bs : List ℕ) → T (all f bs) → T (all f (take n (drop at bs)))
all-take-drop f n at [] h = rw (drop-nil at, take-nil n) tt
all-take-drop f zero zero (b ∷ bs) h = tt
all-take-drop f (suc n) zero (b ∷ bs) h =
    and_both (f b) (all f (take n bs)) (and_left (f b) (all f bs) h) (all-take-drop f n zero bs (and_right (f b) (all f bs) h))
all-take-drop f n (suc at) (b ∷ bs) h = all-take-drop f n at bs (and_right (f b) (all f bs) h)

-- a number of n bytes
pub number_at-lt : (bs : List ℕ) (at n : ℕ) → T (all (λ b. ltb b 256) bs) → number_at bs at n < 256 ^ n
unfolding number_at
number_at-lt bs at n h =
    let some : length (take n (drop at bs)) ≤ n = simp length-take (omega arith) in
    lt_of_lt_of_le (value_of-lt (take n (drop at bs)) (all-take-drop (λ b. ltb b 256) n at bs h)) (pow-le-pow_right (lit< tt) some)
