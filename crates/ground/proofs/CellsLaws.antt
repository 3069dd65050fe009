-- The laws of cells: a position's range and shift, the interleave as a number, and what `cell` promises.
-- The machine holds a signed number as its bits. So a law of one of its steps speaks of the number read back
-- from them, which is the number itself where that fits. No contract cites this file.
-- Assumes nothing.
use Prim.Native.Nat.{ℕ, zero, suc, ◌+◌, ◌*◌, ◌/◌, ◌%◌, ◌^◌, ◌≤◌, ◌<◌}
use native.Mathlib.Nat.{zero-mul, zero-div, add_comm, pow-suc, mul_assoc}
use native.Mathlib.Omega.{arith}
use mathlib.Core.Path.{◌≡◌, refl, sym, ap, ◌∙◌, subst}
use mathlib.Core.Bool.{Bool, true, false, cond}
use mathlib.Core.List.{[], ◌∷◌, ◌++◌, append_assoc}
use lib.Dec.{lit≤}
use lib.IntN.{ℤ, pos, negsuc, nat_abs, ◌+ℤ◌}
use lib.ListN.{length, take, drop, length-drop, take-append-drop}
use lib.Seq.{take_at, drop_at, length-take-le}
use Rattle.std.proofs.lemmas.Int.{ints}
use borrow.Author.Tests.{leb-true, le-ltb}
use mir.Syntax.{w32, w64}
use mir.Val.{SFits, to_z, of_z}
use Rattle.std.specs.Prelude.{Result, Ok, Err}
use Rattle.bits.specs.Bits.{Bits}
use Rattle.bits.specs.Numbers.{odd, bits_of, value}
use Rattle.bits.proofs.NumbersLaws.{length-bits_of, bits_of-add}
use Rattle.bits.proofs.ValueLaws.{digit-odd, value_cons, value-append, value-lt, bits_of-value, bits_of-mod}
use Rattle.prefix.specs.Keys.{string_of, word_bits, Valid}
use Rattle.prefix.specs.declared.Prefix.{Prefix}
use Rattle.refusals.specs.Refusals.{number_of}
use Rattle.refusals.specs.declared.Refusal.{Refusal}
use Rattle.refusals.specs.declared.Refusal.TheVariants.{BadPosition}
use Rattle.ground.specs.Cells.{within, shifted, half_turn, quarter_turn, scaled, column, row, interleave, cell_bits, in_range, prefix_of, cell_of, values_of, Cell}

-- ---- signed numbers in the machine

-- a 64-bit number, read back from its bits
abbrev back : ℤ → ℤ
back z = to_z w64 (of_z w64 z)

-- ---- shifted

pub shifted-le : (half : ℕ) (z : ℤ) → within half z ≡ true → shifted half z ≤ 2 * half
shifted-le half (pos n) h = omega (arith, leb-true n half h)
shifted-le half (negsuc n) h = omega arith

pub shifted-add : (half : ℕ) (z : ℤ) → within half z ≡ true → z +ℤ pos half ≡ pos (shifted half z)
shifted-add half (pos n) h = ap pos (add_comm n half)
shifted-add half (negsuc n) h = rw (le-ltb half (suc n) (leb-true _ _ h))

-- the shift as the machine makes it, and reads it back
pub scaled_back : (half : ℕ) (z x y : ℤ) → SFits w32 z → x ≡ to_z w32 (of_z w32 z) → y ≡ pos half → half ≤ half_turn → within half z ≡ true
    → nat_abs (back (back x +ℤ back y)) * 4294967296 / (2 * nat_abs (back y)) ≡ scaled half z
unfolding scaled
scaled_back half z x y fits ex ey small h =
    let e : z +ℤ pos half ≡ pos (shifted half z) = shifted-add half z h in
    let l : shifted half z ≤ 2 * half = shifted-le half z h in
    let n : nat_abs (back (back x +ℤ back y)) ≡ shifted half z = omega (arith, ints) in
    let k : nat_abs (back y) ≡ half = omega (arith, ints) in
    rw (n, k)

-- ---- interleave

pub length-interleave : (p q : Bits) → length p ≡ length q → length (interleave p q) ≡ 2 * length p
length-interleave [] q h = refl
length-interleave (x ∷ p) [] h = absurd (omega arith)
length-interleave (x ∷ p) (y ∷ q) h = omega (arith, length-interleave p q (omega arith))

pub interleave-append : (p q s t : Bits) → length p ≡ length q → interleave (p ++ s) (q ++ t) ≡ interleave p q ++ interleave s t
interleave-append [] [] s t h = refl
interleave-append [] (y ∷ q) s t h = absurd (omega arith)
interleave-append (x ∷ p) [] s t h = absurd (omega arith)
interleave-append (x ∷ p) (y ∷ q) s t h = ap (λ (k : Bits). x ∷ y ∷ k) (interleave-append p q s t (omega arith))

-- ---- turns

-- the n lowest bits of c and of r in turn
abbrev pub turns : ℕ → ℕ → ℕ → Bits
turns n c r = interleave (bits_of n c) (bits_of n r)

pub length-turns : (n c r : ℕ) → length (turns n c r) ≡ 2 * n
length-turns n c r =
    length-interleave (bits_of n c) (bits_of n r) (length-bits_of n c ∙ sym (length-bits_of n r))
    ∙ ap (λ (m : ℕ). 2 * m) (length-bits_of n c)

pub turns_split : (m n c r : ℕ) → turns (m + n) c r ≡ turns m (c / 2 ^ n) (r / 2 ^ n) ++ turns n (c % 2 ^ n) (r % 2 ^ n)
turns_split m n c r =
    rw (bits_of-add m n c, bits_of-add m n r, bits_of-mod n c, bits_of-mod n r)
    (interleave-append (bits_of m (c / 2 ^ n)) (bits_of m (r / 2 ^ n)) (bits_of n c) (bits_of n r) (length-bits_of m _ ∙ sym (length-bits_of m _)))

-- ---- value of turns

pub value-turns-lt : (n c r : ℕ) → value (turns n c r) < 2 ^ (2 * n)
value-turns-lt n c r = rw length-turns at (value-lt (turns n c r))

value-turns_split : (m n c r : ℕ)
    → value (turns (m + n) c r) ≡ value (turns m (c / 2 ^ n) (r / 2 ^ n)) * 2 ^ (2 * n) + value (turns n (c % 2 ^ n) (r % 2 ^ n))
value-turns_split m n c r =
    ap value (turns_split m n c r)
    ∙ value-append (turns m (c / 2 ^ n) (r / 2 ^ n)) (turns n (c % 2 ^ n) (r % 2 ^ n))
    ∙ rw length-turns

-- a number's upper bits and its lower ones, each put in turn, are joined
pub value-turns-join : (m n c r : ℕ) {a b : ℕ} → a ≡ value (turns m (c / 2 ^ n) (r / 2 ^ n))
    → b ≡ value (turns n (c % 2 ^ n) (r % 2 ^ n)) → a * 2 ^ (2 * n) + b ≡ value (turns (m + n) c r)
value-turns-join m n c r ha hb = rw (ha, hb) (sym (value-turns_split m n c r))

value-turns-suc : (n c r : ℕ)
    → value (turns (suc n) c r) ≡ (c / 2 ^ n % 2) * 2 ^ (2 * n) * 2 + (r / 2 ^ n % 2) * 2 ^ (2 * n) + value (turns n c r)
unfolding bits_of
value-turns-suc n c r =
    value_cons (odd (c / 2 ^ n)) (odd (r / 2 ^ n) ∷ turns n c r)
    ∙ rw (value_cons (odd (r / 2 ^ n)) (turns n c r), length-turns n c r, digit-odd (c / 2 ^ n), digit-odd (r / 2 ^ n), pow-suc, ← mul_assoc)
    (omega arith)

value-turns_zero : (n c r : ℕ) → value (turns n 0 c) * 2 + value (turns n 0 r) ≡ value (turns n c r)
unfolding bits_of value
value-turns_zero zero c r = refl
value-turns_zero (suc n) c r =
    rw (value-turns-suc n 0 c, value-turns-suc n 0 r, value-turns-suc n c r, zero-div, zero-mul)
    (omega (arith, value-turns_zero n c r))

-- bits in turn are the bits of each after zeros, the first's one place up
pub value-turns-spread : (n c r : ℕ) {a b : ℕ} → a ≡ value (turns n 0 c) → b ≡ value (turns n 0 r)
    → a * 2 + b ≡ value (turns n c r)
value-turns-spread n c r ha hb = rw (ha, hb) (value-turns_zero n c r)

-- ---- prefix_of

word_back : (k : Bits) → length k ≡ 32 → bits_of 32 (value k) ≡ k
word_back k h = ap (λ (n : ℕ). bits_of n (value k)) (sym h) ∙ bits_of-value k

word_bits-prefix_of : (k : Bits) → length k ≡ 64 → word_bits (prefix_of k) ≡ k ++ (bits_of 32 0 ++ bits_of 32 0)
unfolding word_bits prefix_of
word_bits-prefix_of k h =
    let first : bits_of 32 (value (take 32 k)) ≡ take 32 k = word_back (take 32 k) (length-take-le 32 k (omega arith)) in
    let second : bits_of 32 (value (drop 32 k)) ≡ drop 32 k = word_back (drop 32 k) (length-drop 32 k ∙ omega arith) in
    rw (first, second, ← append_assoc (take 32 k) (drop 32 k), take-append-drop)

-- a prefix made of 64 bits is valid, and they are its string
pub prefix_of-valid : (k : Bits) → length k ≡ 64 → Valid (prefix_of k)
unfolding prefix_of bits_of
prefix_of-valid k h = record { narrow = lit≤ tt; clean = rw (word_bits-prefix_of k h, drop_at k _ 64 h) }

pub string_of-prefix_of : (k : Bits) → length k ≡ 64 → string_of (prefix_of k) ≡ k
unfolding string_of prefix_of
string_of-prefix_of k h = ap (take 64) (word_bits-prefix_of k h) ∙ take_at k _ 64 h

-- the two words are made of the upper and of the lower 16 bits of each
pub prefix_of-turns : (c r : ℕ) (p : Prefix)
    → p ≡ record { width = 64; w0 = value (turns 16 (c / 65536) (r / 65536)); w1 = value (turns 16 (c % 65536) (r % 65536)); w2 = 0; w3 = 0 }
    → p ≡ prefix_of (turns 32 c r)
unfolding prefix_of
prefix_of-turns c r p e =
    let k : turns 32 c r ≡ turns 16 (c / 65536) (r / 65536) ++ turns 16 (c % 65536) (r % 65536) = turns_split 16 16 c r in
    let l : length (turns 16 (c / 65536) (r / 65536)) ≡ 32 = length-turns 16 _ _ in
    e ∙ rw (k, take_at _ _ 32 l, drop_at _ _ 32 l)

-- ---- cell_of

pub cell_of-longitude : (lon lat : ℤ) → within half_turn lon ≡ false → Err BadPosition ≡ cell_of lon lat
unfolding cell_of in_range
cell_of-longitude lon lat h = rw h

pub cell_of-latitude : (lon lat : ℤ) → within half_turn lon ≡ true → within quarter_turn lat ≡ false → Err BadPosition ≡ cell_of lon lat
unfolding cell_of in_range
cell_of-latitude lon lat h i = rw (h, i)

pub cell_of_at : (lon lat : ℤ) (p : Prefix) → within half_turn lon ≡ true → within quarter_turn lat ≡ true
    → p ≡ prefix_of (turns 32 (column lon) (row lat)) → Ok p ≡ cell_of lon lat
unfolding cell_of in_range cell_bits
cell_of_at lon lat p h i e = rw (h, i, e)

-- ---- Cell

values_of-refused : (r : Result Prefix Refusal) → number_of r ≡ 3 → values_of r ≡ 0 ∷ 0 ∷ 0 ∷ 0 ∷ 0 ∷ []
values_of-refused (Ok p) h = cc
values_of-refused (Err e) h = refl

-- (k the cell's bits, and b whether the position is in range)
module _ (k : Bits) (h : length k ≡ 64) (r : Result Prefix Refusal) where
  number_of_at : (b : Bool) → r ≡ cond b (Ok (prefix_of k)) (Err BadPosition) → number_of r ≡ cond b 0 3
  number_of_at true e = ap number_of e
  number_of_at false e = ap number_of e

  meaning_at : (b : Bool) → r ≡ cond b (Ok (prefix_of k)) (Err BadPosition)
      → (p : Prefix) → r ≡ Ok p → Valid p × (p.width ≡ 64) × (string_of p ≡ k)
  unfolding prefix_of
  meaning_at true e p g =
      let same : prefix_of k ≡ p = cc in
      subst (λ (q : Prefix). Valid q × (q.width ≡ 64) × (string_of q ≡ k)) same (prefix_of-valid k h, refl, string_of-prefix_of k h)
  meaning_at false e p g = absurd (let z : ◌≡◌ {A = ℕ} 0 1 = cc in omega arith)

pub cell-promise : (lon lat : ℤ) (r : Result Prefix Refusal) → r ≡ cell_of lon lat → Cell lon lat r
unfolding cell_of cell_bits
cell-promise lon lat r e =
    let k = cell_bits lon lat in
    let h : length k ≡ 64 = length-turns 32 (column lon) (row lat) in
    let b = in_range lon lat in
    record { answer = e; number = number_of_at k h r b e; kept = values_of-refused r; meaning = meaning_at k h r b e }
