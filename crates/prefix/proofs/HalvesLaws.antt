-- The laws of the two halves of a prefix's bits, each as one number of 64: what is clear, and where two part.
-- No contract cites this file.
-- Assumes nothing.
use Prim.Native.Nat.{ℕ, zero, suc, ◌+◌, ◌-◌, ◌*◌, ◌/◌, ◌%◌, ◌^◌, ◌≤◌, ◌<◌, min}
use native.Mathlib.Nat.{add-zero, add_comm, zero-mul, suc-mul, mul-mod_left, mod-eq_of_lt}
use native.Mathlib.Omega.{arith}
use mathlib.Core.Path.{◌≡◌, sym, ap, subst, ◌∙◌}
use mathlib.Core.Bool.{false, ◌&&◌}
use mathlib.Core.List.{◌++◌, append_assoc}
use lib.Dec.{eqb}
use lib.ListN.{length, get_or, take, drop, length-append, take-append-drop}
use lib.Seq.{take_at, drop_at, drop-drop, length-take-le, get_or-take, get_or-drop}
use lib.Pow.{pow_pos, shl-shr, mod-pow-add}
use lib.Bits.{bit_xor}
use Rattle.bits.specs.Bits.{Bits, lcp}
use borrow.Author.Tests.{ne_eqb}
use Rattle.bits.specs.Numbers.{bits_of, clear, blank}
use Rattle.bits.proofs.BitsLaws.{length-lcp, length-lcp-take, lcp-append_full}
use Rattle.bits.proofs.BlankLaws.{clear-drop-append, blank-append}
use Rattle.bits.proofs.NumbersLaws.{length-bits_of, bits_of-add, drop-bits_of, clear-bits_of}
use Rattle.bits.proofs.ValueLaws.{bits_of-mod}
use Rattle.bits.proofs.PartingLaws.{parting-after, parting_at, parting-before}
use Rattle.prefix.specs.Keys.{word_bits}
use Rattle.prefix.specs.Calls.{High, Low, Halves, Parting}
use Rattle.prefix.specs.declared.Prefix.{Prefix}
use Rattle.prefix.proofs.WordsLaws.{length-word_bits}

pub bits_of_pair : (x y r : ℕ) → y < 2 ^ 32 → r ≡ 4294967296 * x + y → bits_of 64 r ≡ bits_of 32 x ++ bits_of 32 y
bits_of_pair x y r h e =
    let q : r / 2 ^ 32 ≡ x = omega arith in
    let m : r % 2 ^ 32 ≡ y = omega arith in
    bits_of-add 32 32 r ∙ rw (← bits_of-mod 32 r, q, m)

-- a half as its two words
pub bits_of_words : (r : ℕ) → bits_of 64 r ≡ bits_of 32 (r / 4294967296) ++ bits_of 32 (r % 4294967296)
bits_of_words r = bits_of-add 32 32 r ∙ rw (← bits_of-mod 32 r)

pub high_pair : (p : Prefix) (r : ℕ) → bits_of 64 r ≡ bits_of 32 p.w0 ++ bits_of 32 p.w1 → High p r
unfolding word_bits
high_pair p r e =
    let a : Bits = bits_of 32 p.w0 ++ bits_of 32 p.w1 in
    let l : length a ≡ 64 = simp (length-append, length-bits_of) in
    e ∙ sym (ap (take 64) (sym (append_assoc (bits_of 32 p.w0) (bits_of 32 p.w1) _)) ∙ take_at a _ 64 l)

pub low_pair : (p : Prefix) (r : ℕ) → bits_of 64 r ≡ bits_of 32 p.w2 ++ bits_of 32 p.w3 → Low p r
unfolding word_bits
low_pair p r e =
    let a : Bits = bits_of 32 p.w0 ++ bits_of 32 p.w1 in
    let l : length a ≡ 64 = simp (length-append, length-bits_of) in
    e ∙ sym (ap (drop 64) (sym (append_assoc (bits_of 32 p.w0) (bits_of 32 p.w1) _)) ∙ drop_at a _ 64 l)

-- ---- clear

-- what a shift up leaves of a number in m + n bits
pub shifted-mod : (m n x : ℕ) → x * 2 ^ n % 2 ^ (m + n) ≡ x % 2 ^ m * 2 ^ n
shifted-mod m n x = mod-pow-add (x * 2 ^ n) m n ∙ rw (shl-shr x n, mul-mod_left x (2 ^ n)) (add-zero _)

eqb-shifted : (y n : ℕ) → eqb (y * 2 ^ n) 0 ≡ eqb y 0
eqb-shifted zero n = rw (zero-mul (2 ^ n))
eqb-shifted (suc y) n = ne_eqb (suc y * 2 ^ n) 0 (λ e. omega (arith, suc-mul y (2 ^ n), pow_pos n)) ∙ sym (ne_eqb (suc y) 0 (λ e. omega arith))

-- what is shifted out at the top are the first n bits
pub clear-shifted : (n x : ℕ) → n < 64 → eqb (x * 2 ^ n % 2 ^ 64) 0 ≡ clear (drop n (bits_of 64 x))
clear-shifted n x h =
    let e : (64 - n) + n ≡ 64 = omega arith in
    let m : 2 ^ 64 ≡ 2 ^ (64 - n + n) = ap (λ (k : ℕ). 2 ^ k) (sym e) in
    let b : clear (drop n (bits_of 64 x)) ≡ eqb (x % 2 ^ (64 - n)) 0 =
    subst (λ (k : ℕ). clear (drop n (bits_of k x)) ≡ eqb (x % 2 ^ (64 - n)) 0) (add_comm n (64 - n) ∙ e)
    (ap clear (drop-bits_of n (64 - n) x) ∙ clear-bits_of (64 - n) x) in
    ap (λ (k : ℕ). eqb (x * 2 ^ n % k) 0) m ∙ rw (shifted-mod (64 - n) n x) (eqb-shifted (x % 2 ^ (64 - n)) n) ∙ sym b

pub clear_zero : (y : ℕ) → y < 2 ^ 64 → eqb y 0 ≡ clear (bits_of 64 y)
clear_zero y h = sym (clear-bits_of 64 y ∙ ap (λ (z : ℕ). eqb z 0) (mod-eq_of_lt h))

module _ (p : Prefix) (n y : ℕ) (hy : Low p y) where
  pub clear_first : (x : ℕ) → High p x → n < 64 → clear (drop n (word_bits p)) ≡ (clear (drop n (bits_of 64 x)) && clear (bits_of 64 y))
  clear_first x hx h =
      let l : length (take 64 (word_bits p)) ≡ 64 = length-take-le 64 (word_bits p) (omega (arith, length-word_bits p)) in
      let z : n - 64 ≡ 0 = omega arith in
      ap (λ (k : Bits). clear (drop n k)) (sym (take-append-drop 64 (word_bits p)))
      ∙ clear-drop-append n (take 64 (word_bits p)) (drop 64 (word_bits p)) ∙ rw (l, z, hx, hy)

  pub clear_second : 64 ≤ n → clear (drop n (word_bits p)) ≡ clear (drop (n - 64) (bits_of 64 y))
  clear_second h =
      let e : n ≡ 64 + (n - 64) = omega arith in
      rw hy (ap (λ (i : ℕ). clear (drop i (word_bits p))) e ∙ ap clear (sym (drop-drop (n - 64) 64 (word_bits p))))

-- ---- a bit

module _ (p : Prefix) (i : ℕ) where
  pub get_or_high : (x : ℕ) → High p x → i < 64 → get_or (bits_of 64 x) i false ≡ get_or (word_bits p) i false
  get_or_high x hx h = rw hx (get_or-take 64 (word_bits p) i false h)

  pub get_or_low : (y : ℕ) → Low p y → 64 ≤ i → get_or (bits_of 64 y) (i - 64) false ≡ get_or (word_bits p) i false
  get_or_low y hy h = rw hy (get_or-drop 64 (word_bits p) (i - 64) false ∙ ap (λ (j : ℕ). get_or (word_bits p) j false) (omega arith))

-- ---- the words of two halves with the bits after n blanked

pub word_bits-blank : (a r : Prefix) (x y u v n : ℕ) → High a x → Low a y → Halves n u v r → bits_of 64 u ≡ blank n (bits_of 64 x)
    → bits_of 64 v ≡ blank (n - 64) (bits_of 64 y) → word_bits r ≡ blank n (word_bits a)
word_bits-blank a r x y u v n hx hy s eu ev =
    let l : length (take 64 (word_bits a)) ≡ 64 = length-take-le 64 (word_bits a) (omega (arith, length-word_bits a)) in
    let words : word_bits r ≡ bits_of 64 u ++ bits_of 64 v =
    rw (s.high, s.low) (sym (take-append-drop 64 (word_bits r))) in
    let halves : blank n (word_bits a) ≡ blank n (take 64 (word_bits a)) ++ blank (n - 64) (drop 64 (word_bits a)) =
    ap (blank n) (sym (take-append-drop 64 (word_bits a))) ∙ blank-append n (take 64 (word_bits a)) (drop 64 (word_bits a)) ∙ rw l in
    words ∙ rw (eu, ev, hx, hy) (sym halves)

-- ---- where two halves part

pub parting-promise : (x y i : ℕ) → x < 2 ^ 64 → y < 2 ^ 64 → i < 64 → Parting x y i (bit_xor x y / 2 ^ (63 - i))
parting-promise x y i hx hy h =
    record { after = parting-after 63 x y i hx hy h; at = parting_at 63 x y i hx hy h; before = parting-before 63 x y i hx hy h }

pub common_most : (x y : ℕ) → length (lcp (bits_of 64 x) (bits_of 64 y)) ≤ 64
common_most x y = omega (arith, length-lcp (bits_of 64 x) (bits_of 64 y), length-bits_of 64 x)

-- the halves part where the 128 bits do, if that is in the first half
module _ (a b : Prefix) (x y : ℕ) (hx : High a x) (hy : High b y) where
  common : length (lcp (bits_of 64 x) (bits_of 64 y)) ≡ min 64 (length (lcp (word_bits a) (word_bits b)))
  common = rw (hx, hy) (length-lcp-take 64 64 (word_bits a) (word_bits b))

  module _ (i r : ℕ) (h : i < 64) (p : Parting x y i r) where
    pub agree_after : r ≡ 0 → i < length (lcp (word_bits a) (word_bits b))
    agree_after e = omega (arith, common, p.after e)

    pub agree_at : r ≡ 1 → length (lcp (word_bits a) (word_bits b)) ≡ i
    agree_at e = omega (arith, common, p.at e)

  pub agree_high : (n : ℕ) → n ≡ length (lcp (bits_of 64 x) (bits_of 64 y)) → n < 64 → n ≡ length (lcp (word_bits a) (word_bits b))
  agree_high n e h = omega (arith, common)

  pub agree_low : (z w n : ℕ) → Low a z → Low b w → 64 ≤ length (lcp (bits_of 64 x) (bits_of 64 y))
      → n ≡ length (lcp (bits_of 64 z) (bits_of 64 w)) → 64 + n ≡ length (lcp (word_bits a) (word_bits b))
  agree_low z w n hz hw h e =
      let la : length (take 64 (word_bits a)) ≡ 64 = length-take-le 64 (word_bits a) (omega (arith, length-word_bits a)) in
      let lb : length (take 64 (word_bits b)) ≡ 64 = length-take-le 64 (word_bits b) (omega (arith, length-word_bits b)) in
      let full : length (take 64 (word_bits a)) ≤ length (lcp (take 64 (word_bits a)) (take 64 (word_bits b))) = rw (la, ← hx, ← hy) h in
      let q = lcp-append_full (take 64 (word_bits a)) (take 64 (word_bits b)) (drop 64 (word_bits a)) (drop 64 (word_bits b)) (la ∙ sym lb) full in
      let r : length (lcp (word_bits a) (word_bits b)) ≡ length (take 64 (word_bits a)) + length (lcp (drop 64 (word_bits a)) (drop 64 (word_bits b))) =
      rw (take-append-drop 64 (word_bits a), take-append-drop 64 (word_bits b)) at q in
      sym (r ∙ rw (la, ← hz, ← hw, e))
