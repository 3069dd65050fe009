-- The laws of a prefix as the bit string that it is, and those that make the contracts.
-- No contract cites this file.
-- Assumes nothing.
use Prim.Native.Nat.{ℕ, ◌-◌, ◌^◌, ◌≤◌, ◌<◌, min}
use native.Mathlib.Decide.{dec_le}
use native.Mathlib.Omega.{arith}
use mathlib.Core.Path.{◌≡◌, refl, sym, ap, ap₂, ◌∙◌}
use mathlib.Core.Bool.{Bool, true, false, ◌&&◌}
use mathlib.Core.List.{[]}
use lib.Dec.{eqb, leb}
use lib.ListN.{length, length-drop, get_or, take, drop, length-take, drop_of_length-le}
use lib.Seq.{take-take, get_or-take}
use borrow.Author.Tests.{le-leb, lt-leb, leb-true, eq-eqb, ne_eqb}
use Rattle.std.specs.Ordering.{nat_cmp, ordering_then}
use Rattle.bits.specs.Bits.{lcp, order, is_prefix}
use Rattle.bits.specs.Meet.{meet}
use Rattle.bits.specs.Numbers.{bits_of, value, clear, blank}
use Rattle.bits.specs.declared.Meeting.TheVariants.{Equal, Below, Above, Apart}
use Rattle.bits.proofs.BitsLaws.{length-lcp-take, is_prefix-lcp}
use Rattle.bits.proofs.MeetLaws.{meet_apart, meet_above, meet_below, meet-equal}
use Rattle.bits.proofs.BlankLaws.{length-blank, blank-all, take-blank, clear-drop-blank, blank-clear, blank_ext, ordering_then_assoc, order-take}
use Rattle.bits.proofs.NumbersLaws.{length-bits_of, bits_of_zero}
use Rattle.bits.proofs.ValueLaws.{value-lt, bits_of-value}
use Rattle.prefix.specs.Keys.{word_bits, string_of, is_valid, Valid, cut_of}
use Rattle.prefix.specs.Calls.{Validity, Shared, Cut, High, Low, Halves}
use Rattle.prefix.specs.declared.Prefix.{Prefix}
use Rattle.prefix.proofs.WordsLaws.{Small, length-word_bits, order-word_bits, word_bits_inj, blank-word_bits}
use Rattle.prefix.proofs.HalvesLaws.{clear_zero, clear_first, clear_second, word_bits-blank}

-- ---- string_of

pub length-string_of : (p : Prefix) → p.width ≤ 128 → length (string_of p) ≡ p.width
unfolding string_of
length-string_of p h = omega (arith, length-take p.width (word_bits p), length-word_bits p)

pub get_or-string_of : (p : Prefix) (i : ℕ) → i < p.width → get_or (string_of p) i false ≡ get_or (word_bits p) i false
unfolding string_of
get_or-string_of p i h = get_or-take p.width (word_bits p) i false h

pub is_prefix-string_of : (k p : Prefix) (r : ℕ) → p.width ≤ 128 → r ≡ length (lcp (string_of k) (string_of p))
    → eqb r p.width ≡ is_prefix (string_of p) (string_of k)
is_prefix-string_of k p r h e = ap₂ eqb e (sym (length-string_of p h)) ∙ is_prefix-lcp (string_of p) (string_of k)

-- valid prefixes go by all of their bits, and then by their widths
order-string_of_at : (a b : Prefix) → Valid a → Valid b
    → order (string_of a) (string_of b) ≡ ordering_then (order (word_bits a) (word_bits b)) (nat_cmp a.width b.width)
unfolding string_of
order-string_of_at a b va vb =
    order-take a.width b.width (word_bits a) (word_bits b) (length-word_bits a ∙ sym (length-word_bits b))
    (omega (arith, length-word_bits a, va.narrow)) (omega (arith, length-word_bits b, vb.narrow)) va.clean vb.clean

pub order-string_of : (a b : Prefix) → Small a → Small b → Valid a → Valid b
    → order (string_of a) (string_of b)
    ≡ ordering_then (nat_cmp a.w0 b.w0) (ordering_then (nat_cmp a.w1 b.w1) (ordering_then (nat_cmp a.w2 b.w2)
    (ordering_then (nat_cmp a.w3 b.w3) (nat_cmp a.width b.width))))
order-string_of a b sa sb va vb = order-string_of_at a b va vb ∙ rw (order-word_bits a b sa sb) (simp ordering_then_assoc)

-- valid prefixes with one string are one prefix
pub string_of_inj : (a b : Prefix) → Small a → Small b → Valid a → Valid b → string_of a ≡ string_of b → a ≡ b
unfolding string_of
string_of_inj a b sa sb va vb e =
    let w : a.width ≡ b.width = sym (length-string_of a va.narrow) ∙ ap length e ∙ length-string_of b vb.narrow in
    let l : length (word_bits a) ≡ length (word_bits b) = length-word_bits a ∙ sym (length-word_bits b) in
    let q : word_bits a ≡ word_bits b =
    sym (blank-clear a.width (word_bits a) va.clean) ∙ blank_ext a.width b.width (word_bits a) (word_bits b) l w e
    ∙ blank-clear b.width (word_bits b) vb.clean in
    let i = word_bits_inj a b sa sb q in
    (λ t. record { width = w t; w0 = i.0 t; w1 = i.1 t; w2 = i.2 t; w3 = i.3 t })

-- ---- meet, one law for each way out, of prefixes s and k of which the first n bits are common

module _ (s k : Prefix) (n : ℕ) (hs : s.width ≤ 128) (hk : k.width ≤ 128) (e : n ≡ length (lcp (string_of s) (string_of k))) where
  pub meet-string_of_apart : (b : Bool) → n < s.width → n < k.width → b ≡ get_or (string_of k) n false → Apart b ≡ meet (string_of s) (string_of k)
  meet-string_of_apart b h g q =
      ap Apart (q ∙ ap (λ (i : ℕ). get_or (string_of k) i false) e)
      ∙ sym (meet_apart (string_of s) (string_of k) (omega (arith, length-string_of s hs)) (omega (arith, length-string_of k hk)))

  pub meet-string_of_above : (b : Bool) → n < s.width → k.width ≤ n → b ≡ get_or (string_of s) n false → Above b ≡ meet (string_of s) (string_of k)
  meet-string_of_above b h g q =
      ap Above (q ∙ ap (λ (i : ℕ). get_or (string_of s) i false) e)
      ∙ sym (meet_above (string_of s) (string_of k) (omega (arith, length-string_of s hs)) (omega (arith, length-string_of k hk)))

  pub meet-string_of_below : (b : Bool) → s.width ≤ n → n < k.width → b ≡ get_or (string_of k) n false → Below b ≡ meet (string_of s) (string_of k)
  meet-string_of_below b h g q =
      ap Below (q ∙ ap (λ (i : ℕ). get_or (string_of k) i false) e)
      ∙ sym (meet_below (string_of s) (string_of k) (omega (arith, length-string_of s hs)) (omega (arith, length-string_of k hk)))

  pub meet-string_of-equal : s.width ≤ n → k.width ≤ n → Equal ≡ meet (string_of s) (string_of k)
  meet-string_of-equal h g =
      sym (meet-equal (string_of s) (string_of k) (omega (arith, length-string_of s hs)) (omega (arith, length-string_of k hk)))

-- ---- is_valid

pub both_true : (a b : Bool) → (a && b) ≡ true → (a ≡ true) × (b ≡ true)
both_true true b h = (refl, h)
both_true false b h = (h, cc)

pub is_valid_true : (p : Prefix) → is_valid p ≡ true → Valid p
unfolding is_valid
is_valid_true p e =
    let h = both_true (leb p.width 128) (clear (drop p.width (word_bits p))) e in
    record { narrow = leb-true p.width 128 h.0; clean = h.1 }

pub valid-is_valid : (p : Prefix) → Valid p → is_valid p ≡ true
unfolding is_valid
valid-is_valid p v = rw (le-leb p.width 128 v.narrow) v.clean

-- ---- the contracts

validity : (p : Prefix) (c : Bool) → c ≡ is_valid p → Validity p c
validity p c e = record { answer = e; yes = λ t. is_valid_true p (sym e ∙ t) }

module _ (p : Prefix) where
  pub valid_short : (x y : ℕ) (c : Bool) → High p x → Low p y → y < 2 ^ 64 → c ≡ clear (drop p.width (bits_of 64 x)) → p.width < 64
      → Validity p (c && eqb y 0)
  unfolding is_valid
  valid_short x y c hx hy b e h =
      validity p (c && eqb y 0) (rw (le-leb p.width 128 (omega arith), clear_first p p.width y hy x hx h, e, clear_zero y b))

  pub valid-long : (y : ℕ) (c : Bool) → Low p y → c ≡ clear (drop (p.width - 64) (bits_of 64 y)) → 64 ≤ p.width → p.width < 128 → Validity p c
  unfolding is_valid
  valid-long y c hy e h g = validity p c (rw (le-leb p.width 128 (omega arith), clear_second p p.width y hy h) e)

  pub valid_full : 128 ≤ p.width → Validity p (eqb p.width 128)
  unfolding is_valid
  valid_full h =
      let e : drop p.width (word_bits p) ≡ [] = drop_of_length-le (word_bits p) {i = p.width} (omega (arith, length-word_bits p)) in
      validity p (eqb p.width 128) (rw e (at (dec_le p.width 128)))
    where
      at : Dec (p.width ≤ 128) → eqb p.width 128 ≡ (leb p.width 128 && true)
      at (yes g) = eq-eqb p.width 128 (omega arith) ∙ rw (le-leb p.width 128 g)
      at (no g) = ne_eqb p.width 128 (λ q. omega arith) ∙ rw (lt-leb p.width 128 (omega arith))

pub shared-promise : (a b : Prefix) (r : ℕ) → r ≡ min (min a.width b.width) (length (lcp (word_bits a) (word_bits b))) → Shared a b r
unfolding string_of
shared-promise a b r e =
    record {
      answer = e ∙ sym (length-lcp-take a.width b.width (word_bits a) (word_bits b));
      left = omega arith;
      right = omega arith;
    }

-- a prefix whose words are those of a with the bits after its width blanked
cut-blank : (a r : Prefix) (n : ℕ) → r ≡ cut_of a n → r.width ≡ n → n ≤ a.width → a.width ≤ 128 → word_bits r ≡ blank n (word_bits a)
    → Cut a n r
unfolding string_of
cut-blank a r n is w h g e =
    record {
      answer = is;
      width = w;
      string = rw (e, w) (take-blank n (word_bits a) ∙ sym (take-take n a.width (word_bits a) h));
      valid = record { narrow = omega arith; clean = rw (e, w) (clear-drop-blank n (word_bits a)) };
    }

-- ---- cut_of

bits-blank : (n x : ℕ) → bits_of 32 (value (blank n (bits_of 32 x))) ≡ blank n (bits_of 32 x)
bits-blank n x = rw (length-blank, length-bits_of) at (bits_of-value (blank n (bits_of 32 x)))

word_bits-cut_of : (a : Prefix) (n : ℕ) → word_bits (cut_of a n) ≡ blank n (word_bits a)
unfolding word_bits cut_of
word_bits-cut_of a n =
    rw (bits-blank n a.w0, bits-blank (n - 32) a.w1, bits-blank (n - 64) a.w2, bits-blank (n - 96) a.w3, blank-word_bits)

module _ (a : Prefix) (n : ℕ) (h : n ≤ a.width) (g : a.width ≤ 128) where
  cut-cut_of : Cut a n (cut_of a n)
  unfolding cut_of
  cut-cut_of = cut-blank a (cut_of a n) n refl refl h g (word_bits-cut_of a n)

  pub valid-cut_of : Valid (cut_of a n)
  valid-cut_of = cut-cut_of.valid

  pub string_of-cut_of : string_of (cut_of a n) ≡ take n (string_of a)
  string_of-cut_of = cut-cut_of.string

-- ---- cut

small-cut_of : (a : Prefix) (n : ℕ) → Small (cut_of a n)
unfolding cut_of
small-cut_of a n = (blank-lt n a.w0, blank-lt (n - 32) a.w1, blank-lt (n - 64) a.w2, blank-lt (n - 96) a.w3)
  where
    blank-lt : (m x : ℕ) → value (blank m (bits_of 32 x)) < 2 ^ 32
    blank-lt m x = rw (length-blank, length-bits_of) at (value-lt (blank m (bits_of 32 x)))

cut-promise : (a r : Prefix) (n x y u v : ℕ) → a.width ≤ 128 → n ≤ a.width → High a x → Low a y → Small r → Halves n u v r
    → bits_of 64 u ≡ blank n (bits_of 64 x) → bits_of 64 v ≡ blank (n - 64) (bits_of 64 y) → Cut a n r
unfolding cut_of
cut-promise a r n x y u v g h hx hy small s eu ev =
    let e : word_bits r ≡ blank n (word_bits a) = word_bits-blank a r x y u v n hx hy s eu ev in
    let i = word_bits_inj r (cut_of a n) small (small-cut_of a n) (e ∙ sym (word_bits-cut_of a n)) in
    cut-blank a r n (λ j. record { w0 = i.0 j; w1 = i.1 j; w2 = i.2 j; w3 = i.3 j; width = s.width j }) s.width h g e

-- one law for each way out: the second half goes whole, or the first stays whole
module _ (a r : Prefix) (n x : ℕ) (g : a.width ≤ 128) (h : n ≤ a.width) (hx : High a x) (small : Small r) where
  pub cut_short : (u : ℕ) → n < 64 → Halves n u 0 r → bits_of 64 u ≡ blank n (bits_of 64 x) → Cut a n r
  cut_short u f s e =
      let half : ℕ = value (drop 64 (word_bits a)) in
      let low : Low a half = rw (length-drop, length-word_bits) at (bits_of-value (drop 64 (word_bits a))) in
      let z : n - 64 ≡ 0 = omega arith in
      cut-promise a r n x half u 0 g h hx low small s e (rw z (bits_of_zero 64 half))

  pub cut-long : (y v : ℕ) → 64 ≤ n → Low a y → Halves n x v r → bits_of 64 v ≡ blank (n - 64) (bits_of 64 y) → Cut a n r
  cut-long y v f hy s e =
      cut-promise a r n x y x v g h hx hy small s (sym (blank-all n (bits_of 64 x) (omega (arith, length-bits_of 64 x)))) e
