-- The laws of writing bytes one after the other, and of reading a number byte by byte: a law for each turn of
-- the loops, and for each way out. No contract cites this file.
-- Assumes nothing.
use Prim.Native.Nat.{ℕ, zero, suc, ◌+◌, ◌-◌, ◌*◌, ◌/◌, ◌%◌, ◌^◌, ◌≤◌, ◌<◌}
use native.Mathlib.Nat.{add-zero, zero-add, add_assoc, mul_assoc, add-mul, pow-suc, pow-le-pow_right, lt_of_lt_of_le}
use native.Mathlib.Numerals.{add-one}
use native.Mathlib.Omega.{arith}
use mathlib.Core.Path.{◌≡◌, refl, sym, ap, ◌∙◌}
use mathlib.Core.List.{List, [], ◌∷◌, ◌++◌, append_assoc}
use lib.Arith.{digits_lt}
use lib.Dec.{lit<}
use lib.ListN.{length, take, drop, get_or, length-append, length-drop}
use lib.Seq.{sets, sets-eq, length-sets, drop-drop, take-suc, take_all, get_or-drop}
use borrow.Rule.Slice.PartMut.{put_mid}
use Rattle.std.specs.Int.{byte_at, bytes_high_first}
use Rattle.std.proofs.lemmas.List.{length-take-le}
use Rattle.image.specs.Bytes.{bytes_of, short}
use Rattle.image.proofs.LengthLaws.{length-bytes_of}
use Rattle.image.proofs.BytesLaws.{short-lowest}
use Rattle.image.proofs.SetsLaws.{sets-append}
use Rattle.metadata.specs.Frames.{value_of, number_at}
use Rattle.metadata.specs.Writing.{Put, NumberAt}

-- ---- Put

module _ {old mid new vs ws : List ℕ} {at r q : ℕ} where
  pub put-append : Put old at vs mid r → Put mid r ws new q → Put old at (vs ++ ws) new q
  put-append h k =
      record {
        bytes = k.bytes ∙ rw (h.bytes, h.end) (sym (sets-append old at vs ws));
        end = omega (arith, h.end, k.end, length-append vs ws);
        room = k.room ∙ h.room;
      }

-- a part that is written whole
pub put-part : (old s : List ℕ) (at k : ℕ) (ys : List ℕ) → at + length s ≤ length old → k ≡ length s → ys ≡ s
    → Put old at s (put_mid at k old ys) (at + length s)
put-part old s at k ys h e q =
    let is : put_mid at k old ys ≡ sets old at s =
    rw (q, e, sets-eq s old at h) (simp (append_assoc, drop-drop)) in
    record { bytes = is; end = refl; room = ap length is ∙ length-sets old at s }

-- control bytes, then a number without leading zero bytes
pub put-number : {old new : List ℕ} {at r : ℕ} (control : List ℕ) (n v : ℕ) → n ≡ length (short v)
    → Put (sets old at control) (at + length control) (bytes_of n v) new r → Put old at (control ++ short v) new r
put-number {old} {new} {at} {r} control n v e h =
    let front : Put old at control (sets old at control) (at + length control) =
    record { bytes = refl; end = refl; room = length-sets old at control } in
    let is : bytes_of n v ≡ short v = ap (λ (k : ℕ). bytes_of k v) e ∙ sym (short-lowest v) in
    put-append front (rw is at h)

-- ---- bytes_of

byte_at-is : (k v : ℕ) → byte_at k v ≡ v / 256 ^ k % 256
byte_at-is zero v = grind arith
byte_at-is (suc k) v = refl

bytes_high_first-is : (n v : ℕ) → bytes_high_first n v ≡ bytes_of n v
bytes_high_first-is zero v = refl
bytes_high_first-is (suc n) v = cc (byte_at-is n v, bytes_high_first-is n v)

drop-bytes_of : (d n v : ℕ) → drop d (bytes_of (d + n) v) ≡ bytes_of n v
drop-bytes_of zero n v = ap (λ (k : ℕ). bytes_of k v) (zero-add n)
drop-bytes_of (suc d) n v = let e : suc d + n ≡ suc (d + n) = omega arith in rw e (drop-bytes_of d n v)

-- the last n of its eight bytes
pub last-bytes : (bs : List ℕ) (n v : ℕ) → bs ≡ bytes_high_first 8 v → n ≤ 8 → take (8 - (8 - n)) (drop (8 - n) bs) ≡ bytes_of n v
last-bytes bs n v q h =
    let e : 8 - n + n ≡ 8 = omega arith in
    let last : drop (8 - n) bs ≡ bytes_of n v = ap (drop (8 - n)) (q ∙ bytes_high_first-is 8 v) ∙ (rw e at (drop-bytes_of (8 - n) n v)) in
    rw last (take_all (8 - (8 - n)) (bytes_of n v) (omega (arith, length-bytes_of n v)))

-- ---- number_at

value_of-snoc : (bs : List ℕ) (b : ℕ) → value_of (bs ++ (b ∷ [])) ≡ value_of bs * 256 + b
value_of-snoc [] b = omega arith
value_of-snoc (x ∷ bs) b =
    rw (length-append bs (b ∷ []), add-one (length bs), pow-suc 256 (length bs), value_of-snoc bs b)
    (simp (add-mul, mul_assoc, add_assoc))

-- one more byte
pub value_of_next : (bs : List ℕ) (i : ℕ) → i < length bs → value_of (take (i + 1) bs) ≡ value_of (take i bs) * 256 + get_or bs i 0
value_of_next bs i h = rw (add-one i, take-suc bs i 0 h) (value_of-snoc (take i bs) (get_or bs i 0))

number_at_zero : (bs : List ℕ) (at : ℕ) → number_at bs at 0 ≡ 0
unfolding number_at
number_at_zero bs at = refl

number_at_next : (bs : List ℕ) (at i : ℕ) → at + i < length bs → number_at bs at (i + 1) ≡ number_at bs at i * 256 + get_or bs (at + i) 0
unfolding number_at
number_at_next bs at i h =
    let l : i < length (drop at bs) = omega (arith, length-drop at bs) in
    rw (value_of_next (drop at bs) i l, get_or-drop at bs i 0)

pub next-lt : (v b i : ℕ) → v < 256 ^ i → b < 256 → v * 256 + b < 256 ^ (i + 1)
next-lt v b i h k = rw (add-one i, pow-suc 256 i) (digits_lt h k)

-- it fits 64 bits
pub next_fits : (v b i n : ℕ) → v < 256 ^ i → b < 256 → i < n → n ≤ 8 → v * 256 + b < 2 ^ 64
next_fits v b i n h k l m = lt_of_lt_of_le (next-lt v b i h k) (pow-le-pow_right {n = 256} (lit< tt) {i = i + 1} {j = 8} (omega arith))

-- all of the part
pub number-at : (bs part : List ℕ) (at n i v : ℕ) → part ≡ take n (drop at bs) → at + n ≤ length bs → i ≡ length part → v ≡ value_of (take i part) → v < 256 ^ i
    → NumberAt bs at n v
unfolding number_at
number-at bs part at n i v p r e h l =
    let k : length part ≡ n = rw p (length-take-le n (drop at bs) (omega (arith, length-drop at bs))) in
    let all : take i part ≡ part = take_all i part (omega arith) in
    record { number = h ∙ ap value_of (all ∙ p); small = rw (e ∙ k) at l }

pub number_at_three : (bs : List ℕ) (at : ℕ) → at + 3 ≤ length bs → get_or bs at 0 < 256 → get_or bs (at + 1) 0 < 256 → get_or bs (at + 2) 0 < 256
    → NumberAt bs at 3 ((get_or bs at 0 * 256 + get_or bs (at + 1) 0) * 256 + get_or bs (at + 2) 0)
number_at_three bs at h a b c =
    record {
      number = sym (number_at_next bs at 2 (omega arith) ∙ rw (number_at_next bs at 1 (omega arith), number_at_next bs at 0 (omega arith), number_at_zero bs at, add-zero at) (omega arith));
      small = omega arith;
    }
