-- The laws of the lookup's code: one for each turn of the walk and for each way out. No contract cites this
-- file.
-- Assumes nothing.
use Prim.Native.Nat.{ℕ, zero, suc, ◌+◌, ◌-◌, ◌*◌, ◌/◌, ◌%◌, ◌^◌, ◌≤◌, ◌<◌}
use native.Mathlib.Nat.{lt_of_lt_of_le, pow-le-pow_right, mod-lt}
use native.Mathlib.Numerals.{add-one}
use native.Mathlib.Omega.{arith}
use mathlib.Core.Path.{◌≡◌, refl, sym, ap, ◌∙◌}
use mathlib.Core.Bool.{Bool, true, false, cond}
use mathlib.Core.List.{List, [], ◌∷◌, ◌++◌, append-nil}
use lib.Dec.{ltb, eqb, lit<}
use lib.ListN.{length, length-append, length-drop, drop, get_or}
use lib.Seq.{drop-cons}
use borrow.Author.Tests.{lt-ltb, le-ltb, le-leb, lt-leb, eq-eqb, ne_eqb, ltb-true}
use Rattle.std.specs.Prelude.{Option, Some, None, Result, Ok, Err}
use Rattle.bits.specs.Bits.{Bits}
use Rattle.bits.specs.Numbers.{odd, bits_of}
use Rattle.bits.proofs.NumbersLaws.{length-bits_of}
use Rattle.metadata.specs.Frames.{number_at, count_on}
use Rattle.metadata.specs.declared.Nodes.{Nodes}
use Rattle.refusals.specs.declared.Refusal.{Refusal}
use Rattle.refusals.specs.declared.Refusal.TheVariants.{BadImage}
use Rattle.image_lookup.specs.Looking.{record_in, entry_on, leaf_on, walk_on, look_on, address_bits}
use Rattle.image_lookup.specs.Following.{words_bits, follow_on}

-- ---- entry_on

module _ (bs : List ℕ) (at : ℕ) where
  pub entry_on-zone : 0xC0 ≤ get_or bs at 0 → get_or bs at 0 ≤ 0xC4 → at + (get_or bs at 0 - 0xC0) < length bs → (z : ℕ)
      → z ≡ number_at bs (at + 1) (get_or bs at 0 - 0xC0) → Ok (Some z) ≡ entry_on bs at
  unfolding entry_on
  entry_on-zone l h k z e =
      rw (le-leb 0xC0 (get_or bs at 0) l, le-leb (get_or bs at 0) 0xC4 h, lt-ltb (at + (get_or bs at 0 - 0xC0)) (length bs) k) (ap (λ (n : ℕ). Ok (Some n)) e)

-- a number of at most four bytes
pub four_bytes : (n v : ℕ) → n ≤ 4 → v < 256 ^ n → v < 2 ^ 32
four_bytes n v h l = lt_of_lt_of_le l (pow-le-pow_right {n = 256} (lit< tt) {i = n} {j = 4} h)

-- ---- leaf_on

module _ (bs : List ℕ) (n r : ℕ) where
  pub leaf_on-none : r ≡ n → Ok None ≡ leaf_on bs n r
  unfolding leaf_on
  leaf_on-none h = rw (eq-eqb r n h)

  pub leaf_on-entry : (r ≡ n → ⊥) → n + 16 ≤ r → (a : Result (Option ℕ) Refusal) → a ≡ entry_on bs (5 * n + r) → a ≡ leaf_on bs n r
  unfolding leaf_on
  leaf_on-entry h l a e = rw (ne_eqb r n h, le-ltb r (n + 16) l) e

-- ---- follow_on

-- where the record of a bit starts
side-offset : (y : ℕ) → 3 * (y % 2) ≡ cond (odd y) 3 0
side-offset y = at (y % 2) (mod-lt y (lit< tt))
  where
    at : (r : ℕ) → r < 2 → 3 * r ≡ cond (eqb r 1) 3 0
    at zero h = refl
    at (suc zero) h = refl
    at (suc (suc r)) h = absurd (omega arith)

module _ (bs : List ℕ) (n node left word r : ℕ) (some : 0 < left)
    (read : r ≡ number_at bs (6 * node + 3 * (word / 2 ^ (left - 1) % 2)) 3) where
  read-record : r ≡ record_in bs node (odd (word / 2 ^ (left - 1)))
  unfolding record_in
  read-record = read ∙ ap (λ (c : ℕ). number_at bs (6 * node + c) 3) (side-offset (word / 2 ^ (left - 1)))

  first_bit : bits_of left word ≡ odd (word / 2 ^ (left - 1)) ∷ bits_of (left - 1) word
  unfolding bits_of
  first_bit = let e : left ≡ suc (left - 1) = omega arith in ap (λ (k : ℕ). bits_of k word) e

  pub follow_on_next : r < n → follow_on bs n r (bits_of (left - 1) word) ≡ follow_on bs n node (bits_of left word)
  follow_on_next h = rw (first_bit, ← read-record, lt-ltb r n h)

  pub follow_on-stop : n ≤ r → r ≡ follow_on bs n node (bits_of left word)
  follow_on-stop h = rw (first_bit, ← read-record, le-ltb r n h)

pub follow_on_end : (bs : List ℕ) (n node left word : ℕ) → left ≡ 0 → node ≡ follow_on bs n node (bits_of left word)
unfolding bits_of
follow_on_end bs n node left word e = rw e

-- ---- words_bits

pub length-address_bits : (w0 w1 w2 w3 : ℕ) → length (address_bits w0 w1 w2 w3) ≡ 128
unfolding address_bits
length-address_bits w0 w1 w2 w3 = simp (length-append, length-bits_of)

-- four words are an address
pub words_bits_four : (ws : List ℕ) → length ws ≡ 4 → words_bits ws ≡ address_bits (get_or ws 0 0) (get_or ws 1 0) (get_or ws 2 0) (get_or ws 3 0)
unfolding address_bits
words_bits_four (w0 ∷ w1 ∷ w2 ∷ w3 ∷ []) h = rw append-nil
words_bits_four [] h = absurd (omega arith)
words_bits_four (a ∷ []) h = absurd (omega arith)
words_bits_four (a ∷ b ∷ []) h = absurd (omega arith)
words_bits_four (a ∷ b ∷ c ∷ []) h = absurd (omega arith)
words_bits_four (a ∷ b ∷ c ∷ d ∷ e ∷ ws) h = absurd (omega arith)

-- ---- walk_on

walk_on-follow_at : (b : Bool) (bs : List ℕ) (n r : ℕ) (a k : Bits) → ltb r n ≡ b
    → (r < n → walk_on bs n r (a ++ k) ≡ cond (ltb (follow_on bs n r a) n) (walk_on bs n (follow_on bs n r a) k) (leaf_on bs n (follow_on bs n r a)))
    → cond b (walk_on bs n r (a ++ k)) (leaf_on bs n r)
    ≡ cond (ltb (cond b (follow_on bs n r a) r) n) (walk_on bs n (cond b (follow_on bs n r a) r) k) (leaf_on bs n (cond b (follow_on bs n r a) r))
walk_on-follow_at true bs n r a k e h = h (ltb-true r n e)
walk_on-follow_at false bs n r a k e h = rw e

-- from a node by some bits, and then by others
walk_on-follow : (bs : List ℕ) (n i : ℕ) (a k : Bits) → i < n
    → walk_on bs n i (a ++ k) ≡ cond (ltb (follow_on bs n i a) n) (walk_on bs n (follow_on bs n i a) k) (leaf_on bs n (follow_on bs n i a))
walk_on-follow bs n i [] k h = rw (lt-ltb i n h)
walk_on-follow bs n i (x ∷ a) k h =
    walk_on-follow_at (ltb (record_in bs i x) n) bs n (record_in bs i x) a k refl (walk_on-follow bs n (record_in bs i x) a k)

-- the same by the bits of a word, from any record
walk_on-bits : (bs : List ℕ) (n i m w : ℕ) (k : Bits) (r : ℕ) → r ≡ follow_on bs n i (bits_of (suc m) w)
    → walk_on bs n i (bits_of (suc m) w ++ k) ≡ cond (ltb r n) (walk_on bs n r k) (leaf_on bs n r)
unfolding bits_of
walk_on-bits bs n i m w k r e =
    let x : Bool = odd (w / 2 ^ m) in
    rw e (walk_on-follow_at (ltb (record_in bs i x) n) bs n (record_in bs i x) (bits_of m w) k refl (walk_on-follow bs n (record_in bs i x) (bits_of m w) k))

-- by one word more
module _ (bs : List ℕ) (n i j : ℕ) (ws : List ℕ) (some : j < length ws) (r : ℕ) (e : r ≡ follow_on bs n i (bits_of 32 (get_or ws j 0))) where
  pub walk_on-stop : n ≤ r → leaf_on bs n r ≡ walk_on bs n i (words_bits (drop j ws))
  walk_on-stop h = rw (drop-cons ws j 0 some) (sym (walk_on-bits bs n i 31 (get_or ws j 0) (words_bits (drop (suc j) ws)) r e ∙ rw (le-ltb r n h)))

  pub walk_on_next : r < n → walk_on bs n r (words_bits (drop (j + 1) ws)) ≡ walk_on bs n i (words_bits (drop j ws))
  walk_on_next h =
      rw (add-one j, drop-cons ws j 0 some)
      (sym (walk_on-bits bs n i 31 (get_or ws j 0) (words_bits (drop (suc j) ws)) r e ∙ rw (lt-ltb r n h)))

pub walk_on_end : (bs : List ℕ) (n i j : ℕ) (ws : List ℕ) → length ws ≤ j → Err BadImage ≡ walk_on bs n i (words_bits (drop j ws))
walk_on_end bs n i j ws h =
    let none : drop j ws ≡ [] = empty (drop j ws) (omega (arith, length-drop j ws)) in rw none
  where
    empty : (xs : List ℕ) → length xs ≡ 0 → xs ≡ []
    empty [] e = refl
    empty (x ∷ xs) e = absurd (omega arith)

-- ---- look_on

pub look_on-bad : (bs : List ℕ) (k : Bits) → count_on bs ≡ None → Err BadImage ≡ look_on bs k
unfolding look_on
look_on-bad bs k e = rw e

module _ (bs : List ℕ) (k : Bits) (x : Nodes) (h : count_on bs ≡ Some x) where
  pub look_on_short : length bs < 6 * x.count → Err BadImage ≡ look_on bs k
  unfolding look_on
  look_on_short l = rw (h, lt-leb (6 * x.count) (length bs) l)

  pub look_on-walk : 6 * x.count ≤ length bs → walk_on bs x.count 0 k ≡ look_on bs k
  unfolding look_on
  look_on-walk l = rw (h, le-leb (6 * x.count) (length bs) l)
