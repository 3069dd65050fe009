-- The laws of an entry's six words: the words of a valid key are those that its string says, and what a
-- stored node puts into the output is its entry there. No contract cites this file.
-- Assumes nothing.
use Prim.Native.Nat.{ℕ, zero, suc, ◌+◌, ◌-◌, ◌*◌, ◌/◌, ◌^◌, ◌≤◌, ◌<◌}
use native.Mathlib.Nat.{add-zero, not-suc-le-zero}
use native.Mathlib.Numerals.{towards_suc}
use native.Mathlib.Omega.{arith}
use mathlib.Core.Path.{◌≡◌, refl, sym, ap, ◌∙◌}
use mathlib.Core.Bool.{Bool, true, false}
use mathlib.Core.List.{List, [], ◌∷◌, ◌++◌, append_assoc, append-nil}
use mathlib.Core.Option.{Option}
use lib.ListN.{length, get_or, take, drop, replicate, take-append-drop, length-drop, replicate-append-replicate}
use lib.Seq.{sets, take_at, drop-append-add}
use Rattle.bits.specs.Lists.{each}
use Rattle.bits.specs.Bits.{Bits}
use Rattle.bits.specs.Numbers.{odd, bits_of, value, clear}
use Rattle.bits.proofs.NumbersLaws.{length-bits_of}
use Rattle.bits.proofs.ValueLaws.{value-bits_of}
use Rattle.prefix.specs.Keys.{word_bits, string_of, Valid}
use Rattle.prefix.specs.declared.Prefix.{Prefix}
use Rattle.prefix.proofs.WordsLaws.{Small, length-word_bits}
use Rattle.prefix.proofs.KeysLaws.{length-string_of}
use Rattle.zones.specs.Tree.{own}
use Rattle.records.specs.Layout.{key_of, zone_of}
use Rattle.records.specs.Holds.{Bears}
use Rattle.records.specs.declared.Record.{Record}
use Rattle.listing.specs.Touring.{entry_set, entry_put}
use Rattle.listing.specs.Slicing.{word_of, entry_words, words_of}
use Rattle.listing.proofs.Items.{counts}

-- ---- word_of

abbrev pub key_words : Prefix → List ℕ
key_words p = p.w0 ∷ p.w1 ∷ p.w2 ∷ p.w3 ∷ []

clear-replicate : (a : Bits) → clear a ≡ true → a ≡ replicate (length a) false
clear-replicate [] h = refl
clear-replicate (false ∷ a) h = ap (λ (l : Bits). false ∷ l) (clear-replicate a h)
clear-replicate (true ∷ a) h = cc

-- a string of which the last bits are clear, cut off before them and padded with as many zeros as it has bits
take-padded : (w : ℕ) (a : Bits) → w ≤ length a → clear (drop w a) ≡ true → take w a ++ replicate (length a) false ≡ a ++ replicate w false
take-padded w a h c =
    let zeros : drop w a ≡ replicate (length a - w) false = clear-replicate (drop w a) c ∙ rw length-drop in
    let count : length a ≡ length a - w + w = omega arith in
    let tail : replicate (length a) false ≡ drop w a ++ replicate w false =
    ap (λ (n : ℕ). replicate n false) count ∙ sym (replicate-append-replicate (length a - w) w false)
    ∙ ap (λ (l : Bits). l ++ replicate w false) (sym zeros) in
    rw tail (sym (append_assoc (take w a) (drop w a) (replicate w false)) ∙ rw take-append-drop)

string_of-padded : (p : Prefix) → Valid p → string_of p ++ replicate 128 false ≡ word_bits p ++ replicate p.width false
unfolding string_of
string_of-padded p v =
    ap (λ (n : ℕ). take p.width (word_bits p) ++ replicate n false) (sym (length-word_bits p))
    ∙ take-padded p.width (word_bits p) (omega (arith, length-word_bits p, v.narrow)) v.clean

-- the bits of the word i, in words one after the other
bits_word : (us : List ℕ) (r : Bits) (i : ℕ) → i < length us → take 32 (drop (32 * i) (each (bits_of 32) us ++ r)) ≡ bits_of 32 (get_or us i 0)
bits_word [] r i h = absurd (not-suc-le-zero h)
bits_word (u ∷ us) r zero h = rw append_assoc (take_at (bits_of 32 u) (each (bits_of 32) us ++ r) 32 (length-bits_of 32 u))
bits_word (u ∷ us) r (suc i) h =
    let e : 32 * suc i ≡ length (bits_of 32 u) + 32 * i = omega (arith, length-bits_of 32 u) in
    rw (append_assoc, e, drop-append-add) (bits_word us r i (omega arith))

word_bits-each : (p : Prefix) → word_bits p ≡ each (bits_of 32) (key_words p)
unfolding word_bits
word_bits-each p = rw (append-nil (bits_of 32 p.w3))

pub word_of-string_of : (p : Prefix) (i : ℕ) → Valid p → i < 4 → get_or (key_words p) i 0 < 2 ^ 32
    → word_of i (string_of p) ≡ get_or (key_words p) i 0
unfolding word_of
word_of-string_of p i v h s =
    ap (λ (l : Bits). value (take 32 (drop (32 * i) l)))
    (string_of-padded p v ∙ ap (λ (l : Bits). l ++ replicate p.width false) (word_bits-each p))
    ∙ ap value (bits_word (key_words p) (replicate p.width false) i h) ∙ value-bits_of 32 (get_or (key_words p) i 0) s

-- ---- entry_put

-- the words of a record's entry, as they stand in the record
abbrev six : Record → List ℕ
six r = r.w0 ∷ r.w1 ∷ r.w2 ∷ r.w3 ∷ r.tag / 2 ∷ r.zone ∷ []

entry_set-sets : (us : List ℕ) (n : ℕ) (r : Record) → entry_set us n r ≡ sets us (6 * n) (six r)
unfolding entry_set
entry_set-sets us n r = simp towards_suc

entry_words-six : (r : Record) → Small (key_of r) → Valid (key_of r) → entry_words (record { key = string_of (key_of r); zone = r.zone }) ≡ six r
unfolding key_of
entry_words-six r s v =
    cc (
      word_of-string_of (key_of r) 0 v (omega arith) s.0,
      word_of-string_of (key_of r) 1 v (omega arith) s.1,
      word_of-string_of (key_of r) 2 v (omega arith) s.2,
      word_of-string_of (key_of r) 3 v (omega arith) s.3,
      length-string_of (key_of r) v.narrow,
    )

given_at : (us : List ℕ) (n : ℕ) (r : Record) (t : Bool) → odd r.tag ≡ t → (entry_put us n r).given ≡ n + counts (zone_of r)
unfolding entry_put zone_of
given_at us n r true t = simp t
given_at us n r false t = simp (t, add-zero)

pub given-entry_put : (us : List ℕ) (n : ℕ) (r : Record) (s : Bits) (v : Option ℕ) → Bears r s v → (entry_put us n r).given ≡ n + counts v
given-entry_put us n r s v h = rw (← h.zone) (given_at us n r (odd r.tag) refl)

words_at : (us : List ℕ) (n : ℕ) (r : Record) (t : Bool) → odd r.tag ≡ t → Small (key_of r) → Valid (key_of r)
    → (entry_put us n r).words ≡ sets us (6 * n) (words_of (own (string_of (key_of r)) (zone_of r)))
unfolding entry_put zone_of
words_at us n r true t k v = simp t (entry_set-sets us n r ∙ ap (sets us (6 * n)) (sym (entry_words-six r k v)))
words_at us n r false t k v = simp t

pub words-entry_put : (us : List ℕ) (n : ℕ) (r : Record) (s : Bits) (v : Option ℕ) → Small (key_of r) → Bears r s v
    → (entry_put us n r).words ≡ sets us (6 * n) (words_of (own s v))
words-entry_put us n r s v k h = rw (← h.zone, ← h.string) (words_at us n r (odd r.tag) refl k h.valid)
