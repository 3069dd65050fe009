-- A slice: what it answers and writes on any words, and its promise.
-- Paper 01, "Listing in slices" and "Numbered refusals".
--   sound_of, refused_of  the refusals before any record is read, in their order
--   counted_of            the tour's answer, with the resume's path counted in
--   slice_on              the answer and the output, on any words
--   values_of             an answer's values
--   words_of m            the entries of m as they stand in the output
--   Slice                 the contract of `slice`
-- Assumes nothing.
use Rattle.std.specs.Prelude.{ℕ, suc, ◌+◌, ◌*◌, ◌≡◌, Bool, true, false, cond, List, [], ◌∷◌, ◌++◌, ltb, eqb, length, take, drop, replicate, Option, None, Some, Result, Ok, Err}
use Rattle.std.proofs.Math.Option as maps
use Rattle.bits.specs.Lists.{each}
use Rattle.bits.specs.Bits.{Bits}
use Rattle.bits.specs.Numbers.{value}
use Rattle.refusals.specs.Refusals.{number_of, GivenExactly}
use Rattle.refusals.specs.declared.Refusal.{Refusal}
use Rattle.refusals.specs.declared.Refusal.TheVariants.{BadLength, BadPrefix, BadSize, ShortOut}
use Rattle.prefix.specs.Keys.{string_of, is_valid}
use Rattle.prefix.specs.declared.Prefix.{Prefix}
use Rattle.zones.specs.Maps.{Entry, Map}
use Rattle.zones.specs.Slices.{given, remains, count}
use Rattle.records.specs.Layout.{is_table}
use Rattle.records.specs.Holds.{Holds}
use Rattle.listing.specs.Touring.{Seeking, start_on, gives, Touring, tour_from}
use Rattle.listing.specs.declared.Sliced.{Sliced}
use Rattle.listing.specs.declared.way.Seek.{Seek}

abbrev pub sound_of : Option Prefix → Bool
sound_of None = true
sound_of (Some k) = is_valid k

-- Nos. 1, 2, 4 and 5 in their order: BadSize, "b is 0 or above 4,096"; ShortOut, "listing .. output too
-- short": "at least 6b words"
unfoldable pub refused_of : ℕ → Option Prefix → ℕ → ℕ → Result (Unit {0}) Refusal
refused_of n r b room =
    cond (is_table n)
    (cond (sound_of r)
    (cond (eqb b 0) (Err BadSize) (cond (ltb 4096 b) (Err BadSize) (cond (ltb room (6 * b)) (Err (ShortOut (6 * b))) (Ok tt))))
    (Err BadPrefix))
    (Err BadLength)

-- "plus the length of the resume prefix's path"
abbrev pub counted_of : Result Sliced Refusal → ℕ → Result Sliced Refusal
counted_of (Err e) found = Err e
counted_of (Ok s) found = gives s.given s.more (s.count + found)

pub record Sliding : Type 0 where
  pub answer : Result Sliced Refusal
  pub words : List ℕ

abbrev pub toured_of : Touring → ℕ → Sliding
toured_of t found = record { answer = counted_of t.out found; words = t.words }

abbrev pub sought_from : List ℕ → ℕ → List ℕ → List ℕ → ℕ → Result Seek Refusal → Sliding
sought_from ws b us ls o (Err e) = record { answer = Err e; words = us }
sought_from ws b us ls o (Ok s) = toured_of (tour_from ws b s.next o ls us) s.found

abbrev pub started_from : List ℕ → ℕ → List ℕ → Seeking → Sliding
started_from ws b us s = sought_from ws b us s.links s.depth s.out

abbrev pub sliding_of : List ℕ → Option Prefix → ℕ → List ℕ → Result (Unit {0}) Refusal → Sliding
sliding_of ws r b us (Err e) = record { answer = Err e; words = us }
sliding_of ws r b us (Ok u) = started_from ws b us (start_on ws r (replicate 129 0))

unfoldable pub slice_on : List ℕ → Option Prefix → ℕ → List ℕ → Sliding
slice_on ws r b us = sliding_of ws r b us (refused_of (length ws) r b (length us))

-- how many were given, 1 if more remain, the count
abbrev pub values_of : Result Sliced Refusal → List ℕ
values_of (Ok s) = s.given ∷ cond s.more 1 0 ∷ s.count ∷ []
values_of (Err e) = 0 ∷ 0 ∷ 0 ∷ []

-- ---- on words that hold a map

abbrev pub resume_of : Option Prefix → maps.Option Bits
resume_of None = maps.none
resume_of (Some k) = maps.some (string_of k)

-- the word i of the four that hold a key
unfoldable pub word_of : ℕ → Bits → ℕ
word_of i k = value (take 32 (drop (32 * i) (k ++ replicate 128 false)))

-- "Each takes six words: the four key words, the width, the zone number."
abbrev pub entry_words : Entry → List ℕ
entry_words e = word_of 0 e.key ∷ word_of 1 e.key ∷ word_of 2 e.key ∷ word_of 3 e.key ∷ length e.key ∷ e.zone ∷ []

abbrev pub words_of : Map → List ℕ
words_of m = each entry_words m

-- ---- what `slice` promises: words ws, output us before and after

pub record Slice (ws : List ℕ) (r : Option Prefix) (b : ℕ) (us : List ℕ) (x : Result Sliced Refusal) (after : List ℕ) : Type 0 where
  -- on any words the answer and the output are one function's value, so nothing else meets it
  pub answer : slice_on ws r b us ≡ record { answer = x; words = after }
  -- "The first that applies, in this order, is given"
  pub refusal : GivenExactly (number_of (refused_of (length ws) r b (length us))) (0 ∷ 6 ∷ []) (number_of x)
  -- "return zero counts and leave every lent byte and word, except that a Damaged listing .. may have written its
  -- output"
  pub counts : (n : ℕ) → number_of x ≡ suc n → values_of x ≡ 0 ∷ 0 ∷ 0 ∷ []
  pub kept : (n : ℕ) → number_of (refused_of (length ws) r b (length us)) ≡ suc n → after ≡ us
  -- on words that hold a map, where no refusal applies: what is given, whether more remain, and the count
  pub meaning : (m : Map) → Holds ws m → refused_of (length ws) r b (length us) ≡ Ok tt
      → x ≡ gives (length (given m (resume_of r) b)) (remains m (resume_of r) b) (count m (resume_of r) b)
  -- "Words after those stay."
  pub written : (m : Map) → Holds ws m → refused_of (length ws) r b (length us) ≡ Ok tt
      → after ≡ words_of (given m (resume_of r) b) ++ drop (6 * length (given m (resume_of r) b)) us
