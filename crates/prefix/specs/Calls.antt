-- What the functions on prefixes answer.
-- Internal: what this crate's own functions are held to; no public contract cites it.
-- Paper 01, "Keys and their order".
--   Validity, Shared, Cut   the contracts of `valid`, `shared` and `cut`
--   High p x, Low p x   the number x is the first 64 bits of p, the last 64
--   Halves n x y r   the contract of `of_halves`
--   Parting x y i r   the contract of `parting`
-- Assumes nothing.
use Rattle.std.specs.Prelude.{ℕ, ◌≤◌, ◌<◌, ◌≡◌, Bool, true, length, take, drop}
use Rattle.bits.specs.Bits.{lcp}
use Rattle.bits.specs.Numbers.{bits_of}
use Rattle.prefix.specs.Keys.{word_bits, string_of, is_valid, Valid, cut_of}
use Rattle.prefix.specs.declared.Prefix.{Prefix}

pub record Validity (p : Prefix) (r : Bool) : Type 0 where
  pub answer : r ≡ is_valid p
  pub yes : r ≡ true → Valid p

-- r is the length of the longest common prefix of a and b
pub record Shared (a b : Prefix) (r : ℕ) : Type 0 where
  pub answer : r ≡ length (lcp (string_of a) (string_of b))
  pub left : r ≤ a.width
  pub right : r ≤ b.width

-- r is the prefix of the first n bits of a
pub record Cut (a : Prefix) (n : ℕ) (r : Prefix) : Type 0 where
  pub answer : r ≡ cut_of a n
  pub width : r.width ≡ n
  pub string : string_of r ≡ take n (string_of a)
  pub valid : Valid r

-- the four words two by two: "Bit 1 is the highest bit of word 0; bit 128 is the lowest bit of word 3."
abbrev pub High : Prefix → ℕ → Type 0
High p x = bits_of 64 x ≡ take 64 (word_bits p)

abbrev pub Low : Prefix → ℕ → Type 0
Low p x = bits_of 64 x ≡ drop 64 (word_bits p)

-- r is the prefix of the width n that has x for its first 64 bits and y for its last
pub record Halves (n x y : ℕ) (r : Prefix) : Type 0 where
  pub width : r.width ≡ n
  pub high : High r x
  pub low : Low r y

-- r says whether x and y, of 64 bits, part after the bit i, at it or before it
pub record Parting (x y i r : ℕ) : Type 0 where
  pub after : r ≡ 0 → i < length (lcp (bits_of 64 x) (bits_of 64 y))
  pub at : r ≡ 1 → length (lcp (bits_of 64 x) (bits_of 64 y)) ≡ i
  pub before : 1 < r → length (lcp (bits_of 64 x) (bits_of 64 y)) < i
