-- The search in an image by some of the address's bits.
-- Internal: what the code's loop is held to; no public contract cites it.
--   words_bits ws       the bits of some words, the highest first
--   follow_on bs n i k  the last record that the search reads from node i on: a node where the bits run out
-- Assumes nothing.
use Rattle.std.specs.Prelude.{ℕ, cond, List, [], ◌∷◌, ◌++◌, ltb}
use Rattle.bits.specs.Bits.{Bits}
use Rattle.bits.specs.Numbers.{bits_of}
use Rattle.image_lookup.specs.Looking.{record_in}

abbrev pub words_bits : List ℕ → Bits
words_bits [] = []
words_bits (w ∷ ws) = bits_of 32 w ++ words_bits ws

abbrev pub follow_on : List ℕ → ℕ → ℕ → Bits → ℕ
follow_on bs n i [] = i
follow_on bs n i (x ∷ k) = cond (ltb (record_in bs i x) n) (follow_on bs n (record_in bs i x) k) (record_in bs i x)
