-- Numbers as bit strings, highest bit first, and what stands after the first bits of a string.
-- Paper 01, "Keys and their order": "Bit 1 is the highest bit of word 0; bit 128 is the lowest bit of word
-- 3."
--   bits_of n x    the n lowest bits of x, the highest of them first
--   value k        the number that the string k is
--   clear k        no bit of k is set
--   blank n k      the first n bits of k, and a 0 for each other
-- Assumes nothing.
use Rattle.std.specs.Prelude.{ℕ, zero, suc, ◌+◌, ◌*◌, ◌/◌, ◌%◌, ◌^◌, Bool, true, false, not, [], ◌∷◌, eqb}
use Rattle.bits.specs.Lists.{all}
use Rattle.bits.specs.Bits.{Bits}

abbrev pub odd : ℕ → Bool
odd x = eqb (x % 2) 1

-- (x stays as it is, so that a string is split with no bound on x)
unfoldable pub bits_of : ℕ → ℕ → Bits
bits_of zero x = []
bits_of (suc n) x = odd (x / 2 ^ n) ∷ bits_of n x

abbrev pub digit : Bool → ℕ
digit false = 0
digit true = 1

abbrev pub value_from : ℕ → Bits → ℕ
value_from a [] = a
value_from a (x ∷ k) = value_from (a * 2 + digit x) k

unfoldable pub value : Bits → ℕ
value k = value_from 0 k

abbrev pub clear : Bits → Bool
clear k = all not k

abbrev pub blank : ℕ → Bits → Bits
blank n [] = []
blank zero (x ∷ k) = false ∷ blank zero k
blank (suc n) (x ∷ k) = x ∷ blank n k
