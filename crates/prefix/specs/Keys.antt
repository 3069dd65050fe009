-- A prefix of at most 128 bits in four words, as the bit string that it is.
-- Paper 01, "Keys and their order".
--   word_bits p     the 128 bits of the four words
--   string_of p     the prefix's bit string
--   is_valid p      the width is at most 128 and no bit is set after it
--   Valid p         the same as a fact, with its parts
--   cut_of a n      the prefix of the first n bits of a
-- Assumes nothing.
use Rattle.std.specs.Prelude.{ℕ, ◌-◌, ◌≤◌, ◌≡◌, Bool, true, ◌&&◌, ◌++◌, leb, take, drop}
use Rattle.bits.specs.Bits.{Bits}
use Rattle.bits.specs.Numbers.{bits_of, value, clear, blank}
use Rattle.prefix.specs.declared.Prefix.{Prefix}

-- "four 32-bit words. Bit 1 is the highest bit of word 0; bit 128 is the lowest bit of word 3."
unfoldable pub word_bits : Prefix → Bits
word_bits p = bits_of 32 p.w0 ++ (bits_of 32 p.w1 ++ (bits_of 32 p.w2 ++ bits_of 32 p.w3))

-- "A prefix is a width .. and four .. words"
unfoldable pub string_of : Prefix → Bits
string_of p = take p.width (word_bits p)

-- No. 2, BadPrefix: "width above 128, or a bit set after the width" (where this is false)
unfoldable pub is_valid : Prefix → Bool
is_valid p = leb p.width 128 && clear (drop p.width (word_bits p))

-- "a width from 0 to 128", "Every bit after the width is zero."
pub record Valid (p : Prefix) : Type 0 where
  pub narrow : p.width ≤ 128
  pub clean : clear (drop p.width (word_bits p)) ≡ true

-- the prefix of the first n bits of a, as a value
unfoldable pub cut_of : Prefix → ℕ → Prefix
cut_of a n =
    record {
      width = n;
      w0 = value (blank n (bits_of 32 a.w0));
      w1 = value (blank (n - 32) (bits_of 32 a.w1));
      w2 = value (blank (n - 64) (bits_of 32 a.w2));
      w3 = value (blank (n - 96) (bits_of 32 a.w3));
    }
