-- Numbers and texts as bytes.
-- Paper 01, "The image": "Big-endian throughout."
--   bytes_of n v    the n lowest bytes of v, the highest of them first
--   short v        a number below 2 ^ 64 without leading zero bytes
--   ascii s        the bytes of a text
--   text t, uint16 v, uint32 v, uint64 v   a text and numbers with their control bytes
-- Assumes nothing.
use Rattle.std.specs.Prelude.{ℕ, zero, suc, ◌+◌, ◌/◌, ◌%◌, ◌^◌, cond, List, [], ◌∷◌, eqb, length}
use Prim.Native.Char.{code}
use Prim.Native.String as S
use Prim.Native.String.{String}

abbrev pub bytes_of : ℕ → ℕ → List ℕ
bytes_of zero v = []
bytes_of (suc n) v = v / 256 ^ n % 256 ∷ bytes_of n v

abbrev pub without_zeros : List ℕ → List ℕ
without_zeros [] = []
without_zeros (b ∷ bs) = cond (eqb b 0) (without_zeros bs) (b ∷ bs)

-- "the number without leading zero bytes"
unfoldable pub short : ℕ → List ℕ
short v = without_zeros (bytes_of 8 v)

-- "names stand for their ASCII bytes"
abbrev pub ascii : String → List ℕ
ascii S.[] = []
ascii (S.◌∷◌ c s) = code c ∷ ascii s

-- "A text is 40 (hex) + its length, then its bytes."
unfoldable pub text : List ℕ → List ℕ
text t = (0x40 + length t) ∷ t

-- "one byte C0 + size, then the number without leading zero bytes (0 is C0 alone)"
unfoldable pub uint32 : ℕ → List ℕ
uint32 v = (0xC0 + length (short v)) ∷ short v

-- (record_size is A1 18, binary_format_minor_version A0)
unfoldable pub uint16 : ℕ → List ℕ
uint16 v = (0xA0 + length (short v)) ∷ short v

-- "size byte, 02, then the number"
unfoldable pub uint64 : ℕ → List ℕ
uint64 v = length (short v) ∷ 2 ∷ short v
