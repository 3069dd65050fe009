-- Bit strings as the paper writes them, "0110".
--   bits s    the bit string of a text of 0 and 1
-- Assumes nothing.
use Prim.Native.Char.{code}
use Prim.Native.String as S
use Prim.Native.String.{String}
use Rattle.std.specs.Prelude.{[], ◌∷◌, eqb}
use Rattle.bits.specs.Bits.{Bits}

-- (a character other than 1, whose code is 49, is a 0)
abbrev pub bits : String → Bits
bits S.[] = []
bits (S.◌∷◌ c s) = eqb (code c) 49 ∷ bits s
