-- Ground cells from positions: a longitude and a latitude give the 64 bits of a cell.
-- Paper 01, "Positions and cells" and "Numbered refusals".
--   within half z     z is from -half to half
--   shifted half z    z + half
--   column, row       the column of a longitude, the row of a latitude
--   interleave        the bits of the two in turn
--   cell_bits          the 64 bits of a cell
--   in_range           both parts of a position are in their range
--   cell_of            what `cell` answers
--   values_of         an answer's values
--   Cell              the contract of `cell`
-- Assumes nothing.
use Rattle.std.specs.Prelude.{ℕ, suc, ◌+◌, ◌-◌, ◌*◌, ◌/◌, min, ◌≡◌, Bool, ◌&&◌, cond, List, [], ◌∷◌, Result, Ok, Err, leb, ℤ, pos, negsuc, take, drop}
use Rattle.bits.specs.Bits.{Bits}
use Rattle.bits.specs.Numbers.{bits_of, value}
use Rattle.prefix.specs.Keys.{string_of, Valid}
use Rattle.prefix.specs.declared.Prefix.{Prefix}
use Rattle.refusals.specs.Refusals.{number_of}
use Rattle.refusals.specs.declared.Refusal.{Refusal}
use Rattle.refusals.specs.declared.Refusal.TheVariants.{BadPosition}

abbrev pub within : ℕ → ℤ → Bool
within half (pos n) = leb n half
within half (negsuc n) = leb (suc n) half

-- (never below 0 where z is within)
abbrev pub shifted : ℕ → ℤ → ℕ
shifted half (pos n) = half + n
shifted half (negsuc n) = half - suc n

-- "-1,800,000,000 to 1,800,000,000"
abbrev pub half_turn : ℕ
half_turn = 1800000000

-- "likewise, -900,000,000 to 900,000,000"
abbrev pub quarter_turn : ℕ
quarter_turn = 900000000

-- "floor((longitude + 1,800,000,000) x 4,294,967,296 / 3,600,000,000)"
-- "floor((latitude + 900,000,000) x 4,294,967,296 / 1,800,000,000)"
unfoldable pub scaled : ℕ → ℤ → ℕ
scaled half z = shifted half z * 4294967296 / (2 * half)

-- "A result of 4,294,967,296 is taken as 4,294,967,295, for column and row alike."
unfoldable pub column : ℤ → ℕ
column longitude = min (scaled half_turn longitude) 4294967295

unfoldable pub row : ℤ → ℕ
row latitude = min (scaled quarter_turn latitude) 4294967295

-- "interleaves the two, highest bits first, column bit before row bit"
abbrev pub interleave : Bits → Bits → Bits
interleave [] ys = []
interleave (x ∷ xs) [] = []
interleave (x ∷ xs) (y ∷ ys) = x ∷ y ∷ interleave xs ys

-- "giving 64 bits"
unfoldable pub cell_bits : ℤ → ℤ → Bits
cell_bits longitude latitude = interleave (bits_of 32 (column longitude)) (bits_of 32 (row latitude))

unfoldable pub in_range : ℤ → ℤ → Bool
in_range longitude latitude = within half_turn longitude && within quarter_turn latitude

-- "These are the bits of a prefix of width 64." (its first two words, and zeros)
unfoldable pub prefix_of : Bits → Prefix
prefix_of k = record { width = 64; w0 = value (take 32 k); w1 = value (drop 32 k); w2 = 0; w3 = 0 }

-- No. 3, BadPosition: "longitude or latitude outside its range"
unfoldable pub cell_of : ℤ → ℤ → Result Prefix Refusal
cell_of longitude latitude = cond (in_range longitude latitude) (Ok (prefix_of (cell_bits longitude latitude))) (Err BadPosition)

-- (the key words and the width, as a listing has them)
abbrev pub values_of : Result Prefix Refusal → List ℕ
values_of (Ok p) = p.w0 ∷ p.w1 ∷ p.w2 ∷ p.w3 ∷ p.width ∷ []
values_of (Err e) = 0 ∷ 0 ∷ 0 ∷ 0 ∷ 0 ∷ []

-- ---- what `cell` promises, for every pair of 32-bit numbers

pub record Cell (longitude latitude : ℤ) (r : Result Prefix Refusal) : Type 0 where
  -- one value, so no other answer meets it
  pub answer : r ≡ cell_of longitude latitude
  pub number : number_of r ≡ cond (in_range longitude latitude) 0 3
  pub kept : number_of r ≡ 3 → values_of r ≡ 0 ∷ 0 ∷ 0 ∷ 0 ∷ 0 ∷ []
  -- a cell is a valid prefix, and its string is the paper's 64 bits
  pub meaning : (p : Prefix) → r ≡ Ok p → Valid p × (p.width ≡ 64) × (string_of p ≡ cell_bits longitude latitude)
