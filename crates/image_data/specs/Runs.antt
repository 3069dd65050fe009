-- The data section in runs: how many entries of each length there are, and where each run starts.
-- Paper 01, "The image": "ascending, each once, as MaxMind uint32".
-- Internal: what the writer's own functions are held to; no public contract cites it.
--   run_of s zs         the numbers of zs that take s bytes
--   count_of s zs       how many they are
--   runs_of zs          that for 0 to 4 bytes
--   none                no entries
--   share_of, start_of  how many numbers of s bytes there are, and where their run starts
--   length_of runs      the bytes of the data section
--   one_more runs s     the runs with one more number, of s bytes
--   DataAt              bytes have the data section of zs at a place
--   RunAt               bytes have the entries of ascending numbers of s bytes at a place
--   Placed              what `place_in` promises: the place of a number in its run
--   Offset              what `offset_of` promises: the offset of a number's entry
-- Assumes nothing.
use Rattle.std.specs.Prelude.{ℕ, zero, suc, ◌+◌, ◌*◌, ◌^◌, ◌≤◌, ◌<◌, ◌≡◌, T, ltb, eqb, length, take, drop, get_or, slice_set}
use mathlib.Core.List.{List, [], ◌∷◌, Memᴰ}
use Rattle.bits.specs.Lists.{all, keep}
use Rattle.image.specs.Bytes.{short}
use Rattle.image.specs.Image.{data_of, offset}
use Rattle.image.specs.Ascending.{ascending_numbers}
use Rattle.metadata.specs.Frames.{number_at}
use Rattle.image_data.specs.declared.Runs.{Runs}

abbrev pub run_of : ℕ → List ℕ → List ℕ
run_of s zs = keep (λ z. eqb (length (short z)) s) zs

unfoldable pub count_of : ℕ → List ℕ → ℕ
count_of s zs = length (run_of s zs)

unfoldable pub runs_of : List ℕ → Runs
runs_of zs = record { counts = count_of 0 zs ∷ count_of 1 zs ∷ count_of 2 zs ∷ count_of 3 zs ∷ count_of 4 zs ∷ [] }

abbrev pub none : Runs
none = record { counts = 0 ∷ 0 ∷ 0 ∷ 0 ∷ 0 ∷ [] }

abbrev pub share_of : Runs → ℕ → ℕ
share_of r s = get_or r.counts s 0

-- "one byte C0 + size, then the number"
abbrev pub start_of : Runs → ℕ → ℕ
start_of r zero = 0
start_of r (suc s) = start_of r s + suc s * share_of r s

unfoldable pub length_of : Runs → ℕ
length_of r = start_of r 5

abbrev pub one_more : Runs → ℕ → Runs
one_more r s = record { counts = slice_set r.counts s (share_of r s + 1) }

pub record DataAt (bs : List ℕ) (base : ℕ) (zs : List ℕ) : Type 0 where
  pub ascends : T (ascending_numbers zs)
  pub zones_fit : T (all (λ z. ltb z (2 ^ 32)) zs)
  pub inside : base + length (data_of zs) ≤ length bs
  pub stands : take (length (data_of zs)) (drop base bs) ≡ data_of zs

-- ---- what the calls promise

-- (entry i of a run: its control byte, then the number in s bytes)
pub record RunAt (bs : List ℕ) (at s : ℕ) (ys : List ℕ) : Type 0 where
  pub ascends : T (ascending_numbers ys)
  pub spells : (i : ℕ) → i < length ys → number_at bs (at + (s + 1) * i + 1) s ≡ get_or ys i 0

pub record Placed (bs : List ℕ) (at s count z r : ℕ) : Type 0 where
  -- on any bytes
  pub within : r ≤ count
  pub right : (ys : List ℕ) → RunAt bs at s ys → length ys ≡ count → (i : ℕ) → i < count → get_or ys i 0 ≡ z → r ≡ i

pub record Offset (bs : List ℕ) (base : ℕ) (runs : Runs) (z r : ℕ) : Type 0 where
  -- on any bytes, and for a number that is not there
  pub within : r ≤ length_of runs
  pub right : (zs : List ℕ) → DataAt bs base zs → runs ≡ runs_of zs → Memᴰ z zs → r ≡ offset zs z
