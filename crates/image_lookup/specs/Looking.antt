-- The image lookup over any bytes, and its promise.
-- Paper 01, "The image": "Image lookup takes 128 bits and gives a zone number or no data; it is right for
-- bytes the checker accepted."
--   record_in bs i x      the record of side x of the node i
--   entry_on bs at        the data entry at a byte
--   leaf_on bs n r        what a record answers that is no node, of n nodes
--   walk_on bs n i k      the search from the node i by the bits of k
--   look_on bs k          what the lookup answers
--   address_bits          the 128 bits of four words
--   values_of             the values of an answer
--   found_of              the answer for a longest match
--   LookImage             the contract of `look`
-- Assumes nothing.
use Rattle.std.specs.Prelude.{ℕ, ◌+◌, ◌-◌, ◌*◌, ◌≡◌, Bool, ◌&&◌, cond, List, [], ◌∷◌, ◌++◌, leb, ltb, eqb, length, get_or, Option, Some, None, Result, Ok, Err}
use Rattle.std.proofs.Math.Option as math
use Rattle.bits.specs.Bits.{Bits}
use Rattle.bits.specs.Numbers.{bits_of}
use Rattle.refusals.specs.Refusals.{number_of, OneOf}
use Rattle.refusals.specs.declared.Refusal.{Refusal}
use Rattle.refusals.specs.declared.Refusal.TheVariants.{BadImage}
use Rattle.zones.specs.Maps.{Entry, Map, longest_match}
use Rattle.image.specs.Image.{size24, IsImage}
use Rattle.metadata.specs.Frames.{number_at, count_on}
use Rattle.metadata.specs.declared.Nodes.{Nodes}

-- "each two 24-bit records, left (bit 0) then right"
unfoldable pub record_in : List ℕ → ℕ → Bool → ℕ
record_in bs i x = number_at bs (6 * i + cond x 3 0) 3

-- "one byte C0 + size, then the number"
unfoldable pub entry_on : List ℕ → ℕ → Result (Option ℕ) Refusal
entry_on bs at =
    cond (leb 0xC0 (get_or bs at 0) && (leb (get_or bs at 0) 0xC4 && ltb (at + (get_or bs at 0 - 0xC0)) (length bs)))
    (Ok (Some (number_at bs (at + 1) (get_or bs at 0 - 0xC0)))) (Err BadImage)

-- "equal to N is no data; N + 16 + d means the data entry at offset d. N + 1 to N + 15 are bad." (The data
-- section starts at byte 6N + 16.)
unfoldable pub leaf_on : List ℕ → ℕ → ℕ → Result (Option ℕ) Refusal
leaf_on bs n r = cond (eqb r n) (Ok None) (cond (ltb r (n + 16)) (Err BadImage) (entry_on bs (5 * n + r)))

-- "A record below N is a node"
abbrev pub walk_on : List ℕ → ℕ → ℕ → Bits → Result (Option ℕ) Refusal
walk_on bs n i [] = Err BadImage
walk_on bs n i (x ∷ k) = cond (ltb (record_in bs i x) n) (walk_on bs n (record_in bs i x) k) (leaf_on bs n (record_in bs i x))

abbrev pub look_from : List ℕ → Option Nodes → Bits → Result (Option ℕ) Refusal
look_from bs None k = Err BadImage
look_from bs (Some x) k = cond (leb (6 * x.count) (length bs)) (walk_on bs x.count 0 k) (Err BadImage)

unfoldable pub look_on : List ℕ → Bits → Result (Option ℕ) Refusal
look_on bs k = look_from bs (count_on bs) k

-- "Image lookup takes 128 bits" (in four words, as a prefix of width 128 has them)
unfoldable pub address_bits : ℕ → ℕ → ℕ → ℕ → Bits
address_bits w0 w1 w2 w3 = bits_of 32 w0 ++ (bits_of 32 w1 ++ (bits_of 32 w2 ++ bits_of 32 w3))

-- whether there is a zone number, and it
abbrev pub values_of : Result (Option ℕ) Refusal → List ℕ
values_of (Ok (Some z)) = 1 ∷ z ∷ []
values_of (Ok None) = 0 ∷ 0 ∷ []
values_of (Err e) = 0 ∷ 0 ∷ []

abbrev pub found_of : math.Option Entry → Result (Option ℕ) Refusal
found_of math.none = Ok None
found_of (math.some e) = Ok (Some e.zone)

-- ---- what `look` promises

pub record LookImage (bs : List ℕ) (k : Bits) (r : Result (Option ℕ) Refusal) : Type 0 where
  -- one value on any bytes
  pub answer : r ≡ look_on bs k
  -- No. 9, BadImage: "lookup met bytes no image has"
  pub refusal : OneOf (0 ∷ 9 ∷ []) (number_of r)
  -- "it is right for bytes the checker accepted": the longest match of any list that gives these bytes
  pub meaning : (m : Map) (epoch : ℕ) → IsImage size24 bs m epoch → r ≡ found_of (longest_match k m)
  -- never in an image
  pub number : (m : Map) (epoch : ℕ) → IsImage size24 bs m epoch → number_of r ≡ 0
  -- "all others return zero counts"
  pub kept : number_of r ≡ 9 → values_of r ≡ 0 ∷ 0 ∷ []
