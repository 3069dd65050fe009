-- The second answer: the zone shown is the right one.
-- Paper 00, demand 2: "The answer is the longest stored prefix of the key, and the table behaves as a plain map
-- from prefixes to zone numbers. .. The checker accepts exactly the images that some list gives, and an accepted
-- image answers every 128-bit address as that list does."
--   cell_key vs       the key that `nalfipode_cell` leaves in its values
--   shown o           a longest match as `nalfipode_longest_match` tells it: 1, the width and the number, or zeros
--   ZoneIsRight       the second answer
-- Assumes nothing.
use Rattle.std.specs.Prelude.{ℕ, ◌≤◌, ◌≡◌, T, ℤ, length, get_or, take}
use mathlib.Core.List.{List, [], ◌∷◌, Memᴰ}
use Rattle.std.proofs.Math.Option.{Option, none, some}
use Rattle.bits.specs.Lists.{keep}
use Rattle.bits.specs.Bits.{Bits, is_prefix, equal, member}
use Rattle.prefix.specs.Keys.{string_of, Valid}
use Rattle.prefix.specs.declared.Prefix.{Prefix}
use Rattle.ground.specs.Cells.{cell_bits}
use Rattle.zones.specs.Maps.{Entry, Map, keys, longest_match, Longest}
use Rattle.zones.specs.Nodes.{path}
use Rattle.records.specs.Layout.{capacity}
use Rattle.records.specs.Holds.{Holds}
use Rattle.listing.specs.Slicing.{words_of}
use Rattle.image.specs.Image.{Size, size24, fits, IsImage, forks_of, zones_of}
use Rattle.image_lookup.specs.Looking.{address_bits, values_of, found_of}
use Rattle.nalfipode.specs.Keys.{key_of}
use Rattle.nalfipode.specs.Cells.{CellOut}
use Rattle.nalfipode.specs.Reads.{LongestMatchOut}
use Rattle.nalfipode.specs.Checks.{AuditOut}
use Rattle.nalfipode.specs.Images.{WriteOut, VerifyOut, DescribeOut, LookOut}
use Rattle.answers.specs.Made.{Made}
use Rattle.answers.specs.Answers.{Answers}
use Rattle.answers.specs.Sequences.{Call, Told, Ran, map_tells}
use Rattle.answers.specs.Listings.{Page, Follows, Ended, outputs}

abbrev pub cell_key : List ℕ → Prefix
cell_key vs = key_of (get_or vs 4 0) vs

abbrev pub shown : Option Entry → List ℕ
shown none = 0 ∷ 0 ∷ 0 ∷ []
shown (some e) = 1 ∷ length e.key ∷ e.zone ∷ []

pub record ZoneIsRight : Type 0 where
  -- ---- "The answer is the longest stored prefix of the key"
  pub longest : (k : Bits) (m : Map) (e : Entry) → longest_match k m ≡ some e → Longest k m e
  pub no_match : (k : Bits) (m : Map) → longest_match k m ≡ none → (e : Entry) → Memᴰ e m → T (is_prefix e.key k) → ⊥
  -- "These are the bits of a prefix of width 64."
  pub cell : {longitude latitude : ℤ} {values : List ℕ} → CellOut longitude latitude 0 values
      → Valid (cell_key values) × (string_of (cell_key values) ≡ cell_bits longitude latitude)
  -- from a fix to its zone, on a table that calls have made: `nalfipode_cell`, and then `nalfipode_longest_match`
  pub fix : {ws bs cell after values : List ℕ} {m : Map} {longitude latitude : ℤ} {r : ℕ} → Made ws m → CellOut longitude latitude 0 cell
      → LongestMatchOut ws (cell_key cell) bs r after values → 129 ≤ length bs
      → (r ≡ 0) × (values ≡ length (path (keys m) (cell_bits longitude latitude)) ∷ shown (longest_match (cell_bits longitude latitude) m))
  -- ---- "the table behaves as a plain map from prefixes to zone numbers"
  pub made : {ws : List ℕ} {m : Map} → Made ws m → Holds ws m
  pub answers : {ws : List ℕ} {m : Map} → Holds ws m → Answers ws m
  pub one_map : {ws : List ℕ} {m n : Map} → Holds ws m → Holds ws n → m ≡ n
  pub plain_map : {ws : List ℕ} {m : Map} {cs : List Call} {ts : List Told} → Holds ws m → Ran ws cs ts → ts ≡ map_tells (capacity (length ws)) m cs
  -- "Edits may come between slices: whatever stays stored from the first slice to the last is listed exactly once."
  pub listed_once : (k : Bits) (ps : List Page) → Follows none ps → Ended ps → ((p : Page) → Memᴰ p ps → T (member k (keys p.stored)))
      → (es : Map) × ((outputs ps ≡ words_of es) × (length (keep (equal k) (keys es)) ≡ 1))
  -- ---- the whole-table check says yes only for a table of some map (that it then does is in `Answers`)
  pub checked : {ws : List ℕ} {r : ℕ} → AuditOut ws r (1 ∷ []) → (m : Map) × Holds ws m
  -- ---- "The checker accepts exactly the images that some list gives"
  pub image_accepted : {bs : List ℕ} → VerifyOut bs 0 → (m : Map) × ((epoch : ℕ) × IsImage size24 bs m epoch)
  pub image_exact : {bs : List ℕ} {m : Map} {epoch r : ℕ} → IsImage size24 bs m epoch → VerifyOut bs r → r ≡ 0
  -- "an accepted image answers every 128-bit address as that list does"
  pub image_answers : {bs ks values : List ℕ} {m : Map} {epoch r : ℕ} → IsImage size24 bs m epoch → LookOut bs ks r values
      → (r ≡ 0) × (values ≡ values_of (found_of (longest_match (address_bits (get_or ks 0 0) (get_or ks 1 0) (get_or ks 2 0) (get_or ks 3 0)) m)))
  pub image_described : {bs values : List ℕ} {m : Map} {epoch r : ℕ} → IsImage size24 bs m epoch → DescribeOut bs r values
      → (r ≡ 0) × (values ≡ length (forks_of m) ∷ length (zones_of (forks_of m)) ∷ epoch ∷ [])
  -- what the writer writes for a table is an image of its map
  pub image_ships : {ws out after values : List ℕ} {m : Map} {epoch : ℕ} → Holds ws m → WriteOut ws epoch out 0 after values
      → IsImage size24 (take (get_or values 0 0) after) m epoch
  -- "every table's list does" fit, whatever the record size
  pub image_fits : {ws out after values : List ℕ} {m : Map} {epoch r : ℕ} → Holds ws m → WriteOut ws epoch out r after values
      → (s : Size) → T (fits s m)
