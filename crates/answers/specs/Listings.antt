-- Whole listings, slice by slice, as calls have made them.
-- Paper 01, "Listing in slices".
--   Page            one slice: a table and its map, what was asked, and what the call left
--   Follows o ps    each slice resumes at the last prefix given, the first one at o
--   Ended ps        the last slice says that nothing remains
--   turns_of ps     the maps and the sizes of the slices
--   counts ps       the sum of the counts that the slices returned
--   outputs ps      the words that the slices gave, one after the other
-- Assumes nothing.
use Rattle.std.specs.Prelude.{ℕ, ◌+◌, ◌*◌, ◌≡◌, List, [], ◌∷◌, ◌++◌, Option, get_or, take}
use Rattle.std.proofs.Math.Option as maps
use Rattle.bits.specs.Bits.{Bits}
use Rattle.prefix.specs.declared.Prefix.{Prefix}
use Rattle.zones.specs.Maps.{Map}
use Rattle.zones.specs.Listings.{Turn, next}
use Rattle.records.specs.Holds.{Holds}
use Rattle.listing.specs.Slicing.{resume_of}
use Rattle.nalfipode.specs.Slices.{SliceOut}

-- "Edits may come between slices": each has its own table
pub record Page : Type 0 where
  pub table : List ℕ
  pub stored : Map
  pub holds : Holds table stored
  pub resume : Option Prefix
  pub size : ℕ
  pub output : List ℕ
  pub after : List ℕ
  pub values : List ℕ
  pub call : SliceOut table resume size output 0 after values

abbrev pub turn_of : Page → Turn
turn_of p = record { stored = p.stored; size = p.size }

abbrev pub turns_of : List Page → List Turn
turns_of [] = []
turns_of (p ∷ ps) = turn_of p ∷ turns_of ps

-- "each slice resuming at the last prefix given"
abbrev pub Follows : maps.Option Bits → List Page → Type 0
Follows o [] = Unit {0}
Follows o (p ∷ ps) = (resume_of p.resume ≡ o) × Follows (next o (turn_of p)) ps

-- "whether any stored prefix remains after them": the second of a slice's values
abbrev pub Ended : List Page → Type 0
Ended [] = ⊥
Ended (p ∷ []) = get_or p.values 1 0 ≡ 0
Ended (p ∷ (q ∷ ps)) = Ended (q ∷ ps)

-- the third of its values
abbrev pub counts : List Page → ℕ
counts [] = 0
counts (p ∷ ps) = get_or p.values 2 0 + counts ps

-- six words for each prefix given, of which the first value says the number
abbrev pub outputs : List Page → List ℕ
outputs [] = []
outputs (p ∷ ps) = take (6 * get_or p.values 0 0) p.after ++ outputs ps
