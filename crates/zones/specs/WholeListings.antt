-- What several slices of a listing give together.
-- Internal: what the laws of a whole listing speak of; no public contract cites it.
-- Paper 01, "Listing in slices".
--   turns m bs        slices of an unchanged map
--   listed r ts       the keys that the slices list, the first resuming at r
--   counted r ts      the sum of their counts
--   ended r ts        the last of them says that nothing remains
-- Assumes nothing.
use Rattle.std.specs.Prelude.{ℕ, ◌+◌, Bool, false, not, List, [], ◌∷◌, ◌++◌}
use Rattle.std.proofs.Math.Option.{Option}
use Rattle.bits.specs.Bits.{Bits}
use Rattle.zones.specs.Maps.{Map, keys}
use Rattle.zones.specs.Slices.{given, remains, count}
use Rattle.zones.specs.Listings.{Turn, next}

-- "an unchanged table": the same map at each slice
abbrev pub turns : Map → List ℕ → List Turn
turns m [] = []
turns m (b ∷ bs) = record { stored = m; size = b } ∷ turns m bs

-- the keys listed, one slice after the other
abbrev pub listed : Option Bits → List Turn → List Bits
listed r [] = []
listed r (t ∷ ts) = keys (given t.stored r t.size) ++ listed (next r t) ts

-- the sum of the counts
abbrev pub counted : Option Bits → List Turn → ℕ
counted r [] = 0
counted r (t ∷ ts) = count t.stored r t.size + counted (next r t) ts

-- the last slice says that nothing remains
abbrev pub ended : Option Bits → List Turn → Bool
ended r [] = false
ended r (t ∷ []) = not (remains t.stored r t.size)
ended r (t ∷ (u ∷ ts)) = ended (next r t) (u ∷ ts)
