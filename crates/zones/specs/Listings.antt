-- A listing of several slices, "each slice resuming at the last prefix given"; "Edits may come between
-- slices": where each resumes, and the paths of the resumes, as the answers on whole listings cite them.
-- Paper 01, "Listing in slices".
--   Turn              one slice of a listing: the map as it then stands, and the size asked for
--   next r t          where the slice after t resumes, t having resumed at r
--   pathed r ts       the sum of the lengths of the slices' resumes' paths, the first resuming at r
-- Assumes nothing.
use Rattle.std.specs.Prelude.{ℕ, ◌+◌, List, [], ◌∷◌}
use Rattle.std.proofs.Math.Option.{Option, none, some}
use Rattle.bits.specs.Lists.{last}
use Rattle.bits.specs.Bits.{Bits}
use Rattle.zones.specs.Maps.{Map, keys}
use Rattle.zones.specs.Slices.{given, found}

pub record Turn : Type 0 where
  pub stored : Map
  pub size : ℕ

-- where the next slice resumes: at the last prefix given, or where this one did if it gave none
abbrev pub next_at : Option Bits → Option Bits → Option Bits
next_at r none = r
next_at r (some z) = some z

unfoldable pub next : Option Bits → Turn → Option Bits
next r t = next_at r (last (keys (given t.stored r t.size)))

-- the sum of the resumes' paths
abbrev pub pathed : Option Bits → List Turn → ℕ
pathed r [] = 0
pathed r (t ∷ ts) = found t.stored r + pathed (next r t) ts
