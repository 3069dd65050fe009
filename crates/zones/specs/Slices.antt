-- Listing in slices: what a slice gives, whether more remain, and its count.
-- Paper 01, "Listing in slices".
--   after r p         p comes strictly after the resume prefix; with none given every p does
--   left m r          what is stored after the resume prefix
--   given m r b       what the slice gives
--   remains m r b     some stored prefix remains after these
--   passes r z p      p comes after the resume prefix and not after z, the last one listed
--   passed m r z      how many nodes do
--   way_to m r        the resume prefix's path
--   found m r         its length
--   count m r b       the slice's count
-- Assumes nothing.
use Rattle.std.specs.Prelude.{ℕ, ◌+◌, Bool, true, false, not, ◌&&◌, List, [], length, take, drop}
use Rattle.std.proofs.Math.Option.{Option, none, some}
use Rattle.bits.specs.Lists.{keep, last, is_empty}
use Rattle.bits.specs.Bits.{Bits, before}
use Rattle.zones.specs.Maps.{Map, keys}
use Rattle.zones.specs.Nodes.{nodes, path}

-- "strictly after the resume prefix (from the start if none is given)"
abbrev pub after : Option Bits → Bits → Bool
after none p = true
after (some r) p = before r p

unfoldable pub left : Map → Option Bits → Map
left m r = keep (λ e. after r e.key) m

-- "the first b stored prefixes that come strictly after the resume prefix .., or all of them if fewer are
-- left"
unfoldable pub given : Map → Option Bits → ℕ → Map
given m r b = take b (left m r)

-- "whether any stored prefix remains after them"
unfoldable pub remains : Map → Option Bits → ℕ → Bool
remains m r b = not (is_empty (drop b (left m r)))

-- "strictly after the resume prefix and not after the last one listed" (none where none is listed)
abbrev pub passes : Option Bits → Option Bits → Bits → Bool
passes r none p = false
passes r (some z) p = after r p && not (before z p)

-- "the number of nodes .. (0 if none listed)"
unfoldable pub passed : Map → Option Bits → Option Bits → ℕ
passed m r z = length (keep (passes r z) (nodes (keys m)))

-- the path of the resume prefix (none if no resume is given)
abbrev pub way_to : Map → Option Bits → List Bits
way_to m none = []
way_to m (some r) = path (keys m) r

-- "plus the length of the resume prefix's path (0 if no resume is given)"
unfoldable pub found : Map → Option Bits → ℕ
found m r = length (way_to m r)

unfoldable pub count : Map → Option Bits → ℕ → ℕ
count m r b = passed m r (last (keys (given m r b))) + found m r
