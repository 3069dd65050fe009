-- What a slice rests on: the records that it reads.
-- Paper 01, "The lent table": "so does a slice, where the header and the records of the nodes it counts
-- agree". Two memories agree at links as `Agree` of lookup/specs/Paths.antt says.
--   path_links_of t r  the links of the resume prefix's path, none if no resume is given
--   slice_links t r b  the links of the nodes that a slice counts
-- Assumes nothing.
use Rattle.std.specs.Prelude.{ℕ, List, [], ◌++◌, Option, None, Some}
use Rattle.bits.specs.Lists.{last}
use Rattle.prefix.specs.Keys.{string_of}
use Rattle.prefix.specs.declared.Prefix.{Prefix}
use Rattle.zones.specs.Maps.{keys}
use Rattle.zones.specs.Slices.{given, passes}
use Rattle.zones.specs.Tree.{Tree, entries}
use Rattle.lookup.specs.Paths.{links_where, path_links}
use Rattle.listing.specs.Slicing.{resume_of}

abbrev pub path_links_of : Tree ℕ → Option Prefix → List ℕ
path_links_of t None = []
path_links_of t (Some k) = path_links t (string_of k)

-- the resume's path, and the nodes passed (the law `slice_links-strings` says that their strings are
-- `counted_nodes` of zones/proofs/CountLaws.antt)
unfoldable pub slice_links : Tree ℕ → Option Prefix → ℕ → List ℕ
slice_links t r b = path_links_of t r ++ links_where (passes (resume_of r) (last (keys (given (entries t) (resume_of r) b)))) t
