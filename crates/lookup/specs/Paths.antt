-- The records of a path: which they are, and when two memories agree there.
-- Paper 01, "The lent table".
--   links_where f t  the links of the nodes of t whose string passes the test f, in their order
--   path_links t k   the links of the nodes of k's path
--   Agree us ws ls   two memories have the same length and header, and the same records at the links ls
-- Assumes nothing.
use Rattle.std.specs.Prelude.{ℕ, ◌≡◌, Bool, cond, length}
use mathlib.Core.List.{List, [], ◌∷◌, ◌++◌, Memᴰ}
use Rattle.bits.specs.Bits.{Bits, member}
use Rattle.zones.specs.Maps.{keys}
use Rattle.zones.specs.Nodes.{path}
use Rattle.zones.specs.Tree.{Tree, tip, node, entries}
use Rattle.records.specs.Layout.{record_at, header_at}

abbrev pub links_where : (Bits → Bool) → Tree ℕ → List ℕ
links_where f tip = []
links_where f (node a s v l r) = cond (f s) (a ∷ []) [] ++ (links_where f l ++ links_where f r)

-- "the path's nodes" (the law `path_links-strings` says that the records at these links bear the path's strings)
unfoldable pub path_links : Tree ℕ → Bits → List ℕ
path_links t k = links_where (λ s. member s (path (keys (entries t)) k)) t

-- "any memory of the same length that agrees with it in the header and in the records of .."
pub record Agree (us ws : List ℕ) (ls : List ℕ) : Type 0 where
  pub same_length : length us ≡ length ws
  pub same_header : header_at us ≡ header_at ws
  pub same_records : (l : ℕ) → Memᴰ l ls → record_at us l ≡ record_at ws l
