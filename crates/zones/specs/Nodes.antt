-- The tree of a set: its nodes, and the path of a key. A set is an ascending list of strings.
-- Paper 01, "The tree of a set" and "The lent table".
--   join p s          the set s with the string p
--   nodes s           the nodes of s, in the order of strings
--   prefix_nodes s k  the nodes that are prefixes of k, shortest first
--   last_node s k q   the path's last node that is no prefix of k, as a list of one or none
--   path s k          the path of the key k
--   trail s k         the widths of the path's nodes
--   overflows c e m   the tree of m with e stored has more than c nodes
-- Assumes nothing.
use Rattle.std.specs.Prelude.{ℕ, suc, Bool, cond, List, [], ◌∷◌, ◌++◌, map, leb, ltb, eqb, length, take}
use Rattle.std.proofs.Math.Option.{Option, none, some}
use Rattle.std.specs.declared.cmp.Ordering.{Ordering}
use Rattle.std.specs.declared.cmp.Ordering.TheVariants.{Less, Equal, Greater}
use Rattle.bits.specs.Lists.{keep, any, each, last}
use Rattle.bits.specs.Bits.{Bits, order, is_prefix, lcp}
use Rattle.zones.specs.Maps.{Entry, Map, keys, put}

abbrev pub join_at : Ordering → Bits → Bits → List Bits → List Bits → List Bits
join_at Less p q qs rest = p ∷ q ∷ qs
join_at Equal p q qs rest = q ∷ qs
join_at Greater p q qs rest = q ∷ rest

abbrev pub join : Bits → List Bits → List Bits
join p [] = p ∷ []
join p (q ∷ qs) = join_at (order p q) p q qs (join p qs)

-- (any strings as a set: each once, ascending)
abbrev pub in_order : List Bits → List Bits
in_order [] = []
in_order (p ∷ ps) = join p (in_order ps)

-- "the nodes are the strings in S together with the longest common prefix of every two members"
-- (a member is its own longest common prefix with itself); "Nothing else is a node." (the laws `mem-nodes` and
-- `nodes_mem` say both)
unfoldable pub nodes : List Bits → List Bits
nodes s = in_order (each (λ a. map (λ b. lcp a b) s) s)

-- (the shortest of some strings, as a list of one; of none, none)
abbrev pub shorter : Bits → List Bits → List Bits
shorter p [] = p ∷ []
shorter p (q ∷ qs) = cond (leb (length p) (length q)) p q ∷ []

abbrev pub shortest : List Bits → List Bits
shortest [] = []
shortest (p ∷ ps) = shorter p (shortest ps)

-- "all nodes that are prefixes of k, shortest first" (of prefixes of one string the shorter comes first in
-- the order)
unfoldable pub prefix_nodes : List Bits → Bits → List Bits
prefix_nodes s k = keep (λ p. is_prefix p k) (nodes s)

-- "If some stored prefix begins with d, the last node is the shortest node that begins with d. If none does,
-- there is no last node."
unfoldable pub beyond : List Bits → Bits → List Bits
beyond s d = cond (any (is_prefix d) s) (shortest (keep (is_prefix d) (nodes s))) []

-- "No such q: the last node is the shortest node of the tree, if S is not empty. q as wide as k: no last
-- node. otherwise: let d be q followed by k's next bit."
unfoldable pub last_node : List Bits → Bits → Option Bits → List Bits
last_node s k none = shortest (nodes s)
last_node s k (some q) = cond (eqb (length q) (length k)) [] (beyond s (take (suc (length q)) k))

-- "Let q be the longest node that is a prefix of k." (the last of them)
unfoldable pub path : List Bits → Bits → List Bits
path s k = prefix_nodes s k ++ last_node s k (last (prefix_nodes s k))

-- "The call writes the widths of the path's nodes there in order"
unfoldable pub trail : List Bits → Bits → List ℕ
trail s k = map length (path s k)

-- "Full is given exactly when the tree of the new set has more than c nodes"
unfoldable pub overflows : ℕ → Entry → Map → Bool
overflows c e m = ltb c (length (nodes (keys (put e m))))
