-- The binary trie that an image spells out fork by fork, and the one that a table's tree grows into. The
-- forks are the image nodes; a leaf holds what a record there says: a zone number, or no data.
-- Internal: what the writer, the checker and the lookup are proved by; no public contract cites it.
-- Paper 01, "The image".
--   Trie, leaf, fork    a trie of two-way forks
--   size t              the number of forks
--   ref n t             what a side says of the trie that hangs there, whose top has the number n
--   refs n t            the two sides of each fork, from the top, whose number is n
--   stalk xs o t        the trie t below a way of single steps by the bits xs; beside the way stands o
--   grow o a t          the trie of a tree of the table, from a string of a bits down, o being the zone of the
--                       longest stored prefix above
--   top_trie t          the whole: its top is a fork, even over one leaf
-- Assumes nothing.
use Rattle.std.specs.Prelude.{ℕ, suc, ◌+◌, true, false, List, [], ◌∷◌, ◌++◌, length, drop}
use Rattle.std.proofs.Math.Option.{Option, none, some}
use Rattle.bits.specs.Bits.{Bits}
use Rattle.zones.specs.Tree.{Tree, tip, node}
use Rattle.image.specs.Image.{Side, to_node, no_data, to_zone, Fork}

pub data Trie : Type 0 where
  leaf : Option ℕ → Trie
  fork : Trie → Trie → Trie

abbrev pub size : Trie → ℕ
size (leaf o) = 0
size (fork l r) = suc (size l + size r)

abbrev pub side_of : Option ℕ → Side
side_of none = no_data
side_of (some z) = to_zone z

abbrev pub ref : ℕ → Trie → Side
ref n (leaf o) = side_of o
ref n (fork l r) = to_node n

-- "numbered from 0 in the order above": a prefix comes before everything that extends it, the side of 0 first
abbrev pub refs : ℕ → Trie → List Fork
refs n (leaf o) = []
refs n (fork l r) = record { left = ref (suc n) l; right = ref (suc n + size l) r } ∷ (refs (suc n) l ++ refs (suc n + size l) r)

-- ---- from the table's tree, which keeps no node where only one way goes on

abbrev pub stalk : Bits → Option ℕ → Trie → Trie
stalk [] o t = t
stalk (false ∷ xs) o t = fork (stalk xs o t) (leaf o)
stalk (true ∷ xs) o t = fork (leaf o) (stalk xs o t)

-- a node's own zone, or the one above it
abbrev pub nearer : Option ℕ → Option ℕ → Option ℕ
nearer none o = o
nearer (some z) o = some z

-- "the empty string always"
abbrev pub topped : Trie → Trie
topped (leaf o) = fork (leaf o) (leaf o)
topped (fork l r) = fork l r

-- at a node's own string, with the zone o there: a fork where anything is stored below, by what hangs there
module _ {A : Type 0} where
  abbrev pub crown : Option ℕ → Tree A → Tree A → Trie → Trie → Trie
  crown o tip tip x y = leaf o
  crown o tip (node a s v l r) x y = fork x y
  crown o (node a s v l r) t x y = fork x y

  abbrev pub grow : Option ℕ → ℕ → Tree A → Trie
  grow o a tip = leaf o
  grow o a (node b s v l r) =
      stalk (drop a s) o (crown (nearer v o) l r (grow (nearer v o) (length s + 1) l) (grow (nearer v o) (length s + 1) r))

  abbrev pub top_trie : Tree A → Trie
  top_trie t = topped (grow none 0 t)
