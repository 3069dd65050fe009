-- A search for a key in a tree: what it meets, and what it finds.
-- Internal: what a walk over a table's words is held to; no public contract cites it.
-- Paper 01, "The tree of a set".
--   onward            what a search comes to at a node
--   strings t         the strings of t's nodes, from the top, the side of 0 first
--   walk t k          the strings of the nodes that a search for k meets
--   find t k          the number that it finds stored for k
--   best o t k        the last entry that it passes whose string is a prefix of k, or o
-- Assumes nothing.
use Rattle.std.specs.Prelude.{ℕ, true, false, List, [], ◌∷◌, ◌++◌}
use Rattle.std.proofs.Math.Option.{Option, none, some}
use Rattle.bits.specs.Bits.{Bits}
use Rattle.bits.specs.Meet.{meet}
use Rattle.bits.specs.declared.Meeting.{Meeting}
use Rattle.bits.specs.declared.Meeting.TheVariants.{Equal, Below, Above, Apart}
use Rattle.zones.specs.Maps.{Entry}
use Rattle.zones.specs.Tree.{Tree, tip, node}

-- what a search comes to at a node: the key itself, the side of its next bit, or nothing further
abbrev pub onward : {B : Type 0} → Meeting → B → B → B → B → B
onward Equal here off l r = here
onward (Below false) here off l r = l
onward (Below true) here off l r = r
onward (Above x) here off l r = off
onward (Apart x) here off l r = off

-- a node's own entry, or the one that was best above it
abbrev pub better : Bits → Option ℕ → Option Entry → Option Entry
better s none o = o
better s (some z) o = some (record { key = s; zone = z })

module _ {A : Type 0} where
  abbrev pub strings : Tree A → List Bits
  strings tip = []
  strings (node a s v l r) = s ∷ (strings l ++ strings r)

  abbrev pub walk : Tree A → Bits → List Bits
  walk tip k = []
  walk (node a s v l r) k = s ∷ onward (meet s k) [] [] (walk l k) (walk r k)

  abbrev pub find : Tree A → Bits → Option ℕ
  find tip k = none
  find (node a s v l r) k = onward (meet s k) v none (find l k) (find r k)

  abbrev pub best : Option Entry → Tree A → Bits → Option Entry
  best o tip k = o
  best o (node a s v l r) k = onward (meet s k) (better s v o) o (best (better s v o) l k) (best (better s v o) r k)
