-- The tree itself, linked: what holds a set's nodes each once, so that a walk finds a key's path. The paper
-- says which strings are nodes and which of them a path has; this is the shape in which both come out, and
-- which the words of a table are held to.
-- Paper 01, "The tree of a set": the radix tree "in the path-compressed form that keeps each node's whole
-- string".
--   Tree A            a tree whose nodes also bear a label of A: nothing here, the place of its record in a
--                     table
--   Good p t          every string of t begins with p, each side's with the node's string and the side's bit,
--                     and a node that stores nothing has both sides
--   entries t         the map that t stores
-- Assumes nothing.
use Rattle.std.specs.Prelude.{ℕ, Bool, true, false, [], ◌∷◌, ◌++◌, T}
use Rattle.std.proofs.Math.Option.{Option, none, some}
use Rattle.bits.specs.Bits.{Bits, is_prefix}
use Rattle.zones.specs.Maps.{Map}

pub data Tree (A : Type 0) : Type 0 where
  tip : Tree A
  -- the label, the whole string, the number stored there if there is one, the side of 0, the side of 1
  node : A → Bits → Option ℕ → Tree A → Tree A → Tree A

abbrev pub own : Bits → Option ℕ → Map
own s none = []
own s (some z) = record { key = s; zone = z } ∷ []

module _ {A : Type 0} where
  abbrev pub full : Tree A → Bool
  full tip = false
  full (node a s v l r) = true

  abbrev pub Branch : Option ℕ → Tree A → Tree A → Type 0
  Branch none l r = T (full l) × T (full r)
  Branch (some z) l r = Unit {0}

  abbrev pub Good : Bits → Tree A → Type 0
  Good p tip = Unit {0}
  Good p (node a s v l r) = T (is_prefix p s) × Branch v l r × Good (s ++ (false ∷ [])) l × Good (s ++ (true ∷ [])) r

  abbrev pub entries : Tree A → Map
  entries tip = []
  entries (node a s v l r) = own s v ++ (entries l ++ entries r)
