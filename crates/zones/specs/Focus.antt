-- Where a search for a key ends in a tree: what lies below, and what stands above. An edit changes the one
-- and leaves the other.
-- Internal: what an edit of a table's words is held to; no public contract cites it.
--   Context A         a tree with a place left open, from the place upwards
--   plug c t          the whole tree, with t in the open place
--   pull c t          the same after a remove: a node that stores nothing and has lost a side goes too
--   Focus A           a part of a tree, and the context above it
--   focus c t k       where a search for k in t ends, t itself standing below c
--   link_at n c       the label of the n-th node above the place, of a tree whose labels are links
-- Assumes nothing.
use Rattle.std.specs.Prelude.{ℕ, zero, suc, Bool, true, false}
use Rattle.std.proofs.Math.Option.{Option}
use Rattle.bits.specs.Bits.{Bits}
use Rattle.bits.specs.Meet.{meet}
use Rattle.zones.specs.Tree.{Tree, tip, node}
use Rattle.zones.specs.Searching.{onward}
use Rattle.zones.specs.TreeEdits.{collapse}

pub data Context (A : Type 0) : Type 0 where
  top : Context A
  -- a node, on a side of which the place is: its label, string and number, the side, the tree on the other
  -- side, and what is above
  into : A → Bits → Option ℕ → Bool → Tree A → Context A → Context A

pub record Focus (A : Type 0) : Type 0 where
  pub above : Context A
  pub below : Tree A

module _ {A : Type 0} where
  -- a node with t on the side x and o on the other
  abbrev pub joined : A → Bits → Option ℕ → Bool → Tree A → Tree A → Tree A
  joined a s v false t o = node a s v t o
  joined a s v true t o = node a s v o t

  abbrev pub plug : Context A → Tree A → Tree A
  plug top t = t
  plug (into a s v x o c) t = plug c (joined a s v x t o)

  abbrev pub collapsed : A → Bits → Option ℕ → Bool → Tree A → Tree A → Tree A
  collapsed a s v false t o = collapse a s v t o
  collapsed a s v true t o = collapse a s v o t

  abbrev pub pull : Context A → Tree A → Tree A
  pull top t = t
  pull (into a s v x o c) t = pull c (collapsed a s v x t o)

  abbrev pub focus : Context A → Tree A → Bits → Focus A
  focus c tip k = record { above = c; below = tip }
  focus c (node a s v l r) k =
      onward (meet s k)
      (record { above = c; below = node a s v l r })
      (record { above = c; below = node a s v l r })
      (focus (into a s v false r c) l k)
      (focus (into a s v true l c) r k)

-- the link of the n-th node above the place, the first being the 0th; 0 where there is none
abbrev pub link_at : ℕ → Context ℕ → ℕ
link_at n top = 0
link_at zero (into a s v x o c) = a
link_at (suc n) (into a s v x o c) = link_at n c
