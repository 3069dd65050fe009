-- A tree after a store and after a remove, and the tree of a map.
-- Internal: what an edit of a table's words is held to; no public contract cites it.
-- Paper 01, "The tree of a set" and "The lent table".
--   put_tree, remove_tree  the tree after a store, after a remove
--   shape t                t without its labels
--   tree_of m              the tree of a map, built by storing its entries
-- Assumes nothing.
use Rattle.std.specs.Prelude.{ℕ, true, false, [], ◌∷◌}
use Rattle.std.proofs.Math.Option.{Option, none, some}
use Rattle.bits.specs.Bits.{Bits, lcp}
use Rattle.bits.specs.Meet.{meet}
use Rattle.bits.specs.declared.Meeting.{Meeting}
use Rattle.bits.specs.declared.Meeting.TheVariants.{Equal, Below, Above, Apart}
use Rattle.zones.specs.Maps.{Entry, Map}
use Rattle.zones.specs.Tree.{Tree, tip, node}

module _ {A : Type 0} where
  -- ---- a store: a is the label of a new node for the key, b that of a new branch node above it

  abbrev pub put_here : A → A → Meeting → Entry → A → Bits → Option ℕ → Tree A → Tree A → Tree A → Tree A → Tree A
  put_here a b Equal e c s v l r pl pr = node c s (some e.zone) l r
  put_here a b (Below false) e c s v l r pl pr = node c s v pl r
  put_here a b (Below true) e c s v l r pl pr = node c s v l pr
  put_here a b (Above false) e c s v l r pl pr = node a e.key (some e.zone) (node c s v l r) tip
  put_here a b (Above true) e c s v l r pl pr = node a e.key (some e.zone) tip (node c s v l r)
  put_here a b (Apart false) e c s v l r pl pr =
      node b (lcp s e.key) none (node a e.key (some e.zone) tip tip) (node c s v l r)
  put_here a b (Apart true) e c s v l r pl pr =
      node b (lcp s e.key) none (node c s v l r) (node a e.key (some e.zone) tip tip)

  abbrev pub put_tree : A → A → Entry → Tree A → Tree A
  put_tree a b e tip = node a e.key (some e.zone) tip tip
  put_tree a b e (node c s v l r) = put_here a b (meet s e.key) e c s v l r (put_tree a b e l) (put_tree a b e r)

  -- ---- a remove: a node that stores nothing and has lost a side goes too

  abbrev pub collapse : A → Bits → Option ℕ → Tree A → Tree A → Tree A
  collapse a s (some z) l r = node a s (some z) l r
  collapse a s none tip r = r
  collapse a s none (node b p v l r) tip = node b p v l r
  collapse a s none (node b p v l r) (node c q w m n) = node a s none (node b p v l r) (node c q w m n)

  abbrev pub remove_here : Meeting → A → Bits → Option ℕ → Tree A → Tree A → Tree A → Tree A → Tree A
  remove_here Equal a s v l r ml mr = collapse a s none l r
  remove_here (Below false) a s v l r ml mr = collapse a s v ml r
  remove_here (Below true) a s v l r ml mr = collapse a s v l mr
  remove_here (Above x) a s v l r ml mr = node a s v l r
  remove_here (Apart x) a s v l r ml mr = node a s v l r

  abbrev pub remove_tree : Bits → Tree A → Tree A
  remove_tree k tip = tip
  remove_tree k (node a s v l r) = remove_here (meet s k) a s v l r (remove_tree k l) (remove_tree k r)

  -- the tree with nothing but its shape
  abbrev pub shape : Tree A → Tree (Unit {0})
  shape tip = tip
  shape (node a s v l r) = node tt s v (shape l) (shape r)

abbrev pub tree_of : Map → Tree (Unit {0})
tree_of [] = tip
tree_of (e ∷ m) = put_tree tt tt e (tree_of m)
