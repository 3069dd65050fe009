-- The laws of a tree's shape: a map has a good tree, and all its good trees have one shape, whatever stores
-- and removes made them. No contract cites this file.
-- Assumes nothing.
use Prim.Native.Nat.{ℕ}
use mathlib.Core.Path.{◌≡◌, refl, sym, ap, ◌∙◌}
use mathlib.Core.Bool.{Bool, true, false, not}
use mathlib.Core.List.{[], ◌∷◌, ◌++◌, append-nil}
use mathlib.Core.Option.{Option}
use lib.Dec.{T}
use Rattle.bits.specs.Lists.{all, keep}
use Rattle.bits.specs.Bits.{Bits, is_prefix, before, rising}
use Rattle.bits.specs.Meet.{meet}
use Rattle.bits.specs.declared.Meeting.TheVariants.{Equal}
use Rattle.bits.proofs.ListsLaws.{and_left, and_right, all_mem, keep-none, keep-every}
use Rattle.bits.proofs.BitsLaws.{longer_irrefl, one_side}
use Rattle.zones.specs.Maps.{Entry, Map, keys, ascending, get, put}
use Rattle.zones.specs.Nodes.{nodes, path}
use Rattle.zones.specs.Tree.{Tree, tip, node, Good, own, entries}
use Rattle.zones.specs.Searching.{strings, walk}
use Rattle.zones.specs.TreeEdits.{shape, tree_of}
use Rattle.zones.proofs.TreeLaws.{keep_node, KeysBegin, mem-own, mem-keys, begin-entries, nodes-entries}
use Rattle.zones.proofs.WalkLaws.{path-entries}
use Rattle.zones.proofs.FindLaws.{get-entries}
use Rattle.zones.proofs.PutLaws.{put_first, good-put_tree, entries-put_tree}

-- ---- tree_of

pub good-tree_of : (m : Map) → Good [] (tree_of m)
good-tree_of [] = tt
good-tree_of (e ∷ m) = good-put_tree [] tt tt e (tree_of m) tt (good-tree_of m)

put-ascending : (e : Entry) (m : Map) → T (ascending (e ∷ m)) → put e m ≡ e ∷ m
unfolding ascending keys
put-ascending e m h =
    let b : T (all (before e.key) (keys m)) = and_left (all (before e.key) (keys m)) (rising (keys m)) h in
    put_first e m (λ f i. all_mem (before e.key) (keys m) b f.key (mem-keys m f i))

ascending-tail : (e : Entry) (m : Map) → T (ascending (e ∷ m)) → T (ascending m)
unfolding ascending keys
ascending-tail e m h = and_right (all (before e.key) (keys m)) (rising (keys m)) h

pub entries-tree_of : (m : Map) → T (ascending m) → entries (tree_of m) ≡ m
entries-tree_of [] h = refl
entries-tree_of (e ∷ m) h =
    entries-put_tree [] tt tt e (tree_of m) tt (good-tree_of m)
    ∙ rw (entries-tree_of m (ascending-tail e m h)) (put-ascending e m h)

-- the tree of a map has exactly the nodes of its set
pub nodes-tree_of : (m : Map) → T (ascending m) → nodes (keys m) ≡ strings (tree_of m)
nodes-tree_of m h = rw (entries-tree_of m h) at (nodes-entries [] (tree_of m) (good-tree_of m))

-- and its walk is the path
pub path-tree_of : (m : Map) → T (ascending m) → (k : Bits) → path (keys m) k ≡ walk (tree_of m) k
path-tree_of m h k = rw (entries-tree_of m h) at (path-entries [] (tree_of m) (good-tree_of m) k)

-- ---- shape: what a node is, told from the entries alone

pub meet_refl : (s : Bits) → meet s s ≡ Equal
meet_refl [] = refl
meet_refl (false ∷ s) = meet_refl s
meet_refl (true ∷ s) = meet_refl s

-- what begins with s and the bit x
abbrev side : Bits → Bool → Map → Map
side s x m = keep (λ e. is_prefix (s ++ (x ∷ [])) e.key) m

side-own : (s : Bits) (v : Option ℕ) (x : Bool) → side s x (own s v) ≡ []
side-own s v x =
    keep-none (λ e. is_prefix (s ++ (x ∷ [])) e.key) (own s v) (λ e i j. longer_irrefl s x (rw (mem-own s v e i) at j))

side_same : (s : Bits) (x : Bool) (m : Map) → KeysBegin (s ++ (x ∷ [])) m → side s x m ≡ m
side_same s x m b = keep-every (λ e. is_prefix (s ++ (x ∷ [])) e.key) m b

side_other : (s : Bits) (x : Bool) (m : Map) → KeysBegin (s ++ (not x ∷ [])) m → side s x m ≡ []
side_other s x m b = keep-none (λ e. is_prefix (s ++ (x ∷ [])) e.key) m (λ e i j. one_side s e.key x j (b e i))

side_node : (s : Bits) (x : Bool) (m n o : Map) → side s x (m ++ (n ++ o)) ≡ side s x m ++ (side s x n ++ side s x o)
side_node s x m n o = keep_node (λ e. is_prefix (s ++ (x ∷ [])) e.key) m n o

module _ {A : Type 0} (p : Bits) (c : A) (s : Bits) (v : Option ℕ) (l r : Tree A) (g : Good p (node c s v l r)) where
  get_top : get s (entries (node c s v l r)) ≡ v
  get_top = get-entries p (node c s v l r) g s ∙ rw meet_refl

  side_left : side s false (entries (node c s v l r)) ≡ entries l
  side_left =
      side_node s false (own s v) (entries l) (entries r)
      ∙ rw (
        side-own s v false,
        side_same s false (entries l) (begin-entries (s ++ (false ∷ [])) l g.2),
        side_other s false (entries r) (begin-entries (s ++ (true ∷ [])) r g.3),
        append-nil,
      )

  side_right : side s true (entries (node c s v l r)) ≡ entries r
  side_right =
      side_node s true (own s v) (entries l) (entries r)
      ∙ rw (
        side-own s v true,
        side_other s true (entries l) (begin-entries (s ++ (false ∷ [])) l g.2),
        side_same s true (entries r) (begin-entries (s ++ (true ∷ [])) r g.3),
      )

module _ {A B : Type 0} where
  strings_ext : (p : Bits) (t : Tree A) (u : Tree B) → Good p t → Good p u → entries t ≡ entries u → strings t ≡ strings u
  strings_ext p t u g h e = sym (nodes-entries p t g) ∙ ap (λ (m : Map). nodes (keys m)) e ∙ nodes-entries p u h

  -- two trees of one map have one shape: history adds nothing
  pub shape_ext : (p : Bits) (t : Tree A) (u : Tree B) → Good p t → Good p u → entries t ≡ entries u → shape t ≡ shape u
  shape_ext p tip tip g h e = refl
  shape_ext p tip (node d q w m n) g h e = let z = strings_ext p tip (node d q w m n) g h e in cc
  shape_ext p (node c s v l r) tip g h e = let z = strings_ext p (node c s v l r) tip g h e in cc
  shape_ext p (node c s v l r) (node d q w m n) g h e =
      let z = strings_ext p (node c s v l r) (node d q w m n) g h e in
      let sq : q ≡ s = cc in
      let k : Good p (node d s w m n) = rw sq at h in
      let f : entries (node c s v l r) ≡ entries (node d s w m n) = e ∙ rw sq in
      let vw : v ≡ w = sym (get_top p c s v l r g) ∙ ap (get s) f ∙ get_top p d s w m n k in
      let il : entries l ≡ entries m = sym (side_left p c s v l r g) ∙ ap (side s false) f ∙ side_left p d s w m n k in
      let ir : entries r ≡ entries n = sym (side_right p c s v l r g) ∙ ap (side s true) f ∙ side_right p d s w m n k in
      rw (sq, vw, shape_ext (s ++ (false ∷ [])) l m g.2 k.2 il, shape_ext (s ++ (true ∷ [])) r n g.3 k.3 ir)
