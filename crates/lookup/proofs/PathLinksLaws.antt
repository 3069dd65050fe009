-- The laws of the links of a path's nodes: they are those of the nodes that a walk meets, and their records
-- bear the path's strings. No contract cites this file.
--   walk_links t k   the links of the nodes that a walk for k meets in the tree t
-- Assumes nothing.
use Prim.Native.Nat.{ℕ}
use mathlib.Core.Path.{◌≡◌, refl, sym, ap, ◌∙◌}
use mathlib.Core.Bool.{Bool, true, false, not}
use mathlib.Core.List.Memᴰ
use mathlib.Core.List.{List, [], ◌∷◌, ◌++◌, map, append-nil, Memᴰ}
use Rattle.bits.specs.Bits.{Bits, equal, member}
use Rattle.bits.specs.Meet.{meet}
use Rattle.bits.specs.declared.Meeting.{Meeting}
use Rattle.bits.specs.declared.Meeting.TheVariants.{Equal, Below, Above, Apart}
use Rattle.bits.proofs.ListsLaws.{test_ext}
use Rattle.bits.proofs.BitsLaws.{longer_irrefl, one_side, equal_true}
use Rattle.bits.proofs.RisingLaws.{any-equal-head, member_mem}
use Rattle.prefix.specs.Keys.{string_of}
use Rattle.zones.specs.Maps.{Map, keys}
use Rattle.zones.specs.Nodes.{path}
use Rattle.zones.specs.Tree.{Tree, tip, node, Good}
use Rattle.zones.specs.Searching.{strings, onward, walk}
use Rattle.zones.proofs.TreeLaws.{Begin, begin-strings}
use Rattle.zones.proofs.WalkLaws.{path-entries}
use Rattle.records.specs.Layout.{record_at, header_at, key_of}
use Rattle.records.specs.Holds.{labels, Linked, Holds}
use Rattle.lookup.specs.Paths.{links_where, path_links}
use Rattle.lookup.proofs.HoldsLaws.{path_holds}

-- ---- onward

onward-map : (f : ℕ → Bits) (m : Meeting) (ls rs : List ℕ) → map f (onward m [] [] ls rs) ≡ onward m [] [] (map f ls) (map f rs)
onward-map f Equal ls rs = refl
onward-map f (Below false) ls rs = refl
onward-map f (Below true) ls rs = refl
onward-map f (Above x) ls rs = refl
onward-map f (Apart x) ls rs = refl

mem-onward : {A : Type 0} (m : Meeting) (ls rs xs ys : List A) (a : A) → (Memᴰ a ls → Memᴰ a xs) → (Memᴰ a rs → Memᴰ a ys)
    → Memᴰ a (onward m [] [] ls rs) → Memᴰ a (xs ++ ys)
mem-onward Equal ls rs xs ys a f g i = absurd (Memᴰ.not-nil i)
mem-onward (Below false) ls rs xs ys a f g i = Memᴰ.append_left ys (f i)
mem-onward (Below true) ls rs xs ys a f g i = Memᴰ.append_right xs (g i)
mem-onward (Above x) ls rs xs ys a f g i = absurd (Memᴰ.not-nil i)
mem-onward (Apart x) ls rs xs ys a f g i = absurd (Memᴰ.not-nil i)

-- ---- walk_links

abbrev pub walk_links : Tree ℕ → Bits → List ℕ
walk_links tip k = []
walk_links (node a s v l r) k = a ∷ onward (meet s k) [] [] (walk_links l k) (walk_links r k)

walk_links-strings : (ws : List ℕ) (l : ℕ) (t : Tree ℕ) (k : Bits) → Linked (record_at ws) l t
    → map (λ a. string_of (key_of (record_at ws a))) (walk_links t k) ≡ walk t k
walk_links-strings ws l tip k e = refl
walk_links-strings ws l (node a z v x y) k e =
    rw (
      onward-map (λ b. string_of (key_of (record_at ws b))) (meet z k) (walk_links x k) (walk_links y k),
      walk_links-strings ws (record_at ws a).left x k e.2,
      walk_links-strings ws (record_at ws a).right y k e.3,
      e.1.string,
    )

pub walk_links-labels : (t : Tree ℕ) (k : Bits) (a : ℕ) → Memᴰ a (walk_links t k) → Memᴰ a (labels t)
walk_links-labels tip k a i = i
walk_links-labels (node b s v l r) k a (Memᴰ.head e) = Memᴰ.head e
walk_links-labels (node b s v l r) k a (Memᴰ.tail i) =
    Memᴰ.tail (mem-onward (meet s k) (walk_links l k) (walk_links r k) (labels l) (labels r) a
    (walk_links-labels l k a) (walk_links-labels r k a) i)

-- ---- walk

mem-walk : (t : Tree ℕ) (k q : Bits) → Memᴰ q (walk t k) → Memᴰ q (strings t)
mem-walk tip k q i = i
mem-walk (node a s v l r) k q (Memᴰ.head e) = Memᴰ.head e
mem-walk (node a s v l r) k q (Memᴰ.tail i) =
    Memᴰ.tail (mem-onward (meet s k) (walk l k) (walk r k) (strings l) (strings r) q (mem-walk l k q) (mem-walk r k q) i)

-- ---- links_where

-- tests that are alike on the strings of a tree
links_where_ext : (f g : Bits → Bool) (t : Tree ℕ) → ((q : Bits) → Memᴰ q (strings t) → f q ≡ g q) → links_where f t ≡ links_where g t
links_where_ext f g tip h = refl
links_where_ext f g (node a s v l r) h =
    rw (
      h s (Memᴰ.head refl),
      links_where_ext f g l (λ q i. h q (Memᴰ.tail (Memᴰ.append_left (strings r) i))),
      links_where_ext f g r (λ q i. h q (Memᴰ.tail (Memᴰ.append_right (strings l) i))),
    )

links_where_false : (t : Tree ℕ) → links_where (λ q. false) t ≡ []
links_where_false tip = refl
links_where_false (node a s v l r) = rw (links_where_false l, links_where_false r)

module _ (s : Bits) (x : Bool) (t : Tree ℕ) (ps : List Bits) where
  -- no string of a side is the node's own
  links_where-side : Begin (s ++ (x ∷ [])) (strings t) → links_where (λ q. member q (s ∷ ps)) t ≡ links_where (λ q. member q ps) t
  unfolding member
  links_where-side b =
      links_where_ext (λ q. member q (s ∷ ps)) (λ q. member q ps) t (λ q i.
      rw (test_ext (equal q s) false (λ h. longer_irrefl s x (rw (equal_true q s h) at (b q i))) (λ h. absurd h)))

  -- nor one of the other side
  links_where_other : Begin (s ++ (not x ∷ [])) (strings t) → Begin (s ++ (x ∷ [])) ps → links_where (λ q. member q ps) t ≡ []
  links_where_other b c =
      links_where_ext (λ q. member q ps) (λ q. false) t (λ q i.
      test_ext (member q ps) false (λ h. one_side s q x (c q (member_mem q ps h)) (b q i)) (λ h. absurd h))
      ∙ links_where_false t

-- ---- path_links

-- the sides of a node, of which ps and qs are the strings met
module _ (s : Bits) (l r : Tree ℕ) (ps qs : List Bits) (bl : Begin (s ++ (false ∷ [])) (strings l)) (br : Begin (s ++ (true ∷ [])) (strings r))
    (cl : Begin (s ++ (false ∷ [])) ps) (cr : Begin (s ++ (true ∷ [])) qs) where
  abbrev in_sides : List Bits → List ℕ
  in_sides os = links_where (λ q. member q os) l ++ links_where (λ q. member q os) r

  in_sides-nil : in_sides [] ≡ []
  unfolding member
  in_sides-nil = rw (links_where_false l, links_where_false r)

  in_sides-onward : (m : Meeting) → in_sides (onward m [] [] ps qs) ≡ onward m [] [] (links_where (λ q. member q ps) l) (links_where (λ q. member q qs) r)
  in_sides-onward Equal = in_sides-nil
  in_sides-onward (Below false) = rw (links_where_other s false r ps br cl) (append-nil _)
  in_sides-onward (Below true) = rw (links_where_other s true l qs bl cr)
  in_sides-onward (Above x) = in_sides-nil
  in_sides-onward (Apart x) = in_sides-nil

links_where-walk : (p : Bits) (t : Tree ℕ) (k : Bits) → Good p t → links_where (λ q. member q (walk t k)) t ≡ walk_links t k
unfolding member
links_where-walk p tip k g = refl
links_where-walk p (node a s v l r) k g =
    let bl = begin-strings (s ++ (false ∷ [])) l g.2 in
    let br = begin-strings (s ++ (true ∷ [])) r g.3 in
    let os : List Bits = onward (meet s k) [] [] (walk l k) (walk r k) in
    rw (
      any-equal-head s os,
      links_where-side s false l os bl,
      links_where-side s true r os br,
      in_sides-onward s l r (walk l k) (walk r k) bl br (λ q i. bl q (mem-walk l k q i)) (λ q i. br q (mem-walk r k q i)) (meet s k),
      links_where-walk (s ++ (false ∷ [])) l k g.2,
      links_where-walk (s ++ (true ∷ [])) r k g.3,
    )

-- the links of the path's nodes are those that a walk meets
pub path_links-walk : (t : Tree ℕ) (k : Bits) → Good [] t → path_links t k ≡ walk_links t k
unfolding path_links
path_links-walk t k g = ap (λ (ps : List Bits). links_where (λ q. member q ps) t) (path-entries [] t g k) ∙ links_where-walk [] t k g

-- and bear the path's strings
pub path_links-strings : {ws : List ℕ} {m : Map} (h : Holds ws m) (k : Bits)
    → map (λ a. string_of (key_of (record_at ws a))) (path_links h.tree k) ≡ path (keys m) k
path_links-strings {ws} {m} h k =
    rw (path_links-walk h.tree k h.good) (walk_links-strings ws (header_at ws).root h.tree k h.linked ∙ sym (path_holds ws m h k))
