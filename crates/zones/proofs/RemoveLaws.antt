-- The laws of a remove from a tree: the tree stays good, and it stores the map without the key.
-- No contract cites this file.
-- Assumes nothing.
use Prim.Native.Nat.{ℕ}
use mathlib.Core.Path.{◌≡◌, refl, sym, ◌∙◌, subst}
use mathlib.Core.Bool.{Bool, true, false, not}
use mathlib.Core.List.{[], ◌∷◌, ◌++◌, append-nil, Memᴰ}
use mathlib.Core.Option.{Option, none, some}
use lib.Dec.{T, not_T}
use Rattle.bits.specs.Bits.{Bits, is_prefix, equal}
use Rattle.bits.specs.Meet.{meet}
use Rattle.bits.specs.declared.Meeting.{Meeting}
use Rattle.bits.specs.declared.Meeting.TheVariants.{Equal, Below, Above, Apart}
use Rattle.bits.proofs.ListsLaws.{keep-every}
use Rattle.bits.proofs.BitsLaws.{is_prefix_trans, is_prefix-append, equal_true, order_refl, longer_irrefl, one_side}
use Rattle.bits.proofs.MeetLaws.{Says, meet-says}
use Rattle.zones.specs.Maps.{Entry, Map, keys, without}
use Rattle.zones.specs.Nodes.{nodes}
use Rattle.zones.specs.Tree.{Tree, tip, node, Good, own, entries}
use Rattle.zones.specs.Searching.{strings}
use Rattle.zones.specs.TreeEdits.{collapse, remove_here, remove_tree}
use Rattle.zones.proofs.TreeLaws.{keep_node, KeysBegin, mem-own, begin-entries, begin_top, nodes-entries}
use Rattle.zones.proofs.WalkLaws.{equal_off, above_off, apart_off}

-- ---- the tree stays good

module _ {A : Type 0} where
  -- what is good on a side of s is good where s is
  good-side : (p s : Bits) (x : Bool) (t : Tree A) → T (is_prefix p s) → Good (s ++ (x ∷ [])) t → Good p t
  good-side p s x tip h g = tt
  good-side p s x (node c q v l r) h g =
      let i : T (is_prefix s q) = is_prefix_trans s (s ++ (x ∷ [])) q (is_prefix-append s (x ∷ [])) g.0 in
      (is_prefix_trans p s q h i, g.1, g.2, g.3)

  good-collapse : (p : Bits) (c : A) (s : Bits) (v : Option ℕ) (l r : Tree A) → T (is_prefix p s)
      → Good (s ++ (false ∷ [])) l → Good (s ++ (true ∷ [])) r → Good p (collapse c s v l r)
  good-collapse p c s (some z) l r h gl gr = (h, tt, gl, gr)
  good-collapse p c s none tip r h gl gr = good-side p s true r h gr
  good-collapse p c s none (node b q v l m) tip h gl gr = good-side p s false (node b q v l m) h gl
  good-collapse p c s none (node b q v l m) (node d u w n o) h gl gr = (h, (tt, tt), gl, gr)

  good-remove_here : (o : Meeting) (p : Bits) (c : A) (s : Bits) (v : Option ℕ) (l r ml mr : Tree A) → Good p (node c s v l r)
      → Good (s ++ (false ∷ [])) ml → Good (s ++ (true ∷ [])) mr → Good p (remove_here o c s v l r ml mr)
  good-remove_here Equal p c s v l r ml mr g gl gr = good-collapse p c s none l r g.0 g.2 g.3
  good-remove_here (Below false) p c s v l r ml mr g gl gr = good-collapse p c s v ml r g.0 gl g.3
  good-remove_here (Below true) p c s v l r ml mr g gl gr = good-collapse p c s v l mr g.0 g.2 gr
  good-remove_here (Above x) p c s v l r ml mr g gl gr = g
  good-remove_here (Apart x) p c s v l r ml mr g gl gr = g

  pub good-remove_tree : (p k : Bits) (t : Tree A) → Good p t → Good p (remove_tree k t)
  good-remove_tree p k tip g = tt
  good-remove_tree p k (node c s v l r) g =
      good-remove_here (meet s k) p c s v l r (remove_tree k l) (remove_tree k r) g
      (good-remove_tree (s ++ (false ∷ [])) k l g.2) (good-remove_tree (s ++ (true ∷ [])) k r g.3)

-- ---- what a remove leaves of maps that follow each other

without_node : (k : Bits) (m n o : Map) → without k (m ++ (n ++ o)) ≡ without k m ++ (without k n ++ without k o)
unfolding without
without_node k m n o = keep_node (λ e. not (equal k e.key)) m n o

-- a map that has no such key stays as it is
without_other : (k : Bits) (m : Map) → ((e : Entry) → Memᴰ e m → k ≡ e.key → ⊥) → without k m ≡ m
unfolding without
without_other k m h = keep-every (λ e. not (equal k e.key)) m (λ e i. not_T (equal k e.key) (λ j. h e i (equal_true k e.key j)))

-- so does one whose keys begin with what k does not begin with
without-begin : (k p : Bits) (m : Map) → KeysBegin p m → (T (is_prefix p k) → ⊥) → without k m ≡ m
without-begin k p m b h = without_other k m (λ e i j. h (subst (λ (q : Bits). T (is_prefix p q)) (sym j) (b e i)))

without-own_same : (k : Bits) (v : Option ℕ) → without k (own k v) ≡ []
unfolding without
without-own_same k none = refl
without-own_same k (some z) = rw order_refl

without-own_other : (k s : Bits) (v : Option ℕ) (x : Bool) → T (is_prefix (s ++ (x ∷ [])) k) → without k (own s v) ≡ own s v
without-own_other k s v x y =
    without_other k (own s v) (λ e i j. longer_irrefl s x (subst (λ (q : Bits). T (is_prefix (s ++ (x ∷ [])) q)) (j ∙ mem-own s v e i) y))

-- ---- what the tree stores

module _ {A : Type 0} where
  entries-collapse : (c : A) (s : Bits) (v : Option ℕ) (l r : Tree A) → entries (collapse c s v l r) ≡ own s v ++ (entries l ++ entries r)
  entries-collapse c s (some z) l r = refl
  entries-collapse c s none tip r = refl
  entries-collapse c s none (node b q v l m) tip = sym (append-nil (entries (node b q v l m)))
  entries-collapse c s none (node b q v l m) (node d u w n o) = refl

module _ {A : Type 0} (k p : Bits) (c : A) (s : Bits) (v : Option ℕ) (l r : Tree A) (g : Good p (node c s v l r)) where
  without_left : (T (is_prefix (s ++ (false ∷ [])) k) → ⊥) → without k (entries l) ≡ entries l
  without_left h = without-begin k (s ++ (false ∷ [])) (entries l) (begin-entries (s ++ (false ∷ [])) l g.2) h

  without_right : (T (is_prefix (s ++ (true ∷ [])) k) → ⊥) → without k (entries r) ≡ entries r
  without_right h = without-begin k (s ++ (true ∷ [])) (entries r) (begin-entries (s ++ (true ∷ [])) r g.3) h

  without-equal : s ≡ k → without k (entries (node c s v l r)) ≡ entries l ++ entries r
  without-equal y =
      without_node k (own s v) (entries l) (entries r)
      ∙ rw (without_left (equal_off s k false y), without_right (equal_off s k true y), y, without-own_same k v)

  without_off : (T (is_prefix s k) → ⊥) → without k (entries (node c s v l r)) ≡ entries (node c s v l r)
  without_off h = without-begin k s (entries (node c s v l r)) (begin_top p c s v l r g) h

  entries-remove_here : (o : Meeting) (ml mr : Tree A) → Says o s k → entries ml ≡ without k (entries l) → entries mr ≡ without k (entries r)
      → entries (remove_here o c s v l r ml mr) ≡ without k (entries (node c s v l r))
  entries-remove_here Equal ml mr y il ir = entries-collapse c s none l r ∙ sym (without-equal y)
  entries-remove_here (Below false) ml mr y il ir =
      entries-collapse c s v ml r
      ∙ rw (il, without_node k (own s v) (entries l) (entries r), without-own_other k s v false y, without_right (one_side s k false y))
  entries-remove_here (Below true) ml mr y il ir =
      entries-collapse c s v l mr
      ∙ rw (ir, without_node k (own s v) (entries l) (entries r), without-own_other k s v true y, without_left (one_side s k true y))
  entries-remove_here (Above x) ml mr y il ir = sym (without_off (above_off s k x y))
  entries-remove_here (Apart x) ml mr y il ir = sym (without_off (apart_off s k x y))

without-nil : (k : Bits) → without k [] ≡ []
unfolding without
without-nil k = refl

module _ {A : Type 0} where
  -- the tree after a remove holds the map after that remove
  pub entries-remove_tree : (p k : Bits) (t : Tree A) → Good p t → entries (remove_tree k t) ≡ without k (entries t)
  entries-remove_tree p k tip g = sym (without-nil k)
  entries-remove_tree p k (node c s v l r) g =
      entries-remove_here k p c s v l r g (meet s k) (remove_tree k l) (remove_tree k r) (meet-says s k)
      (entries-remove_tree (s ++ (false ∷ [])) k l g.2) (entries-remove_tree (s ++ (true ∷ [])) k r g.3)

  -- so the nodes of the set without the key are its strings
  pub nodes-without : (k : Bits) (t : Tree A) → Good [] t → nodes (keys (without k (entries t))) ≡ strings (remove_tree k t)
  nodes-without k t g = rw (← entries-remove_tree [] k t g) (nodes-entries [] (remove_tree k t) (good-remove_tree [] k t g))
