-- The laws of where a search ends: what stands above and what lies below make up the tree, an edit of what
-- lies below is the edit of the tree, and the parts of a good tree are good. No contract cites this file.
-- Assumes nothing.
use Prim.Native.Nat.{ℕ}
use mathlib.Core.Path.{◌≡◌, refl, ap, ◌∙◌}
use mathlib.Core.Bool.{Bool, true, false, not}
use mathlib.Core.List.{[], ◌∷◌, ◌++◌}
use mathlib.Core.Option.{Option, none, some}
use lib.Dec.{T}
use Rattle.bits.specs.Bits.{Bits, is_prefix}
use Rattle.bits.specs.Meet.{meet}
use Rattle.bits.specs.declared.Meeting.{Meeting}
use Rattle.bits.specs.declared.Meeting.TheVariants.{Equal, Below, Above, Apart}
use Rattle.bits.proofs.MeetLaws.{meet-says}
use Rattle.zones.specs.Maps.{Entry}
use Rattle.zones.specs.Tree.{Tree, tip, node, full, Branch, Good}
use Rattle.zones.specs.Searching.{onward, find}
use Rattle.zones.specs.TreeEdits.{put_tree, remove_tree}
use Rattle.zones.specs.Focus.{Context, top, into, Focus, joined, plug, collapsed, pull, focus}

-- ---- focus

-- a search stops at a node that the key does not lie below
pub data Stop (o : Meeting) : Type 0 where
  stop_equal : o ≡ Equal → Stop o
  stop_above : (x : Bool) → o ≡ Above x → Stop o
  stop_apart : (x : Bool) → o ≡ Apart x → Stop o

module _ {A : Type 0} where
  -- a search for k goes no further than the top of t
  abbrev pub Ends : Tree A → Bits → Type 0
  Ends tip k = Unit {0}
  Ends (node a s v l r) k = Stop (meet s k)

  -- k lies on the side of every node above on which the place is
  abbrev pub Leads : Context A → Bits → Type 0
  Leads top k = Unit {0}
  Leads (into a s v x o c) k = T (is_prefix (s ++ (x ∷ [])) k) × Leads c k

-- what holds where a search ends, and of a node where it holds of the side that the key lies on, holds of
-- every search
module _ {A : Type 0} (k : Bits) (P : Context A → Tree A → Focus A → Type 0)
    (here : (c : Context A) (t : Tree A) → Ends t k → P c t (record { above = c; below = t }))
    (on : (c : Context A) (a : A) (s : Bits) (v : Option ℕ) (x : Bool) (t o : Tree A) (f : Focus A) → meet s k ≡ Below x
    → P (into a s v x o c) t f → P c (joined a s v x t o) f) where
  focus_at : (m : Meeting) (c : Context A) (a : A) (s : Bits) (v : Option ℕ) (l r : Tree A) (f g h : Focus A) → meet s k ≡ m
      → (Stop (meet s k) → P c (node a s v l r) f) → P (into a s v false r c) l g → P (into a s v true l c) r h
      → P c (node a s v l r) (onward m f f g h)
  focus_at Equal c a s v l r f g h e i il ir = i (stop_equal e)
  focus_at (Below false) c a s v l r f g h e i il ir = on c a s v false l r g e il
  focus_at (Below true) c a s v l r f g h e i il ir = on c a s v true r l h e ir
  focus_at (Above x) c a s v l r f g h e i il ir = i (stop_above x e)
  focus_at (Apart x) c a s v l r f g h e i il ir = i (stop_apart x e)

  pub focus-ind : (c : Context A) (t : Tree A) → P c t (focus c t k)
  focus-ind c tip = here c tip tt
  focus-ind c (node a s v l r) =
      focus_at (meet s k) c a s v l r (record { above = c; below = node a s v l r }) (focus (into a s v false r c) l k)
      (focus (into a s v true l c) r k) refl (here c (node a s v l r)) (focus-ind (into a s v false r c) l)
      (focus-ind (into a s v true l c) r)

module _ {A : Type 0} where
  pub focus-ends : (c : Context A) (t : Tree A) (k : Bits) → Ends (focus c t k).below k
  focus-ends c t k = focus-ind k (λ c t f. Ends f.below k) (λ c t h. h) (λ c a s v x t o f e h. h) c t

  pub focus-leads : (c : Context A) (t : Tree A) (k : Bits) → Leads c k → Leads (focus c t k).above k
  focus-leads c t k =
      focus-ind k (λ c t f. Leads c k → Leads f.above k) (λ c t h i. i)
      (λ c a s v x t o f e h i. h (rw e at (meet-says s k), i)) c t

  find-joined : (a : A) (s : Bits) (v : Option ℕ) (x : Bool) (t o : Tree A) (k : Bits) → meet s k ≡ Below x
      → find t k ≡ find (joined a s v x t o) k
  find-joined a s v false t o k h = rw h
  find-joined a s v true t o k h = rw h

  -- what a search finds it finds where it ends
  pub find-focus : (c : Context A) (t : Tree A) (k : Bits) → find (focus c t k).below k ≡ find t k
  find-focus c t k =
      focus-ind k (λ c t f. find f.below k ≡ find t k) (λ c t h. refl)
      (λ c a s v x t o f e h. h ∙ find-joined a s v x t o k e) c t

  -- ---- plug

  -- the parts make up the whole
  pub plug-focus : (c : Context A) (t : Tree A) (k : Bits) → plug (focus c t k).above (focus c t k).below ≡ plug c t
  plug-focus c t k = focus-ind k (λ c t f. plug f.above f.below ≡ plug c t) (λ c t h. refl) (λ c a s v x t o f e h. h) c t

  put_tree-joined : (a b : A) (e : Entry) (d : A) (s : Bits) (v : Option ℕ) (x : Bool) (t o : Tree A) → meet s e.key ≡ Below x
      → joined d s v x (put_tree a b e t) o ≡ put_tree a b e (joined d s v x t o)
  put_tree-joined a b e d s v false t o h = rw h
  put_tree-joined a b e d s v true t o h = rw h

  -- a store below is the store in the whole
  pub plug-put_tree : (a b : A) (e : Entry) (c : Context A) (t : Tree A)
      → plug (focus c t e.key).above (put_tree a b e (focus c t e.key).below) ≡ plug c (put_tree a b e t)
  plug-put_tree a b e c t =
      focus-ind e.key (λ c t f. plug f.above (put_tree a b e f.below) ≡ plug c (put_tree a b e t)) (λ c t h. refl)
      (λ c d s v x t o f h i. i ∙ ap (plug c) (put_tree-joined a b e d s v x t o h)) c t

  -- ---- pull

  remove_tree-joined : (k : Bits) (a : A) (s : Bits) (v : Option ℕ) (x : Bool) (t o : Tree A) → meet s k ≡ Below x
      → collapsed a s v x (remove_tree k t) o ≡ remove_tree k (joined a s v x t o)
  remove_tree-joined k a s v false t o h = rw h
  remove_tree-joined k a s v true t o h = rw h

  -- a remove below, and what it takes with it above, is the remove from the whole
  pub pull-remove_tree : (k : Bits) (c : Context A) (t : Tree A)
      → pull (focus c t k).above (remove_tree k (focus c t k).below) ≡ pull c (remove_tree k t)
  pull-remove_tree k c t =
      focus-ind k (λ c t f. pull f.above (remove_tree k f.below) ≡ pull c (remove_tree k t)) (λ c t h. refl)
      (λ c a s v x t o f h i. i ∙ ap (pull c) (remove_tree-joined k a s v x t o h)) c t

-- ---- Good

module _ {A : Type 0} where
  -- what every string in the open place begins with
  abbrev pub stem : Context A → Bits
  stem top = []
  stem (into a s v x o c) = s ++ (x ∷ [])

  -- a node that stores nothing has the side o
  abbrev pub Paired : Option ℕ → Tree A → Type 0
  Paired none o = T (full o)
  Paired (some z) o = Unit {0}

  -- what stands above is part of a good tree
  abbrev pub GoodAbove : Context A → Type 0
  GoodAbove top = Unit {0}
  GoodAbove (into a s v x o c) = T (is_prefix (stem c) s) × Paired v o × Good (s ++ (not x ∷ [])) o × GoodAbove c

  paired_left : (v : Option ℕ) (l r : Tree A) → Branch v l r → Paired v l
  paired_left none l r h = h.0
  paired_left (some z) l r h = tt

  paired_right : (v : Option ℕ) (l r : Tree A) → Branch v l r → Paired v r
  paired_right none l r h = h.1
  paired_right (some z) l r h = tt

  pub good-plug : (c : Context A) (t : Tree A) → Good [] (plug c t) → Good (stem c) t × GoodAbove c
  good-plug top t g = (g, tt)
  good-plug (into a s v false o c) t g =
      let (h, i) = good-plug c (node a s v t o) g in (h.2, (h.0, paired_right v t o h.1, h.3, i))
  good-plug (into a s v true o c) t g =
      let (h, i) = good-plug c (node a s v o t) g in (h.3, (h.0, paired_left v o t h.1, h.2, i))

  full-joined : (a : A) (s : Bits) (v : Option ℕ) (x : Bool) (t o : Tree A) → T (full (joined a s v x t o))
  full-joined a s v false t o = tt
  full-joined a s v true t o = tt

  collapsed_full : (a : A) (s : Bits) (v : Option ℕ) (x : Bool) (t o : Tree A) → T (full t) → Paired v o
      → collapsed a s v x t o ≡ joined a s v x t o
  collapsed_full a s (some z) false t o h i = refl
  collapsed_full a s (some z) true t o h i = refl
  collapsed_full a s none false (node b p v l r) (node d q w m n) h i = refl
  collapsed_full a s none true (node b p v l r) (node d q w m n) h i = refl
  collapsed_full a s none false tip o h i = elim h [ ]
  collapsed_full a s none false (node b p v l r) tip h i = elim i [ ]
  collapsed_full a s none true tip o h i = elim h [ ]
  collapsed_full a s none true (node b p v l r) tip h i = elim i [ ]

  -- what is left below keeps everything above in its place
  pub pull_full : (c : Context A) (t : Tree A) → GoodAbove c → T (full t) → pull c t ≡ plug c t
  pull_full top t g h = refl
  pull_full (into a s v x o c) t g h =
      ap (pull c) (collapsed_full a s v x t o h g.1) ∙ pull_full c (joined a s v x t o) g.3 (full-joined a s v x t o)

  collapsed_stored : (a : A) (s : Bits) (z : ℕ) (x : Bool) (o : Tree A)
      → collapsed a s (some z) x tip o ≡ joined a s (some z) x tip o
  collapsed_stored a s z false o = refl
  collapsed_stored a s z true o = refl

  -- with nothing left below, a node that stores something stays
  pub pull_stored : (a : A) (s : Bits) (z : ℕ) (x : Bool) (o : Tree A) (c : Context A) → GoodAbove c
      → pull (into a s (some z) x o c) tip ≡ plug c (joined a s (some z) x tip o)
  pull_stored a s z x o c g =
      ap (pull c) (collapsed_stored a s z x o)
      ∙ pull_full c (joined a s (some z) x tip o) g (full-joined a s (some z) x tip o)

  collapsed_branch : (a : A) (s : Bits) (x : Bool) (o : Tree A) → collapsed a s none x tip o ≡ o
  collapsed_branch a s false o = refl
  collapsed_branch a s true tip = refl
  collapsed_branch a s true (node b p v l r) = refl

  -- and one that stores nothing goes, its other side in its place
  pub pull_branch : (a : A) (s : Bits) (x : Bool) (o : Tree A) (c : Context A) → GoodAbove (into a s none x o c)
      → pull (into a s none x o c) tip ≡ plug c o
  pull_branch a s x o c g = ap (pull c) (collapsed_branch a s x o) ∙ pull_full c o g.3 g.1
