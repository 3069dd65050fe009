-- The laws of a store into a tree: the tree stays good, and it stores the map with the entry put in.
-- No contract cites this file.
-- Assumes nothing.
use Prim.Native.Nat.{ℕ}
use mathlib.Core.Path.{◌≡◌, refl, sym, ap}
use mathlib.Core.Logic.{inl, inr}
use mathlib.Core.Bool.{Bool, true, false}
use mathlib.Core.List.Memᴰ
use mathlib.Core.List.{[], ◌∷◌, ◌++◌, append-nil, Memᴰ}
use mathlib.Core.Option.{Option, none, some}
use lib.Dec.{T}
use Rattle.std.specs.declared.cmp.Ordering.{Ordering}
use Rattle.std.specs.declared.cmp.Ordering.TheVariants.{Less, Equal as Same, Greater}
use Rattle.std.specs.Ordering.{is_lt}
use Rattle.bits.specs.Bits.{Bits, is_prefix, lcp, order, before}
use Rattle.bits.specs.Meet.{meet}
use Rattle.bits.specs.declared.Meeting.{Meeting}
use Rattle.bits.specs.declared.Meeting.TheVariants.{Equal, Below, Above, Apart}
use Rattle.bits.proofs.BitsLaws.{is_prefix_trans, lcp-greatest, order_refl, order_flip, before-longer, before_split}
use Rattle.bits.proofs.MeetLaws.{Says, meet-says}
use Rattle.zones.specs.Maps.{Entry, Map, keys, put, put_at}
use Rattle.zones.specs.Nodes.{nodes}
use Rattle.zones.specs.Tree.{Tree, tip, node, full, Branch, Good, own, entries}
use Rattle.zones.specs.Searching.{strings}
use Rattle.zones.specs.TreeEdits.{put_here, put_tree}
use Rattle.zones.proofs.TreeLaws.{KeysBegin, mem-own, begin-entries, begin_top, nodes-entries}

-- ---- the tree stays good

module _ {A : Type 0} where
  branch_left : (v : Option ℕ) (l r t : Tree A) → T (full t) → Branch v l r → Branch v t r
  branch_left none l r t f b = (f, b.1)
  branch_left (some z) l r t f b = tt

  branch_right : (v : Option ℕ) (l r t : Tree A) → T (full t) → Branch v l r → Branch v l t
  branch_right none l r t f b = (b.0, f)
  branch_right (some z) l r t f b = tt

module _ {A : Type 0} (a b : A) (e : Entry) where
  full-put_here : (o : Meeting) (c : A) (s : Bits) (v : Option ℕ) (l r pl pr : Tree A) → T (full (put_here a b o e c s v l r pl pr))
  full-put_here Equal c s v l r pl pr = tt
  full-put_here (Below false) c s v l r pl pr = tt
  full-put_here (Below true) c s v l r pl pr = tt
  full-put_here (Above false) c s v l r pl pr = tt
  full-put_here (Above true) c s v l r pl pr = tt
  full-put_here (Apart false) c s v l r pl pr = tt
  full-put_here (Apart true) c s v l r pl pr = tt

  full-put_tree : (t : Tree A) → T (full (put_tree a b e t))
  full-put_tree tip = tt
  full-put_tree (node c s v l r) = full-put_here (meet s e.key) c s v l r (put_tree a b e l) (put_tree a b e r)

  good-put_here : (o : Meeting) (p : Bits) (c : A) (s : Bits) (v : Option ℕ) (l r pl pr : Tree A) → Says o s e.key
      → T (is_prefix p e.key) → Good p (node c s v l r) → T (full pl) → T (full pr)
      → (T (is_prefix (s ++ (false ∷ [])) e.key) → Good (s ++ (false ∷ [])) pl)
      → (T (is_prefix (s ++ (true ∷ [])) e.key) → Good (s ++ (true ∷ [])) pr) → Good p (put_here a b o e c s v l r pl pr)
  good-put_here Equal p c s v l r pl pr y h g fl fr il ir = (g.0, tt, g.2, g.3)
  good-put_here (Below false) p c s v l r pl pr y h g fl fr il ir = (g.0, branch_left v l r pl fl g.1, il y, g.3)
  good-put_here (Below true) p c s v l r pl pr y h g fl fr il ir = (g.0, branch_right v l r pr fr g.1, g.2, ir y)
  good-put_here (Above false) p c s v l r pl pr y h g fl fr il ir = (h, tt, (y, g.1, g.2, g.3), tt)
  good-put_here (Above true) p c s v l r pl pr y h g fl fr il ir = (h, tt, tt, (y, g.1, g.2, g.3))
  good-put_here (Apart false) p c s v l r pl pr y h g fl fr il ir =
      (lcp-greatest p s e.key g.0 h, (tt, tt), (y.0, tt, tt, tt), (y.1, g.1, g.2, g.3))
  good-put_here (Apart true) p c s v l r pl pr y h g fl fr il ir =
      (lcp-greatest p s e.key g.0 h, (tt, tt), (y.1, g.1, g.2, g.3), (y.0, tt, tt, tt))

module _ {A : Type 0} where
  pub good-put_tree : (p : Bits) (a b : A) (e : Entry) (t : Tree A) → T (is_prefix p e.key) → Good p t → Good p (put_tree a b e t)
  good-put_tree p a b e tip h g = (h, tt, tt, tt)
  good-put_tree p a b e (node c s v l r) h g =
      good-put_here a b e (meet s e.key) p c s v l r (put_tree a b e l) (put_tree a b e r) (meet-says s e.key) h g
      (full-put_tree a b e l) (full-put_tree a b e r)
      (λ i. good-put_tree (s ++ (false ∷ [])) a b e l i g.2) (λ i. good-put_tree (s ++ (true ∷ [])) a b e r i g.3)

-- ---- put, into one of two maps that follow each other

order-before : (p q : Bits) → T (before p q) → order p q ≡ Less
order-before p q h = at (order p q) h
  where
    at : (o : Ordering) → T (is_lt o) → o ≡ Less
    at Less h = refl
    at Same h = elim h [ ]
    at Greater h = elim h [ ]

pub put_first : (e : Entry) (m : Map) → ((f : Entry) → Memᴰ f m → T (before e.key f.key)) → put e m ≡ e ∷ m
put_first e [] h = refl
put_first e (f ∷ m) h = rw (order-before e.key f.key (h f (Memᴰ.head refl)))

put_left_at : (o : Ordering) (e f : Entry) (m n : Map) → put e (m ++ n) ≡ put e m ++ n
    → put_at o e f (m ++ n) (put e (m ++ n)) ≡ put_at o e f m (put e m) ++ n
put_left_at Less e f m n ih = refl
put_left_at Same e f m n ih = refl
put_left_at Greater e f m n ih = ap (λ (l : Map). f ∷ l) ih

put_left : (e : Entry) (m n : Map) → ((f : Entry) → Memᴰ f n → T (before e.key f.key)) → put e (m ++ n) ≡ put e m ++ n
put_left e [] n h = put_first e n h
put_left e (f ∷ m) n h = put_left_at (order e.key f.key) e f m n (put_left e m n h)

put_right : (e : Entry) (m n : Map) → ((f : Entry) → Memᴰ f m → T (before f.key e.key)) → put e (m ++ n) ≡ m ++ put e n
put_right e [] n h = refl
put_right e (f ∷ m) n h =
    rw (order_flip f.key e.key, order-before f.key e.key (h f (Memᴰ.head refl)))
    (ap (λ (l : Map). f ∷ l) (put_right e m n (λ d i. h d (Memᴰ.tail i))))

put_last : (e : Entry) (m : Map) → ((f : Entry) → Memᴰ f m → T (before f.key e.key)) → put e m ≡ m ++ (e ∷ [])
put_last e m h = rw append-nil at (put_right e m [] h)

put-own : (e : Entry) (s : Bits) (v : Option ℕ) (m : Map) → s ≡ e.key → ((f : Entry) → Memᴰ f m → T (before s f.key))
    → put e (own s v ++ m) ≡ record { key = s; zone = e.zone } ∷ m
put-own e s none m y h = rw y (put_first e m (rw y at h))
put-own e s (some z) m y h = rw (y, order_refl)

-- ---- what the tree stores

module _ {A : Type 0} (e : Entry) (p : Bits) (c : A) (s : Bits) (v : Option ℕ) (l r : Tree A) (g : Good p (node c s v l r)) where
  put-equal : s ≡ e.key → put e (entries (node c s v l r)) ≡ record { key = s; zone = e.zone } ∷ (entries l ++ entries r)
  put-equal y = put-own e s v (entries l ++ entries r) y (λ f i. elim (Memᴰ.append_cases (entries l) i) [
    | inl j ↦ before-longer s f.key false (begin-entries (s ++ (false ∷ [])) l g.2 f j)
    | inr j ↦ before-longer s f.key true (begin-entries (s ++ (true ∷ [])) r g.3 f j)
  ])

  put_below : (x : Bool) → T (is_prefix (s ++ (x ∷ [])) e.key) → put e (entries (node c s v l r)) ≡ own s v ++ put e (entries l ++ entries r)
  put_below x y = put_right e (own s v) (entries l ++ entries r) (λ f i. rw (mem-own s v f i) (before-longer s e.key x y))

  put_below_left : T (is_prefix (s ++ (false ∷ [])) e.key) → put e (entries l ++ entries r) ≡ put e (entries l) ++ entries r
  put_below_left y =
      put_left e (entries l) (entries r) (λ f i. before_split s e.key f.key y (begin-entries (s ++ (true ∷ [])) r g.3 f i))

  put_below_right : T (is_prefix (s ++ (true ∷ [])) e.key) → put e (entries l ++ entries r) ≡ entries l ++ put e (entries r)
  put_below_right y =
      put_right e (entries l) (entries r) (λ f i. before_split s f.key e.key (begin-entries (s ++ (false ∷ [])) l g.2 f i) y)

  begins : (q : Bits) → T (is_prefix q s) → KeysBegin q (entries (node c s v l r))
  begins q h f i = is_prefix_trans q s f.key h (begin_top p c s v l r g f i)

  put_above : (x : Bool) → T (is_prefix (e.key ++ (x ∷ [])) s) → put e (entries (node c s v l r)) ≡ e ∷ entries (node c s v l r)
  put_above x y = put_first e (entries (node c s v l r)) (λ f i. before-longer e.key f.key x (begins (e.key ++ (x ∷ [])) y f i))

  put_apart_left : (d : Bits) → T (is_prefix (d ++ (false ∷ [])) e.key) → T (is_prefix (d ++ (true ∷ [])) s)
      → put e (entries (node c s v l r)) ≡ e ∷ entries (node c s v l r)
  put_apart_left d y z =
      put_first e (entries (node c s v l r)) (λ f i. before_split d e.key f.key y (begins (d ++ (true ∷ [])) z f i))

  put_apart_right : (d : Bits) → T (is_prefix (d ++ (true ∷ [])) e.key) → T (is_prefix (d ++ (false ∷ [])) s)
      → put e (entries (node c s v l r)) ≡ entries (node c s v l r) ++ (e ∷ [])
  put_apart_right d y z =
      put_last e (entries (node c s v l r)) (λ f i. before_split d f.key e.key (begins (d ++ (false ∷ [])) z f i) y)

  entries-put_here : (o : Meeting) (a b : A) (pl pr : Tree A) → Says o s e.key
      → (T (is_prefix (s ++ (false ∷ [])) e.key) → entries pl ≡ put e (entries l))
      → (T (is_prefix (s ++ (true ∷ [])) e.key) → entries pr ≡ put e (entries r))
      → entries (put_here a b o e c s v l r pl pr) ≡ put e (entries (node c s v l r))
  entries-put_here Equal a b pl pr y il ir = sym (put-equal y)
  entries-put_here (Below false) a b pl pr y il ir = rw (il y, put_below false y, put_below_left y)
  entries-put_here (Below true) a b pl pr y il ir = rw (ir y, put_below true y, put_below_right y)
  entries-put_here (Above false) a b pl pr y il ir = rw (put_above false y, append-nil)
  entries-put_here (Above true) a b pl pr y il ir = sym (put_above true y)
  entries-put_here (Apart false) a b pl pr y il ir = sym (put_apart_left (lcp s e.key) y.0 y.1)
  entries-put_here (Apart true) a b pl pr y il ir = sym (put_apart_right (lcp s e.key) y.0 y.1)

module _ {A : Type 0} where
  -- the tree after a store holds the map after that store
  pub entries-put_tree : (p : Bits) (a b : A) (e : Entry) (t : Tree A) → T (is_prefix p e.key) → Good p t
      → entries (put_tree a b e t) ≡ put e (entries t)
  entries-put_tree p a b e tip h g = refl
  entries-put_tree p a b e (node c s v l r) h g =
      entries-put_here e p c s v l r g (meet s e.key) a b (put_tree a b e l) (put_tree a b e r) (meet-says s e.key)
      (λ i. entries-put_tree (s ++ (false ∷ [])) a b e l i g.2) (λ i. entries-put_tree (s ++ (true ∷ [])) a b e r i g.3)

  -- so the nodes of the new set, which decide whether a table is full, are its strings
  pub nodes-put : (a b : A) (e : Entry) (t : Tree A) → Good [] t → nodes (keys (put e (entries t))) ≡ strings (put_tree a b e t)
  nodes-put a b e t g =
      rw (← entries-put_tree [] a b e t tt g) (nodes-entries [] (put_tree a b e t) (good-put_tree [] a b e t tt g))
