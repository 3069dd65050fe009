-- The laws of a good tree: what it holds begins as it should and ascends, and its strings are the nodes of
-- the set that it stores. No contract cites this file.
-- Assumes nothing.
use Prim.Native.Nat.{ℕ}
use mathlib.Core.Path.{◌≡◌, refl, sym, ap, ap₂, ◌∙◌}
use mathlib.Core.Logic.{inl, inr}
use mathlib.Core.Bool.{Bool, true, false}
use mathlib.Core.List.Memᴰ
use mathlib.Core.List.{List, [], ◌∷◌, ◌++◌, Memᴰ}
use mathlib.Core.Option.{Option, none, some}
use lib.Dec.{T}
use Rattle.bits.specs.Lists.{any, keep}
use Rattle.bits.specs.Bits.{Bits, is_prefix, lcp, equal, rising, member}
use Rattle.bits.proofs.ListsLaws.{mem-any, any_mem, keep_append, test_ext}
use Rattle.bits.proofs.BitsLaws.{is_prefix_refl, is_prefix_trans, is_prefix-append, lcp_self, lcp_comm, lcp-prefix, lcp_split, before-longer, before_split, equal_true, equal_refl}
use Rattle.bits.proofs.RisingLaws.{rising-append, rising_ext}
use Rattle.zones.specs.Maps.{Entry, Map, keys, ascending}
use Rattle.zones.specs.Nodes.{nodes}
use Rattle.zones.specs.Tree.{Tree, tip, node, full, Good, own, entries}
use Rattle.zones.specs.Searching.{strings}
use Rattle.zones.proofs.NodesLaws.{is_node, Node, node-is_node, is_node_true, rising-nodes, member-nodes}

-- ---- keys

pub keys-append : (m n : Map) → keys (m ++ n) ≡ keys m ++ keys n
unfolding keys
keys-append [] n = refl
keys-append (e ∷ m) n = ap (λ (l : List Bits). e.key ∷ l) (keys-append m n)

pub mem-keys : (m : Map) (e : Entry) → Memᴰ e m → Memᴰ e.key (keys m)
unfolding keys
mem-keys (f ∷ m) e (Memᴰ.head h) = Memᴰ.head (ap (λ (x : Entry). x.key) h)
mem-keys (f ∷ m) e (Memᴰ.tail i) = Memᴰ.tail (mem-keys m e i)
mem-keys [] e x' = elim x' [ ]

-- ---- keep

pub keep_node : (f : Entry → Bool) (m n o : Map) → keep f (m ++ (n ++ o)) ≡ keep f m ++ (keep f n ++ keep f o)
keep_node f m n o = keep_append f m (n ++ o) ∙ ap (λ (l : Map). keep f m ++ l) (keep_append f n o)

-- ---- own

pub mem-own : (s : Bits) (v : Option ℕ) (e : Entry) → Memᴰ e (own s v) → e.key ≡ s
mem-own s (some z) e (Memᴰ.head h) = ap (λ (x : Entry). x.key) h
mem-own s none e x' = elim x' [ ]
mem-own s (some z) e (Memᴰ.tail x6) = elim x6 [ ]

-- ---- keys (entries t), by clauses that compute

abbrev own_key : Bits → Option ℕ → List Bits
own_key s none = []
own_key s (some z) = s ∷ []

keys-own : (s : Bits) (v : Option ℕ) → keys (own s v) ≡ own_key s v
unfolding keys
keys-own s none = refl
keys-own s (some z) = refl

keys-nil : keys [] ≡ []
unfolding keys
keys-nil = refl

module _ {A : Type 0} where
  abbrev stored : Tree A → List Bits
  stored tip = []
  stored (node c s v l r) = own_key s v ++ (stored l ++ stored r)

  keys-entries : (t : Tree A) → keys (entries t) ≡ stored t
  keys-entries tip = keys-nil
  keys-entries (node c s v l r) =
      keys-append (own s v) (entries l ++ entries r)
      ∙ ap₂ ◌++◌ (keys-own s v) (keys-append (entries l) (entries r) ∙ ap₂ ◌++◌ (keys-entries l) (keys-entries r))

-- ---- Good: all that a tree holds begins as it should

abbrev pub Begin : Bits → List Bits → Type 0
Begin p xs = (a : Bits) → Memᴰ a xs → T (is_prefix p a)

abbrev pub KeysBegin : Bits → Map → Type 0
KeysBegin p m = (e : Entry) → Memᴰ e m → T (is_prefix p e.key)

mem-own_key : (s : Bits) (v : Option ℕ) (a : Bits) → Memᴰ a (own_key s v) → a ≡ s
mem-own_key s (some z) a (Memᴰ.head e) = e
mem-own_key s none a x' = elim x' [ ]
mem-own_key s (some z) a (Memᴰ.tail x6) = elim x6 [ ]

pub begin-append : (p : Bits) (xs ys : List Bits) → Begin p xs → Begin p ys → Begin p (xs ++ ys)
begin-append p xs ys h k a i = elim (Memᴰ.append_cases xs i) [ inl j ↦ h a j | inr j ↦ k a j ]

-- what begins with s and a bit begins with s
pub begin-side : (s : Bits) (x : Bool) (xs : List Bits) → Begin (s ++ (x ∷ [])) xs → Begin s xs
begin-side s x xs h a i = is_prefix_trans s (s ++ (x ∷ [])) a (is_prefix-append s (x ∷ [])) (h a i)

begin_node : (p s : Bits) (v : Option ℕ) (ls rs : List Bits) → T (is_prefix p s)
    → Begin (s ++ (false ∷ [])) ls → Begin (s ++ (true ∷ [])) rs → Begin p (own_key s v ++ (ls ++ rs))
begin_node p s v ls rs h bl br a i =
    is_prefix_trans p s a h
    (begin-append s (own_key s v) (ls ++ rs) (λ b j. rw (mem-own_key s v b j) (is_prefix_refl s))
    (begin-append s ls rs (begin-side s false ls bl) (begin-side s true rs br)) a i)

rising_node : (s : Bits) (v : Option ℕ) (ls rs : List Bits) → Begin (s ++ (false ∷ [])) ls → Begin (s ++ (true ∷ [])) rs
    → T (rising ls) → T (rising rs) → T (rising (own_key s v ++ (ls ++ rs)))
rising_node s v ls rs bl br hl hr =
    rising-append (own_key s v) (ls ++ rs) (alone v) (rising-append ls rs hl hr (λ a b i j. before_split s a b (bl a i) (br b j)))
    (λ a b i j. rw (mem-own_key s v a i) (elim (Memᴰ.append_cases ls j) [
      | inl y ↦ before-longer s b false (bl b y)
      | inr y ↦ before-longer s b true (br b y)
    ]))
  where
    alone : (v : Option ℕ) → T (rising (own_key s v))
    alone none = tt
    alone (some z) = tt

module _ {A : Type 0} where
  begin_stored : (p : Bits) (t : Tree A) → Good p t → Begin p (stored t)
  begin_stored p tip g = λ a i. absurd (Memᴰ.not-nil i)
  begin_stored p (node c s v l r) g =
      begin_node p s v (stored l) (stored r) g.0 (begin_stored (s ++ (false ∷ [])) l g.2) (begin_stored (s ++ (true ∷ [])) r g.3)

  -- ---- entries

  -- every key begins with p
  pub begin-entries : (p : Bits) (t : Tree A) → Good p t → KeysBegin p (entries t)
  begin-entries p t g e i = begin_stored p t g e.key (rw (keys-entries t) at (mem-keys (entries t) e i))

  -- and with the top node's string
  pub begin_top : (p : Bits) (c : A) (s : Bits) (v : Option ℕ) (l r : Tree A) → Good p (node c s v l r)
      → KeysBegin s (entries (node c s v l r))
  begin_top p c s v l r g = begin-entries s (node c s v l r) (is_prefix_refl s, g.1, g.2, g.3)

  rising_stored : (p : Bits) (t : Tree A) → Good p t → T (rising (stored t))
  rising_stored p tip g = tt
  rising_stored p (node c s v l r) g =
      rising_node s v (stored l) (stored r) (begin_stored (s ++ (false ∷ [])) l g.2) (begin_stored (s ++ (true ∷ [])) r g.3)
      (rising_stored (s ++ (false ∷ [])) l g.2) (rising_stored (s ++ (true ∷ [])) r g.3)

  pub ascending-entries : (p : Bits) (t : Tree A) → Good p t → T (ascending (entries t))
  unfolding ascending
  ascending-entries p t g = rw (keys-entries t) (rising_stored p t g)

  -- ---- strings

  pub begin-strings : (p : Bits) (t : Tree A) → Good p t → Begin p (strings t)
  begin-strings p tip g = λ a i. absurd (Memᴰ.not-nil i)
  begin-strings p (node c s v l r) g =
      begin_node p s (some 0) (strings l) (strings r) g.0 (begin-strings (s ++ (false ∷ [])) l g.2) (begin-strings (s ++ (true ∷ [])) r g.3)

  pub rising-strings : (p : Bits) (t : Tree A) → Good p t → T (rising (strings t))
  rising-strings p tip g = tt
  rising-strings p (node c s v l r) g =
      rising_node s (some 0) (strings l) (strings r) (begin-strings (s ++ (false ∷ [])) l g.2) (begin-strings (s ++ (true ∷ [])) r g.3)
      (rising-strings (s ++ (false ∷ [])) l g.2) (rising-strings (s ++ (true ∷ [])) r g.3)

-- ---- every string is a node

node-wider : (xs ys : List Bits) (p : Bits) → ((a : Bits) → Memᴰ a xs → Memᴰ a ys) → Node xs p → Node ys p
node-wider xs ys p f n =
    record { one = n.one; two = n.two; one_in = f n.one n.one_in; two_in = f n.two n.two_in; is = n.is }

module _ {A : Type 0} where
  some_stored : (p : Bits) (t : Tree A) → Good p t → T (full t) → (a : Bits) × Memᴰ a (stored t)
  some_stored p (node c s (some z) l r) g f = (s, Memᴰ.head refl)
  some_stored p (node c s none l r) g f =
      let m = some_stored (s ++ (false ∷ [])) l g.2 g.1.0 in
      (m.0, Memᴰ.append_left (stored r) m.1)
  some_stored p tip g f = elim f [ ]

  node_top : (p : Bits) (c : A) (s : Bits) (v : Option ℕ) (l r : Tree A) → Good p (node c s v l r) → Node (stored (node c s v l r)) s
  node_top p c s (some z) l r g =
      record { one = s; two = s; one_in = Memᴰ.head refl; two_in = Memᴰ.head refl; is = sym (lcp_self s) }
  node_top p c s none l r g =
      let a = some_stored (s ++ (false ∷ [])) l g.2 g.1.0 in
      let b = some_stored (s ++ (true ∷ [])) r g.3 g.1.1 in
      let h = begin_stored (s ++ (false ∷ [])) l g.2 a.0 a.1 in
      let k = begin_stored (s ++ (true ∷ [])) r g.3 b.0 b.1 in
      let i = Memᴰ.append_left (stored r) a.1 in
      let j = Memᴰ.append_right (stored l) b.1 in
      record { one = a.0; two = b.0; one_in = i; two_in = j; is = sym (lcp_split s a.0 b.0 h k) }

  mem-strings_stored : (p : Bits) (t : Tree A) → Good p t → (a : Bits) → Memᴰ a (strings t) → Node (stored t) a
  mem-strings_stored p (node c s v l r) g a (Memᴰ.head e) = rw e (node_top p c s v l r g)
  mem-strings_stored p (node c s v l r) g a (Memᴰ.tail i) =
      elim (Memᴰ.append_cases (strings l) i) [
        | inl j ↦ node-wider (stored l) (stored (node c s v l r)) a (λ b y. Memᴰ.append_right (own_key s v) (Memᴰ.append_left (stored r) y))
            (mem-strings_stored (s ++ (false ∷ [])) l g.2 a j)
        | inr j ↦ node-wider (stored r) (stored (node c s v l r)) a (λ b y. Memᴰ.append_right (own_key s v) (Memᴰ.append_right (stored l) y))
            (mem-strings_stored (s ++ (true ∷ [])) r g.3 a j)
      ]
  mem-strings_stored p tip g a absent = elim absent [ ]

  -- every string is the longest common prefix of two stored keys
  pub mem-strings : (p : Bits) (t : Tree A) → Good p t → (a : Bits) → Memᴰ a (strings t) → Node (keys (entries t)) a
  mem-strings p t g a i = rw (keys-entries t) (mem-strings_stored p t g a i)

-- ---- every node is a string

-- where a stored string a stands: at the node s, or on a side
data Place (s : Bits) (ls rs : List Bits) (a : Bits) : Type 0 where
  here : a ≡ s → Place s ls rs a
  on_left : Memᴰ a ls → Place s ls rs a
  on_right : Memᴰ a rs → Place s ls rs a

place : (s : Bits) (v : Option ℕ) (ls rs : List Bits) (a : Bits) → Memᴰ a (own_key s v ++ (ls ++ rs)) → Place s ls rs a
place s v ls rs a i =
    elim (Memᴰ.append_cases (own_key s v) i) [
      | inl j ↦ here (mem-own_key s v a j)
      | inr j ↦ elim (Memᴰ.append_cases ls j) [ inl k ↦ on_left k | inr k ↦ on_right k ]
    ]

module _ (s : Bits) (ls rs ps qs : List Bits) (bl : Begin (s ++ (false ∷ [])) ls) (br : Begin (s ++ (true ∷ [])) rs) where
  stem : (a : Bits) → Place s ls rs a → T (is_prefix s a)
  stem a (here e) = rw e (is_prefix_refl s)
  stem a (on_left i) = begin-side s false ls bl a i
  stem a (on_right i) = begin-side s true rs br a i

  lcp-strings_at : (a b : Bits) → (Memᴰ a ls → Memᴰ b ls → Memᴰ (lcp a b) ps)
      → (Memᴰ a rs → Memᴰ b rs → Memᴰ (lcp a b) qs)
      → Place s ls rs a → Place s ls rs b → Memᴰ (lcp a b) (s ∷ (ps ++ qs))
  lcp-strings_at a b il ir (here e) q = Memᴰ.head {x = s} (rw e (lcp-prefix s b (stem b q)))
  lcp-strings_at a b il ir (on_left i) (here f) = Memᴰ.head {x = s} (lcp_comm a b ∙ rw f (lcp-prefix s a (stem a (on_left i))))
  lcp-strings_at a b il ir (on_right i) (here f) = Memᴰ.head {x = s} (lcp_comm a b ∙ rw f (lcp-prefix s a (stem a (on_right i))))
  lcp-strings_at a b il ir (on_left i) (on_left j) = Memᴰ.tail (Memᴰ.append_left qs (il i j))
  lcp-strings_at a b il ir (on_right i) (on_right j) = Memᴰ.tail (Memᴰ.append_right ps (ir i j))
  lcp-strings_at a b il ir (on_left i) (on_right j) = Memᴰ.head (lcp_split s a b (bl a i) (br b j))
  lcp-strings_at a b il ir (on_right i) (on_left j) = Memᴰ.head (lcp_comm a b ∙ lcp_split s b a (bl b j) (br a i))

module _ {A : Type 0} where
  lcp-strings : (p : Bits) (t : Tree A) → Good p t → (a b : Bits) → Memᴰ a (stored t) → Memᴰ b (stored t)
      → Memᴰ (lcp a b) (strings t)
  lcp-strings p tip g a b i j = absurd (Memᴰ.not-nil i)
  lcp-strings p (node c s v l r) g a b i j =
      lcp-strings_at s (stored l) (stored r) (strings l) (strings r)
      (begin_stored (s ++ (false ∷ [])) l g.2) (begin_stored (s ++ (true ∷ [])) r g.3) a b
      (lcp-strings (s ++ (false ∷ [])) l g.2 a b) (lcp-strings (s ++ (true ∷ [])) r g.3 a b)
      (place s v (stored l) (stored r) a i) (place s v (stored l) (stored r) b j)

  nodes_stored : (p : Bits) (t : Tree A) → Good p t → nodes (stored t) ≡ strings t
  unfolding member
  nodes_stored p t g =
      rising_ext (nodes (stored t)) (strings t) (rising-nodes (stored t)) (rising-strings p t g)
      (λ q. member-nodes (stored t) q ∙ test_ext (is_node (stored t) q) (any (equal q) (strings t))
      (λ h. let n = is_node_true (stored t) q h in
      mem-any (equal q) (strings t) q (Memᴰ.cast n.is (lcp-strings p t g n.one n.two n.one_in n.two_in)) (equal_refl q))
      (λ h. let w = any_mem (equal q) (strings t) h in
      node-is_node (stored t) q (rw (equal_true q w.0 w.2) (mem-strings_stored p t g w.0 w.1))))

  -- the strings of a good tree are the nodes of the set that it stores, in their order
  pub nodes-entries : (p : Bits) (t : Tree A) → Good p t → nodes (keys (entries t)) ≡ strings t
  nodes-entries p t g = ap nodes (keys-entries t) ∙ nodes_stored p t g
