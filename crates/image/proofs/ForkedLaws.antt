-- Where the trie of a tree has a fork: where a key that the tree stores goes on. No contract cites this file.
-- Assumes nothing.
use Prim.Native.Nat.{ℕ}
use mathlib.Core.Path.{◌≡◌, refl, sym, ap, ◌∙◌, subst}
use mathlib.Core.Logic.{inl, inr}
use mathlib.Core.Bool.{Bool, true, false, not, ◌||◌}
use mathlib.Core.List.{[], ◌∷◌, ◌++◌, Memᴰ}
use mathlib.Core.Option.{Option}
use lib.Dec.{T}
use Rattle.bits.specs.Lists.{any}
use Rattle.bits.specs.Bits.{Bits, is_prefix, lcp}
use Rattle.bits.specs.Meet.{meet}
use Rattle.bits.specs.declared.Meeting.{Meeting}
use Rattle.bits.specs.declared.Meeting.TheVariants.{Equal, Below, Above, Apart}
use Rattle.bits.proofs.ListsLaws.{T_true, or_left, or_right, or_cases, any_append, any-map, any_mem, mem-any, test_ext}
use Rattle.bits.proofs.BitsLaws.{is_prefix_refl, is_prefix_trans, is_prefix-append, lcp_left, longer_irrefl, one_side}
use Rattle.bits.proofs.MeetLaws.{Says, meet-says}
use Rattle.zones.specs.Maps.{Entry, Map, keys}
use Rattle.zones.specs.Tree.{Tree, tip, node, full, Good, own, entries}
use Rattle.zones.proofs.TreeLaws.{mem-own, begin-entries, mem-strings}

-- ---- forked: where the trie of a tree has a fork

-- the key goes on after q
abbrev pub goes_on : Bits → Bits → Bool
goes_on q k = is_prefix (q ++ (false ∷ [])) k || is_prefix (q ++ (true ∷ [])) k

-- what is stored goes on after q, by how q meets a node's string: at it, on a side, above it or apart
abbrev pub forked_at : Meeting → Bool → Bool → Bool → Bool
forked_at Equal here l r = here
forked_at (Below false) here l r = l
forked_at (Below true) here l r = r
forked_at (Above x) here l r = true
forked_at (Apart x) here l r = false

module _ {A : Type 0} where
  -- some key of a good tree goes on after q
  abbrev pub forked : Tree A → Bits → Bool
  forked tip q = false
  forked (node c s v l r) q = forked_at (meet s q) (full l || full r) (forked l q) (forked r q)

-- ---- goes_on

goes_on_bit : (q k : Bits) → T (goes_on q k) → (x : Bool) × T (is_prefix (q ++ (x ∷ [])) k)
goes_on_bit q k h =
    elim (or_cases (is_prefix (q ++ (false ∷ [])) k) (is_prefix (q ++ (true ∷ [])) k) h) [ inl i ↦ (false, i) | inr i ↦ (true, i) ]

bit-goes_on : (q k : Bits) (x : Bool) → T (is_prefix (q ++ (x ∷ [])) k) → T (goes_on q k)
bit-goes_on q k false h = or_left (is_prefix (q ++ (false ∷ [])) k) (is_prefix (q ++ (true ∷ [])) k) h
bit-goes_on q k true h = or_right (is_prefix (q ++ (false ∷ [])) k) (is_prefix (q ++ (true ∷ [])) k) h

goes_on-prefix : (q k : Bits) → T (goes_on q k) → T (is_prefix q k)
goes_on-prefix q k h = let w = goes_on_bit q k h in is_prefix_trans q (q ++ (w.0 ∷ [])) k (is_prefix-append q (w.0 ∷ [])) w.1

-- nothing that q begins with goes on after q
goes_on-none : (q k : Bits) → T (is_prefix k q) → T (goes_on q k) → ⊥
goes_on-none q k i h = let w = goes_on_bit q k h in longer_irrefl q w.0 (is_prefix_trans (q ++ (w.0 ∷ [])) k q w.1 i)

-- ---- any: what goes on in a list of entries

module _ (q : Bits) where
  abbrev pub goes : Map → Bool
  goes m = any (λ e. goes_on q e.key) m

  goes_none : (m : Map) → ((e : Entry) → Memᴰ e m → T (goes_on q e.key) → ⊥) → goes m ≡ false
  goes_none m n =
      test_ext (goes m) false (λ h. let w = any_mem (λ e. goes_on q e.key) m h in n w.0 w.1 w.2) (λ h. absurd h)

  goes-own : (s : Bits) (v : Option ℕ) → T (is_prefix s q) → goes (own s v) ≡ false
  goes-own s v h = goes_none (own s v) (λ e i j. goes_on-none q e.key (rw (mem-own s v e i) h) j)

  pub any-keys : (m : Map) → any (goes_on q) (keys m) ≡ goes m
  unfolding keys
  any-keys m = any-map (goes_on q) (λ e. e.key) m

  module _ {A : Type 0} where
    -- a good tree that is not empty stores a key
    goes_some : (p : Bits) (t : Tree A) → Good p t → T (full t) → ((k : Bits) → T (is_prefix p k) → T (goes_on q k)) → T (goes (entries t))
    goes_some p (node c s v l r) g f h =
        let n = mem-strings p (node c s v l r) g s (Memᴰ.head refl) in
        let i : T (is_prefix s n.one) = subst (λ (x : Bits). T (is_prefix x n.one)) (sym n.is) (lcp_left n.one n.two) in
        rw (any-keys (entries (node c s v l r))) at
        (mem-any (goes_on q) (keys (entries (node c s v l r))) n.one n.one_in (h n.one (is_prefix_trans p s n.one g.0 i)))
    goes_some p tip g f h = elim f [ ]

    goes_full : (x : Bool) (t : Tree A) → Good (q ++ (x ∷ [])) t → goes (entries t) ≡ full t
    goes_full x tip g = refl
    goes_full x (node c s v l r) g =
        T_true (goes (entries (node c s v l r))) (goes_some (q ++ (x ∷ [])) (node c s v l r) g tt (λ k. bit-goes_on q k x))

    -- nothing goes on after q in a tree whose top has no string with q
    goes_off : (p : Bits) (t : Tree A) → Good p t → ((k : Bits) → T (is_prefix p k) → T (is_prefix q k) → ⊥) → goes (entries t) ≡ false
    goes_off p t g n = goes_none (entries t) (λ e i h. n e.key (begin-entries p t g e i) (goes_on-prefix q e.key h))

-- ---- forked

or_false : (a : Bool) → (a || false) ≡ a
or_false true = refl
or_false false = refl

module _ {A : Type 0} where
  module _ (q p : Bits) (c : A) (s : Bits) (v : Option ℕ) (l r : Tree A) (g : Good p (node c s v l r)) where
    goes_node : goes q (entries (node c s v l r)) ≡ (goes q (own s v) || (goes q (entries l) || goes q (entries r)))
    goes_node =
        any_append (λ e. goes_on q e.key) (own s v) (entries l ++ entries r)
        ∙ ap (λ (b : Bool). goes q (own s v) || b) (any_append (λ e. goes_on q e.key) (entries l) (entries r))

    stem : (x : Bool) → T (is_prefix (s ++ (x ∷ [])) q) → T (is_prefix s q)
    stem x h = is_prefix_trans s (s ++ (x ∷ [])) q (is_prefix-append s (x ∷ [])) h

    goes-meet : (o : Meeting) → Says o s q → goes q (entries (node c s v l r)) ≡ forked_at o (full l || full r) (goes q (entries l)) (goes q (entries r))
    goes-meet Equal y =
        rw (
          goes_node,
          goes-own q s v (rw y (is_prefix_refl q)),
          goes_full q false l (rw (← y) g.2),
          goes_full q true r (rw (← y) g.3),
        )
    goes-meet (Below false) y =
        rw (
          goes_node,
          goes-own q s v (stem false y),
          goes_off q (s ++ (true ∷ [])) r g.3 (λ k i j. one_side s k false (is_prefix_trans (s ++ (false ∷ [])) q k y j) i),
        )
        (or_false (goes q (entries l)))
    goes-meet (Below true) y =
        rw (
          goes_node,
          goes-own q s v (stem true y),
          goes_off q (s ++ (false ∷ [])) l g.2 (λ k i j. one_side s k true (is_prefix_trans (s ++ (true ∷ [])) q k y j) i),
        )
    goes-meet (Above x) y =
        T_true (goes q (entries (node c s v l r)))
        (goes_some q s (node c s v l r) (is_prefix_refl s, g.1, g.2, g.3) tt (λ k i. bit-goes_on q k x (is_prefix_trans (q ++ (x ∷ [])) s k y i)))
    goes-meet (Apart x) y =
        goes_off q s (node c s v l r) (is_prefix_refl s, g.1, g.2, g.3) (λ k i j. one_side (lcp s q) k x
        (is_prefix_trans (lcp s q ++ (x ∷ [])) q k y.0 j) (is_prefix_trans (lcp s q ++ (not x ∷ [])) s k y.1 i))

  pub goes-forked : (q p : Bits) (t : Tree A) → Good p t → goes q (entries t) ≡ forked t q
  goes-forked q p tip g = refl
  goes-forked q p (node c s v l r) g =
      goes-meet q p c s v l r g (meet s q) (meet-says s q)
      ∙ rw (goes-forked q (s ++ (false ∷ [])) l g.2, goes-forked q (s ++ (true ∷ [])) r g.3)

-- ---- meet

pub meet-side : (s q : Bits) (x : Bool) → T (is_prefix (s ++ (x ∷ [])) q) → meet s q ≡ Below x
meet-side [] (false ∷ q) false h = refl
meet-side [] (true ∷ q) true h = refl
meet-side (false ∷ s) (false ∷ q) x h = meet-side s q x h
meet-side (true ∷ s) (true ∷ q) x h = meet-side s q x h
meet-side [] [] x h = elim h [ ]
meet-side [] (false ∷ q) true h = elim h [ ]
meet-side [] (true ∷ q) false h = elim h [ ]
meet-side (false ∷ s) [] x h = elim h [ ]
meet-side (false ∷ s) (true ∷ q) x h = elim h [ ]
meet-side (true ∷ s) [] x h = elim h [ ]
meet-side (true ∷ s) (false ∷ q) x h = elim h [ ]

pub meet_over : (q s : Bits) (x : Bool) → T (is_prefix (q ++ (x ∷ [])) s) → meet s q ≡ Above x
meet_over [] (false ∷ s) false h = refl
meet_over [] (true ∷ s) true h = refl
meet_over (false ∷ q) (false ∷ s) x h = meet_over q s x h
meet_over (true ∷ q) (true ∷ s) x h = meet_over q s x h
meet_over [] [] x h = elim h [ ]
meet_over [] (false ∷ s) true h = elim h [ ]
meet_over [] (true ∷ s) false h = elim h [ ]
meet_over (false ∷ q) [] x h = elim h [ ]
meet_over (false ∷ q) (true ∷ s) x h = elim h [ ]
meet_over (true ∷ q) [] x h = elim h [ ]
meet_over (true ∷ q) (false ∷ s) x h = elim h [ ]

pub meet-beside : (q s : Bits) (x : Bool) → T (is_prefix (q ++ (x ∷ [])) s) → meet s (q ++ (not x ∷ [])) ≡ Apart (not x)
meet-beside [] (false ∷ s) false h = refl
meet-beside [] (true ∷ s) true h = refl
meet-beside (false ∷ q) (false ∷ s) x h = meet-beside q s x h
meet-beside (true ∷ q) (true ∷ s) x h = meet-beside q s x h
meet-beside [] [] x h = elim h [ ]
meet-beside [] (false ∷ s) true h = elim h [ ]
meet-beside [] (true ∷ s) false h = elim h [ ]
meet-beside (false ∷ q) [] x h = elim h [ ]
meet-beside (false ∷ q) (true ∷ s) x h = elim h [ ]
meet-beside (true ∷ q) [] x h = elim h [ ]
meet-beside (true ∷ q) (false ∷ s) x h = elim h [ ]
