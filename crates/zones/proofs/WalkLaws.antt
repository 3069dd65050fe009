-- The laws of a walk: the path of a key, as the paper has it, is what a search from the top of a good tree
-- meets. No contract cites this file.
-- Assumes nothing.
use Prim.Native.Nat.{suc, ◌≤◌, ◌<◌}
use native.Mathlib.Omega.{arith}
use mathlib.Core.Path.{◌≡◌, refl, sym, ap, ◌∙◌, subst}
use mathlib.Core.Logic.{inl, inr}
use mathlib.Core.Bool.{Bool, true, false, not, cond}
use mathlib.Core.List.Memᴰ
use mathlib.Core.List.{List, [], ◌∷◌, ◌++◌, append-nil}
use mathlib.Core.Option.{Option, none, some}
use borrow.Author.Tests.{ne_eqb, eq-eqb, le-leb}
use lib.Dec.{T, eqb, leb}
use lib.ListN.{length, take, length-append}
use Rattle.bits.specs.Lists.{any, all, keep, last, last_or}
use Rattle.bits.specs.Bits.{Bits, is_prefix, lcp}
use Rattle.bits.specs.Meet.{meet}
use Rattle.bits.specs.declared.Meeting.{Meeting}
use Rattle.bits.specs.declared.Meeting.TheVariants.{Equal, Below, Above, Apart}
use Rattle.bits.proofs.ListsLaws.{T_true, and_left, and_right, and_both, test_ext, mem-any, mem-all, all_keep, all-last_or, keep-none, keep-every, keep_append}
use Rattle.bits.proofs.BitsLaws.{is_prefix_refl, is_prefix_trans, is_prefix_length, is_prefix-append, is_prefix-take, take_next, lcp_left, longer_irrefl, one_side}
use Rattle.bits.proofs.MeetLaws.{Says, meet-says}
use Rattle.zones.specs.Maps.{keys}
use Rattle.zones.specs.Nodes.{shorter, shortest, prefix_nodes, beyond, last_node, path}
use Rattle.zones.specs.Tree.{Tree, tip, node, Good, entries}
use Rattle.zones.specs.Searching.{strings, onward, walk}
use Rattle.zones.proofs.TreeLaws.{Begin, begin-append, begin-side, begin-strings, mem-strings, nodes-entries}

-- ---- meet: where a search ends, the key does not begin with what lies further on

pub equal_off : (s k : Bits) (x : Bool) → Says Equal s k → T (is_prefix (s ++ (x ∷ [])) k) → ⊥
equal_off s k x y h = longer_irrefl s x (rw (← y) at h)

pub above_off : (s k : Bits) (x : Bool) → Says (Above x) s k → T (is_prefix s k) → ⊥
above_off s k x y h = longer_irrefl k x (is_prefix_trans (k ++ (x ∷ [])) s k y h)

pub apart_off : (s k : Bits) (x : Bool) → Says (Apart x) s k → T (is_prefix s k) → ⊥
apart_off s k x y h = one_side (lcp s k) k x y.0 (is_prefix_trans (lcp s k ++ (not x ∷ [])) s k y.1 h)

-- ---- the path over a list of nodes, without the test that some stored string goes on

last_in : List Bits → Bits → Option Bits → List Bits
last_in ns k none = shortest ns
last_in ns k (some q) = cond (eqb (length q) (length k)) [] (shortest (keep (is_prefix (take (suc (length q)) k)) ns))

abbrev path_in : List Bits → Bits → List Bits
path_in ns k = keep (λ p. is_prefix p k) ns ++ last_in ns k (last (keep (λ p. is_prefix p k) ns))

module _ {A : Type 0} (p : Bits) (t : Tree A) (g : Good p t) where
  beyond_at : (b : Bool) (d : Bits) → any (is_prefix d) (keys (entries t)) ≡ b
      → cond b (shortest (keep (is_prefix d) (strings t))) [] ≡ shortest (keep (is_prefix d) (strings t))
  beyond_at true d e = refl
  beyond_at false d e =
      rw (keep-none (is_prefix d) (strings t) (λ a i h.
      let n = mem-strings p t g a i in
      let j : T (is_prefix a n.one) = subst (λ (x : Bits). T (is_prefix x n.one)) (sym n.is) (lcp_left n.one n.two) in
      rw e at (mem-any (is_prefix d) (keys (entries t)) n.one n.one_in (is_prefix_trans d a n.one h j))))

  last_node-entries : (k : Bits) (o : Option Bits) → last_node (keys (entries t)) k o ≡ last_in (strings t) k o
  unfolding last_node last_in beyond
  last_node-entries k none = ap shortest (nodes-entries p t g)
  last_node-entries k (some q) =
      let d : Bits = take (suc (length q)) k in
      rw (nodes-entries p t g, beyond_at (any (is_prefix d) (keys (entries t))) d refl)

  path-strings : (k : Bits) → path (keys (entries t)) k ≡ path_in (strings t) k
  unfolding path prefix_nodes
  path-strings k = rw (nodes-entries p t g, last_node-entries k (last (keep (λ q. is_prefix q k) (strings t))))

-- ---- shortest

all-shortest : (f : Bits → Bool) (qs : List Bits) → T (all f qs) → T (all f (shortest qs))
all-shortest f [] h = tt
all-shortest f (q ∷ qs) h = at (shortest qs) (all-shortest f qs (and_right (f q) (all f qs) h))
  where
    one : (b : Bool) (r : Bits) → T (f r) → T (all f (cond b q r ∷ []))
    one true r k = and_both (f q) true (and_left (f q) (all f qs) h) tt
    one false r k = and_both (f r) true k tt

    at : (rs : List Bits) → T (all f rs) → T (all f (shorter q rs))
    at [] k = and_both (f q) true (and_left (f q) (all f qs) h) tt
    at (r ∷ rs) k = one (leb (length q) (length r)) r (and_left (f r) (all f rs) k)

shorter-head : (s : Bits) (qs : List Bits) → T (all (is_prefix s) qs) → shorter s qs ≡ s ∷ []
shorter-head s [] h = refl
shorter-head s (q ∷ qs) h = rw (le-leb (length s) (length q) (is_prefix_length s q (and_left (is_prefix s q) (all (is_prefix s) qs) h)))

-- the shortest of strings that all begin with the first
shortest-head : (s : Bits) (qs : List Bits) → T (all (is_prefix s) qs) → shortest (s ∷ qs) ≡ s ∷ []
shortest-head s qs h = shorter-head s (shortest qs) (all-shortest (is_prefix s) qs h)

-- ---- one step of the walk

pick : {B : Type 0} → Bool → B → B → B
pick false a b = a
pick true a b = b

module _ (s : Bits) (ls rs : List Bits) (bl : Begin (s ++ (false ∷ [])) ls) (br : Begin (s ++ (true ∷ [])) rs) where
  begin-pick : (x : Bool) → Begin (s ++ (x ∷ [])) (pick x ls rs)
  unfolding pick
  begin-pick false = bl
  begin-pick true = br

  -- a test that no string of the other side passes
  keep_sides : (x : Bool) (f : Bits → Bool) → ((a : Bits) → T (is_prefix (s ++ (not x ∷ [])) a) → T (f a) → ⊥)
      → keep f (ls ++ rs) ≡ keep f (pick x ls rs)
  unfolding pick
  keep_sides false f h = keep_append f ls rs ∙ rw (keep-none f rs (λ a i. h a (br a i)), append-nil)
  keep_sides true f h = keep_append f ls rs ∙ rw (keep-none f ls (λ a i. h a (bl a i)))

  -- what begins with a string that goes on to side x
  keep-beyond : (x : Bool) (d : Bits) → T (is_prefix (s ++ (x ∷ [])) d) → keep (is_prefix d) (s ∷ (ls ++ rs)) ≡ keep (is_prefix d) (pick x ls rs)
  keep-beyond x d h =
      rw (test_ext (is_prefix d s) false (λ i. longer_irrefl s x (is_prefix_trans (s ++ (x ∷ [])) d s h i)) (λ i. absurd i))
      (keep_sides x (is_prefix d) (λ a i j. one_side s a x (is_prefix_trans (s ++ (x ∷ [])) d a h j) i))

  keep-side : (x : Bool) → keep (is_prefix (s ++ (x ∷ []))) (s ∷ (ls ++ rs)) ≡ pick x ls rs
  keep-side x =
      keep-beyond x (s ++ (x ∷ [])) (is_prefix_refl (s ++ (x ∷ []))) ∙ keep-every (is_prefix (s ++ (x ∷ []))) (pick x ls rs) (begin-pick x)

  module _ (x : Bool) (k : Bits) (h : T (is_prefix (s ++ (x ∷ [])) k)) where
    last_in_step : (ks : List Bits) → T (all (is_prefix (s ++ (x ∷ []))) ks)
        → last_in (s ∷ (ls ++ rs)) k (some (last_or s ks)) ≡ last_in (pick x ls rs) k (last ks)
    unfolding last_in
    last_in_step [] i =
        let n : length s < length k = omega (arith, length-append s (x ∷ []), is_prefix_length (s ++ (x ∷ [])) k h) in
        rw (ne_eqb (length s) (length k) (omega arith))
        (ap (λ (d : Bits). shortest (keep (is_prefix d) (s ∷ (ls ++ rs)))) (take_next s k x h) ∙ ap shortest (keep-side x))
    last_in_step (q ∷ ks) i =
        let z : Bits = last_or q ks in
        let n : length (s ++ (x ∷ [])) ≤ length z = is_prefix_length (s ++ (x ∷ [])) z (all-last_or (is_prefix (s ++ (x ∷ []))) q ks i) in
        ap (λ (l : List Bits). cond (eqb (length z) (length k)) [] (shortest l))
        (keep-beyond x (take (suc (length z)) k) (is_prefix-take (s ++ (x ∷ [])) k (suc (length z)) h (omega arith)))

    path_in_step : path_in (s ∷ (ls ++ rs)) k ≡ s ∷ path_in (pick x ls rs) k
    path_in_step =
        let f : Bits → Bool = λ p. is_prefix p k in
        let c : List Bits = pick x ls rs in
        let e : keep f (ls ++ rs) ≡ keep f c = keep_sides x f (λ a i j. one_side s k x h (is_prefix_trans (s ++ (not x ∷ [])) a k i j)) in
        let y : T (all (is_prefix (s ++ (x ∷ []))) (keep f c)) =
        all_keep f (is_prefix (s ++ (x ∷ []))) c (mem-all (is_prefix (s ++ (x ∷ []))) c (begin-pick x)) in
        let o : T (is_prefix s k) = is_prefix_trans s (s ++ (x ∷ [])) k (is_prefix-append s (x ∷ [])) h in
        rw (T_true (is_prefix s k) o, e, last_in_step (keep f c) y)

  -- a walk ends at a node that is no prefix of the key
  path_in_off : (k : Bits) → (T (is_prefix s k) → ⊥) → path_in (s ∷ (ls ++ rs)) k ≡ s ∷ []
  unfolding last_in
  path_in_off k h =
      let b : Begin s (ls ++ rs) = begin-append s ls rs (begin-side s false ls bl) (begin-side s true rs br) in
      rw (
        test_ext (is_prefix s k) false h (λ i. absurd i),
        keep-none (λ p. is_prefix p k) (ls ++ rs) (λ a i j. h (is_prefix_trans s a k (b a i) j)),
      )
      (shortest-head s (ls ++ rs) (mem-all (is_prefix s) (ls ++ rs) b))

  -- and at the key itself
  path_in-own : path_in (s ∷ (ls ++ rs)) s ≡ s ∷ []
  unfolding last_in
  path_in-own =
      rw (
        T_true (is_prefix s s) (is_prefix_refl s),
        keep-none (λ p. is_prefix p s) (ls ++ rs) (λ a i j. elim (Memᴰ.append_cases ls i) [
          | inl y ↦ longer_irrefl s false (is_prefix_trans (s ++ (false ∷ [])) a s (bl a y) j)
          | inr y ↦ longer_irrefl s true (is_prefix_trans (s ++ (true ∷ [])) a s (br a y) j)
        ]),
        eq-eqb (length s) (length s) refl,
      )

  path_in-onward : (o : Meeting) (k : Bits) → Says o s k
      → path_in (s ∷ (ls ++ rs)) k ≡ s ∷ onward o [] [] (path_in ls k) (path_in rs k)
  unfolding pick
  path_in-onward Equal k y = subst (λ (q : Bits). path_in (s ∷ (ls ++ rs)) q ≡ s ∷ []) y path_in-own
  path_in-onward (Below false) k y = path_in_step false k y
  path_in-onward (Below true) k y = path_in_step true k y
  path_in-onward (Above x) k y = path_in_off k (above_off s k x y)
  path_in-onward (Apart x) k y = path_in_off k (apart_off s k x y)

-- ---- walk

module _ {A : Type 0} where
  path_in-walk : (p : Bits) (t : Tree A) → Good p t → (k : Bits) → path_in (strings t) k ≡ walk t k
  unfolding last_in
  path_in-walk p tip g k = refl
  path_in-walk p (node c s v l r) g k =
      path_in-onward s (strings l) (strings r) (begin-strings (s ++ (false ∷ [])) l g.2) (begin-strings (s ++ (true ∷ [])) r g.3)
      (meet s k) k (meet-says s k)
      ∙ rw (path_in-walk (s ++ (false ∷ [])) l g.2 k, path_in-walk (s ++ (true ∷ [])) r g.3 k)

  -- the path that the paper defines is what the walk meets
  pub path-entries : (p : Bits) (t : Tree A) → Good p t → (k : Bits) → path (keys (entries t)) k ≡ walk t k
  path-entries p t g k = path-strings p t g k ∙ path_in-walk p t g k
