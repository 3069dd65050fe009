-- The image's sides are a count through the trie: a node's left child has the next number, and its right
-- child follows the left part. No contract cites this file.
-- Assumes nothing.
use Prim.Native.Nat.{ℕ, zero, suc, ◌+◌, ◌<◌}
use native.Mathlib.Omega.{arith}
use mathlib.Core.Path.{◌≡◌, refl, sym, ap, ◌∙◌, subst}
use mathlib.Core.Logic.{inl, inr}
use mathlib.Core.Bool.{Bool, true, false, not, cond}
use mathlib.Core.List.Memᴰ
use mathlib.Core.List.{List, [], ◌∷◌, ◌++◌, map, map-append, append_assoc, append-nil, Memᴰ}
use mathlib.Core.Option
use mathlib.Core.Option.{Option, none, some}
use lib.Dec.{T}
use lib.ListN.{length, length-append}
use Rattle.bits.specs.Bits.{Bits, is_prefix, equal}
use Rattle.bits.proofs.BitsLaws.{is_prefix_refl, is_prefix_trans, is_prefix-append, equal_true, order_refl, one_side}
use Rattle.zones.specs.Maps.{Entry, Map, keys}
use Rattle.image.specs.Image.{Side, to_node, leaf_of, node_or, number_in, side, Fork, forks_in, forks_of}
use Rattle.image.specs.Tries.{Trie, leaf, fork, size, side_of, ref, refs}
use Rattle.image.proofs.TrieLaws.{forks, trie_at, is_fork, zone_at, trie_of, Within, image_nodes-forks}

-- the number of the fork at q below the top, the top being 0
abbrev index : Trie → Bits → Option ℕ
index (leaf o) q = none
index (fork l r) [] = some 0
index (fork l r) (false ∷ q) = Option.map suc (index l q)
index (fork l r) (true ∷ q) = Option.map (λ i. suc (size l + i)) (index r q)

-- ---- size

length-forks : (p : Bits) (t : Trie) → length (forks p t) ≡ size t
length-forks p (leaf o) = refl
length-forks p (fork l r) =
    ap suc (length-append (forks (p ++ (false ∷ [])) l) (forks (p ++ (true ∷ [])) r)
    ∙ rw (length-forks (p ++ (false ∷ [])) l, length-forks (p ++ (true ∷ [])) r))

pub length-refs : (n : ℕ) (t : Trie) → length (refs n t) ≡ size t
length-refs n (leaf o) = refl
length-refs n (fork l r) =
    ap suc (length-append (refs (suc n) l) (refs (suc n + size l) r) ∙ rw (length-refs (suc n) l, length-refs (suc n + size l) r))

-- ---- number_in

abbrev or_else : Option ℕ → Option ℕ → Option ℕ
or_else none o = o
or_else (some i) o = some i

number_in-append_at : (b : Bool) (n : ℕ) (o u : Option ℕ) → cond b (some 0) (Option.map suc (or_else o (Option.map (λ i. n + i) u)))
    ≡ or_else (cond b (some 0) (Option.map suc o)) (Option.map (λ i. suc n + i) u)
number_in-append_at true n o u = refl
number_in-append_at false n (some i) u = refl
number_in-append_at false n none none = refl
number_in-append_at false n none (some i) = ap {B = Option ℕ} some (omega arith)

plus_zero : (o : Option ℕ) → o ≡ Option.map (λ i. 0 + i) o
plus_zero none = refl
plus_zero (some i) = ap {B = Option ℕ} some (omega arith)

number_in-append : (xs ys : List Bits) (q : Bits)
    → number_in (xs ++ ys) q ≡ or_else (number_in xs q) (Option.map (λ i. length xs + i) (number_in ys q))
number_in-append [] ys q = plus_zero (number_in ys q)
number_in-append (x ∷ xs) ys q =
    ap (λ (o : Option ℕ). cond (equal x q) (some 0) (Option.map suc o)) (number_in-append xs ys q)
    ∙ number_in-append_at (equal x q) (length xs) (number_in xs q) (number_in ys q)

number_in-absent : (xs : List Bits) (q : Bits) → ((a : Bits) → Memᴰ a xs → a ≡ q → ⊥) → number_in xs q ≡ none
number_in-absent [] q h = refl
number_in-absent (x ∷ xs) q h = at (equal x q) refl (number_in-absent xs q (λ a i. h a (Memᴰ.tail i)))
  where
    at : (b : Bool) → equal x q ≡ b → number_in xs q ≡ none → cond b (some 0) (Option.map suc (number_in xs q)) ≡ none
    at true e ih = absurd (h x (Memᴰ.head refl) (equal_true x q (rw e tt)))
    at false e ih = rw ih

begin-forks : (p : Bits) (t : Trie) (a : Bits) → Memᴰ a (forks p t) → T (is_prefix p a)
begin-forks p (leaf o) a i = absurd (Memᴰ.not-nil i)
begin-forks p (fork l r) a (Memᴰ.head e) = rw e (is_prefix_refl p)
begin-forks p (fork l r) a (Memᴰ.tail i) =
    elim (Memᴰ.append_cases (forks (p ++ (false ∷ [])) l) i) [
      | inl j ↦ is_prefix_trans p (p ++ (false ∷ [])) a (is_prefix-append p (false ∷ [])) (begin-forks (p ++ (false ∷ [])) l a j)
      | inr j ↦ is_prefix_trans p (p ++ (true ∷ [])) a (is_prefix-append p (true ∷ [])) (begin-forks (p ++ (true ∷ [])) r a j)
    ]

longer-differs : (p : Bits) (x : Bool) (q : Bits) → equal p (p ++ (x ∷ q)) ≡ false
longer-differs [] x q = refl
longer-differs (false ∷ p) x q = longer-differs p x q
longer-differs (true ∷ p) x q = longer-differs p x q

pub append_bit : (p : Bits) (x : Bool) (q : Bits) → p ++ (x ∷ q) ≡ (p ++ (x ∷ [])) ++ q
append_bit p x q = sym (append_assoc p (x ∷ []) q)

-- nothing on the other side
number_in_other : (p : Bits) (x : Bool) (q : Bits) (t : Trie) → number_in (forks (p ++ (not x ∷ [])) t) (p ++ (x ∷ q)) ≡ none
number_in_other p x q t =
    let on : T (is_prefix (p ++ (x ∷ [])) (p ++ (x ∷ q))) = rw (append_bit p x q) (is_prefix-append (p ++ (x ∷ [])) q) in
    number_in-absent (forks (p ++ (not x ∷ [])) t) (p ++ (x ∷ q))
    (λ a i e. one_side p (p ++ (x ∷ q)) x on (subst (λ (b : Bits). T (is_prefix (p ++ (not x ∷ [])) b)) e (begin-forks (p ++ (not x ∷ [])) t a i)))

or-none : (o : Option ℕ) → Option.map suc (or_else o none) ≡ Option.map suc o
or-none none = refl
or-none (some i) = refl

map_twice : (n : ℕ) (o : Option ℕ) → Option.map suc (Option.map (λ i. n + i) o) ≡ Option.map (λ i. suc (n + i)) o
map_twice n none = refl
map_twice n (some i) = refl

number_in-forks : (p : Bits) (t : Trie) (q : Bits) → number_in (forks p t) (p ++ q) ≡ index t q
number_in-forks p (leaf o) q = refl
number_in-forks p (fork l r) [] = rw (append-nil, order_refl)
number_in-forks p (fork l r) (false ∷ q) =
    let e : number_in (forks (p ++ (false ∷ [])) l) (p ++ (false ∷ q)) ≡ index l q =
    ap (number_in (forks (p ++ (false ∷ [])) l)) (append_bit p false q) ∙ number_in-forks (p ++ (false ∷ [])) l q in
    rw (
      longer-differs p false q,
      number_in-append (forks (p ++ (false ∷ [])) l) (forks (p ++ (true ∷ [])) r) (p ++ (false ∷ q)),
      e,
      number_in_other p false q r,
    )
    (or-none (index l q))
number_in-forks p (fork l r) (true ∷ q) =
    let e : number_in (forks (p ++ (true ∷ [])) r) (p ++ (true ∷ q)) ≡ index r q =
    ap (number_in (forks (p ++ (true ∷ [])) r)) (append_bit p true q) ∙ number_in-forks (p ++ (true ∷ [])) r q in
    rw (
      longer-differs p true q,
      number_in-append (forks (p ++ (false ∷ [])) l) (forks (p ++ (true ∷ [])) r) (p ++ (true ∷ q)),
      e,
      number_in_other p true q l,
      length-forks (p ++ (false ∷ [])) l,
    )
    (map_twice (size l) (index r q))

-- ---- what the leaves hold

-- each leaf of a trie at p holds what v says of its string
abbrev pub Filled : (Bits → Option ℕ) → Bits → Trie → Type 0
Filled v p (leaf o) = o ≡ v p
Filled v p (fork l r) = Filled v (p ++ (false ∷ [])) l × Filled v (p ++ (true ∷ [])) r

filled_at : (v : Bits → Option ℕ) (b : Bool) (p : Bits) (l r : Trie) → Filled v (p ++ (false ∷ [])) l → Filled v (p ++ (true ∷ [])) r
    → Filled v p (cond b (fork l r) (leaf (v p)))
filled_at v true p l r hl hr = (hl, hr)
filled_at v false p l r hl hr = refl

filled-trie_at : (f : Bits → Bool) (v : Bits → Option ℕ) (n : ℕ) (p : Bits) → Filled v p (trie_at f v n p)
filled-trie_at f v zero p = refl
filled-trie_at f v (suc n) p =
    filled_at v (f p) p (trie_at f v n (p ++ (false ∷ []))) (trie_at f v n (p ++ (true ∷ [])))
    (filled-trie_at f v n (p ++ (false ∷ []))) (filled-trie_at f v n (p ++ (true ∷ [])))

-- ---- refs

-- the numbers below a fork, counted from its side
plus_left : (n : ℕ) (o : Option ℕ) → Option.map (λ i. n + i) (Option.map suc o) ≡ Option.map (λ i. suc n + i) o
plus_left n none = refl
plus_left n (some i) = ap {B = Option ℕ} some (omega arith)

plus_right : (n m : ℕ) (o : Option ℕ) → Option.map (λ i. n + i) (Option.map (λ i. suc (m + i)) o) ≡ Option.map (λ i. suc n + m + i) o
plus_right n m none = refl
plus_right n m (some i) = ap {B = Option ℕ} some (omega arith)

module _ (v : Bits → Option ℕ) (u : Bits → Option ℕ) where
  -- a side by the numbers u and the zones v
  abbrev side_by : Bits → Side
  side_by p = node_or (u p) (side_of (v p))

  side_by-ref : (n : ℕ) (p : Bits) (t : Trie) → Filled v p t → u p ≡ Option.map (λ i. n + i) (index t []) → side_by p ≡ ref n t
  side_by-ref n p (leaf o) g h = rw (h, ← g)
  side_by-ref n p (fork l r) g h = rw h (ap to_node (omega arith))

  abbrev fork_by : Bits → Fork
  fork_by p = record { left = side_by (p ++ (false ∷ [])); right = side_by (p ++ (true ∷ [])) }

  map-refs : (n : ℕ) (p : Bits) (t : Trie) → Filled v p t → ((q : Bits) → u (p ++ q) ≡ Option.map (λ i. n + i) (index t q))
      → map fork_by (forks p t) ≡ refs n t
  map-refs n p (leaf o) g h = refl
  map-refs n p (fork l r) g h =
      let hl : (q : Bits) → u (p ++ (false ∷ q)) ≡ Option.map (λ i. suc n + i) (index l q) = λ q. h (false ∷ q) ∙ plus_left n (index l q) in
      let hr : (q : Bits) → u (p ++ (true ∷ q)) ≡ Option.map (λ i. suc n + size l + i) (index r q) =
      λ q. h (true ∷ q) ∙ plus_right n (size l) (index r q) in
      rw (
        side_by-ref (suc n) (p ++ (false ∷ [])) l g.0 (hl []),
        side_by-ref (suc n + size l) (p ++ (true ∷ [])) r g.1 (hr []),
        map-append fork_by (forks (p ++ (false ∷ [])) l) (forks (p ++ (true ∷ [])) r),
        map-refs (suc n) (p ++ (false ∷ [])) l g.0 (λ q. ap u (sym (append_bit p false q)) ∙ hl q),
        map-refs (suc n + size l) (p ++ (true ∷ [])) r g.1 (λ q. ap u (sym (append_bit p true q)) ∙ hr q),
      )

-- ---- forks_of

leaf_of-side_of : (o : Option Entry) → leaf_of o ≡ side_of (Option.map (λ e. e.zone) o)
leaf_of-side_of none = refl
leaf_of-side_of (some e) = refl

pub forks_in-refs : (m : Map) (t : Trie) → Filled (zone_at m) [] t → forks_in m (forks [] t) ≡ refs 0 t
unfolding forks_in side zone_at
forks_in-refs m t g =
    simp leaf_of-side_of
    (map-refs (zone_at m) (number_in (forks [] t)) 0 [] t g (λ q. number_in-forks [] t q ∙ plus_zero (index t q)))

pub forks_of-refs : (n : ℕ) (m : Map) → 0 < n → Within n (keys m) → forks_of m ≡ refs 0 (trie_of n m)
unfolding forks_of trie_of
forks_of-refs n m z w =
    ap (forks_in m) (image_nodes-forks n m z w) ∙ forks_in-refs m (trie_of n m) (filled-trie_at (is_fork (keys m)) (zone_at m) n [])

pub length-forks_of-size : (n : ℕ) (m : Map) → 0 < n → Within n (keys m) → length (forks_of m) ≡ size (trie_of n m)
length-forks_of-size n m z w = ap length (forks_of-refs n m z w) ∙ length-refs 0 (trie_of n m)
