-- A lookup over the sides of the image's nodes answers as the list does: the zone of the longest match.
-- No contract cites this file.
-- Assumes nothing.
use Prim.Native.Nat.{ℕ, zero, suc, ◌+◌, ◌≤◌, ◌<◌}
use native.Mathlib.Omega.{arith}
use mathlib.Core.Path.{◌≡◌, refl, sym, ap, ◌∙◌}
use mathlib.Core.Logic.{◌⊎◌, inl, inr}
use mathlib.Core.Bool.{Bool, true, false, cond}
use mathlib.Core.List.{List, [], ◌∷◌, ◌++◌, append_assoc, append-nil, Memᴰ}
use mathlib.Core.Option.{Option, none, some, map}
use lib.Dec.{T}
use lib.ListN.{length, length-append, get_or}
use lib.Seq.{get_or_at}
use Rattle.bits.specs.Lists.{keep}
use Rattle.bits.specs.Bits.{Bits, is_prefix}
use Rattle.bits.proofs.ListsLaws.{test_ext}
use Rattle.bits.proofs.BitsLaws.{is_prefix_trans, is_prefix-append}
use Rattle.zones.specs.Maps.{Entry, Map, keys, widest, longest_match}
use Rattle.zones.proofs.TreeLaws.{mem-keys}
use Rattle.image.specs.Image.{Side, to_node, no_data, to_zone, Fork, forks_of}
use Rattle.image.specs.Tries.{Trie, leaf, fork, size, side_of, ref, refs}
use Rattle.image.proofs.TrieLaws.{trie_at, is_fork, zone_at, trie_of, Within, proper-is_fork, length-is_fork}
use Rattle.image.proofs.PreorderLaws.{length-refs, forks_of-refs}

abbrev pub side_at : Bool → Fork → Side
side_at false f = f.left
side_at true f = f.right

-- what a side answers: at a node, what the search from there does
abbrev pub follow : Side → (ℕ → Option ℕ) → Option ℕ
follow (to_node i) on = on i
follow no_data on = none
follow (to_zone z) on = some z

-- what a list of forks has at n; past its end, a node without data
abbrev pub fork_no : List Fork → ℕ → Fork
fork_no fs n = get_or fs n (record { left = no_data; right = no_data })

-- a search from the node n by the bits of k, to the first side that is no node
abbrev pub look_in : List Fork → ℕ → Bits → Option ℕ
look_in fs n [] = none
look_in fs n (x ∷ k) = follow (side_at x (fork_no fs n)) (λ i. look_in fs i k)

-- the same search in a trie
abbrev pub look : Trie → Bits → Option ℕ
look (leaf o) k = o
look (fork l r) [] = none
look (fork l r) (false ∷ k) = look l k
look (fork l r) (true ∷ k) = look r k

-- fs has the forks of a trie, from the number n on
abbrev pub Has : List Fork → ℕ → Trie → Type 0
Has fs n (leaf o) = Unit {0}
Has fs n (fork l r) =
    (fork_no fs n ≡ record { left = ref (suc n) l; right = ref (suc n + size l) r }) × Has fs (suc n) l × Has fs (suc n + size l) r

-- ---- Has

-- a list that has the forks of a trie after n others
has-between : (fs xs ys : List Fork) (n : ℕ) (t : Trie) → length xs ≡ n → fs ≡ xs ++ (refs n t ++ ys) → Has fs n t
has-between fs xs ys n (leaf o) e q = tt
has-between fs xs ys n (fork l r) e q =
    let f : Fork = record { left = ref (suc n) l; right = ref (suc n + size l) r } in
    let ls : List Fork = refs (suc n) l in
    let rs : List Fork = refs (suc n + size l) r in (
      ap (λ (gs : List Fork). fork_no gs n) q ∙ get_or_at xs f (ls ++ rs ++ ys) (record { left = no_data; right = no_data }) n e,
      has-between fs (xs ++ (f ∷ [])) (rs ++ ys) (suc n) l (omega (arith, length-append xs (f ∷ []))) (q ∙ simp append_assoc),
      has-between fs (xs ++ (f ∷ ls)) ys (suc n + size l) r (omega (arith, length-append xs (f ∷ ls), length-refs (suc n) l)) (q ∙ simp append_assoc),
    )

pub has-refs : (t : Trie) → Has (refs 0 t) 0 t
has-refs t = has-between (refs 0 t) [] [] 0 t refl (sym (append-nil (refs 0 t)))

-- ---- look_in

follow-side_of : (o : Option ℕ) (on : ℕ → Option ℕ) → follow (side_of o) on ≡ o
follow-side_of none on = refl
follow-side_of (some z) on = refl

-- a search in forks that hold a trie is the search in the trie
pub follow-ref : (fs : List Fork) (n : ℕ) (t : Trie) (k : Bits) → Has fs n t → follow (ref n t) (λ i. look_in fs i k) ≡ look t k
follow-ref fs n (leaf o) k h = follow-side_of o (λ i. look_in fs i k)
follow-ref fs n (fork l r) [] h = refl
follow-ref fs n (fork l r) (false ∷ k) h = rw h.0 (follow-ref fs (suc n) l k h.1)
follow-ref fs n (fork l r) (true ∷ k) h = rw h.0 (follow-ref fs (suc n + size l) r k h.2)

-- ---- look

module _ (f : Bits → Bool) (v : Bits → Option ℕ) (w : ℕ) (narrow : (q : Bits) → T (f q) → length q < w)
    (stays : (p q : Bits) → (T (f p) → ⊥) → v p ≡ v (p ++ q)) where
  look-trie_at_at : (b : Bool) (p : Bits) (x : Bool) (k : Bits) (l r : Trie) → f p ≡ b
      → look l k ≡ v ((p ++ (false ∷ [])) ++ k) → look r k ≡ v ((p ++ (true ∷ [])) ++ k)
      → look (cond b (fork l r) (leaf (v p))) (x ∷ k) ≡ v (p ++ (x ∷ k))
  look-trie_at_at true p false k l r e hl hr = hl ∙ ap v (append_assoc p (false ∷ []) k)
  look-trie_at_at true p true k l r e hl hr = hr ∙ ap v (append_assoc p (true ∷ []) k)
  look-trie_at_at false p x k l r e hl hr = stays p (x ∷ k) (λ h. rw e at h)

  look-trie_at : (n : ℕ) (p k : Bits) → w ≤ length p + n → n ≤ length k → look (trie_at f v n p) k ≡ v (p ++ k)
  look-trie_at zero p k h i = stays p k (λ j. omega (arith, narrow p j))
  look-trie_at (suc n) p [] h i = absurd (omega arith)
  look-trie_at (suc n) p (x ∷ k) h i =
      look-trie_at_at (f p) p x k (trie_at f v n (p ++ (false ∷ []))) (trie_at f v n (p ++ (true ∷ []))) refl
      (look-trie_at n (p ++ (false ∷ [])) k (omega (arith, length-append p (false ∷ []))) (omega arith))
      (look-trie_at n (p ++ (true ∷ [])) k (omega (arith, length-append p (true ∷ []))) (omega arith))

-- ---- where no node is, the longest match stays as it is further down

keep_ext : {A : Type 0} (f g : A → Bool) (xs : List A) → ((a : A) → Memᴰ a xs → f a ≡ g a) → keep f xs ≡ keep g xs
keep_ext f g [] h = refl
keep_ext f g (x ∷ xs) h = rw (h x (Memᴰ.head refl), keep_ext f g xs (λ a i. h a (Memᴰ.tail i)))

-- two strings that another begins with
either : (a p q : Bits) → T (is_prefix a (p ++ q)) → T (is_prefix a p) ⊎ ((x : Bool) × T (is_prefix (p ++ (x ∷ [])) a))
either [] p q h = inl tt
either (false ∷ a) [] q h = inr (false, tt)
either (true ∷ a) [] q h = inr (true, tt)
either (false ∷ a) (false ∷ p) q h = either a p q h
either (true ∷ a) (true ∷ p) q h = either a p q h
either (false ∷ a) (true ∷ p) q h = elim h [ ]
either (true ∷ a) (false ∷ p) q h = elim h [ ]

is_prefix-stays : (m : Map) (p q : Bits) → (T (is_fork (keys m) p) → ⊥) → (e : Entry) → Memᴰ e m → is_prefix e.key p ≡ is_prefix e.key (p ++ q)
is_prefix-stays m p q n e i =
    test_ext (is_prefix e.key p) (is_prefix e.key (p ++ q))
    (λ h. is_prefix_trans e.key p (p ++ q) h (is_prefix-append p q))
    (λ h. elim (either e.key p q h) [
      | inl j ↦ j
      | inr w ↦ absurd (n (proper-is_fork (keys m) p (record { whole = e.key; bit = w.0; stored = mem-keys m e i; prefix = w.1 })))
    ])

zone_at-stays : (m : Map) (p q : Bits) → (T (is_fork (keys m) p) → ⊥) → zone_at m p ≡ zone_at m (p ++ q)
unfolding zone_at longest_match
zone_at-stays m p q n =
    ap (λ (l : Map). map (λ e. e.zone) (widest l))
    (keep_ext (λ e. is_prefix e.key p) (λ e. is_prefix e.key (p ++ q)) m (is_prefix-stays m p q n))

-- ---- the answer

pub look-trie_of : (n : ℕ) (m : Map) (k : Bits) → 0 < n → Within n (keys m) → n ≤ length k → look (trie_of n m) k ≡ zone_at m k
unfolding trie_of
look-trie_of n m k z w h =
    look-trie_at (is_fork (keys m)) (zone_at m) n (length-is_fork n (keys m) z w) (zone_at-stays m) n [] k (omega arith) h

-- the top is a node
ref-trie_of : (n : ℕ) (m : Map) → 0 < n → ref 0 (trie_of n m) ≡ to_node 0
unfolding trie_of is_fork
ref-trie_of zero m z = absurd (omega arith)
ref-trie_of (suc n) m z = refl

-- a search from the top of the image finds the zone of the longest match
pub look_in-longest : (n : ℕ) (m : Map) (k : Bits) → 0 < n → Within n (keys m) → n ≤ length k
    → look_in (forks_of m) 0 k ≡ map (λ e. e.zone) (longest_match k m)
unfolding zone_at
look_in-longest n m k z w h =
    let fs : List Fork = refs 0 (trie_of n m) in
    ap (λ (gs : List Fork). look_in gs 0 k) (forks_of-refs n m z w)
    ∙ ap (λ (s : Side). follow s (λ i. look_in fs i k)) (sym (ref-trie_of n m z))
    ∙ follow-ref fs 0 (trie_of n m) k (has-refs (trie_of n m))
    ∙ look-trie_of n m k z w h
