-- The binary trie of a map: its forks are the image nodes, its leaves hold the zones of the longest matches.
-- No contract cites this file.
-- Assumes nothing.
use Prim.Native.Nat.{ℕ, zero, suc, ◌+◌, ◌≤◌, ◌<◌}
use native.Mathlib.Omega.{arith}
use mathlib.Core.Path.{◌≡◌, refl, ap, ◌∙◌}
use mathlib.Core.Logic.{◌⊎◌, inl, inr}
use mathlib.Core.Bool.{Bool, true, false, ◌||◌, cond}
use mathlib.Core.List.Memᴰ
use mathlib.Core.List.{List, [], ◌∷◌, ◌++◌, Memᴰ}
use mathlib.Core.Option.{Option, some, map}
use lib.Dec.{T}
use lib.ListN.{length, length-append}
use Rattle.bits.specs.Lists.{any, each}
use Rattle.bits.specs.Bits.{Bits, is_prefix, equal, rising, member}
use Rattle.bits.proofs.ListsLaws.{T_true, or_left, or_right, or_cases, any-map, any-each, any_mem, mem-any, test_ext}
use Rattle.bits.proofs.BitsLaws.{is_prefix_refl, is_prefix_trans, is_prefix_length, is_prefix-append, equal_true, equal_refl}
use Rattle.bits.proofs.RisingLaws.{rising_ext, member_mem}
use Rattle.zones.specs.Maps.{Map, keys, longest_match}
use Rattle.zones.specs.Tree.{Tree, tip, node, Good}
use Rattle.zones.specs.Searching.{strings}
use Rattle.zones.proofs.NodesLaws.{member-in_order, rising-in_order}
use Rattle.zones.proofs.TreeLaws.{rising-strings}
use Rattle.image.specs.Image.{proper_prefixes, image_nodes}
use Rattle.image.specs.Tries.{Trie, leaf, fork}

-- the strings of the forks of a trie at p, from the top, the side of 0 first
abbrev pub forks : Bits → Trie → List Bits
forks p (leaf o) = []
forks p (fork l r) = p ∷ (forks (p ++ (false ∷ [])) l ++ forks (p ++ (true ∷ [])) r)

-- the trie at p, at most n deep: f says where a fork is, and v what a leaf holds
abbrev pub trie_at : (Bits → Bool) → (Bits → Option ℕ) → ℕ → Bits → Trie
trie_at f v zero p = leaf (v p)
trie_at f v (suc n) p = cond (f p) (fork (trie_at f v n (p ++ (false ∷ []))) (trie_at f v n (p ++ (true ∷ [])))) (leaf (v p))

-- p is the empty string, or a proper prefix of a member of s
unfoldable pub is_fork : List Bits → Bits → Bool
is_fork s p = equal p [] || any (λ k. is_prefix (p ++ (false ∷ [])) k || is_prefix (p ++ (true ∷ [])) k) s

-- the zone of the longest match
unfoldable pub zone_at : Map → Bits → Option ℕ
zone_at m p = map (λ e. e.zone) (longest_match p m)

-- the trie of a map, for keys of at most n bits
unfoldable pub trie_of : ℕ → Map → Trie
trie_of n m = trie_at (is_fork (keys m)) (zone_at m) n []

-- no member of s is wider than n
abbrev pub Within : ℕ → List Bits → Type 0
Within n s = (k : Bits) → Memᴰ k s → length k ≤ n

-- ---- forks

-- the forks as a tree that stores a number at each
abbrev tree : Bits → Trie → Tree (Unit {0})
tree p (leaf o) = tip
tree p (fork l r) = node tt p (some 0) (tree (p ++ (false ∷ [])) l) (tree (p ++ (true ∷ [])) r)

good-tree : (p : Bits) (t : Trie) → Good p (tree p t)
good-tree p (leaf o) = tt
good-tree p (fork l r) = (is_prefix_refl p, tt, good-tree (p ++ (false ∷ [])) l, good-tree (p ++ (true ∷ [])) r)

strings-tree : (p : Bits) (t : Trie) → strings (tree p t) ≡ forks p t
strings-tree p (leaf o) = refl
strings-tree p (fork l r) = rw (strings-tree (p ++ (false ∷ [])) l, strings-tree (p ++ (true ∷ [])) r)

pub rising-forks : (p : Bits) (t : Trie) → T (rising (forks p t))
rising-forks p t = rw (← strings-tree p t) (rising-strings p (tree p t) (good-tree p t))

-- ---- a string and what extends it

-- q begins with p: it is p, or it goes on with a bit
pub data Next (p q : Bits) : Type 0 where
  ends : q ≡ p → Next p q
  goes : (x : Bool) → T (is_prefix (p ++ (x ∷ [])) q) → Next p q

next_cons : (x : Bool) (p q : Bits) → Next p q → Next (x ∷ p) (x ∷ q)
next_cons x p q (ends e) = ends (ap (λ (l : Bits). x ∷ l) e)
next_cons false p q (goes y h) = goes y h
next_cons true p q (goes y h) = goes y h

pub next : (p q : Bits) → T (is_prefix p q) → Next p q
next [] [] h = ends refl
next [] (false ∷ q) h = goes false tt
next [] (true ∷ q) h = goes true tt
next (false ∷ p) (false ∷ q) h = next_cons false p q (next p q h)
next (true ∷ p) (true ∷ q) h = next_cons true p q (next p q h)
next (false ∷ p) [] h = elim h [ ]
next (false ∷ p) (true ∷ q) h = elim h [ ]
next (true ∷ p) [] h = elim h [ ]
next (true ∷ p) (false ∷ q) h = elim h [ ]

-- q is a fork where it is one on its side
pub mem-fork : (p q : Bits) (l r : Trie) → (T (is_prefix (p ++ (false ∷ [])) q) → Memᴰ q (forks (p ++ (false ∷ [])) l))
    → (T (is_prefix (p ++ (true ∷ [])) q) → Memᴰ q (forks (p ++ (true ∷ [])) r)) → Next p q → Memᴰ q (forks p (fork l r))
mem-fork p q l r hl hr (ends e) = Memᴰ.head e
mem-fork p q l r hl hr (goes false k) = Memᴰ.tail (Memᴰ.append_left (forks (p ++ (true ∷ [])) r) (hl k))
mem-fork p q l r hl hr (goes true k) = Memᴰ.tail (Memᴰ.append_right (forks (p ++ (false ∷ [])) l) (hr k))

-- ---- trie_at

module _ (f : Bits → Bool) (v : Bits → Option ℕ) where
  forks-trie_at_at : (b : Bool) (p q : Bits) (l r : Trie) → f p ≡ b
      → (Memᴰ q (forks (p ++ (false ∷ [])) l) → T (f q)) → (Memᴰ q (forks (p ++ (true ∷ [])) r) → T (f q))
      → Memᴰ q (forks p (cond b (fork l r) (leaf (v p)))) → T (f q)
  forks-trie_at_at false p q l r e hl hr i = absurd (Memᴰ.not-nil i)
  forks-trie_at_at true p q l r e hl hr (Memᴰ.head d) = rw (d, e) tt
  forks-trie_at_at true p q l r e hl hr (Memᴰ.tail i) =
      elim (Memᴰ.append_cases (forks (p ++ (false ∷ [])) l) i) [ inl j ↦ hl j | inr j ↦ hr j ]

  -- every fork passes the test
  forks-trie_at : (n : ℕ) (p q : Bits) → Memᴰ q (forks p (trie_at f v n p)) → T (f q)
  forks-trie_at zero p q i = absurd (Memᴰ.not-nil i)
  forks-trie_at (suc n) p q i =
      forks-trie_at_at (f p) p q (trie_at f v n (p ++ (false ∷ []))) (trie_at f v n (p ++ (true ∷ []))) refl
      (forks-trie_at n (p ++ (false ∷ [])) q) (forks-trie_at n (p ++ (true ∷ [])) q) i

  module _ (w : ℕ) (closed : (p q : Bits) → T (is_prefix p q) → T (f q) → T (f p)) (narrow : (q : Bits) → T (f q) → length q < w) where
    -- every string that begins with p and passes the test is a fork
    mem-trie_at : (n : ℕ) (p q : Bits) → w ≤ length p + n → T (is_prefix p q) → T (f q) → Memᴰ q (forks p (trie_at f v n p))
    mem-trie_at zero p q b h k = absurd (omega (arith, is_prefix_length p q h, narrow q k))
    mem-trie_at (suc n) p q b h k =
        rw (T_true (f p) (closed p q h k))
        (mem-fork p q (trie_at f v n (p ++ (false ∷ []))) (trie_at f v n (p ++ (true ∷ [])))
        (λ j. mem-trie_at n (p ++ (false ∷ [])) q (omega (arith, length-append p (false ∷ []))) j k)
        (λ j. mem-trie_at n (p ++ (true ∷ [])) q (omega (arith, length-append p (true ∷ []))) j k)
        (next p q h))

-- ---- is_fork

any_never : (xs : List Bits) → any (λ p. false) xs ≡ false
any_never [] = refl
any_never (x ∷ xs) = any_never xs

any-proper_prefixes : (q k : Bits) → any (equal q) (proper_prefixes k) ≡ (is_prefix (q ++ (false ∷ [])) k || is_prefix (q ++ (true ∷ [])) k)
any-proper_prefixes [] [] = refl
any-proper_prefixes (x ∷ q) [] = refl
any-proper_prefixes [] (false ∷ k) = refl
any-proper_prefixes [] (true ∷ k) = refl
any-proper_prefixes (false ∷ q) (false ∷ k) = any-map (equal (false ∷ q)) (λ p. false ∷ p) (proper_prefixes k) ∙ any-proper_prefixes q k
any-proper_prefixes (false ∷ q) (true ∷ k) = any-map (equal (false ∷ q)) (λ p. true ∷ p) (proper_prefixes k) ∙ any_never (proper_prefixes k)
any-proper_prefixes (true ∷ q) (false ∷ k) = any-map (equal (true ∷ q)) (λ p. false ∷ p) (proper_prefixes k) ∙ any_never (proper_prefixes k)
any-proper_prefixes (true ∷ q) (true ∷ k) = any-map (equal (true ∷ q)) (λ p. true ∷ p) (proper_prefixes k) ∙ any-proper_prefixes q k

-- a string is an image node exactly if the trie has a fork there
pub member-image_nodes : (s : List Bits) (q : Bits) → member q (image_nodes s) ≡ is_fork s q
unfolding image_nodes is_fork member
member-image_nodes s q =
    member-in_order q ([] ∷ each proper_prefixes s)
    ∙ ap (λ (b : Bool). equal q [] || b) (any-each (equal q) proper_prefixes s ∙ simp any-proper_prefixes)

-- q is a proper prefix of a member of s
pub record Proper (s : List Bits) (q : Bits) : Type 0 where
  pub whole : Bits
  pub bit : Bool
  pub stored : Memᴰ whole s
  pub prefix : T (is_prefix (q ++ (bit ∷ [])) whole)

pub is_fork_empty : (s : List Bits) → T (is_fork s [])
unfolding is_fork
is_fork_empty s = tt

pub is_fork_true : (s : List Bits) (q : Bits) → T (is_fork s q) → (q ≡ []) ⊎ Proper s q
unfolding is_fork
is_fork_true s q h =
    elim (or_cases (equal q []) (any (λ k. is_prefix (q ++ (false ∷ [])) k || is_prefix (q ++ (true ∷ [])) k) s) h) [
      | inl e ↦ inl (equal_true q [] e)
      | inr a ↦ inr (of (any_mem (λ k. is_prefix (q ++ (false ∷ [])) k || is_prefix (q ++ (true ∷ [])) k) s a))
    ]
  where
    of : (k : Bits) × Memᴰ k s × T (is_prefix (q ++ (false ∷ [])) k || is_prefix (q ++ (true ∷ [])) k) → Proper s q
    of w =
        elim (or_cases (is_prefix (q ++ (false ∷ [])) w.0) (is_prefix (q ++ (true ∷ [])) w.0) w.2) [
          | inl p ↦ record { whole = w.0; bit = false; stored = w.1; prefix = p }
          | inr p ↦ record { whole = w.0; bit = true; stored = w.1; prefix = p }
        ]

pub proper-is_fork : (s : List Bits) (q : Bits) → Proper s q → T (is_fork s q)
unfolding is_fork
proper-is_fork s q p =
    or_right (equal q []) (any (λ k. is_prefix (q ++ (false ∷ [])) k || is_prefix (q ++ (true ∷ [])) k) s)
    (mem-any (λ k. is_prefix (q ++ (false ∷ [])) k || is_prefix (q ++ (true ∷ [])) k) s p.whole p.stored (at p.bit p.prefix))
  where
    at : (x : Bool) → T (is_prefix (q ++ (x ∷ [])) p.whole) → T (is_prefix (q ++ (false ∷ [])) p.whole || is_prefix (q ++ (true ∷ [])) p.whole)
    at false h = or_left (is_prefix (q ++ (false ∷ [])) p.whole) (is_prefix (q ++ (true ∷ [])) p.whole) h
    at true h = or_right (is_prefix (q ++ (false ∷ [])) p.whole) (is_prefix (q ++ (true ∷ [])) p.whole) h

-- what a fork begins with is a fork
pub is_fork-closed : (s : List Bits) (p q : Bits) → T (is_prefix p q) → T (is_fork s q) → T (is_fork s p)
is_fork-closed s p q h k = at (next p q h) (is_fork_true s q k)
  where
    at : Next p q → (q ≡ []) ⊎ Proper s q → T (is_fork s p)
    at (ends e) o = rw e at k
    at (goes x j) (inl e) = absurd (omega (arith, ap length e, length-append p (x ∷ []), is_prefix_length (p ++ (x ∷ [])) q j))
    at (goes x j) (inr o) =
        let i : T (is_prefix q o.whole) = is_prefix_trans q (q ++ (o.bit ∷ [])) o.whole (is_prefix-append q (o.bit ∷ [])) o.prefix in
        proper-is_fork s p (record { whole = o.whole; bit = x; stored = o.stored; prefix = is_prefix_trans (p ++ (x ∷ [])) q o.whole j i })

-- a fork is not as wide as the widest member
pub length-is_fork : (n : ℕ) (s : List Bits) → 0 < n → Within n s → (q : Bits) → T (is_fork s q) → length q < n
length-is_fork n s z w q h =
    elim (is_fork_true s q h) [
      | inl e ↦ omega (arith, ap length e)
      | inr p ↦ omega (arith, w p.whole p.stored, is_prefix_length (q ++ (p.bit ∷ [])) p.whole p.prefix, length-append q (p.bit ∷ []))
    ]

-- ---- trie_of

member-trie_of : (n : ℕ) (m : Map) → 0 < n → Within n (keys m) → (q : Bits) → is_fork (keys m) q ≡ member q (forks [] (trie_of n m))
unfolding trie_of member
member-trie_of n m z w q =
    let s : List Bits = keys m in
    let t : Trie = trie_at (is_fork s) (zone_at m) n [] in
    test_ext (is_fork s q) (any (equal q) (forks [] t))
    (λ h. mem-any (equal q) (forks [] t) q
    (mem-trie_at (is_fork s) (zone_at m) n (is_fork-closed s) (length-is_fork n s z w) n [] q (omega arith) tt h) (equal_refl q))
    (λ h. forks-trie_at (is_fork s) (zone_at m) n [] q (member_mem q (forks [] t) h))

pub image_nodes-forks : (n : ℕ) (m : Map) → 0 < n → Within n (keys m) → image_nodes (keys m) ≡ forks [] (trie_of n m)
unfolding image_nodes member
image_nodes-forks n m z w =
    rising_ext (image_nodes (keys m)) (forks [] (trie_of n m)) (rising-in_order ([] ∷ each proper_prefixes (keys m))) (rising-forks [] (trie_of n m))
    (λ q. member-image_nodes (keys m) q ∙ member-trie_of n m z w q)
