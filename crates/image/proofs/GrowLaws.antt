-- The trie that a table's tree grows into is the trie of the map that the tree stores. No contract cites this
-- file.
-- Assumes nothing.
use Prim.Native.Nat.{ℕ, zero, suc, ◌+◌, ◌-◌, ◌<◌}
use native.Mathlib.Omega.{arith}
use mathlib.Core.Path.{◌≡◌, refl, sym, ap, ◌∙◌}
use mathlib.Core.Bool.{Bool, true, false, not, ◌||◌, cond}
use mathlib.Core.List.Memᴰ
use mathlib.Core.List.{[], ◌∷◌, ◌++◌, append-nil}
use mathlib.Core.Option.{Option, none, some, map}
use lib.Dec.{T}
use lib.ListN.{length, length-append, drop, take-append-drop}
use Rattle.bits.specs.Bits.{Bits, is_prefix}
use Rattle.bits.proofs.ListsLaws.{T_true}
use Rattle.bits.proofs.BitsLaws.{is_prefix_refl, is_prefix_trans, is_prefix_length, is_prefix-append, take-is_prefix, length-lcp}
use Rattle.zones.specs.Maps.{Entry, keys}
use Rattle.zones.specs.Tree.{Tree, tip, node, full, Good, entries}
use Rattle.zones.specs.Searching.{strings, better, best}
use Rattle.zones.proofs.TreeLaws.{mem-strings}
use Rattle.zones.proofs.FindLaws.{longest_match-entries}
use Rattle.zones.proofs.ShapeLaws.{meet_refl}
use Rattle.image.specs.Image.{forks_of}
use Rattle.image.specs.Tries.{Trie, leaf, fork, size, refs, stalk, nearer, topped, crown, grow, top_trie}
use Rattle.image.proofs.TrieLaws.{trie_at, is_fork, zone_at, trie_of, Within, is_fork_empty}
use Rattle.image.proofs.PreorderLaws.{append_bit, forks_of-refs}
use Rattle.image.proofs.ForkedLaws.{forked, any-keys, goes-forked, meet-side, meet_over, meet-beside}

-- ---- trie_at

-- two pairs of functions that agree on what begins with p
trie_at_ext : (f g : Bits → Bool) (v w : Bits → Option ℕ) (n : ℕ) (p : Bits) → ((q : Bits) → T (is_prefix p q) → f q ≡ g q)
    → ((q : Bits) → T (is_prefix p q) → v q ≡ w q) → trie_at f v n p ≡ trie_at g w n p
trie_at_ext f g v w zero p h k = ap leaf (k p (is_prefix_refl p))
trie_at_ext f g v w (suc n) p h k =
    rw (
      h p (is_prefix_refl p),
      k p (is_prefix_refl p),
      trie_at_ext f g v w n (p ++ (false ∷ [])) (λ q i. h q (side false q i)) (λ q i. k q (side false q i)),
      trie_at_ext f g v w n (p ++ (true ∷ [])) (λ q i. h q (side true q i)) (λ q i. k q (side true q i)),
    )
  where
    side : (x : Bool) (q : Bits) → T (is_prefix (p ++ (x ∷ [])) q) → T (is_prefix p q)
    side x q i = is_prefix_trans p (p ++ (x ∷ [])) q (is_prefix-append p (x ∷ [])) i

trie_at-leaf : (f : Bits → Bool) (v : Bits → Option ℕ) (n : ℕ) (p : Bits) → f p ≡ false → trie_at f v n p ≡ leaf (v p)
trie_at-leaf f v zero p e = refl
trie_at-leaf f v (suc n) p e = rw e

-- ---- stalk

-- along a string s: each string above it is a fork, and beside the way stands o
module _ (f : Bits → Bool) (v : Bits → Option ℕ) (s : Bits) (o : Option ℕ)
    (on : (q : Bits) (x : Bool) → T (is_prefix (q ++ (x ∷ [])) s) → f q ≡ true)
    (off : (q : Bits) (x : Bool) → T (is_prefix (q ++ (x ∷ [])) s) → f (q ++ (not x ∷ [])) ≡ false)
    (beside : (q : Bits) (x : Bool) → T (is_prefix (q ++ (x ∷ [])) s) → v (q ++ (not x ∷ [])) ≡ o) where
  trie_at-stalk : (n m : ℕ) (xs p : Bits) → n ≡ m + length xs → p ++ xs ≡ s → trie_at f v n p ≡ stalk xs o (trie_at f v m s)
  trie_at-stalk n m [] p k e = let d : n ≡ m = omega arith in rw (d, ← e, append-nil)
  trie_at-stalk zero m (x ∷ xs) p k e = absurd (omega arith)
  trie_at-stalk (suc n) m (false ∷ xs) p k e =
      let i : T (is_prefix (p ++ (false ∷ [])) s) = rw (← e, append_bit p false xs) (is_prefix-append (p ++ (false ∷ [])) xs) in
      rw (
        on p false i,
        trie_at-stalk n m xs (p ++ (false ∷ [])) (omega arith) (sym (append_bit p false xs) ∙ e),
        trie_at-leaf f v n (p ++ (true ∷ [])) (off p false i),
        beside p false i,
      )
  trie_at-stalk (suc n) m (true ∷ xs) p k e =
      let i : T (is_prefix (p ++ (true ∷ [])) s) = rw (← e, append_bit p true xs) (is_prefix-append (p ++ (true ∷ [])) xs) in
      rw (
        on p true i,
        trie_at-stalk n m xs (p ++ (true ∷ [])) (omega arith) (sym (append_bit p true xs) ∙ e),
        trie_at-leaf f v n (p ++ (false ∷ [])) (off p true i),
        beside p true i,
      )

append-drop : (p s : Bits) → T (is_prefix p s) → p ++ drop (length p) s ≡ s
append-drop p s h = rw (take-is_prefix p s h) at (take-append-drop (length p) s)

-- ---- grow

-- the zone of an entry
abbrev zone_of : Option Entry → Option ℕ
zone_of o = map (λ e. e.zone) o

zone_of-better : (s : Bits) (v : Option ℕ) (e : Option Entry) → zone_of (better s v e) ≡ nearer v (zone_of e)
zone_of-better s none e = refl
zone_of-better s (some z) e = refl

module _ {A : Type 0} where
  pub crown-cond : (o : Option ℕ) (l r : Tree A) (x y : Trie) → crown o l r x y ≡ cond (full l || full r) (fork x y) (leaf o)
  crown-cond o tip tip x y = refl
  crown-cond o tip (node a s v l r) x y = refl
  crown-cond o (node a s v l r) t x y = refl

  -- the trie of a tree at p: where what is stored goes on, and the zones of what a search passes, after e
  abbrev trie_in : Option Entry → Tree A → ℕ → Bits → Trie
  trie_in e t n p = trie_at (forked t) (λ q. zone_of (best e t q)) n p

  -- no string of a tree at p is shorter than p
  full_low : (n : ℕ) (p : Bits) (t : Tree A) → Good p t → Within n (strings t) → n < length p → full t ≡ false
  full_low n p tip g w h = refl
  full_low n p (node c s v l r) g w h = absurd (omega (arith, is_prefix_length p s g.0, w s (Memᴰ.head refl)))

  module _ (e : Option Entry) (p : Bits) (c : A) (s : Bits) (v : Option ℕ) (l r : Tree A) (g : Good p (node c s v l r)) where
    within_left : (n : ℕ) → Within n (strings (node c s v l r)) → Within n (strings l)
    within_left n w k i = w k (Memᴰ.tail (Memᴰ.append_left (strings r) i))

    within_right : (n : ℕ) → Within n (strings (node c s v l r)) → Within n (strings r)
    within_right n w k i = w k (Memᴰ.tail (Memᴰ.append_right (strings l) i))

    trie_in_left : (n : ℕ) → trie_in e (node c s v l r) n (s ++ (false ∷ [])) ≡ trie_in (better s v e) l n (s ++ (false ∷ []))
    trie_in_left n =
        trie_at_ext (forked (node c s v l r)) (forked l) (λ q. zone_of (best e (node c s v l r) q)) (λ q. zone_of (best (better s v e) l q)) n (s ++ (false ∷ []))
        (λ q i. rw (meet-side s q false i)) (λ q i. rw (meet-side s q false i))

    trie_in_right : (n : ℕ) → trie_in e (node c s v l r) n (s ++ (true ∷ [])) ≡ trie_in (better s v e) r n (s ++ (true ∷ []))
    trie_in_right n =
        trie_at_ext (forked (node c s v l r)) (forked r) (λ q. zone_of (best e (node c s v l r) q)) (λ q. zone_of (best (better s v e) r q)) n (s ++ (true ∷ []))
        (λ q i. rw (meet-side s q true i)) (λ q i. rw (meet-side s q true i))

    module _ (x y : Trie) where
      trie_in-crown : (n : ℕ) → Within (length s + n) (strings (node c s v l r))
          → ((m : ℕ) → n ≡ suc m → trie_in (better s v e) l m (s ++ (false ∷ [])) ≡ x)
          → ((m : ℕ) → n ≡ suc m → trie_in (better s v e) r m (s ++ (true ∷ [])) ≡ y)
          → trie_in e (node c s v l r) n s ≡ crown (nearer v (zone_of e)) l r x y
      trie_in-crown zero w hl hr =
          let low : length s + 0 < length (s ++ (false ∷ [])) = omega (arith, length-append s (false ∷ [])) in
          let lowr : length s + 0 < length (s ++ (true ∷ [])) = omega (arith, length-append s (true ∷ [])) in
          rw (
            meet_refl s,
            zone_of-better s v e,
            crown-cond,
            full_low (length s + 0) (s ++ (false ∷ [])) l g.2 (within_left (length s + 0) w) low,
            full_low (length s + 0) (s ++ (true ∷ [])) r g.3 (within_right (length s + 0) w) lowr,
          )
      trie_in-crown (suc n) w hl hr =
          rw (meet_refl s, zone_of-better s v e, crown-cond, trie_in_left n, trie_in_right n, hl n refl, hr n refl)

    trie_in-stalk : (n m : ℕ) → n ≡ m + length (drop (length p) s)
        → trie_in e (node c s v l r) n p ≡ stalk (drop (length p) s) (zone_of e) (trie_in e (node c s v l r) m s)
    trie_in-stalk n m k =
        trie_at-stalk (forked (node c s v l r)) (λ q. zone_of (best e (node c s v l r) q)) s (zone_of e)
        (λ q x i. rw (meet_over q s x i)) (λ q x i. rw (meet-beside q s x i)) (λ q x i. rw (meet-beside q s x i))
        n m (drop (length p) s) p k (append-drop p s g.0)

  trie_in-grow : (e : Option Entry) (n : ℕ) (p : Bits) (t : Tree A) → Good p t → Within (length p + n) (strings t)
      → trie_in e t n p ≡ grow (zone_of e) (length p) t
  trie_in-grow e n p tip g w = trie_at-leaf (λ q. false) (λ q. zone_of e) n p refl
  trie_in-grow e n p (node c s v l r) g w =
      let d : length p + length (drop (length p) s) ≡ length s = sym (length-append p (drop (length p) s)) ∙ ap length (append-drop p s g.0) in
      let m : ℕ = n - length (drop (length p) s) in
      let k : n ≡ m + length (drop (length p) s) = omega (arith, w s (Memᴰ.head refl)) in
      let b : Within (length s + m) (strings (node c s v l r)) = λ a i. omega (arith, w a i) in
      trie_in-stalk e p c s v l r g n m k
      ∙ ap (stalk (drop (length p) s) (zone_of e))
      (trie_in-crown e p c s v l r g (grow (nearer v (zone_of e)) (length s + 1) l) (grow (nearer v (zone_of e)) (length s + 1) r) m b
      (λ j q. rw (← length-append s (false ∷ []), ← zone_of-better s v e)
      (trie_in-grow (better s v e) j (s ++ (false ∷ [])) l g.2 (λ a i. omega (arith, length-append s (false ∷ []), within_left e p c s v l r g (length s + m) b a i))))
      (λ j q. rw (← length-append s (true ∷ []), ← zone_of-better s v e)
      (trie_in-grow (better s v e) j (s ++ (true ∷ [])) r g.3 (λ a i. omega (arith, length-append s (true ∷ []), within_right e p c s v l r g (length s + m) b a i)))))

  -- ---- top_trie

  -- where no string goes on after the empty one, nothing changes below it
  flat : (x : Bool) (t : Tree A) → forked t [] ≡ false → (forked t (x ∷ []) ≡ false) × (best none t (x ∷ []) ≡ best none t [])
  flat x tip h = (refl, refl)
  flat false (node c [] v tip tip) h = (refl, refl)
  flat true (node c [] v tip tip) h = (refl, refl)
  flat x (node c [] v tip (node d s w l r)) h = (cc, cc)
  flat x (node c [] v (node d s w l r) t) h = (cc, cc)
  flat x (node c (y ∷ s) v l r) h = (cc, cc)

  topped-trie_in : (t : Tree A) (n : ℕ) → fork (trie_in none t n (false ∷ [])) (trie_in none t n (true ∷ [])) ≡ topped (trie_in none t (suc n) [])
  topped-trie_in t n = at (forked t []) refl
    where
      low : (x : Bool) → forked t [] ≡ false → trie_in none t n (x ∷ []) ≡ leaf (zone_of (best none t []))
      low x h =
          trie_at-leaf (forked t) (λ q. zone_of (best none t q)) n (x ∷ []) (flat x t h).0
          ∙ ap (λ (o : Option Entry). leaf (zone_of o)) (flat x t h).1

      at : (b : Bool) → forked t [] ≡ b → fork (trie_in none t n (false ∷ [])) (trie_in none t n (true ∷ []))
          ≡ topped (cond b (fork (trie_in none t n (false ∷ [])) (trie_in none t n (true ∷ []))) (leaf (zone_of (best none t []))))
      at true h = refl
      at false h = rw (low false h, low true h)

  within-strings : (n : ℕ) (p : Bits) (t : Tree A) → Good p t → Within n (keys (entries t)) → Within n (strings t)
  within-strings n p t g w a i =
      let k = mem-strings p t g a i in
      omega (arith, ap length k.is, length-lcp k.one k.two, w k.one k.one_in)

  is_fork-forked : (t : Tree A) → Good [] t → (q : Bits) → 0 < length q → is_fork (keys (entries t)) q ≡ forked t q
  unfolding is_fork
  is_fork-forked t g [] h = absurd (omega arith)
  is_fork-forked t g (x ∷ q) h = any-keys (x ∷ q) (entries t) ∙ goes-forked (x ∷ q) [] t g

  zone_at-best : (t : Tree A) → Good [] t → (q : Bits) → zone_at (entries t) q ≡ zone_of (best none t q)
  unfolding zone_at
  zone_at-best t g q = ap zone_of (longest_match-entries [] t g q)

  -- the trie of what a tree stores is the one that it grows into
  pub trie_of-grow : (n : ℕ) (t : Tree A) → 0 < n → Good [] t → Within n (keys (entries t)) → trie_of n (entries t) ≡ top_trie t
  unfolding trie_of
  trie_of-grow zero t z g w = absurd (omega arith)
  trie_of-grow (suc n) t z g w =
      let side : (x : Bool) → trie_at (is_fork (keys (entries t))) (zone_at (entries t)) n (x ∷ []) ≡ trie_in none t n (x ∷ []) =
      λ x. trie_at_ext (is_fork (keys (entries t))) (forked t) (zone_at (entries t)) (λ q. zone_of (best none t q)) n (x ∷ [])
      (λ q i. is_fork-forked t g q (omega (arith, is_prefix_length (x ∷ []) q i))) (λ q i. zone_at-best t g q) in
      rw (T_true (is_fork (keys (entries t)) []) (is_fork_empty (keys (entries t))), side false, side true)
      (topped-trie_in t n ∙ ap topped (trie_in-grow none (suc n) [] t g (λ a i. omega (arith, within-strings (suc n) [] t g w a i))))

  pub forks_of-grow : (n : ℕ) (t : Tree A) → 0 < n → Good [] t → Within n (keys (entries t)) → forks_of (entries t) ≡ refs 0 (top_trie t)
  forks_of-grow n t z g w = forks_of-refs n (entries t) z w ∙ ap (refs 0) (trie_of-grow n t z g w)

-- ---- size

pub size-stalk : (xs : Bits) (o : Option ℕ) (t : Trie) → size (stalk xs o t) ≡ length xs + size t
size-stalk [] o t = omega arith
size-stalk (false ∷ xs) o t = omega (arith, size-stalk xs o t)
size-stalk (true ∷ xs) o t = omega (arith, size-stalk xs o t)

module _ {A : Type 0} where
  size-crown : (o u : Option ℕ) (l r : Tree A) (x y a b : Trie) → size x ≡ size a → size y ≡ size b → size (crown o l r x y) ≡ size (crown u l r a b)
  size-crown o u tip tip x y a b h k = refl
  size-crown o u tip (node c s v l r) x y a b h k = rw (h, k)
  size-crown o u (node c s v l r) t x y a b h k = rw (h, k)

  size-grow_same : (o u : Option ℕ) (a : ℕ) (t : Tree A) → size (grow o a t) ≡ size (grow u a t)
  size-grow_same o u a tip = refl
  size-grow_same o u a (node c s v l r) =
      let i : ℕ = length s + 1 in
      let x : Option ℕ = nearer v o in
      let y : Option ℕ = nearer v u in
      rw (size-stalk, size-stalk)
      (ap (λ (n : ℕ). length (drop a s) + n)
      (size-crown x y l r (grow x i l) (grow x i r) (grow y i l) (grow y i r) (size-grow_same x y i l) (size-grow_same x y i r)))

  -- how many forks there are does not depend on what is above
  pub size-grow : (o : Option ℕ) (a : ℕ) (t : Tree A) → size (grow o a t) ≡ size (grow none a t)
  size-grow o a t = size-grow_same o none a t
