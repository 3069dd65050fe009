-- A whole trie: every fork below the top has a leaf with a number below it. The trie of a map is whole.
-- No contract cites this file.
-- Assumes nothing.
use Prim.Native.Nat.{ℕ, zero, suc, ◌+◌, ◌≤◌, ◌<◌, max}
use native.Mathlib.Omega.{arith}
use mathlib.Core.Path.{◌≡◌, refl, sym, ap}
use mathlib.Core.Logic.{◌⊎◌, inl, inr}
use mathlib.Core.Bool.{Bool, true, false, ◌||◌, cond}
use mathlib.Core.List.{List, [], ◌∷◌, ◌++◌, Memᴰ}
use mathlib.Core.Option.{Option, none, some, map}
use lib.Dec.{T}
use lib.ListN.{length, length-append}
use Rattle.bits.specs.Bits.{Bits, is_prefix}
use Rattle.bits.proofs.ListsLaws.{or_left, or_right}
use Rattle.bits.proofs.BitsLaws.{is_prefix_refl, is_prefix_trans, is_prefix-append, is_prefix_length}
use Rattle.zones.specs.Maps.{Entry, Map, keys, longest_match}
use Rattle.zones.proofs.MatchLaws.{longest_match-none}
use Rattle.image.specs.Tries.{Trie, leaf, fork}
use Rattle.image.proofs.TrieLaws.{trie_at, is_fork, zone_at, trie_of, Within}
use Rattle.image.proofs.TrieLaws.{Next, ends, goes, next, Proper, is_fork_true, proper-is_fork}

abbrev pub holds : Option ℕ → Bool
holds none = false
holds (some z) = true

-- some leaf holds a number
abbrev pub live : Trie → Bool
live (leaf o) = holds o
live (fork l r) = live l || live r

-- every fork has such a leaf below it
abbrev pub Solid : Trie → Type 0
Solid (leaf o) = Unit {0}
Solid (fork l r) = T (live l || live r) × Solid l × Solid r

-- every fork but the top, which is one
abbrev pub Whole : Trie → Type 0
Whole (leaf o) = ⊥
Whole (fork l r) = Solid l × Solid r

-- the most forks on a way down
abbrev pub depth : Trie → ℕ
depth (leaf o) = 0
depth (fork l r) = suc (max (depth l) (depth r))

-- ---- live

-- k is a prefix of q, or goes on after it
data Near (k q : Bits) : Type 0 where
  over : T (is_prefix k q) → Near k q
  under : (x : Bool) → T (is_prefix (q ++ (x ∷ [])) k) → Near k q

near : (k q : Bits) → T (is_prefix q k) → Near k q
near k q h = at (next q k h)
  where
    at : Next q k → Near k q
    at (ends e) = over (rw e (is_prefix_refl q))
    at (goes x j) = under x j

module _ (s : List Bits) (v : Bits → Option ℕ) (held : (k q : Bits) → Memᴰ k s → T (is_prefix k q) → T (holds (v q))) where
  live-trie_at_at : (b : Bool) (q k : Bits) (l r : Trie) → is_fork s q ≡ b → Memᴰ k s → (Near k (q ++ (false ∷ [])) → T (live l))
      → (Near k (q ++ (true ∷ [])) → T (live r)) → Near k q → T (live (cond b (fork l r) (leaf (v q))))
  live-trie_at_at false q k l r e i hl hr (over h) = held k q i h
  live-trie_at_at false q k l r e i hl hr (under x h) =
      absurd (rw e at (proper-is_fork s q (record { whole = k; bit = x; stored = i; prefix = h })))
  live-trie_at_at true q k l r e i hl hr (over h) =
      or_left (live l) (live r) (hl (over (is_prefix_trans k q (q ++ (false ∷ [])) h (is_prefix-append q (false ∷ [])))))
  live-trie_at_at true q k l r e i hl hr (under false h) = or_left (live l) (live r) (hl (near k (q ++ (false ∷ [])) h))
  live-trie_at_at true q k l r e i hl hr (under true h) = or_right (live l) (live r) (hr (near k (q ++ (true ∷ [])) h))

  solid-trie_at_at : (b : Bool) (p : Bits) (l r : Trie) → is_fork s p ≡ b → 0 < length p
      → ((k : Bits) → Memᴰ k s → Near k (p ++ (false ∷ [])) → T (live l)) → ((k : Bits) → Memᴰ k s → Near k (p ++ (true ∷ [])) → T (live r))
      → Solid l → Solid r → Solid (cond b (fork l r) (leaf (v p)))
  solid-trie_at_at false p l r e z hl hr gl gr = tt
  solid-trie_at_at true p l r e z hl hr gl gr = (at (is_fork_true s p (rw e tt)), gl, gr)
    where
      side : (k : Bits) (x : Bool) → Memᴰ k s → T (is_prefix (p ++ (x ∷ [])) k) → T (live l || live r)
      side k false i h = or_left (live l) (live r) (hl k i (near k (p ++ (false ∷ [])) h))
      side k true i h = or_right (live l) (live r) (hr k i (near k (p ++ (true ∷ [])) h))

      at : (p ≡ []) ⊎ Proper s p → T (live l || live r)
      at (inl q) = absurd (omega (arith, ap length q))
      at (inr o) = side o.whole o.bit o.stored o.prefix

  module _ (w : ℕ) (within : Within w s) where
    -- a leaf holds a number where a string of s is at hand
    live-trie_at : (n : ℕ) (q k : Bits) → w ≤ length q + n → Memᴰ k s → Near k q → T (live (trie_at (is_fork s) v n q))
    live-trie_at zero q k b i (over h) = held k q i h
    live-trie_at zero q k b i (under x h) =
        absurd (omega (arith, within k i, is_prefix_length (q ++ (x ∷ [])) k h, length-append q (x ∷ [])))
    live-trie_at (suc n) q k b i h =
        live-trie_at_at (is_fork s q) q k (trie_at (is_fork s) v n (q ++ (false ∷ []))) (trie_at (is_fork s) v n (q ++ (true ∷ []))) refl i
        (live-trie_at n (q ++ (false ∷ [])) k (omega (arith, length-append q (false ∷ []))) i)
        (live-trie_at n (q ++ (true ∷ [])) k (omega (arith, length-append q (true ∷ []))) i) h

    -- ---- Solid

    solid-trie_at : (n : ℕ) (p : Bits) → w ≤ length p + n → 0 < length p → Solid (trie_at (is_fork s) v n p)
    solid-trie_at zero p b z = tt
    solid-trie_at (suc n) p b z =
        let bl : w ≤ length (p ++ (false ∷ [])) + n = omega (arith, length-append p (false ∷ [])) in
        let br : w ≤ length (p ++ (true ∷ [])) + n = omega (arith, length-append p (true ∷ [])) in
        solid-trie_at_at (is_fork s p) p (trie_at (is_fork s) v n (p ++ (false ∷ []))) (trie_at (is_fork s) v n (p ++ (true ∷ []))) refl z
        (λ k. live-trie_at n (p ++ (false ∷ [])) k bl) (λ k. live-trie_at n (p ++ (true ∷ [])) k br)
        (solid-trie_at n (p ++ (false ∷ [])) bl (omega (arith, length-append p (false ∷ []))))
        (solid-trie_at n (p ++ (true ∷ [])) br (omega (arith, length-append p (true ∷ []))))

-- ---- depth

depth-trie_at_at : (b : Bool) (n : ℕ) (l r : Trie) (o : Option ℕ) → depth l ≤ n → depth r ≤ n → depth (cond b (fork l r) (leaf o)) ≤ suc n
depth-trie_at_at true n l r o hl hr = omega arith
depth-trie_at_at false n l r o hl hr = omega arith

depth-trie_at : (f : Bits → Bool) (v : Bits → Option ℕ) (n : ℕ) (p : Bits) → depth (trie_at f v n p) ≤ n
depth-trie_at f v zero p = omega arith
depth-trie_at f v (suc n) p =
    depth-trie_at_at (f p) n (trie_at f v n (p ++ (false ∷ []))) (trie_at f v n (p ++ (true ∷ []))) (v p)
    (depth-trie_at f v n (p ++ (false ∷ []))) (depth-trie_at f v n (p ++ (true ∷ [])))

pub depth-trie_of : (n : ℕ) (m : Map) → depth (trie_of n m) ≤ n
unfolding trie_of
depth-trie_of n m = depth-trie_at (is_fork (keys m)) (zone_at m) n []

-- ---- Whole

pub keys_mem : (m : Map) (k : Bits) → Memᴰ k (keys m) → (e : Entry) × Memᴰ e m × (e.key ≡ k)
unfolding keys
keys_mem (e ∷ m) k (Memᴰ.head h) = (e, Memᴰ.head refl, sym h)
keys_mem (e ∷ m) k (Memᴰ.tail i) = let u = keys_mem m k i in (u.0, Memᴰ.tail u.1, u.2)
keys_mem [] k x' = elim x' [ ]

holds-zone_at : (m : Map) (k q : Bits) → Memᴰ k (keys m) → T (is_prefix k q) → T (holds (zone_at m q))
unfolding zone_at
holds-zone_at m k q i h = at (longest_match q m) refl
  where
    at : (o : Option Entry) → longest_match q m ≡ o → T (holds (map (λ e. e.zone) o))
    at none e = let u = keys_mem m k i in longest_match-none q m e u.0 u.1 (rw u.2 h)
    at (some f) e = tt

pub whole-trie_of : (n : ℕ) (m : Map) → 0 < n → Within n (keys m) → Whole (trie_of n m)
unfolding trie_of is_fork
whole-trie_of zero m z w = absurd (omega arith)
whole-trie_of (suc n) m z w = (
  solid-trie_at (keys m) (zone_at m) (holds-zone_at m) (suc n) w n (false ∷ []) (omega arith) (omega arith),
  solid-trie_at (keys m) (zone_at m) (holds-zone_at m) (suc n) w n (true ∷ []) (omega arith) (omega arith),
)
