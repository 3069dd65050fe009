-- The laws of the node count: an image has a node, and the count fits a record where every record does, since
-- some side is no node and its record is no less than the count. No contract cites this file.
-- Assumes nothing.
use Prim.Native.Nat.{ℕ, zero, suc, ◌+◌, ◌^◌, ◌≤◌, ◌<◌}
use native.Mathlib.Omega.{arith}
use mathlib.Core.Path.{◌≡◌, refl, ap}
use mathlib.Core.Bool.{true, false}
use mathlib.Core.List.Memᴰ
use mathlib.Core.List.{List, [], ◌∷◌, Memᴰ}
use mathlib.Core.Option.{Option, none, some}
use lib.Dec.{T, ltb, ltb→lt}
use lib.ListN.{length}
use Rattle.bits.specs.Bits.{Bits}
use Rattle.bits.proofs.ListsLaws.{and_left, all_mem}
use Rattle.zones.specs.Maps.{Map, keys}
use Rattle.image.specs.Image.{Size, size_bits, Fork, forks_of, zones_of, record_of, fits_in, fits}
use Rattle.image.specs.Tries.{Trie, leaf, fork, size, side_of, ref, refs}
use Rattle.image.proofs.TrieLaws.{trie_at, is_fork, zone_at, trie_of, Within}
use Rattle.image.proofs.PreorderLaws.{forks_of-refs}

-- every string has at most so many bits
within_some : (s : List Bits) → (n : ℕ) × (0 < n) × Within n s
within_some [] = (1, omega arith, λ k i. absurd (Memᴰ.not-nil i))
within_some (p ∷ s) = let w = within_some s in (length p + w.0, omega (arith, w.1), both w)
  where
    both : (w : (n : ℕ) × (0 < n) × Within n s) → Within (length p + w.0) (p ∷ s)
    both w k (Memᴰ.head e) = omega (arith, ap length e)
    both w k (Memᴰ.tail i) = omega (arith, w.2 k i)

-- a fork whose left side is no node
record Ending (fs : List Fork) : Type 0 where
  at : Fork
  zone : Option ℕ
  there : Memᴰ at fs
  ends : at.left ≡ side_of zone

ending-refs : (n : ℕ) (l r : Trie) → Ending (refs n (fork l r))
ending-refs n (leaf o) r =
    record { at = record { left = side_of o; right = ref (suc n + 0) r }; zone = o; there = Memᴰ.head refl; ends = refl }
ending-refs n (fork a b) r =
    let w = ending-refs (suc n) a b in
    record { at = w.at; zone = w.zone; there = Memᴰ.tail (Memᴰ.append_left (refs (suc n + size (fork a b)) r) w.there); ends = w.ends }

ending-trie_of : (n : ℕ) (m : Map) → 0 < n → Ending (refs 0 (trie_of n m))
unfolding trie_of is_fork
ending-trie_of zero m z = absurd (omega arith)
ending-trie_of (suc n) m z =
    ending-refs 0 (trie_at (is_fork (keys m)) (zone_at m) n (false ∷ [])) (trie_at (is_fork (keys m)) (zone_at m) n (true ∷ []))

ending-forks_of : (m : Map) → Ending (forks_of m)
ending-forks_of m = let w = within_some (keys m) in rw (forks_of-refs w.0 m w.1 w.2) (ending-trie_of w.0 m w.1)

-- "the empty string always"
pub length-forks_of_pos : (m : Map) → 0 < length (forks_of m)
length-forks_of_pos m = some_there (ending-forks_of m).there
  where
    some_there : {f : Fork} {fs : List Fork} → Memᴰ f fs → 0 < length fs
    some_there (Memᴰ.head e) = omega arith
    some_there (Memᴰ.tail i) = omega arith

record_of-leaf : (n : ℕ) (zs : List ℕ) (o : Option ℕ) → n ≤ record_of n zs (side_of o)
record_of-leaf n zs none = omega arith
record_of-leaf n zs (some z) = omega arith

pub length-forks_of-fits : (s : Size) (m : Map) → T (fits s m) → length (forks_of m) < 2 ^ size_bits s
unfolding fits fits_in
length-forks_of-fits s m h =
    let n : ℕ = length (forks_of m) in
    let zs : List ℕ = zones_of (forks_of m) in
    let w = ending-forks_of m in
    let both = all_mem (fits_in s n zs) (forks_of m) h w.at w.there in
    let l : record_of n zs w.at.left < 2 ^ size_bits s =
    ltb→lt _ _ (and_left (ltb (record_of n zs w.at.left) (2 ^ size_bits s)) (ltb (record_of n zs w.at.right) (2 ^ size_bits s)) both) in
    omega (arith, rw w.ends at l, record_of-leaf n zs w.zone)
