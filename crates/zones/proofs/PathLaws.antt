-- The laws of the path of a key: it has at most one node more than the key has bits. No contract cites this
-- file.
-- Assumes nothing.
use Prim.Native.Nat.{suc, ◌+◌, ◌≤◌, ◌<◌, zero-le}
use native.Mathlib.Omega.{arith}
use mathlib.Core.Path.{◌≡◌, refl}
use mathlib.Core.Bool.{Bool, true, false, cond}
use mathlib.Core.List.{List, [], ◌∷◌, ◌++◌}
use mathlib.Core.Option.{some}
use borrow.Author.Tests.{eqb-false}
use lib.Dec.{T, eqb}
use lib.ListN.{length, take, length-append}
use Rattle.bits.specs.Lists.{any, all, keep, last, last_or}
use Rattle.bits.specs.Bits.{Bits, is_prefix, before, rising}
use Rattle.bits.proofs.ListsLaws.{and_left, and_right, all-keep_same, all-last_or}
use Rattle.bits.proofs.BitsLaws.{before_length, is_prefix_length}
use Rattle.bits.proofs.RisingLaws.{rising-keep}
use Rattle.zones.specs.Nodes.{nodes, prefix_nodes, shortest, shorter, beyond, last_node, path}
use Rattle.zones.proofs.NodesLaws.{rising-nodes}

-- ---- prefix_nodes

chain : (k p : Bits) (ps : List Bits) → T (rising (p ∷ ps)) → T (all (λ q. is_prefix q k) (p ∷ ps)) → length p + length ps ≤ length (last_or p ps)
chain k p [] r h = omega arith
chain k p (q ∷ ps) r h =
    let hp : T (is_prefix p k) = and_left (is_prefix p k) (all (λ x. is_prefix x k) (q ∷ ps)) h in
    let ht : T (all (λ x. is_prefix x k) (q ∷ ps)) = and_right (is_prefix p k) (all (λ x. is_prefix x k) (q ∷ ps)) h in
    let hq : T (is_prefix q k) = and_left (is_prefix q k) (all (λ x. is_prefix x k) ps) ht in
    let b : T (before p q) = and_left (before p q) (all (before p) ps) (and_left (all (before p) (q ∷ ps)) (rising (q ∷ ps)) r) in
    let l : length p < length q = before_length k p q hp hq b in
    let i : length q + length ps ≤ length (last_or q ps) = chain k q ps (and_right (all (before p) (q ∷ ps)) (rising (q ∷ ps)) r) ht in
    omega arith

-- ---- shortest

pub length-shortest : (ps : List Bits) → length (shortest ps) ≤ 1
length-shortest [] = zero-le
length-shortest (p ∷ ps) = one p (shortest ps)
  where
    one : (p : Bits) (qs : List Bits) → length (shorter p qs) ≤ 1
    one p [] = omega arith
    one p (q ∷ qs) = omega arith

length-beyond : (s : List Bits) (d : Bits) → length (beyond s d) ≤ 1
unfolding beyond
length-beyond s d = at (any (is_prefix d) s)
  where
    at : (b : Bool) → length (cond b (shortest (keep (is_prefix d) (nodes s))) []) ≤ 1
    at true = length-shortest (keep (is_prefix d) (nodes s))
    at false = zero-le

length-last_node_at : (b : Bool) (s : List Bits) (k q : Bits) → eqb (length q) (length k) ≡ b → length q ≤ length k
    → length q + length (cond b [] (beyond s (take (suc (length q)) k))) ≤ length k
length-last_node_at true s k q e h = omega arith
length-last_node_at false s k q e h =
    omega (arith, length-beyond s (take (suc (length q)) k), eqb-false (length q) (length k) e)

length-last_node : (s : List Bits) (k q : Bits) → length q ≤ length k → length q + length (last_node s k (some q)) ≤ length k
unfolding last_node
length-last_node s k q h = length-last_node_at (eqb (length q) (length k)) s k q refl h

length-path_at : (s : List Bits) (k : Bits) (ps : List Bits) → T (rising ps) → T (all (λ q. is_prefix q k) ps)
    → length (ps ++ last_node s k (last ps)) ≤ length k + 1
unfolding last_node
length-path_at s k [] r h = omega (arith, length-shortest (nodes s))
length-path_at s k (p ∷ ps) r h =
    let q : Bits = last_or p ps in
    let hq : length q ≤ length k = is_prefix_length q k (all-last_or (λ x. is_prefix x k) p ps h) in
    omega (arith, length-append (p ∷ ps) (last_node s k (some q)), chain k p ps r h, length-last_node s k q hq)

pub length-path : (s : List Bits) (k : Bits) → length (path s k) ≤ length k + 1
unfolding path prefix_nodes
length-path s k =
    length-path_at s k (keep (λ p. is_prefix p k) (nodes s))
    (rising-keep (λ p. is_prefix p k) (nodes s) (rising-nodes s)) (all-keep_same (λ p. is_prefix p k) (nodes s))

-- a key has at most one more node among its prefixes than it has bits
pub length-prefix_nodes : (s : List Bits) (k : Bits) → length (keep (λ p. is_prefix p k) (nodes s)) ≤ length k + 1
unfolding path prefix_nodes
length-prefix_nodes s k =
    let ps : List Bits = keep (λ p. is_prefix p k) (nodes s) in
    omega (arith, length-append ps (last_node s k (last ps)), length-path s k)
