-- The laws of a slice's count: the counts of a whole listing add up to the nodes and the resumes' paths, and
-- each is at most 129 + 129b. No contract cites this file.
-- Assumes nothing.
use Prim.Native.Nat.{ℕ, ◌+◌, ◌*◌, ◌≤◌, zero-le}
use native.Mathlib.Nat.{add_comm}
use native.Mathlib.Omega.{arith}
use mathlib.Core.Path.{◌≡◌, refl, ap, ◌∙◌}
use mathlib.Core.Logic.{inl, inr}
use mathlib.Core.Bool.{false, not}
use mathlib.Core.List.{List, [], ◌∷◌, ◌++◌, Memᴰ}
use mathlib.Core.Option.{Option, none, some}
use borrow.Author.Tests.{leb-true}
use lib.Dec.{T, leb}
use lib.ListN.{length, length-append}
use Rattle.bits.specs.Lists.{any, all, keep, last, last_or}
use Rattle.bits.specs.Bits.{Bits, is_prefix, before}
use Rattle.bits.proofs.ListsLaws.{T_true, and_left, and_right, mem-any, mem-all, all-last_or, mem-last_or, keep-none, keep-every}
use Rattle.bits.proofs.ListsLaws.{length-keep-or, length-keep_imp, length-keep_split}
use Rattle.bits.proofs.BitsLaws.{lcp_left, before-prefix, is_prefix-between}
use Rattle.zones.specs.Maps.{Map, keys, ascending}
use Rattle.zones.specs.Nodes.{nodes}
use Rattle.zones.specs.Slices.{after, given, remains, passes, passed, way_to, found, count}
use Rattle.zones.specs.Listings.{Turn, next_at, next, pathed}
use Rattle.zones.specs.WholeListings.{turns, counted, ended}
use Rattle.zones.proofs.NodesLaws.{Node, mem-nodes}
use Rattle.zones.proofs.PathLaws.{length-path, length-prefix_nodes}
use Rattle.zones.proofs.SlicesLaws.{after_trans, given_keys, length-given_keys, given_keys_stored, given_keys-after, given-or_rest}
use Rattle.zones.proofs.SlicesLaws.{given_keys-before, rest_keys-none, next-after, given_keys_next}

-- ---- after

pub after-prefix : (r : Option Bits) (p a : Bits) → T (after r p) → T (is_prefix p a) → T (after r a)
after-prefix none p a h k = tt
after-prefix (some z) p a h k = before-prefix z p a h k

-- a node is a prefix of a stored string
node-prefix : (s : List Bits) (p : Bits) (n : Node s p) → T (is_prefix p n.one)
node-prefix s p n = rw n.is (lcp_left n.one n.two)

-- ---- passed

passed_none : (m : Map) (r : Option Bits) → passed m r none ≡ 0
unfolding passed
passed_none m r = ap length (keep-none (passes r none) (nodes (keys m)) (λ p i k. k))

-- the nodes after the resume are those that the slice passes and those after the next resume
passed_next : (r : Option Bits) (t : Turn)
    → passed t.stored r (last (given_keys r t)) + length (keep (after (next r t)) (nodes (keys t.stored)))
    ≡ length (keep (after r) (nodes (keys t.stored)))
unfolding next passed
passed_next r t = at (given_keys r t) (mem-all (after r) (given_keys r t) (given_keys-after r t))
  where
    at : (g : List Bits) → T (all (after r) g)
        → passed t.stored r (last g) + length (keep (after (next_at r (last g))) (nodes (keys t.stored)))
        ≡ length (keep (after r) (nodes (keys t.stored)))
    at [] h = rw (passed_none t.stored r) (omega arith)
    at (x ∷ g) h =
        length-keep_split (after r) (before (last_or x g)) (nodes (keys t.stored))
        (λ p k. after_trans r (last_or x g) p (all-last_or (after r) x g h) k)

-- where no stored string remains, no node does
ended-nodes : (r : Option Bits) (t : Turn) → T (ascending t.stored) → T (not (remains t.stored r t.size))
    → keep (after (next r t)) (nodes (keys t.stored)) ≡ []
ended-nodes r t h e = keep-none (after (next r t)) (nodes (keys t.stored)) (λ p i k.
    let n : Node (keys t.stored) p = mem-nodes (keys t.stored) p i in
    let a : T (after (next r t) n.one) = after-prefix (next r t) p n.one k (node-prefix (keys t.stored) p n) in
    elim (given-or_rest r t n.one n.one_in (next-after r t n.one a)) [
      | inl j ↦ given_keys_next r t h n.one j a
      | inr j ↦ rest_keys-none r t n.one e j
    ])

-- ---- counted

counted-from : (m : Map) (bs : List ℕ) (r : Option Bits) → T (ascending m) → T (ended r (turns m bs))
    → counted r (turns m bs) ≡ length (keep (after r) (nodes (keys m))) + pathed r (turns m bs)
unfolding count
counted-from m (b ∷ []) r h e =
    let t : Turn = record { stored = m; size = b } in
    omega (arith, passed_next r t, ap length (ended-nodes r t h e))
counted-from m (b ∷ (c ∷ bs)) r h e =
    let t : Turn = record { stored = m; size = b } in
    omega (arith, passed_next r t, counted-from m (c ∷ bs) (next r t) h e)
counted-from m [] r h e = elim e [ ]

-- "the counts add up to the number of nodes plus the paths of the resumes"
pub counted-whole : (m : Map) (bs : List ℕ) → T (ascending m) → T (ended none (turns m bs))
    → counted none (turns m bs) ≡ length (nodes (keys m)) + pathed none (turns m bs)
counted-whole m bs h e =
    counted-from m bs none h e
    ∙ ap (λ (l : List Bits). length l + pathed none (turns m bs)) (keep-every (after none) (nodes (keys m)) (λ p i. tt))

-- ---- count

-- "the nodes it counts": those of the resume's path, and those passed (one that is both stands there twice)
unfoldable pub counted_nodes : Map → Option Bits → ℕ → List Bits
counted_nodes m r b = way_to m r ++ keep (passes r (last (keys (given m r b)))) (nodes (keys m))

-- the count is how many nodes a slice counts
pub length-counted_nodes : (m : Map) (r : Option Bits) (b : ℕ) → length (counted_nodes m r b) ≡ count m r b
unfolding counted_nodes count passed found
length-counted_nodes m r b =
    length-append (way_to m r) (keep (passes r (last (keys (given m r b)))) (nodes (keys m))) ∙ add_comm _ _

-- the nodes that are prefixes of some of the strings g: at most 129 for each string
length-prefixed : (s g : List Bits) → ((k : Bits) → Memᴰ k g → length k ≤ 128)
    → length (keep (λ p. any (is_prefix p) g) (nodes s)) ≤ 129 * length g
length-prefixed s [] h = omega (arith, ap length (keep-none (λ (p : Bits). false) (nodes s) (λ p i k. k)))
length-prefixed s (k ∷ g) h =
    omega (
      arith,
      length-keep-or (λ p. is_prefix p k) (λ p. any (is_prefix p) g) (nodes s),
      length-prefix_nodes s k,
      h k (mathlib.Core.List.Memᴰ.head refl),
      length-prefixed s g (λ a i. h a (mathlib.Core.List.Memᴰ.tail i)),
    )

-- a node that a slice passes is a prefix of one that it gives: of the last one, where the stored string that
-- makes it a node remains
passed-prefix : (r : Option Bits) (t : Turn) (x : Bits) (g : List Bits) → T (ascending t.stored) → given_keys r t ≡ x ∷ g
    → (p : Bits) → Memᴰ p (nodes (keys t.stored)) → T (passes r (some (last_or x g)) p) → T (any (is_prefix p) (given_keys r t))
passed-prefix r t x g h e p i k =
    let n : Node (keys t.stored) p = mem-nodes (keys t.stored) p i in
    let z : Bits = last_or x g in
    let f : T (is_prefix p n.one) = node-prefix (keys t.stored) p n in
    let j : Memᴰ z (given_keys r t) = rw e (mem-last_or x g) in
    elim (given-or_rest r t n.one n.one_in (after-prefix r p n.one (and_left (after r p) (not (before z p)) k) f)) [
      | inl o ↦ mem-any (is_prefix p) (given_keys r t) n.one o f
      | inr o ↦ mem-any (is_prefix p) (given_keys r t) z j
          (is_prefix-between p n.one z f (and_right (after r p) (not (before z p)) k) (given_keys-before r t h z n.one j o))
    ]

passed-bound : (r : Option Bits) (t : Turn) → T (ascending t.stored) → ((a : Bits) → Memᴰ a (given_keys r t) → length a ≤ 128)
    → passed t.stored r (last (given_keys r t)) ≤ 129 * length (given_keys r t)
unfolding passed
passed-bound r t h w = at (given_keys r t) refl
  where
    at : (g : List Bits) → given_keys r t ≡ g → passed t.stored r (last g) ≤ 129 * length (given_keys r t)
    at [] e = rw (passed_none t.stored r) zero-le
    at (x ∷ g) e =
        omega (
          arith,
          length-keep_imp (passes r (some (last_or x g))) (λ p. any (is_prefix p) (given_keys r t)) (nodes (keys t.stored))
              (passed-prefix r t x g h e),
          length-prefixed (keys t.stored) (given_keys r t) w,
        )

found-bound : (m : Map) (r : Option Bits) → ((q : Bits) → r ≡ some q → length q ≤ 128) → found m r ≤ 129
unfolding found
found-bound m none h = zero-le
found-bound m (some q) h = omega (arith, length-path (keys m) q, h q refl)

given_keys-width : (r : Option Bits) (t : Turn) → T (all (λ e. leb (length e.key) 128) t.stored)
    → (a : Bits) → Memᴰ a (given_keys r t) → length a ≤ 128
unfolding keys
given_keys-width r t h a i = leb-true (length a) 128 (T_true (leb (length a) 128) (at t.stored h (given_keys_stored r t a i)))
  where
    at : (m : Map) → T (all (λ e. leb (length e.key) 128) m) → Memᴰ a (keys m) → T (leb (length a) 128)
    at (e ∷ m) h (mathlib.Core.List.Memᴰ.head q) = rw q (and_left (leb (length e.key) 128) (all (λ e. leb (length e.key) 128) m) h)
    at (e ∷ m) h (mathlib.Core.List.Memᴰ.tail j) = at m (and_right (leb (length e.key) 128) (all (λ e. leb (length e.key) 128) m) h) j
    at [] h absent = elim absent [ ]

-- "It is at most 129 + 129b."
pub count-bound : (m : Map) (r : Option Bits) (b : ℕ) → T (ascending m) → T (all (λ e. leb (length e.key) 128) m)
    → ((q : Bits) → r ≡ some q → length q ≤ 128) → count m r b ≤ 129 + 129 * b
unfolding count
count-bound m r b h w q =
    let t : Turn = record { stored = m; size = b } in
    omega (arith, passed-bound r t h (given_keys-width r t w), found-bound m r q, length-given_keys r t)
