-- The law that every table's list has an image: with at most 65,535 prefixes of at most 128 bits and 32-bit
-- zone numbers, every record fits 24 bits, and so every record size. No contract cites this file.
-- Assumes nothing.
use Prim.Native.Nat.{ℕ, suc, ◌+◌, ◌*◌, ◌^◌, ◌≤◌, ◌<◌}
use native.Mathlib.Omega.{arith}
use mathlib.Core.Path.{◌≡◌, refl, ap, ◌∙◌}
use mathlib.Core.Logic.{inl, inr}
use mathlib.Core.Bool.{Bool, true, false, not, cond}
use mathlib.Core.List.Memᴰ
use mathlib.Core.List.{List, [], ◌∷◌, ◌++◌, map, Memᴰ}
use mathlib.Core.Option
use mathlib.Core.Option.{Option, none, some, some-injective, none-ne-some}
use lib.Dec.{T, ltb, leb, eqb, ltb→lt, lt→ltb, leb→le, eqb→eq, eqb_refl, not_T}
use lib.ListN.{length, length-append, length-map}
use borrow.Author.Tests.{eq-eqb}
use Rattle.std.specs.declared.cmp.Ordering.{Ordering}
use Rattle.std.specs.declared.cmp.Ordering.TheVariants.{Less, Equal, Greater}
use Rattle.bits.specs.Lists.{all, keep, each}
use Rattle.bits.specs.Bits.{Bits, order, equal}
use Rattle.bits.proofs.ListsLaws.{and_left, and_right, and_both, mem-all, all_mem, mem-map, mem-keep, or_left, or_right, or_cases}
use Rattle.zones.specs.Maps.{Entry, Map, keys, ascending, longest_match}
use Rattle.zones.specs.Nodes.{join, join_at, in_order}
use Rattle.zones.proofs.MatchLaws.{longest_match_some}
use Rattle.image.specs.Bytes.{uint32}
use Rattle.image.specs.Image.{Size, size24, size28, size32, size_bits, proper_prefixes, image_nodes, number_in, Side, to_node, no_data, to_zone}
use Rattle.image.specs.Ascending.{ascending_numbers}
use Rattle.image.specs.Image.{leaf_of, node_or, side, Fork, forks_in, forks_of, zones_of, data_of, record_of, fits_in, fits}
use Rattle.image.proofs.LengthLaws.{length-uint32}
use Rattle.image.proofs.ZonesLaws.{ascending-zones_of, uses, mem-zones_of, zones_of_mem, offset-lt}

-- ---- how many nodes

length-join_at : (o : Ordering) (p q : Bits) (qs : List Bits) → length (join p qs) ≤ suc (length qs)
    → length (join_at o p q qs (join p qs)) ≤ suc (suc (length qs))
length-join_at Less p q qs h = omega arith
length-join_at Equal p q qs h = omega arith
length-join_at Greater p q qs h = omega arith

length-join : (p : Bits) (qs : List Bits) → length (join p qs) ≤ suc (length qs)
length-join p [] = omega arith
length-join p (q ∷ qs) = length-join_at (order p q) p q qs (length-join p qs)

pub length-in_order : (ps : List Bits) → length (in_order ps) ≤ length ps
length-in_order [] = omega arith
length-in_order (p ∷ ps) = omega (arith, length-join p (in_order ps), length-in_order ps)

pub length-proper_prefixes : (k : Bits) → length (proper_prefixes k) ≡ length k
length-proper_prefixes [] = refl
length-proper_prefixes (x ∷ k) = ap suc (length-map (proper_prefixes k) (λ p. x ∷ p) ∙ length-proper_prefixes k)

length-prefixes : (m : Map) → T (all (λ e. leb (length e.key) 128) m) → length (each proper_prefixes (keys m)) ≤ 128 * length m
unfolding keys
length-prefixes [] h = omega arith
length-prefixes (e ∷ m) h =
    let l : length e.key ≤ 128 =
    leb→le (length e.key) 128 (and_left (leb (length e.key) 128) (all (λ x. leb (length x.key) 128) m) h) in
    let t = length-prefixes m (and_right (leb (length e.key) 128) (all (λ x. leb (length x.key) 128) m) h) in
    rw (length-append (proper_prefixes e.key) (each proper_prefixes (keys m)), length-proper_prefixes) (omega arith)

pub length-forks_in : (m : Map) (ns : List Bits) → length (forks_in m ns) ≡ length ns
unfolding forks_in
length-forks_in m ns = length-map ns _

-- the empty string, and the proper prefixes of the keys
pub length-forks_of : (m : Map) → T (all (λ e. leb (length e.key) 128) m) → length (forks_of m) ≤ 1 + 128 * length m
unfolding forks_of image_nodes
length-forks_of m h =
    rw length-forks_in (omega (arith, length-in_order ([] ∷ each proper_prefixes (keys m)), length-prefixes m h))

-- ---- what a side is

number_in-lt : (ns : List Bits) (p : Bits) (i : ℕ) → number_in ns p ≡ some i → i < length ns
number_in-lt [] p i e = absurd (none-ne-some i e)
number_in-lt (q ∷ qs) p i e = at (equal q p) e (number_in-lt qs p)
  where
    next : (o : Option ℕ) → Option.map suc o ≡ some i → ((j : ℕ) → o ≡ some j → j < length qs) → i < suc (length qs)
    next none e ih = absurd (none-ne-some i e)
    next (some j) e ih = omega (arith, ih j refl, some-injective (suc j) i e)

    at : (b : Bool) → cond b (some 0) (Option.map suc (number_in qs p)) ≡ some i → ((j : ℕ) → number_in qs p ≡ some j → j < length qs) → i < suc (length qs)
    at true e ih = omega (arith, some-injective 0 i e)
    at false e ih = next (number_in qs p) e ih

-- a side of one of n nodes: a node, no data, or the zone of a stored entry
pub data Placed (m : Map) (n : ℕ) : Side → Type 0 where
  node : {i : ℕ} → i < n → Placed m n (to_node i)
  nothing : Placed m n no_data
  entry : {e : Entry} → Memᴰ e m → Placed m n (to_zone e.zone)

placed_at : (m : Map) (n : ℕ) (a : Option ℕ) (b : Option Entry) → ((i : ℕ) → a ≡ some i → i < n) → ((e : Entry) → b ≡ some e → Memᴰ e m)
    → Placed m n (node_or a (leaf_of b))
placed_at m n (some i) b h k = node (h i refl)
placed_at m n none none h k = nothing
placed_at m n none (some e) h k = entry (k e refl)

pub placed-side : (m : Map) (ns : List Bits) (px : Bits) → Placed m (length ns) (side m ns px)
unfolding side
placed-side m ns px =
    placed_at m (length ns) (number_in ns px) (longest_match px m) (number_in-lt ns px) (λ e q. (longest_match_some px m e q).stored)

placed-forks_in : (m : Map) (ns : List Bits) (f : Fork) → Memᴰ f (forks_in m ns) → Placed m (length ns) f.left × Placed m (length ns) f.right
unfolding forks_in
placed-forks_in m ns f i =
    let w = Memᴰ.of_map _ ns i in
    rw (← w.2) (placed-side m ns (w.0 ++ (false ∷ [])), placed-side m ns (w.0 ++ (true ∷ [])))

pub placed-forks_of : (m : Map) (f : Fork) → Memᴰ f (forks_of m) → Placed m (length (forks_of m)) f.left × Placed m (length (forks_of m)) f.right
unfolding forks_of
placed-forks_of m f i = rw length-forks_in (placed-forks_in m (image_nodes (keys m)) f i)

-- ---- how many zone numbers

uses_stored : (m : Map) (n z : ℕ) (s : Side) → Placed m n s → T (uses z s) → Memᴰ z (map (λ e. e.zone) m)
uses_stored m n z (to_zone y) (entry i) h = rw (eqb→eq z y h) (mem-map (λ e. e.zone) i)
uses_stored m n z (to_node _) _ h = elim h [ ]
uses_stored m n z no_data _ h = elim h [ ]

-- each is a stored entry's
pub zones_of_stored : (m : Map) (z : ℕ) → Memᴰ z (zones_of (forks_of m)) → Memᴰ z (map (λ e. e.zone) m)
zones_of_stored m z i =
    let w = mem-zones_of z (forks_of m) i in
    let p = placed-forks_of m w.0 w.1 in
    elim (or_cases (uses z w.0.left) (uses z w.0.right) w.2) [
      | inl h ↦ uses_stored m (length (forks_of m)) z w.0.left p.0 h
      | inr h ↦ uses_stored m (length (forks_of m)) z w.0.right p.1 h
    ]

length-keep-le : {A : Type 0} (f : A → Bool) (xs : List A) → length (keep f xs) ≤ length xs
length-keep-le f [] = omega arith
length-keep-le f (x ∷ xs) = at (f x) (length-keep-le f xs)
  where
    at : (b : Bool) → length (keep f xs) ≤ length xs → length (cond b (x ∷ keep f xs) (keep f xs)) ≤ suc (length xs)
    at true h = omega arith
    at false h = omega arith

-- one that is not kept makes the list shorter
length-keep-lt : (z : ℕ) (xs : List ℕ) → Memᴰ z xs → length (keep (λ y. not (eqb z y)) xs) < length xs
length-keep-lt z (x ∷ xs) (Memᴰ.head e) =
    rw (eq-eqb z x e) (omega (arith, length-keep-le (λ y. not (eqb z y)) xs))
length-keep-lt z (x ∷ xs) (Memᴰ.tail i) = at (not (eqb z x)) (length-keep-lt z xs i)
  where
    at : (b : Bool) → length (keep (λ y. not (eqb z y)) xs) < length xs
        → length (cond b (x ∷ keep (λ y. not (eqb z y)) xs) (keep (λ y. not (eqb z y)) xs)) < suc (length xs)
    at true h = omega arith
    at false h = omega arith
length-keep-lt z [] x' = elim x' [ ]

-- different numbers that are all in a list are no more than it has
pub length-ascending : (zs ys : List ℕ) → T (ascending_numbers zs) → ((z : ℕ) → Memᴰ z zs → Memᴰ z ys) → length zs ≤ length ys
length-ascending [] ys h k = omega arith
length-ascending (z ∷ zs) ys h k =
    let l : length zs ≤ length (keep (λ y. not (eqb z y)) ys) =
    length-ascending zs (keep (λ y. not (eqb z y)) ys) (and_right (all (ltb z) zs) (ascending_numbers zs) h)
    (λ x i. mem-keep (λ y. not (eqb z y)) ys x (k x (Memᴰ.tail i)) (other x i)) in
    omega (arith, length-keep-lt z ys (k z (Memᴰ.head refl)))
  where
    other : (x : ℕ) → Memᴰ x zs → T (not (eqb z x))
    other x i =
        let l : z < x = ltb→lt z x (all_mem (ltb z) zs (and_left (all (ltb z) zs) (ascending_numbers zs) h) x i) in
        not_T (eqb z x) (λ t. let e : z ≡ x = eqb→eq z x t in omega arith)

pub length-zones_of : (m : Map) → length (zones_of (forks_of m)) ≤ length m
length-zones_of m =
    omega (arith, length-ascending (zones_of (forks_of m)) (map (λ e. e.zone) m) (ascending-zones_of (forks_of m)) (zones_of_stored m), length-map m (λ e. e.zone))

-- ---- how long the data section is

pub length-data_of : (zs : List ℕ) → ((z : ℕ) → Memᴰ z zs → z < 2 ^ 32) → length (data_of zs) ≤ 5 * length zs
unfolding data_of
length-data_of [] h = omega arith
length-data_of (z ∷ zs) h =
    rw (length-append (uint32 z) (data_of zs))
    (omega (arith, length-uint32 z (h z (Memᴰ.head refl)), length-data_of zs (λ y i. h y (Memᴰ.tail i))))

pub zone_below : (m : Map) → T (all (λ e. ltb e.zone (2 ^ 32)) m) → (z : ℕ) → Memᴰ z (map (λ e. e.zone) m) → z < 2 ^ 32
zone_below m h z i =
    let w = Memᴰ.of_map (λ e. e.zone) m i in
    rw (← w.2) (ltb→lt w.0.zone (2 ^ 32) (all_mem (λ e. ltb e.zone (2 ^ 32)) m h w.0 w.1))

-- ---- fits

record_of-lt : (m : Map) (n : ℕ) (zs : List ℕ) (s : Side) → Placed m n s → ((z : ℕ) → T (uses z s) → Memᴰ z zs)
    → record_of n zs s < n + 16 + length (data_of zs)
record_of-lt m n zs (to_node i) (node h) k = omega arith
record_of-lt m n zs no_data nothing k = omega arith
record_of-lt m n zs (to_zone z) (entry i) k = omega (arith, offset-lt z zs (k z (eqb_refl z)))

size-le : (s : Size) → 2 ^ 24 ≤ 2 ^ size_bits s
size-le size24 = omega arith
size-le size28 = omega arith
size-le size32 = omega arith

side-fits : (s : Size) (m : Map) (n : ℕ) (zs : List ℕ) → n + 16 + length (data_of zs) < 2 ^ 24 → (x : Side) → Placed m n x
    → ((z : ℕ) → T (uses z x) → Memᴰ z zs) → T (ltb (record_of n zs x) (2 ^ size_bits s))
side-fits s m n zs h x p k = lt→ltb (record_of n zs x) (2 ^ size_bits s) (omega (arith, record_of-lt m n zs x p k, size-le s))

fork-fits : (s : Size) (m : Map) → length (forks_of m) + 16 + length (data_of (zones_of (forks_of m))) < 2 ^ 24
    → (f : Fork) → Memᴰ f (forks_of m) → T (fits_in s (length (forks_of m)) (zones_of (forks_of m)) f)
unfolding fits_in
fork-fits s m h f i =
    let n : ℕ = length (forks_of m) in
    let zs : List ℕ = zones_of (forks_of m) in
    let p = placed-forks_of m f i in
    and_both (ltb (record_of n zs f.left) (2 ^ size_bits s)) (ltb (record_of n zs f.right) (2 ^ size_bits s))
    (side-fits s m n zs h f.left p.0 (λ z u. zones_of_mem z (forks_of m) f i (or_left (uses z f.left) (uses z f.right) u)))
    (side-fits s m n zs h f.right p.1 (λ z u. zones_of_mem z (forks_of m) f i (or_right (uses z f.left) (uses z f.right) u)))

-- the image's parts are short enough for 24 bits
pub short-enough : (m : Map) → length m ≤ 65535 → T (all (λ e. leb (length e.key) 128) m) → T (all (λ e. ltb e.zone (2 ^ 32)) m)
    → length (forks_of m) + 16 + length (data_of (zones_of (forks_of m))) < 2 ^ 24
short-enough m l w z =
    omega (arith, length-forks_of m w, length-zones_of m, length-data_of (zones_of (forks_of m)) (λ y i. zone_below m z y (zones_of_stored m y i)))

-- "every table's list does"
pub fits-table : (m : Map) → T (ascending m) → length m ≤ 65535 → T (all (λ e. leb (length e.key) 128) m) → T (all (λ e. ltb e.zone (2 ^ 32)) m)
    → (s : Size) → T (fits s m)
unfolding fits
fits-table m a l w z s = mem-all (fits_in s (length (forks_of m)) (zones_of (forks_of m))) (forks_of m) (fork-fits s m (short-enough m l w z))
