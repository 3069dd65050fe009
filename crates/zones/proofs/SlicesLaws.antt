-- The laws of a listing in slices: what a slice gives and leaves, and that what stays stored is listed
-- exactly once. No contract cites this file.
-- Assumes nothing.
use Prim.Native.Nat.{ℕ, ◌≤◌}
use native.Mathlib.Omega.{arith}
use mathlib.Core.Path.{◌≡◌, sym, ap, ◌∙◌}
use mathlib.Core.Logic.{◌⊎◌, inl, inr}
use mathlib.Core.Bool.{Bool, true, not}
use mathlib.Core.List.Memᴰ
use mathlib.Core.List.{List, [], ◌∷◌, ◌++◌, map-append, Memᴰ}
use mathlib.Core.Option.{Option, none, some}
use lib.Dec.{T}
use lib.ListN.{length, take, drop, length-map, length-take, take-append-drop}
use Rattle.bits.specs.Lists.{all, keep, last, last_or, is_empty}
use Rattle.bits.specs.Bits.{Bits, before, equal, rising, member}
use Rattle.bits.proofs.ListsLaws.{and_left, and_right, mem-all, all-last_or, mem-keep, keep_mem}
use Rattle.bits.proofs.BitsLaws.{before_trans}
use Rattle.bits.proofs.RisingLaws.{rising-keep, rising-append, rising_left, rising_parts, member_mem, not-after-before}
use Rattle.bits.proofs.RisingLaws.{not-after-last_or, length-keep-equal}
use Rattle.zones.specs.Maps.{Entry, Map, keys, ascending}
use Rattle.zones.specs.Slices.{after, left, given, remains}
use Rattle.zones.specs.Listings.{Turn, next_at, next}
use Rattle.zones.specs.WholeListings.{listed, ended}
use Rattle.zones.proofs.MapsLaws.{keys-keep}

-- ---- after

pub after_trans : (r : Option Bits) (z p : Bits) → T (after r z) → T (before z p) → T (after r p)
after_trans none z p h k = tt
after_trans (some q) z p h k = before_trans q z p h k

-- what is not after a resume comes before all that is
after-before : (r : Option Bits) (a b : Bits) → (T (after r a) → ⊥) → T (after r b) → T (before a b)
after-before none a b h k = absurd (h tt)
after-before (some z) a b h k = not-after-before z a b h k

-- ---- given

pub given_length : (m : Map) (r : Option Bits) (b : ℕ) → length (given m r b) ≤ b
unfolding given
given_length m r b = omega (arith, length-take b (left m r))

-- the keys that a slice gives, and the keys that remain after it
abbrev pub given_keys : Option Bits → Turn → List Bits
given_keys r t = keys (given t.stored r t.size)

unfoldable pub rest_keys : Option Bits → Turn → List Bits
rest_keys r t = keys (drop t.size (left t.stored r))

pub length-given_keys : (r : Option Bits) (t : Turn) → length (given_keys r t) ≤ t.size
unfolding keys
length-given_keys r t =
    omega (arith, given_length t.stored r t.size, length-map (given t.stored r t.size) (λ (e : Entry). e.key))

-- together they are what is stored after the resume
pub given_keys-rest_keys : (r : Option Bits) (t : Turn) → given_keys r t ++ rest_keys r t ≡ keep (after r) (keys t.stored)
unfolding rest_keys given left keys
given_keys-rest_keys r t =
    let m : Map = left t.stored r in
    sym (map-append (λ (e : Entry). e.key) (take t.size m) (drop t.size m))
    ∙ ap keys (take-append-drop t.size m) ∙ keys-keep (after r) t.stored

given_keys_kept : (r : Option Bits) (t : Turn) (p : Bits) → Memᴰ p (given_keys r t) → Memᴰ p (keys t.stored) × T (after r p)
given_keys_kept r t p i = keep_mem (after r) (keys t.stored) p (rw given_keys-rest_keys at (Memᴰ.append_left (rest_keys r t) i))

pub given_keys_stored : (r : Option Bits) (t : Turn) (p : Bits) → Memᴰ p (given_keys r t) → Memᴰ p (keys t.stored)
given_keys_stored r t p i = (given_keys_kept r t p i).0

pub given_keys-after : (r : Option Bits) (t : Turn) (p : Bits) → Memᴰ p (given_keys r t) → T (after r p)
given_keys-after r t p i = (given_keys_kept r t p i).1

rest_keys-after : (r : Option Bits) (t : Turn) (p : Bits) → Memᴰ p (rest_keys r t) → T (after r p)
rest_keys-after r t p i =
    (keep_mem (after r) (keys t.stored) p (rw given_keys-rest_keys at (Memᴰ.append_right (given_keys r t) i))).1

-- what is stored after the resume is given or remains
pub given-or_rest : (r : Option Bits) (t : Turn) (p : Bits) → Memᴰ p (keys t.stored) → T (after r p)
    → Memᴰ p (given_keys r t) ⊎ Memᴰ p (rest_keys r t)
given-or_rest r t p i h = Memᴰ.append_cases (given_keys r t) (rw given_keys-rest_keys (mem-keep (after r) (keys t.stored) p i h))

rising_both : (r : Option Bits) (t : Turn) → T (ascending t.stored) → T (rising (given_keys r t ++ rest_keys r t))
unfolding ascending
rising_both r t h = rw given_keys-rest_keys (rising-keep (after r) (keys t.stored) h)

pub given_keys-before : (r : Option Bits) (t : Turn) → T (ascending t.stored) → (p q : Bits)
    → Memᴰ p (given_keys r t) → Memᴰ q (rest_keys r t) → T (before p q)
given_keys-before r t h p q i j = rising_parts (given_keys r t) (rest_keys r t) (rising_both r t h) p q i j

-- ---- remains

pub rest_keys-none : (r : Option Bits) (t : Turn) (p : Bits) → T (not (remains t.stored r t.size)) → Memᴰ p (rest_keys r t) → ⊥
unfolding remains rest_keys keys
rest_keys-none r t p h i = at (drop t.size (left t.stored r)) h i
  where
    at : (m : Map) → T (not (not (is_empty m))) → Memᴰ p (keys m) → ⊥
    at [] h i = Memᴰ.not-nil i
    at (_ ∷ _) h i = elim h [ ]

-- ---- next

-- a slice never resumes before the last one did
pub next-after : (r : Option Bits) (t : Turn) (p : Bits) → T (after (next r t) p) → T (after r p)
unfolding next
next-after r t p h = at (given_keys r t) (mem-all (after r) (given_keys r t) (given_keys-after r t)) h
  where
    at : (g : List Bits) → T (all (after r) g) → T (after (next_at r (last g)) p) → T (after r p)
    at [] k h = h
    at (x ∷ g) k h = after_trans r (last_or x g) p (all-last_or (after r) x g k) h

-- what a slice gave does not come after the next resume
pub given_keys_next : (r : Option Bits) (t : Turn) → T (ascending t.stored) → (p : Bits) → Memᴰ p (given_keys r t) → T (after (next r t) p) → ⊥
unfolding next
given_keys_next r t h p i k = at (given_keys r t) (rising_left (given_keys r t) (rest_keys r t) (rising_both r t h)) i k
  where
    at : (g : List Bits) → T (rising g) → Memᴰ p g → T (after (next_at r (last g)) p) → ⊥
    at [] h i k = Memᴰ.not-nil i
    at (x ∷ g) h i k = not-after-last_or x g h p i k

-- what it left does
pub rest_keys_next : (r : Option Bits) (t : Turn) → T (ascending t.stored) → (p : Bits) → Memᴰ p (rest_keys r t) → T (after (next r t) p)
unfolding next
rest_keys_next r t h p i = at (given_keys r t) (λ a j. given_keys-before r t h a p j i)
  where
    at : (g : List Bits) → ((a : Bits) → Memᴰ a g → T (before a p)) → T (after (next_at r (last g)) p)
    at [] f = rest_keys-after r t p i
    at (x ∷ g) f = all-last_or (λ a. before a p) x g (mem-all (λ a. before a p) (x ∷ g) f)

-- ---- listed

pub listed-after : (r : Option Bits) (ts : List Turn) (p : Bits) → Memᴰ p (listed r ts) → T (after r p)
listed-after r [] p i = absurd (Memᴰ.not-nil i)
listed-after r (t ∷ ts) p i = elim (Memᴰ.append_cases (given_keys r t) i) [
  | inl j ↦ given_keys-after r t p j
  | inr j ↦ next-after r t p (listed-after (next r t) ts p j)
]

-- a listing never goes back, whatever edits come between
pub rising-listed : (r : Option Bits) (ts : List Turn) → T (all (λ t. ascending t.stored) ts) → T (rising (listed r ts))
rising-listed r [] h = tt
rising-listed r (t ∷ ts) h =
    let a : T (ascending t.stored) = and_left (ascending t.stored) (all (λ u. ascending u.stored) ts) h in
    rising-append (given_keys r t) (listed (next r t) ts) (rising_left (given_keys r t) (rest_keys r t) (rising_both r t a))
    (rising-listed (next r t) ts (and_right (ascending t.stored) (all (λ u. ascending u.stored) ts) h))
    (λ p q i j. after-before (next r t) p q (given_keys_next r t a p i) (listed-after (next r t) ts q j))

-- what stays stored and comes after the resume is listed by the time that nothing remains
pub mem-listed : (k : Bits) (r : Option Bits) (ts : List Turn) → T (all (λ t. ascending t.stored) ts)
    → T (all (λ t. member k (keys t.stored)) ts) → T (ended r ts) → T (after r k) → Memᴰ k (listed r ts)
mem-listed k r (t ∷ []) h s e a = elim (given-or_rest r t k (member_mem k (keys t.stored) (and_left (member k (keys t.stored)) true s)) a) [
  | inl i ↦ Memᴰ.append_left [] i
  | inr i ↦ absurd (rest_keys-none r t k e i)
]
mem-listed k r (t ∷ (u ∷ ts)) h s e a =
    let hs : Bool = all (λ v. ascending v.stored) (u ∷ ts) in
    let ss : Bool = all (λ v. member k (keys v.stored)) (u ∷ ts) in
    elim (given-or_rest r t k (member_mem k (keys t.stored) (and_left (member k (keys t.stored)) ss s)) a) [
      | inl i ↦ Memᴰ.append_left (listed (next r t) (u ∷ ts)) i
      | inr i ↦ Memᴰ.append_right (given_keys r t) (mem-listed k (next r t) (u ∷ ts) (and_right (ascending t.stored) hs h)
          (and_right (member k (keys t.stored)) ss s) e (rest_keys_next r t (and_left (ascending t.stored) hs h) k i))
    ]
mem-listed k r [] h s e a = elim e [ ]

-- "whatever stays stored from the first slice to the last is listed exactly once"
pub listed_once : (k : Bits) (ts : List Turn) → T (all (λ t. ascending t.stored) ts) → T (all (λ t. member k (keys t.stored)) ts)
    → T (ended none ts) → length (keep (equal k) (listed none ts)) ≡ 1
listed_once k ts h s e = length-keep-equal k (listed none ts) (rising-listed none ts h) (mem-listed k none ts h s e tt)
