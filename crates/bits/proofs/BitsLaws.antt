-- The laws of bit strings: prefixes, the longest common prefix, and the order. No contract cites this file.
-- Assumes nothing.
use Prim.Native.Nat.{ℕ, zero, suc, ◌+◌, ◌≤◌, ◌<◌, zero-le, suc-le-suc, min}
use native.Mathlib.Nat.{le_of_suc-le-suc, not-suc-le-zero, zero-add, suc-add}
use native.Mathlib.Omega.{arith}
use mathlib.Core.Path.{◌≡◌, refl, sym, ap, ◌∙◌}
use mathlib.Core.Bool.{Bool, true, false, not}
use mathlib.Core.List.{[], ◌∷◌, ◌++◌}
use lib.Dec.{T, eqb, eqb-zero-suc, eqb-suc-suc}
use lib.ListN.{length, take}
use Rattle.std.specs.declared.cmp.Ordering.TheVariants.{Equal}
use Rattle.std.specs.Ordering.{ordering_reverse}
use Rattle.bits.specs.Bits.{Bits, is_prefix, lcp, order, before, equal}

-- ---- is_prefix

pub is_prefix_refl : (p : Bits) → T (is_prefix p p)
is_prefix_refl [] = tt
is_prefix_refl (false ∷ p) = is_prefix_refl p
is_prefix_refl (true ∷ p) = is_prefix_refl p

pub is_prefix_trans : (p q r : Bits) → T (is_prefix p q) → T (is_prefix q r) → T (is_prefix p r)
is_prefix_trans [] q r h k = tt
is_prefix_trans (false ∷ p) (false ∷ q) (false ∷ r) h k = is_prefix_trans p q r h k
is_prefix_trans (true ∷ p) (true ∷ q) (true ∷ r) h k = is_prefix_trans p q r h k
is_prefix_trans (false ∷ p) [] r h k = elim h [ ]
is_prefix_trans (false ∷ p) (false ∷ q) [] h k = elim k [ ]
is_prefix_trans (false ∷ p) (false ∷ q) (true ∷ r) h k = elim k [ ]
is_prefix_trans (false ∷ p) (true ∷ q) r h k = elim h [ ]
is_prefix_trans (true ∷ p) [] r h k = elim h [ ]
is_prefix_trans (true ∷ p) (false ∷ q) r h k = elim h [ ]
is_prefix_trans (true ∷ p) (true ∷ q) [] h k = elim k [ ]
is_prefix_trans (true ∷ p) (true ∷ q) (false ∷ r) h k = elim k [ ]

pub is_prefix_length : (p k : Bits) → T (is_prefix p k) → length p ≤ length k
is_prefix_length [] k h = zero-le
is_prefix_length (false ∷ p) (false ∷ k) h = suc-le-suc (is_prefix_length p k h)
is_prefix_length (true ∷ p) (true ∷ k) h = suc-le-suc (is_prefix_length p k h)
is_prefix_length (false ∷ p) [] h = elim h [ ]
is_prefix_length (false ∷ p) (true ∷ k) h = elim h [ ]
is_prefix_length (true ∷ p) [] h = elim h [ ]
is_prefix_length (true ∷ p) (false ∷ k) h = elim h [ ]

pub is_prefix-append : (s x : Bits) → T (is_prefix s (s ++ x))
is_prefix-append [] x = tt
is_prefix-append (false ∷ s) x = is_prefix-append s x
is_prefix-append (true ∷ s) x = is_prefix-append s x

pub is_prefix-take : (p k : Bits) (n : ℕ) → T (is_prefix p k) → length p ≤ n → T (is_prefix p (take n k))
is_prefix-take [] k n h i = tt
is_prefix-take (false ∷ p) (false ∷ k) (suc n) h i = is_prefix-take p k n h (omega arith)
is_prefix-take (true ∷ p) (true ∷ k) (suc n) h i = is_prefix-take p k n h (omega arith)
is_prefix-take (false ∷ p) (false ∷ k) zero h i = absurd (omega arith)
is_prefix-take (true ∷ p) (true ∷ k) zero h i = absurd (omega arith)
is_prefix-take (false ∷ p) [] n h i = elim h [ ]
is_prefix-take (false ∷ p) (true ∷ k) n h i = elim h [ ]
is_prefix-take (true ∷ p) [] n h i = elim h [ ]
is_prefix-take (true ∷ p) (false ∷ k) n h i = elim h [ ]

pub is_prefix-taken : (p k : Bits) (n : ℕ) → T (is_prefix p (take n k)) → T (is_prefix p k)
is_prefix-taken [] k n h = tt
is_prefix-taken (false ∷ p) (false ∷ k) (suc n) h = is_prefix-taken p k n h
is_prefix-taken (true ∷ p) (true ∷ k) (suc n) h = is_prefix-taken p k n h
is_prefix-taken (false ∷ p) k zero h = absurd h
is_prefix-taken (true ∷ p) k zero h = absurd h
is_prefix-taken (false ∷ p) [] (suc n) h = elim h [ ]
is_prefix-taken (false ∷ p) (true ∷ k) (suc n) h = elim h [ ]
is_prefix-taken (true ∷ p) [] (suc n) h = elim h [ ]
is_prefix-taken (true ∷ p) (false ∷ k) (suc n) h = elim h [ ]

-- a prefix of k is what k's first bits are
pub take-is_prefix : (p k : Bits) → T (is_prefix p k) → take (length p) k ≡ p
take-is_prefix [] k h = refl
take-is_prefix (false ∷ p) (false ∷ k) h = ap (λ (l : Bits). false ∷ l) (take-is_prefix p k h)
take-is_prefix (true ∷ p) (true ∷ k) h = ap (λ (l : Bits). true ∷ l) (take-is_prefix p k h)
take-is_prefix (false ∷ p) [] h = elim h [ ]
take-is_prefix (false ∷ p) (true ∷ k) h = elim h [ ]
take-is_prefix (true ∷ p) [] h = elim h [ ]
take-is_prefix (true ∷ p) (false ∷ k) h = elim h [ ]

-- two prefixes of one string that are equally wide are one
pub is_prefix_same : (p q k : Bits) → T (is_prefix p k) → T (is_prefix q k) → length p ≡ length q → p ≡ q
is_prefix_same p q k h i e = sym (take-is_prefix p k h) ∙ ap (λ (n : ℕ). take n k) e ∙ take-is_prefix q k i

pub take_next : (s k : Bits) (x : Bool) → T (is_prefix (s ++ (x ∷ [])) k) → take (suc (length s)) k ≡ s ++ (x ∷ [])
take_next [] (false ∷ k) false h = refl
take_next [] (true ∷ k) true h = refl
take_next (false ∷ s) (false ∷ k) x h = ap (λ (l : Bits). false ∷ l) (take_next s k x h)
take_next (true ∷ s) (true ∷ k) x h = ap (λ (l : Bits). true ∷ l) (take_next s k x h)
take_next [] [] x h = elim h [ ]
take_next [] (false ∷ k) true h = elim h [ ]
take_next [] (true ∷ k) false h = elim h [ ]
take_next (false ∷ s) [] x h = elim h [ ]
take_next (false ∷ s) (true ∷ k) x h = elim h [ ]
take_next (true ∷ s) [] x h = elim h [ ]
take_next (true ∷ s) (false ∷ k) x h = elim h [ ]

-- ---- lcp

pub lcp_self : (a : Bits) → lcp a a ≡ a
lcp_self [] = refl
lcp_self (false ∷ a) = ap (λ (p : Bits). false ∷ p) (lcp_self a)
lcp_self (true ∷ a) = ap (λ (p : Bits). true ∷ p) (lcp_self a)

pub lcp_comm : (a b : Bits) → lcp a b ≡ lcp b a
lcp_comm [] [] = refl
lcp_comm [] (y ∷ b) = refl
lcp_comm (x ∷ a) [] = refl
lcp_comm (false ∷ a) (false ∷ b) = ap (λ (p : Bits). false ∷ p) (lcp_comm a b)
lcp_comm (false ∷ a) (true ∷ b) = refl
lcp_comm (true ∷ a) (false ∷ b) = refl
lcp_comm (true ∷ a) (true ∷ b) = ap (λ (p : Bits). true ∷ p) (lcp_comm a b)

pub lcp_left : (a b : Bits) → T (is_prefix (lcp a b) a)
lcp_left [] b = tt
lcp_left (x ∷ a) [] = tt
lcp_left (false ∷ a) (false ∷ b) = lcp_left a b
lcp_left (false ∷ a) (true ∷ b) = tt
lcp_left (true ∷ a) (false ∷ b) = tt
lcp_left (true ∷ a) (true ∷ b) = lcp_left a b

pub lcp_right : (a b : Bits) → T (is_prefix (lcp a b) b)
lcp_right a b = rw lcp_comm (lcp_left b a)

-- every common prefix is a prefix of the longest one
pub lcp-greatest : (p a b : Bits) → T (is_prefix p a) → T (is_prefix p b) → T (is_prefix p (lcp a b))
lcp-greatest [] a b h k = tt
lcp-greatest (false ∷ p) (false ∷ a) (false ∷ b) h k = lcp-greatest p a b h k
lcp-greatest (true ∷ p) (true ∷ a) (true ∷ b) h k = lcp-greatest p a b h k
lcp-greatest (false ∷ p) [] b h k = elim h [ ]
lcp-greatest (false ∷ p) (false ∷ a) [] h k = elim k [ ]
lcp-greatest (false ∷ p) (false ∷ a) (true ∷ b) h k = elim k [ ]
lcp-greatest (false ∷ p) (true ∷ a) b h k = elim h [ ]
lcp-greatest (true ∷ p) [] b h k = elim h [ ]
lcp-greatest (true ∷ p) (false ∷ a) b h k = elim h [ ]
lcp-greatest (true ∷ p) (true ∷ a) [] h k = elim k [ ]
lcp-greatest (true ∷ p) (true ∷ a) (false ∷ b) h k = elim k [ ]

pub lcp-prefix : (s a : Bits) → T (is_prefix s a) → lcp s a ≡ s
lcp-prefix [] a h = refl
lcp-prefix (false ∷ s) (false ∷ a) h = ap (λ (l : Bits). false ∷ l) (lcp-prefix s a h)
lcp-prefix (true ∷ s) (true ∷ a) h = ap (λ (l : Bits). true ∷ l) (lcp-prefix s a h)
lcp-prefix (false ∷ s) [] h = elim h [ ]
lcp-prefix (false ∷ s) (true ∷ a) h = elim h [ ]
lcp-prefix (true ∷ s) [] h = elim h [ ]
lcp-prefix (true ∷ s) (false ∷ a) h = elim h [ ]

-- two strings that go on after s with different bits
pub lcp_split : (s a b : Bits) → T (is_prefix (s ++ (false ∷ [])) a) → T (is_prefix (s ++ (true ∷ [])) b) → lcp a b ≡ s
lcp_split [] (false ∷ a) (true ∷ b) h k = refl
lcp_split (false ∷ s) (false ∷ a) (false ∷ b) h k = ap (λ (l : Bits). false ∷ l) (lcp_split s a b h k)
lcp_split (true ∷ s) (true ∷ a) (true ∷ b) h k = ap (λ (l : Bits). true ∷ l) (lcp_split s a b h k)
lcp_split [] [] b h k = elim h [ ]
lcp_split [] (false ∷ a) [] h k = elim k [ ]
lcp_split [] (false ∷ a) (false ∷ b) h k = elim k [ ]
lcp_split [] (true ∷ a) b h k = elim h [ ]
lcp_split (false ∷ s) [] b h k = elim h [ ]
lcp_split (false ∷ s) (false ∷ a) [] h k = elim k [ ]
lcp_split (false ∷ s) (false ∷ a) (true ∷ b) h k = elim k [ ]
lcp_split (false ∷ s) (true ∷ a) b h k = elim h [ ]
lcp_split (true ∷ s) [] b h k = elim h [ ]
lcp_split (true ∷ s) (false ∷ a) b h k = elim h [ ]
lcp_split (true ∷ s) (true ∷ a) [] h k = elim k [ ]
lcp_split (true ∷ s) (true ∷ a) (false ∷ b) h k = elim k [ ]

pub length-lcp : (a b : Bits) → length (lcp a b) ≤ length a
length-lcp a b = is_prefix_length (lcp a b) a (lcp_left a b)

-- strings that differ within their first parts have the common prefix of these
pub lcp-append_short : (a b r s : Bits) → length a ≡ length b → length (lcp a b) < length a → lcp (a ++ r) (b ++ s) ≡ lcp a b
lcp-append_short [] b r s e h = absurd (not-suc-le-zero h)
lcp-append_short (x ∷ a) [] r s e h = absurd (omega arith)
lcp-append_short (false ∷ a) (false ∷ b) r s e h = ap (λ (l : Bits). false ∷ l) (lcp-append_short a b r s (omega arith) (le_of_suc-le-suc h))
lcp-append_short (false ∷ a) (true ∷ b) r s e h = refl
lcp-append_short (true ∷ a) (false ∷ b) r s e h = refl
lcp-append_short (true ∷ a) (true ∷ b) r s e h = ap (λ (l : Bits). true ∷ l) (lcp-append_short a b r s (omega arith) (le_of_suc-le-suc h))

-- and others go on in what follows
pub lcp-append_full : (a b r s : Bits) → length a ≡ length b → length a ≤ length (lcp a b)
    → length (lcp (a ++ r) (b ++ s)) ≡ length a + length (lcp r s)
lcp-append_full [] [] r s e h = sym (zero-add (length (lcp r s)))
lcp-append_full [] (y ∷ b) r s e h = absurd (omega arith)
lcp-append_full (x ∷ a) [] r s e h = absurd (omega arith)
lcp-append_full (false ∷ a) (false ∷ b) r s e h =
    ap suc (lcp-append_full a b r s (omega arith) (le_of_suc-le-suc h)) ∙ sym (suc-add (length a) (length (lcp r s)))
lcp-append_full (false ∷ a) (true ∷ b) r s e h = absurd (not-suc-le-zero h)
lcp-append_full (true ∷ a) (false ∷ b) r s e h = absurd (not-suc-le-zero h)
lcp-append_full (true ∷ a) (true ∷ b) r s e h =
    ap suc (lcp-append_full a b r s (omega arith) (le_of_suc-le-suc h)) ∙ sym (suc-add (length a) (length (lcp r s)))

pub length-lcp-take : (m n : ℕ) (a b : Bits) → length (lcp (take m a) (take n b)) ≡ min (min m n) (length (lcp a b))
length-lcp-take zero n a b = omega arith
length-lcp-take (suc m) n [] b = omega arith
length-lcp-take (suc m) zero (x ∷ a) b = omega arith
length-lcp-take (suc m) (suc n) (x ∷ a) [] = omega arith
length-lcp-take (suc m) (suc n) (false ∷ a) (false ∷ b) = omega (arith, length-lcp-take m n a b)
length-lcp-take (suc m) (suc n) (false ∷ a) (true ∷ b) = omega arith
length-lcp-take (suc m) (suc n) (true ∷ a) (false ∷ b) = omega arith
length-lcp-take (suc m) (suc n) (true ∷ a) (true ∷ b) = omega (arith, length-lcp-take m n a b)

lcp-nil : (k : Bits) → lcp k [] ≡ []
lcp-nil [] = refl
lcp-nil (x ∷ k) = refl

-- p is a prefix of k where all of it is common
pub is_prefix-lcp : (p k : Bits) → eqb (length (lcp k p)) (length p) ≡ is_prefix p k
is_prefix-lcp [] k = rw lcp-nil
is_prefix-lcp (x ∷ p) [] = eqb-zero-suc (length p)
is_prefix-lcp (false ∷ p) (false ∷ k) = eqb-suc-suc (length (lcp k p)) (length p) ∙ is_prefix-lcp p k
is_prefix-lcp (false ∷ p) (true ∷ k) = eqb-zero-suc (length p)
is_prefix-lcp (true ∷ p) (false ∷ k) = eqb-zero-suc (length p)
is_prefix-lcp (true ∷ p) (true ∷ k) = eqb-suc-suc (length (lcp k p)) (length p) ∙ is_prefix-lcp p k

-- ---- order

pub order_refl : (p : Bits) → order p p ≡ Equal
order_refl [] = refl
order_refl (false ∷ p) = order_refl p
order_refl (true ∷ p) = order_refl p

pub order_flip : (p q : Bits) → order q p ≡ ordering_reverse (order p q)
order_flip [] [] = refl
order_flip [] (y ∷ q) = refl
order_flip (x ∷ p) [] = refl
order_flip (false ∷ p) (false ∷ q) = order_flip p q
order_flip (false ∷ p) (true ∷ q) = refl
order_flip (true ∷ p) (false ∷ q) = refl
order_flip (true ∷ p) (true ∷ q) = order_flip p q

-- ---- equal

pub equal_true : (p q : Bits) → T (equal p q) → p ≡ q
equal_true [] [] h = refl
equal_true (false ∷ p) (false ∷ q) h = ap (λ (l : Bits). false ∷ l) (equal_true p q h)
equal_true (true ∷ p) (true ∷ q) h = ap (λ (l : Bits). true ∷ l) (equal_true p q h)
equal_true [] (_ ∷ q) h = elim h [ ]
equal_true (false ∷ p) [] h = elim h [ ]
equal_true (false ∷ p) (true ∷ q) h = elim h [ ]
equal_true (true ∷ p) [] h = elim h [ ]
equal_true (true ∷ p) (false ∷ q) h = elim h [ ]

pub equal_refl : (p : Bits) → T (equal p p)
equal_refl p = rw order_refl tt

pub eq-equal : (p q : Bits) → p ≡ q → T (equal p q)
eq-equal p q e = rw e (equal_refl q)

-- ---- before

pub before_irrefl : (p : Bits) → T (before p p) → ⊥
before_irrefl (false ∷ p) h = before_irrefl p h
before_irrefl (true ∷ p) h = before_irrefl p h
before_irrefl [] h = elim h [ ]

pub before_trans : (p q r : Bits) → T (before p q) → T (before q r) → T (before p r)
before_trans [] (y ∷ q) (z ∷ r) h k = tt
before_trans (false ∷ p) (false ∷ q) (false ∷ r) h k = before_trans p q r h k
before_trans (false ∷ p) (false ∷ q) (true ∷ r) h k = tt
before_trans (false ∷ p) (true ∷ q) (true ∷ r) h k = tt
before_trans (true ∷ p) (true ∷ q) (true ∷ r) h k = before_trans p q r h k
before_trans [] [] r h k = elim h [ ]
before_trans [] (y ∷ q) [] h k = elim k [ ]
before_trans (false ∷ p) [] r h k = elim h [ ]
before_trans (false ∷ p) (false ∷ q) [] h k = elim k [ ]
before_trans (false ∷ p) (true ∷ q) [] h k = elim k [ ]
before_trans (false ∷ p) (true ∷ q) (false ∷ r) h k = elim k [ ]
before_trans (true ∷ p) [] r h k = elim h [ ]
before_trans (true ∷ p) (false ∷ q) r h k = elim h [ ]
before_trans (true ∷ p) (true ∷ q) [] h k = elim k [ ]
before_trans (true ∷ p) (true ∷ q) (false ∷ r) h k = elim k [ ]

-- of two prefixes of one string, the one that comes before is shorter
pub before_length : (k p q : Bits) → T (is_prefix p k) → T (is_prefix q k) → T (before p q) → length p < length q
before_length k [] (y ∷ q) h i b = suc-le-suc zero-le
before_length (false ∷ k) (false ∷ p) (false ∷ q) h i b = suc-le-suc (before_length k p q h i b)
before_length (true ∷ k) (true ∷ p) (true ∷ q) h i b = suc-le-suc (before_length k p q h i b)
before_length k [] [] h i b = elim b [ ]
before_length [] (_ ∷ p) q h i b = elim h [ ]
before_length (false ∷ k) (false ∷ p) [] h i b = elim b [ ]
before_length (false ∷ k) (false ∷ p) (true ∷ q) h i b = elim i [ ]
before_length (false ∷ k) (true ∷ p) q h i b = elim h [ ]
before_length (true ∷ k) (false ∷ p) q h i b = elim h [ ]
before_length (true ∷ k) (true ∷ p) [] h i b = elim b [ ]
before_length (true ∷ k) (true ∷ p) (false ∷ q) h i b = elim i [ ]

-- a prefix comes before everything that extends it
pub before-longer : (s a : Bits) (x : Bool) → T (is_prefix (s ++ (x ∷ [])) a) → T (before s a)
before-longer [] (y ∷ a) x h = tt
before-longer (false ∷ s) (false ∷ a) x h = before-longer s a x h
before-longer (true ∷ s) (true ∷ a) x h = before-longer s a x h
before-longer [] [] x h = elim h [ ]
before-longer (false ∷ s) [] x h = elim h [ ]
before-longer (false ∷ s) (true ∷ a) x h = elim h [ ]
before-longer (true ∷ s) [] x h = elim h [ ]
before-longer (true ∷ s) (false ∷ a) x h = elim h [ ]

pub before_split : (s a b : Bits) → T (is_prefix (s ++ (false ∷ [])) a) → T (is_prefix (s ++ (true ∷ [])) b) → T (before a b)
before_split [] (false ∷ a) (true ∷ b) h k = tt
before_split (false ∷ s) (false ∷ a) (false ∷ b) h k = before_split s a b h k
before_split (true ∷ s) (true ∷ a) (true ∷ b) h k = before_split s a b h k
before_split [] [] b h k = elim h [ ]
before_split [] (false ∷ a) [] h k = elim k [ ]
before_split [] (false ∷ a) (false ∷ b) h k = elim k [ ]
before_split [] (true ∷ a) b h k = elim h [ ]
before_split (false ∷ s) [] b h k = elim h [ ]
before_split (false ∷ s) (false ∷ a) [] h k = elim k [ ]
before_split (false ∷ s) (false ∷ a) (true ∷ b) h k = elim k [ ]
before_split (false ∷ s) (true ∷ a) b h k = elim h [ ]
before_split (true ∷ s) [] b h k = elim h [ ]
before_split (true ∷ s) (false ∷ a) b h k = elim h [ ]
before_split (true ∷ s) (true ∷ a) [] h k = elim k [ ]
before_split (true ∷ s) (true ∷ a) (false ∷ b) h k = elim k [ ]

-- what comes before a string comes before its extensions
pub before-prefix : (z p a : Bits) → T (before z p) → T (is_prefix p a) → T (before z a)
before-prefix [] (y ∷ p) (x ∷ a) h k = tt
before-prefix (false ∷ z) (false ∷ p) (false ∷ a) h k = before-prefix z p a h k
before-prefix (false ∷ z) (true ∷ p) (true ∷ a) h k = tt
before-prefix (true ∷ z) (true ∷ p) (true ∷ a) h k = before-prefix z p a h k
before-prefix [] [] a h k = elim h [ ]
before-prefix [] (y ∷ p) [] h k = elim k [ ]
before-prefix (false ∷ z) [] a h k = elim h [ ]
before-prefix (false ∷ z) (false ∷ p) [] h k = elim k [ ]
before-prefix (false ∷ z) (false ∷ p) (true ∷ a) h k = elim k [ ]
before-prefix (false ∷ z) (true ∷ p) [] h k = elim k [ ]
before-prefix (false ∷ z) (true ∷ p) (false ∷ a) h k = elim k [ ]
before-prefix (true ∷ z) [] a h k = elim h [ ]
before-prefix (true ∷ z) (false ∷ p) a h k = elim h [ ]
before-prefix (true ∷ z) (true ∷ p) [] h k = elim k [ ]
before-prefix (true ∷ z) (true ∷ p) (false ∷ a) h k = elim k [ ]

-- whatever stands between a string and an extension of it begins with it
pub is_prefix-between : (p a z : Bits) → T (is_prefix p a) → T (not (before z p)) → T (before z a) → T (is_prefix p z)
is_prefix-between [] a z h n b = tt
is_prefix-between (false ∷ p) (false ∷ a) (false ∷ z) h n b = is_prefix-between p a z h n b
is_prefix-between (true ∷ p) (true ∷ a) (true ∷ z) h n b = is_prefix-between p a z h n b
is_prefix-between (false ∷ p) [] z h n b = elim h [ ]
is_prefix-between (false ∷ p) (false ∷ a) [] h n b = elim n [ ]
is_prefix-between (false ∷ p) (false ∷ a) (true ∷ z) h n b = elim b [ ]
is_prefix-between (false ∷ p) (true ∷ a) z h n b = elim h [ ]
is_prefix-between (true ∷ p) [] z h n b = elim h [ ]
is_prefix-between (true ∷ p) (false ∷ a) z h n b = elim h [ ]
is_prefix-between (true ∷ p) (true ∷ a) [] h n b = elim n [ ]
is_prefix-between (true ∷ p) (true ∷ a) (false ∷ z) h n b = elim n [ ]

-- a string does not begin with itself and a bit
pub longer_irrefl : (s : Bits) (x : Bool) → T (is_prefix (s ++ (x ∷ [])) s) → ⊥
longer_irrefl s x h = before_irrefl s (before-longer s s x h)

-- nothing goes on after s with both bits
pub one_side : (s a : Bits) (x : Bool) → T (is_prefix (s ++ (x ∷ [])) a) → T (is_prefix (s ++ (not x ∷ [])) a) → ⊥
one_side s a false h k = before_irrefl a (before_split s a a h k)
one_side s a true h k = before_irrefl a (before_split s a a k h)
