-- The laws of what stands after a string's first bits, and of the order of strings that are clear there.
-- No contract cites this file.
-- Assumes nothing.
use Prim.Native.Nat.{ℕ, zero, suc, ◌-◌, ◌≤◌, ◌<◌}
use native.Mathlib.Nat.{not-suc-le-zero, le_of_suc-le-suc, suc-sub-suc, sub-zero, zero-sub}
use native.Mathlib.Omega.{arith}
use mathlib.Core.Path.{◌≡◌, refl, sym, ap, ap₂, ◌∙◌, subst}
use mathlib.Core.Bool.{Bool, true, false, ◌&&◌, true≢false}
use mathlib.Core.List.{[], ◌∷◌, ◌++◌}
use lib.Dec.{T, leb-suc-suc, eqb-suc-suc}
use lib.ListN.{length, take, drop}
use borrow.Author.Tests.{lt-ltb, le-ltb, ne_eqb}
use Rattle.std.specs.declared.cmp.Ordering.{Ordering}
use Rattle.std.specs.declared.cmp.Ordering.TheVariants.{Less, Equal, Greater}
use Rattle.std.specs.Ordering.{ordering_then, nat_cmp}
use Rattle.bits.specs.Bits.{Bits, is_prefix, order}
use Rattle.bits.specs.Numbers.{clear, blank}

-- ---- clear

pub clear-append : (a r : Bits) → clear (a ++ r) ≡ (clear a && clear r)
clear-append [] r = refl
clear-append (false ∷ a) r = clear-append a r
clear-append (true ∷ a) r = refl

pub clear-drop-append : (n : ℕ) (a r : Bits) → clear (drop n (a ++ r)) ≡ (clear (drop n a) && clear (drop (n - length a) r))
clear-drop-append zero a r = rw zero-sub (clear-append a r)
clear-drop-append (suc n) [] r = rw sub-zero
clear-drop-append (suc n) (x ∷ a) r = rw suc-sub-suc (clear-drop-append n a r)

-- ---- blank

-- a string that is clear after its first n bits goes on with 0
pub clear_next : (n : ℕ) (a : Bits) → n < length a → clear (drop n a) ≡ true → T (is_prefix (take n a ++ (false ∷ [])) a)
clear_next n [] h e = absurd (omega arith)
clear_next zero (false ∷ a) h e = tt
clear_next zero (true ∷ a) h e = absurd (true≢false (sym e))
clear_next (suc n) (false ∷ a) h e = clear_next n a (omega arith) e
clear_next (suc n) (true ∷ a) h e = clear_next n a (omega arith) e

pub length-blank : (n : ℕ) (a : Bits) → length (blank n a) ≡ length a
length-blank n [] = refl
length-blank zero (x ∷ a) = ap suc (length-blank zero a)
length-blank (suc n) (x ∷ a) = ap suc (length-blank n a)

pub take-blank : (n : ℕ) (a : Bits) → take n (blank n a) ≡ take n a
take-blank zero a = refl
take-blank (suc n) [] = refl
take-blank (suc n) (x ∷ a) = ap (λ (l : Bits). x ∷ l) (take-blank n a)

pub clear-drop-blank : (n : ℕ) (a : Bits) → clear (drop n (blank n a)) ≡ true
clear-drop-blank zero [] = refl
clear-drop-blank zero (x ∷ a) = clear-drop-blank zero a
clear-drop-blank (suc n) [] = refl
clear-drop-blank (suc n) (x ∷ a) = clear-drop-blank n a

pub blank-append : (n : ℕ) (a r : Bits) → blank n (a ++ r) ≡ blank n a ++ blank (n - length a) r
blank-append n [] r = rw sub-zero
blank-append zero (x ∷ a) r = rw zero-sub (ap (λ (l : Bits). false ∷ l) (rw zero-sub at (blank-append zero a r)))
blank-append (suc n) (x ∷ a) r = rw suc-sub-suc (ap (λ (l : Bits). x ∷ l) (blank-append n a r))

-- nothing is lost where all of it is kept
pub blank-all : (n : ℕ) (a : Bits) → length a ≤ n → blank n a ≡ a
blank-all n [] h = refl
blank-all zero (x ∷ a) h = absurd (not-suc-le-zero h)
blank-all (suc n) (x ∷ a) h = ap (λ (l : Bits). x ∷ l) (blank-all n a (le_of_suc-le-suc h))

-- and where no bit is set in what is lost
pub blank-clear : (n : ℕ) (a : Bits) → clear (drop n a) ≡ true → blank n a ≡ a
blank-clear n [] h = refl
blank-clear zero (false ∷ a) h = ap (λ (l : Bits). false ∷ l) (blank-clear zero a h)
blank-clear zero (true ∷ a) h = cc
blank-clear (suc n) (x ∷ a) h = ap (λ (l : Bits). x ∷ l) (blank-clear n a h)

pub clear-blank : (n : ℕ) (a : Bits) → blank n a ≡ a → clear (drop n a) ≡ true
clear-blank n a e = subst (λ (l : Bits). clear (drop n l) ≡ true) e (clear-drop-blank n a)

blank_ext_at : (n : ℕ) (a b : Bits) → length a ≡ length b → take n a ≡ take n b → blank n a ≡ blank n b
blank_ext_at n [] [] l e = refl
blank_ext_at n [] (y ∷ b) l e = absurd (omega arith)
blank_ext_at n (x ∷ a) [] l e = absurd (omega arith)
blank_ext_at zero (x ∷ a) (y ∷ b) l e = ap (λ (r : Bits). false ∷ r) (blank_ext_at zero a b (omega arith) refl)
blank_ext_at (suc n) (x ∷ a) (y ∷ b) l e =
    let h : x ≡ y = cc in
    let t : take n a ≡ take n b = cc in
    ap₂ (λ (z : Bool) (r : Bits). z ∷ r) h (blank_ext_at n a b (omega arith) t)

-- what is kept goes by the first bits alone
pub blank_ext : (m n : ℕ) (a b : Bits) → length a ≡ length b → m ≡ n → take m a ≡ take n b → blank m a ≡ blank n b
blank_ext m n a b l w e = blank_ext_at m a b l (e ∙ ap (λ (k : ℕ). take k b) (sym w)) ∙ ap (λ (k : ℕ). blank k b) w

-- ---- nat_cmp

pub nat_cmp-suc : (m n : ℕ) → nat_cmp (suc m) (suc n) ≡ nat_cmp m n
nat_cmp-suc m n = rw (leb-suc-suc, eqb-suc-suc)

pub nat_cmp-less : (x y : ℕ) → x < y → nat_cmp x y ≡ Less
nat_cmp-less x y h = rw (lt-ltb x y h)

pub nat_cmp-greater : (x y : ℕ) → y < x → nat_cmp x y ≡ Greater
nat_cmp-greater x y h = rw (le-ltb x y (omega arith), ne_eqb x y (λ e. omega arith))

-- ---- ordering_then

pub ordering_then_assoc : (o u v : Ordering) → ordering_then (ordering_then o u) v ≡ ordering_then o (ordering_then u v)
ordering_then_assoc Less u v = refl
ordering_then_assoc Equal u v = refl
ordering_then_assoc Greater u v = refl

pub order-append : (a b r s : Bits) → length a ≡ length b → order (a ++ r) (b ++ s) ≡ ordering_then (order a b) (order r s)
order-append [] [] r s e = refl
order-append [] (y ∷ b) r s e = absurd (omega arith)
order-append (x ∷ a) [] r s e = absurd (omega arith)
order-append (false ∷ a) (false ∷ b) r s e = order-append a b r s (omega arith)
order-append (false ∷ a) (true ∷ b) r s e = refl
order-append (true ∷ a) (false ∷ b) r s e = refl
order-append (true ∷ a) (true ∷ b) r s e = order-append a b r s (omega arith)

-- a clear string comes after none of its length
clear-before : (a b : Bits) → length a ≡ length b → clear a ≡ true → ordering_then (order a b) Less ≡ Less
clear-before [] [] e h = refl
clear-before [] (y ∷ b) e h = absurd (omega arith)
clear-before (x ∷ a) [] e h = absurd (omega arith)
clear-before (false ∷ a) (false ∷ b) e h = clear-before a b (omega arith) h
clear-before (false ∷ a) (true ∷ b) e h = refl
clear-before (true ∷ a) (y ∷ b) e h = cc

clear-after : (a b : Bits) → length a ≡ length b → clear b ≡ true → ordering_then (order a b) Greater ≡ Greater
clear-after [] [] e h = refl
clear-after [] (y ∷ b) e h = absurd (omega arith)
clear-after (x ∷ a) [] e h = absurd (omega arith)
clear-after (false ∷ a) (false ∷ b) e h = clear-after a b (omega arith) h
clear-after (true ∷ a) (false ∷ b) e h = refl
clear-after (x ∷ a) (true ∷ b) e h = cc

clear_same : (a b : Bits) → length a ≡ length b → clear a ≡ true → clear b ≡ true → order a b ≡ Equal
clear_same [] [] e h g = refl
clear_same [] (y ∷ b) e h g = absurd (omega arith)
clear_same (x ∷ a) [] e h g = absurd (omega arith)
clear_same (false ∷ a) (false ∷ b) e h g = clear_same a b (omega arith) h g
clear_same (false ∷ a) (true ∷ b) e h g = cc
clear_same (true ∷ a) (y ∷ b) e h g = cc

-- strings with no bit set after the first m and n go by all of their bits, and then by m and n
pub order-take : (m n : ℕ) (a b : Bits) → length a ≡ length b → m ≤ length a → n ≤ length b → clear (drop m a) ≡ true → clear (drop n b) ≡ true
    → order (take m a) (take n b) ≡ ordering_then (order a b) (nat_cmp m n)
order-take zero zero a b e hm hn g h = rw (clear_same a b e g h)
order-take zero (suc n) a [] e hm hn g h = absurd (not-suc-le-zero hn)
order-take zero (suc n) a (y ∷ b) e hm hn g h = rw (nat_cmp-less 0 (suc n) (omega arith), clear-before a (y ∷ b) e g)
order-take (suc m) n [] b e hm hn g h = absurd (not-suc-le-zero hm)
order-take (suc m) zero (x ∷ a) b e hm hn g h = rw (nat_cmp-greater (suc m) 0 (omega arith), clear-after (x ∷ a) b e h)
order-take (suc m) (suc n) (x ∷ a) [] e hm hn g h = absurd (not-suc-le-zero hn)
order-take (suc m) (suc n) (false ∷ a) (false ∷ b) e hm hn g h = rw nat_cmp-suc (order-take m n a b (omega arith) (omega arith) (omega arith) g h)
order-take (suc m) (suc n) (false ∷ a) (true ∷ b) e hm hn g h = refl
order-take (suc m) (suc n) (true ∷ a) (false ∷ b) e hm hn g h = refl
order-take (suc m) (suc n) (true ∷ a) (true ∷ b) e hm hn g h = rw nat_cmp-suc (order-take m n a b (omega arith) (omega arith) (omega arith) g h)
