-- The laws of how a key meets a node's string: what each meeting says of the two, and which it is, by the
-- bits that they share. No contract cites this file.
-- Assumes nothing.
use Prim.Native.Nat.{◌≤◌, ◌<◌}
use native.Mathlib.Nat.{le_of_suc-le-suc, not-suc-le-zero}
use mathlib.Core.Path.{◌≡◌, refl, ap}
use mathlib.Core.Bool.{Bool, true, false, not}
use mathlib.Core.List.{[], ◌∷◌, ◌++◌}
use lib.Dec.{T}
use lib.ListN.{length, get_or}
use Rattle.bits.specs.Bits.{Bits, is_prefix, lcp}
use Rattle.bits.specs.Meet.{meet}
use Rattle.bits.specs.declared.Meeting.{Meeting}
use Rattle.bits.specs.declared.Meeting.TheVariants.{Equal, Below, Above, Apart}

-- ---- meet

-- what each meeting says of the string s and the key k
abbrev pub Says : Meeting → Bits → Bits → Type 0
Says Equal s k = s ≡ k
Says (Below x) s k = T (is_prefix (s ++ (x ∷ [])) k)
Says (Above x) s k = T (is_prefix (k ++ (x ∷ [])) s)
Says (Apart x) s k = T (is_prefix (lcp s k ++ (x ∷ [])) k) × T (is_prefix (lcp s k ++ (not x ∷ [])) s)

first_bit : (x : Bool) (k : Bits) → T (is_prefix (x ∷ []) (x ∷ k))
first_bit false k = tt
first_bit true k = tt

says_cons : (o : Meeting) (x : Bool) (s k : Bits) → Says o s k → Says o (x ∷ s) (x ∷ k)
says_cons Equal x s k h = ap (λ (l : Bits). x ∷ l) h
says_cons (Below y) false s k h = h
says_cons (Below y) true s k h = h
says_cons (Above y) false s k h = h
says_cons (Above y) true s k h = h
says_cons (Apart y) false s k h = h
says_cons (Apart y) true s k h = h

pub meet-says : (s k : Bits) → Says (meet s k) s k
meet-says [] [] = refl
meet-says [] (x ∷ k) = first_bit x k
meet-says (x ∷ s) [] = first_bit x s
meet-says (false ∷ s) (false ∷ k) = says_cons (meet s k) false s k (meet-says s k)
meet-says (false ∷ s) (true ∷ k) = (tt, tt)
meet-says (true ∷ s) (false ∷ k) = (tt, tt)
meet-says (true ∷ s) (true ∷ k) = says_cons (meet s k) true s k (meet-says s k)

-- one law for each way out of a walk along both strings
pub meet_apart : (s k : Bits) → length (lcp s k) < length s → length (lcp s k) < length k → meet s k ≡ Apart (get_or k (length (lcp s k)) false)
meet_apart [] k h g = absurd (not-suc-le-zero h)
meet_apart (x ∷ s) [] h g = absurd (not-suc-le-zero g)
meet_apart (false ∷ s) (false ∷ k) h g = meet_apart s k (le_of_suc-le-suc h) (le_of_suc-le-suc g)
meet_apart (false ∷ s) (true ∷ k) h g = refl
meet_apart (true ∷ s) (false ∷ k) h g = refl
meet_apart (true ∷ s) (true ∷ k) h g = meet_apart s k (le_of_suc-le-suc h) (le_of_suc-le-suc g)

pub meet_above : (s k : Bits) → length (lcp s k) < length s → length k ≤ length (lcp s k) → meet s k ≡ Above (get_or s (length (lcp s k)) false)
meet_above [] k h g = absurd (not-suc-le-zero h)
meet_above (x ∷ s) [] h g = refl
meet_above (false ∷ s) (false ∷ k) h g = meet_above s k (le_of_suc-le-suc h) (le_of_suc-le-suc g)
meet_above (false ∷ s) (true ∷ k) h g = absurd (not-suc-le-zero g)
meet_above (true ∷ s) (false ∷ k) h g = absurd (not-suc-le-zero g)
meet_above (true ∷ s) (true ∷ k) h g = meet_above s k (le_of_suc-le-suc h) (le_of_suc-le-suc g)

pub meet_below : (s k : Bits) → length s ≤ length (lcp s k) → length (lcp s k) < length k → meet s k ≡ Below (get_or k (length (lcp s k)) false)
meet_below [] [] h g = absurd (not-suc-le-zero g)
meet_below [] (x ∷ k) h g = refl
meet_below (x ∷ s) [] h g = absurd (not-suc-le-zero g)
meet_below (false ∷ s) (false ∷ k) h g = meet_below s k (le_of_suc-le-suc h) (le_of_suc-le-suc g)
meet_below (false ∷ s) (true ∷ k) h g = absurd (not-suc-le-zero h)
meet_below (true ∷ s) (false ∷ k) h g = absurd (not-suc-le-zero h)
meet_below (true ∷ s) (true ∷ k) h g = meet_below s k (le_of_suc-le-suc h) (le_of_suc-le-suc g)

pub meet-equal : (s k : Bits) → length s ≤ length (lcp s k) → length k ≤ length (lcp s k) → meet s k ≡ Equal
meet-equal [] [] h g = refl
meet-equal [] (x ∷ k) h g = absurd (not-suc-le-zero g)
meet-equal (x ∷ s) [] h g = absurd (not-suc-le-zero h)
meet-equal (false ∷ s) (false ∷ k) h g = meet-equal s k (le_of_suc-le-suc h) (le_of_suc-le-suc g)
meet-equal (false ∷ s) (true ∷ k) h g = absurd (not-suc-le-zero h)
meet-equal (true ∷ s) (false ∷ k) h g = absurd (not-suc-le-zero h)
meet-equal (true ∷ s) (true ∷ k) h g = meet-equal s k (le_of_suc-le-suc h) (le_of_suc-le-suc g)
