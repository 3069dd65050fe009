-- The laws of how refusals are given. No contract cites this file.
-- Assumes nothing.
use Prim.Native.Nat.{ℕ, zero, suc, ◌<◌}
use native.Mathlib.Omega.{arith}
use mathlib.Core.Path.{◌≡◌, refl, sym, subst}
use mathlib.Core.Bool.{Bool, true, false, ◌||◌}
use mathlib.Core.List.{List, [], ◌∷◌}
use lib.Dec.{T, eqb}
use borrow.Author.Tests.{eqb-true}
use Rattle.refusals.specs.Refusals.{number, OneOf, GivenExactly}
use Rattle.refusals.specs.declared.Refusal.{Refusal}
use Rattle.refusals.specs.declared.Refusal.TheVariants.{BadLength, BadPrefix, BadPosition, BadSize, ShortOut, Damaged, Absent, Full, BadImage}

-- ---- number

-- no refusal has the number of an accepted call
pub number_pos : (e : Refusal) → 0 < number e
number_pos BadLength = omega arith
number_pos BadPrefix = omega arith
number_pos BadPosition = omega arith
number_pos BadSize = omega arith
number_pos (ShortOut n) = omega arith
number_pos Damaged = omega arith
number_pos (Absent n) = omega arith
number_pos (Full n) = omega arith
number_pos BadImage = omega arith

-- ---- GivenExactly

-- A call whose walk gives exactly its first refusal, 0 or 6 (Damaged), and that hands on what the walk
-- refuses: it gives that refusal, or one of the rest.
pub exactly-walk : (first : ℕ) (rest : List ℕ) (n r : ℕ) → GivenExactly first (0 ∷ 6 ∷ []) n → ((m : ℕ) → n ≡ suc m → r ≡ suc m)
    → (n ≡ 0 → OneOf rest r) → OneOf rest 6 → GivenExactly first rest r
exactly-walk (suc first) rest n r g same done six = same first g
exactly-walk zero rest n r g same done six = at (eqb n 0) (eqb n 6) refl refl g
  where
    at : (a b : Bool) → eqb n 0 ≡ a → eqb n 6 ≡ b → T (a || (b || false)) → OneOf rest r
    at true b e f h = done (eqb-true n 0 e)
    at false true e f h = subst (OneOf rest) (sym (same 5 (eqb-true n 6 f))) six
    at false false e f h = elim h [ ]

-- where a call accepts, no refusal of its arguments applies
pub exactly_accepted : (first : ℕ) (rest : List ℕ) (n : ℕ) → GivenExactly first rest n → n ≡ 0 → first ≡ 0
exactly_accepted zero rest n g e = refl
exactly_accepted (suc first) rest n g e = absurd (omega (arith, g, e))
