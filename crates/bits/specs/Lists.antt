-- Lists with tests that compute. No paper speaks of them: they are what the other definitions are written
-- with.
--   keep f xs     the elements that pass the test f, in their order
--   any f xs      some element passes
--   all f xs      every element passes
--   is_empty xs   there is none
--   last xs       the last element, if there is one
--   each f xs     what f gives for each element, one after the other
-- Assumes nothing.
use Rattle.std.specs.Prelude.{Bool, true, false, cond, ◌&&◌, ◌||◌, List, [], ◌∷◌, ◌++◌}
use Rattle.std.proofs.Math.Option.{Option, none, some}

module _ {A : Type 0} where
  abbrev pub keep : (A → Bool) → List A → List A
  keep f [] = []
  keep f (x ∷ xs) = cond (f x) (x ∷ keep f xs) (keep f xs)

  abbrev pub any : (A → Bool) → List A → Bool
  any f [] = false
  any f (x ∷ xs) = f x || any f xs

  abbrev pub all : (A → Bool) → List A → Bool
  all f [] = true
  all f (x ∷ xs) = f x && all f xs

  abbrev pub is_empty : List A → Bool
  is_empty [] = true
  is_empty (x ∷ xs) = false

  -- the last element of a list that x stands before
  abbrev pub last_or : A → List A → A
  last_or x [] = x
  last_or x (y ∷ ys) = last_or y ys

  abbrev pub last : List A → Option A
  last [] = none
  last (x ∷ xs) = some (last_or x xs)

module _ {A B : Type 0} where
  abbrev pub each : (A → List B) → List A → List B
  each f [] = []
  each f (x ∷ xs) = f x ++ each f xs
