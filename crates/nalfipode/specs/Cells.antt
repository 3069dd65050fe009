-- A position's cell, from C.
--   CellOut   the contract of `nalfipode_cell`: longitude and latitude, the number returned, the values left
-- Assumes nothing.
use Rattle.std.specs.Prelude.{ℕ, ◌≡◌, List, ℤ, Result}
use Rattle.refusals.specs.Refusals.{number_of}
use Rattle.refusals.specs.declared.Refusal.{Refusal}
use Rattle.prefix.specs.declared.Prefix.{Prefix}
use Rattle.ground.specs.Cells.{values_of, Cell}

pub record CellOut (longitude latitude : ℤ) (r : ℕ) (values : List ℕ) : Type 0 where
  pub answer : Result Prefix Refusal
  pub promise : Cell longitude latitude answer
  pub number : r ≡ number_of answer
  pub listed : values ≡ values_of answer
