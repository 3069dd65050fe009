-- Fresh, store and remove, from C.
--   FreshOut, StoreOut, RemoveOut   the contracts of `nalfipode_fresh`, `nalfipode_store`, `nalfipode_remove`:
--                                   everything passed, the number r returned, and what is left behind
-- Assumes nothing.
use Rattle.std.specs.Prelude.{ℕ, ◌≡◌, List, Result}
use Rattle.refusals.specs.Refusals.{number_of}
use Rattle.refusals.specs.declared.Refusal.{Refusal}
use Rattle.prefix.specs.declared.Prefix.{Prefix}
use Rattle.edits.specs.Fresh.{Fresh}
use Rattle.edits.specs.Storing as storing
use Rattle.edits.specs.Storing.{Stored, Store}
use Rattle.edits.specs.Removing as removing
use Rattle.edits.specs.Removing.{Removal, Remove}

pub record FreshOut (ws : List ℕ) (r : ℕ) (us : List ℕ) : Type 0 where
  pub answer : Result (Unit {0}) Refusal
  pub promise : Fresh ws answer us
  pub number : r ≡ number_of answer

-- words ws, trail bytes bs, before; words us, bytes and values after
pub record StoreOut (ws : List ℕ) (k : Prefix) (z : ℕ) (bs : List ℕ) (r : ℕ) (us after values : List ℕ) : Type 0 where
  pub answer : Stored
  pub promise : Store ws k z bs answer us after
  pub number : r ≡ number_of answer
  pub listed : values ≡ storing.values_of answer

pub record RemoveOut (ws : List ℕ) (k : Prefix) (bs : List ℕ) (r : ℕ) (us after values : List ℕ) : Type 0 where
  pub answer : Removal
  pub promise : Remove ws k bs answer us after
  pub number : r ≡ number_of answer
  pub listed : values ≡ removing.values_of answer
