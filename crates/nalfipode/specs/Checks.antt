-- The check of a whole table, from C.
--   AuditOut   the contract of `nalfipode_audit`: the table's words, the number returned, the values left
-- Assumes nothing.
use Rattle.std.specs.Prelude.{ℕ, ◌≡◌, Bool, List, Result}
use Rattle.refusals.specs.Refusals.{number_of}
use Rattle.refusals.specs.declared.Refusal.{Refusal}
use Rattle.audit.specs.Checking.{values_of, Check}

pub record AuditOut (ws : List ℕ) (r : ℕ) (values : List ℕ) : Type 0 where
  pub answer : Result Bool Refusal
  pub promise : Check ws answer
  pub number : r ≡ number_of answer
  pub listed : values ≡ values_of answer
