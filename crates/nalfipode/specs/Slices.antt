-- A listing's slice, from C.
--   resume_from n k  where a slice starts: at the first stored prefix for 0, else after k
--   SliceOut         the contract of `nalfipode_slice`: everything passed, the number r returned, and what is
--                    left behind
-- Assumes nothing.
use Rattle.std.specs.Prelude.{ℕ, ◌≡◌, cond, List, Option, None, Some, Result, eqb}
use Rattle.refusals.specs.Refusals.{number_of}
use Rattle.refusals.specs.declared.Refusal.{Refusal}
use Rattle.prefix.specs.declared.Prefix.{Prefix}
use Rattle.listing.specs.Slicing.{values_of, Slice}
use Rattle.listing.specs.declared.Sliced.{Sliced}

abbrev pub resume_from : ℕ → Prefix → Option Prefix
resume_from n k = cond (eqb n 0) None (Some k)

-- words ws, output us, before; output and values after
pub record SliceOut (ws : List ℕ) (resume : Option Prefix) (b : ℕ) (us : List ℕ) (r : ℕ) (after values : List ℕ) : Type 0 where
  pub answer : Result Sliced Refusal
  pub promise : Slice ws resume b us answer after
  pub number : r ≡ number_of answer
  pub listed : values ≡ values_of answer
