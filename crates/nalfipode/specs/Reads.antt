-- Fetch and longest match, from C.
--   FetchOut, LongestMatchOut   the contracts of `nalfipode_fetch` and `nalfipode_longest_match`: everything
--                               passed, the number r returned, and what is left behind
-- Assumes nothing.
use Rattle.std.specs.Prelude.{ℕ, ◌≡◌, List, Option, Result}
use Rattle.refusals.specs.Refusals.{number_of}
use Rattle.refusals.specs.declared.Refusal.{Refusal}
use Rattle.prefix.specs.declared.Prefix.{Prefix}
use Rattle.lookup.specs.Fetching as fetching
use Rattle.lookup.specs.Fetching.{Fetch}
use Rattle.lookup.specs.Matching as matching
use Rattle.lookup.specs.Matching.{LongestMatch}
use Rattle.lookup.specs.declared.Keyed.{Keyed}
use Rattle.lookup.specs.declared.Match.{Match}

-- words ws, trail bytes bs, before; bytes and values after
pub record FetchOut (ws : List ℕ) (k : Prefix) (bs : List ℕ) (r : ℕ) (after values : List ℕ) : Type 0 where
  pub answer : Result (Keyed ℕ) Refusal
  pub promise : Fetch ws k bs answer after
  pub number : r ≡ number_of answer
  pub listed : values ≡ fetching.values_of answer

pub record LongestMatchOut (ws : List ℕ) (k : Prefix) (bs : List ℕ) (r : ℕ) (after values : List ℕ) : Type 0 where
  pub answer : Result (Keyed (Option Match)) Refusal
  pub promise : LongestMatch ws k bs answer after
  pub number : r ≡ number_of answer
  pub listed : values ≡ matching.values_of answer
