-- The tables that calls have made, and how a call's outcome is told.
-- Paper 00, demand 3: "For any table reached from a fresh one by any calls".
--   edited r new old   the map after an edit that returned the number r: a refused one leaves the old map
--   Made ws m          words and map that come of a fresh table by any calls, refused ones too
--   Ready k bs         a valid key, and room for its trail
--   Tells              a number and values returned are those of an answer
-- Assumes nothing.
use Rattle.std.specs.Prelude.{ℕ, zero, suc, ◌≤◌, ◌≡◌, List, [], length}
use Rattle.prefix.specs.Keys.{string_of, Valid}
use Rattle.prefix.specs.declared.Prefix.{Prefix}
use Rattle.zones.specs.Maps.{Map, put, without}
use Rattle.plans.specs.Planning.{entry_of}
use Rattle.nalfipode.specs.Changes.{FreshOut, StoreOut, RemoveOut}

abbrev pub edited : ℕ → Map → Map → Map
edited zero new old = new
edited (suc n) new old = old

-- "any table reached from a fresh one by any calls" (the other calls are lent the words for reading alone)
pub data Made : List ℕ → Map → Type 0 where
  fresh : {ws us : List ℕ} → FreshOut ws 0 us → Made us []
  by_store : {ws bs us after values : List ℕ} {m : Map} {k : Prefix} {z r : ℕ} → Made ws m → StoreOut ws k z bs r us after values
      → Made us (edited r (put (entry_of k z) m) m)
  by_remove : {ws bs us after values : List ℕ} {m : Map} {k : Prefix} {r : ℕ} → Made ws m → RemoveOut ws k bs r us after values
      → Made us (edited r (without (string_of k) m) m)

-- "a valid key and room for its trail"
abbrev pub Ready : Prefix → List ℕ → Type 0
Ready k bs = Valid k × (129 ≤ length bs)

-- by the definitions of an answer's number and values
abbrev pub Tells : {A : Type 0} → (A → ℕ) → (A → List ℕ) → A → ℕ → List ℕ → Type 0
Tells number_of values_of a r values = (r ≡ number_of a) × (values ≡ values_of a)
