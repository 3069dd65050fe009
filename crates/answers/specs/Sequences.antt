-- Sequences of calls: what they tell, and what a plain map tells.
-- Paper 00, demand 2: "the table behaves as a plain map from prefixes to zone numbers".
--   Call, Told      a keyed call, and what it told: its number and its values
--   Ran ws cs ts    the calls cs, one after the other from the words ws on, tell ts
--   map_tells c m cs   what the map m tells, in a table of c records
-- Assumes nothing.
use Rattle.refusals.specs.Refusals.{number_of}
use Rattle.std.specs.Prelude.{ℕ, cond, List, [], ◌∷◌}
use Rattle.prefix.specs.Keys.{string_of}
use Rattle.prefix.specs.declared.Prefix.{Prefix}
use Rattle.zones.specs.Maps.{Map, get, put, without, longest_match}
use Rattle.zones.specs.Nodes.{overflows}
use Rattle.lookup.specs.Fetching as fetching
use Rattle.lookup.specs.Matching as matching
use Rattle.plans.specs.Planning.{entry_of}
use Rattle.edits.specs.Storing as storing
use Rattle.edits.specs.Removing as removing
use Rattle.nalfipode.specs.Changes.{StoreOut, RemoveOut}
use Rattle.nalfipode.specs.Reads.{FetchOut, LongestMatchOut}
use Rattle.answers.specs.Made.{Ready}
use Rattle.answers.specs.Answers.{nodes_for}

pub data Call : Type 0 where
  fetch longest remove : Prefix → Call
  store : Prefix → ℕ → Call

pub record Told : Type 0 where
  pub number : ℕ
  pub values : List ℕ

pub data Ran : List ℕ → List Call → List Told → Type 0 where
  done : {ws : List ℕ} → Ran ws [] []
  fetched : {ws bs after values : List ℕ} {k : Prefix} {r : ℕ} {cs : List Call} {ts : List Told} → FetchOut ws k bs r after values → Ready k bs
      → Ran ws cs ts → Ran ws (fetch k ∷ cs) (record { number = r; values = values } ∷ ts)
  matched : {ws bs after values : List ℕ} {k : Prefix} {r : ℕ} {cs : List Call} {ts : List Told} → LongestMatchOut ws k bs r after values
      → Ready k bs → Ran ws cs ts → Ran ws (longest k ∷ cs) (record { number = r; values = values } ∷ ts)
  stored : {ws bs us after values : List ℕ} {k : Prefix} {z r : ℕ} {cs : List Call} {ts : List Told} → StoreOut ws k z bs r us after values
      → Ready k bs → Ran us cs ts → Ran ws (store k z ∷ cs) (record { number = r; values = values } ∷ ts)
  removed : {ws bs us after values : List ℕ} {k : Prefix} {r : ℕ} {cs : List Call} {ts : List Told} → RemoveOut ws k bs r us after values
      → Ready k bs → Ran us cs ts → Ran ws (remove k ∷ cs) (record { number = r; values = values } ∷ ts)

-- an answer, as it is told
abbrev pub told : {A : Type 0} → (A → ℕ) → (A → List ℕ) → A → Told
told number_of values_of a = record { number = number_of a; values = values_of a }

-- (a store that the table has no room for is Full, and leaves the map)
abbrev pub map_tells : ℕ → Map → List Call → List Told
map_tells c m [] = []
map_tells c m (fetch k ∷ cs) = told number_of fetching.values_of (fetching.gives (nodes_for m k) (get (string_of k) m)) ∷ map_tells c m cs
map_tells c m (longest k ∷ cs) =
    told number_of matching.values_of (matching.gives (nodes_for m k) (longest_match (string_of k) m)) ∷ map_tells c m cs
map_tells c m (remove k ∷ cs) =
    told number_of removing.values_of (removing.gives (nodes_for m k) (get (string_of k) m)) ∷ map_tells c (without (string_of k) m) cs
map_tells c m (store k z ∷ cs) =
    told number_of storing.values_of (storing.gives (overflows c (entry_of k z) m) (nodes_for m k) (get (string_of k) m))
    ∷ map_tells c (cond (overflows c (entry_of k z) m) m (put (entry_of k z) m)) cs
