-- Fetch: what it answers on any words, and its promise.
-- Paper 01, "The lent table" ("Fetch gives the stored number") and "Numbered refusals".
--   found_of k n s    the answer where the walk has ended after n nodes
--   fetched_of k x    the answer that comes of a survey
--   fetch_on ws k bs  the answer and the trail's bytes, on any words
--   given o           a map's number as an answer has it
--   values_of         the values of an answer
--   Fetch             the contract of `fetch`
-- Assumes nothing.
use Rattle.std.specs.Prelude.{ℕ, ◌≤◌, ◌≡◌, true, List, [], ◌∷◌, ◌++◌, Option, Some, None, Result, Ok, Err, length, drop, replicate}
use Rattle.std.proofs.Math.Option as math
use Rattle.refusals.specs.Refusals.{number_of, nodes_in, GivenExactly}
use Rattle.refusals.specs.declared.Refusal.{Refusal}
use Rattle.refusals.specs.declared.Refusal.TheVariants.{Absent}
use Rattle.prefix.specs.Keys.{string_of, Valid}
use Rattle.prefix.specs.declared.Prefix.{Prefix}
use Rattle.zones.specs.Maps.{Map, keys, get}
use Rattle.zones.specs.Nodes.{path, trail}
use Rattle.records.specs.Holds.{Holds}
use Rattle.lookup.specs.Walking.{Survey, survey_on, first_refusal, leaves_all, Outcome, leave_on, stored_in}
use Rattle.lookup.specs.declared.Keyed.{Keyed}
use Rattle.lookup.specs.declared.Walk.{Walk}
use Rattle.lookup.specs.declared.Path.{Path}

-- No. 7, Absent: "remove or fetch of a prefix not stored"
abbrev pub found_by : ℕ → Option ℕ → Result (Keyed ℕ) Refusal
found_by n (Some z) = Ok (record { nodes = n; value = z })
found_by n None = Err (Absent n)

unfoldable pub found_of : Prefix → ℕ → Walk → Result (Keyed ℕ) Refusal
found_of k n s = found_by n (stored_in k.width s.longest)

abbrev pub fetched_of : Prefix → Result Path Refusal → Result (Keyed ℕ) Refusal
fetched_of k (Ok p) = found_of k p.nodes p.walk
fetched_of k (Err e) = Err e

abbrev pub outcome_of : Prefix → List ℕ → Survey → Outcome (Result (Keyed ℕ) Refusal)
outcome_of k bs v = record { answer = fetched_of k v.out; bytes = leave_on bs v.widths v.out }

unfoldable pub fetch_on : List ℕ → Prefix → List ℕ → Outcome (Result (Keyed ℕ) Refusal)
fetch_on ws k bs = outcome_of k bs (survey_on ws k (length bs) (replicate 129 0))

-- a map's number as an answer has it
abbrev pub given : math.Option ℕ → Option ℕ
given (math.some z) = Some z
given math.none = None

-- "Absent .. write the trail and return its number; all others return zero counts"
abbrev pub values_of : Result (Keyed ℕ) Refusal → List ℕ
values_of (Ok x) = x.nodes ∷ x.value ∷ []
values_of (Err e) = nodes_in e ∷ 0 ∷ []

-- "Fetch gives the stored number"; No. 7, Absent: "remove or fetch of a prefix not stored"
abbrev pub gives : ℕ → math.Option ℕ → Result (Keyed ℕ) Refusal
gives n (math.some z) = Ok (record { nodes = n; value = z })
gives n math.none = Err (Absent n)

-- ---- what `fetch` promises: words ws, key k, trail bytes bs before and as after

pub record Fetch (ws : List ℕ) (k : Prefix) (bs : List ℕ) (r : Result (Keyed ℕ) Refusal) (after : List ℕ) : Type 0 where
  -- on any words the answer and the trail are one function's value, so nothing else meets it
  pub answer : fetch_on ws k bs ≡ record { answer = r; bytes = after }
  -- "The first that applies, in this order, is given"
  pub refusal : GivenExactly (first_refusal ws k (length bs)) (0 ∷ 6 ∷ 7 ∷ []) (number_of r)
  -- "all others return zero counts and leave every lent byte"
  pub kept : leaves_all (number_of r) ≡ true → (values_of r ≡ 0 ∷ 0 ∷ []) × (after ≡ bs)
  -- on words that hold a map, with a valid key and room for its trail: the stored number, and the path's
  -- widths and length
  pub meaning : (m : Map) → Holds ws m → Valid k → 129 ≤ length bs → r ≡ gives (length (path (keys m) (string_of k))) (get (string_of k) m)
  pub written : (m : Map) → Holds ws m → Valid k → 129 ≤ length bs
      → after ≡ trail (keys m) (string_of k) ++ drop (length (path (keys m) (string_of k))) bs
