-- Longest match: what it answers on any words, and its promise.
-- Paper 01, "The lent table": "Longest match returns the width and zone number of the longest stored prefix
-- of the key, or 'no match'."
--   matched_of x         the answer that comes of a survey
--   longest_on ws k bs   the answer and the trail's bytes, on any words
--   values_of            the values of an answer
--   match_of o           an entry of a map as the answer has it
--   LongestMatch         the contract of `longest_match`
-- Assumes nothing.
use Rattle.std.specs.Prelude.{ℕ, ◌≤◌, ◌≡◌, true, List, [], ◌∷◌, ◌++◌, Option, Some, None, Result, Ok, Err, length, drop, replicate}
use Rattle.std.proofs.Math.Option as math
use Rattle.refusals.specs.Refusals.{number_of, GivenExactly}
use Rattle.refusals.specs.declared.Refusal.{Refusal}
use Rattle.prefix.specs.Keys.{string_of, Valid}
use Rattle.prefix.specs.declared.Prefix.{Prefix}
use Rattle.zones.specs.Maps.{Entry, Map, keys, longest_match}
use Rattle.zones.specs.Nodes.{path, trail}
use Rattle.records.specs.Holds.{Holds}
use Rattle.lookup.specs.Walking.{Survey, survey_on, first_refusal, leaves_all, Outcome, leave_on}
use Rattle.lookup.specs.declared.Keyed.{Keyed}
use Rattle.lookup.specs.declared.Match.{Match}
use Rattle.lookup.specs.declared.Path.{Path}

abbrev pub matched_of : Result Path Refusal → Result (Keyed (Option Match)) Refusal
matched_of (Ok p) = Ok (record { nodes = p.nodes; value = p.walk.longest })
matched_of (Err e) = Err e

abbrev pub outcome_of : List ℕ → Survey → Outcome (Result (Keyed (Option Match)) Refusal)
outcome_of bs v = record { answer = matched_of v.out; bytes = leave_on bs v.widths v.out }

unfoldable pub longest_on : List ℕ → Prefix → List ℕ → Outcome (Result (Keyed (Option Match)) Refusal)
longest_on ws k bs = outcome_of bs (survey_on ws k (length bs) (replicate 129 0))

-- the number of nodes, 1 for a match and 0 for none, the width, the zone number
abbrev pub match_values : ℕ → Option Match → List ℕ
match_values n None = n ∷ 0 ∷ 0 ∷ 0 ∷ []
match_values n (Some m) = n ∷ 1 ∷ m.width ∷ m.zone ∷ []

-- ("no match" is an answer and no refusal)
abbrev pub values_of : Result (Keyed (Option Match)) Refusal → List ℕ
values_of (Ok x) = match_values x.nodes x.value
values_of (Err e) = 0 ∷ 0 ∷ 0 ∷ 0 ∷ []

-- "returns the width and zone number of the longest stored prefix of the key, or 'no match'"
abbrev pub match_of : math.Option Entry → Option Match
match_of (math.some e) = Some (record { width = length e.key; zone = e.zone })
match_of math.none = None

abbrev pub gives : ℕ → math.Option Entry → Result (Keyed (Option Match)) Refusal
gives n o = Ok (record { nodes = n; value = match_of o })

-- ---- what `longest_match` promises: words ws, key k, trail bytes bs before and as after

pub record LongestMatch (ws : List ℕ) (k : Prefix) (bs : List ℕ) (r : Result (Keyed (Option Match)) Refusal) (after : List ℕ) : Type 0 where
  -- on any words the answer and the trail are one function's value, so nothing else meets it
  pub answer : longest_on ws k bs ≡ record { answer = r; bytes = after }
  -- "The first that applies, in this order, is given"
  pub refusal : GivenExactly (first_refusal ws k (length bs)) (0 ∷ 6 ∷ []) (number_of r)
  -- "all others return zero counts and leave every lent byte"
  pub kept : leaves_all (number_of r) ≡ true → (values_of r ≡ 0 ∷ 0 ∷ 0 ∷ 0 ∷ []) × (after ≡ bs)
  -- on words that hold a map, with a valid key and room for its trail: the longest stored prefix, and the
  -- path's widths and length
  pub meaning : (m : Map) → Holds ws m → Valid k → 129 ≤ length bs
      → r ≡ gives (length (path (keys m) (string_of k))) (longest_match (string_of k) m)
  pub written : (m : Map) → Holds ws m → Valid k → 129 ≤ length bs
      → after ≡ trail (keys m) (string_of k) ++ drop (length (path (keys m) (string_of k))) bs
