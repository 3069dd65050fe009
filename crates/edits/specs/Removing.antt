-- Remove: what it answers and writes on any words, and its promise.
-- Paper 01, "The lent table": "Fetch gives the stored number, remove the one it took out."
--   Removal               the type of an answer
--   remove_on ws k bs     the answer, the trail and the words, on any words
--   values_of             the values of an answer
--   Remove                the contract of `remove`
-- Assumes nothing.
use Rattle.std.specs.Prelude.{ℕ, suc, ◌≤◌, ◌≡◌, true, List, [], ◌∷◌, ◌++◌, Option, Some, None, Result, Ok, Err, length, drop, replicate}
use Rattle.std.proofs.Math.Option as math
use Rattle.std.proofs.Math.Seq.{paste}
use Rattle.refusals.specs.Refusals.{number_of, nodes_in, GivenExactly}
use Rattle.refusals.specs.declared.Refusal.{Refusal}
use Rattle.refusals.specs.declared.Refusal.TheVariants.{Damaged, Absent}
use Rattle.prefix.specs.Keys.{string_of, Valid}
use Rattle.prefix.specs.declared.Prefix.{Prefix}
use Rattle.zones.specs.Maps.{Map, keys, get, without}
use Rattle.zones.specs.Nodes.{path, trail}
use Rattle.records.specs.Holds.{Holds}
use Rattle.lookup.specs.Walking.{Survey, survey_on, first_refusal, leaves_all, stored_in}
use Rattle.lookup.specs.declared.Keyed.{Keyed}
use Rattle.lookup.specs.declared.Path.{Path}
use Rattle.plans.specs.Planning.{applied, plan_remove_on}
use Rattle.plans.specs.Limits.{ThreeRecords}
use Rattle.plans.specs.Plans.{Plan}
use Rattle.plans.specs.declared.Unmade.{Unmade}
use Rattle.edits.specs.Storing.{Edit, refused}

-- the number of nodes, and the number taken out; or the refusal
abbrev pub Removal : Type 0
Removal = Result (Keyed ℕ) Refusal

-- (a plan of a remove is never Full)
abbrev pub removed_by : List ℕ → List ℕ → List ℕ → ℕ → ℕ → Result Plan Unmade → Edit Removal
removed_by ws bs ts n z (Ok p) = record { answer = Ok (record { nodes = n; value = z }); bytes = paste bs 0 ts n; words = applied ws p }
removed_by ws bs ts n z (Err d) = refused (Err Damaged) bs ws

-- by the number that is stored for the key itself
abbrev pub removed_at : List ℕ → List ℕ → List ℕ → ℕ → Option ℕ → Result Plan Unmade → Edit Removal
removed_at ws bs ts n (Some z) x = removed_by ws bs ts n z x
removed_at ws bs ts n None x = record { answer = Err (Absent n); bytes = paste bs 0 ts n; words = ws }

abbrev pub removed_of : List ℕ → Prefix → List ℕ → List ℕ → Result Path Refusal → Edit Removal
removed_of ws k bs ts (Ok p) = removed_at ws bs ts p.nodes (stored_in k.width p.walk.longest) (plan_remove_on ws k p.walk)
removed_of ws k bs ts (Err e) = refused (Err e) bs ws

abbrev pub removed_from : List ℕ → Prefix → List ℕ → Survey → Edit Removal
removed_from ws k bs v = removed_of ws k bs v.widths v.out

unfoldable pub remove_on : List ℕ → Prefix → List ℕ → Edit Removal
remove_on ws k bs = removed_from ws k bs (survey_on ws k (length bs) (replicate 129 0))

-- the number of nodes, and the number taken out
abbrev pub values_of : Removal → List ℕ
values_of (Ok x) = x.nodes ∷ x.value ∷ []
values_of (Err e) = nodes_in e ∷ 0 ∷ []

-- "the one it took out"; No. 7, Absent: "remove or fetch of a prefix not stored"
abbrev pub gives : ℕ → math.Option ℕ → Removal
gives n (math.some z) = Ok (record { nodes = n; value = z })
gives n math.none = Err (Absent n)

-- ---- what `remove` promises: words ws, trail bytes bs, before; words us, bytes as, after

pub record Remove (ws : List ℕ) (k : Prefix) (bs : List ℕ) (r : Removal) (us after : List ℕ) : Type 0 where
  -- on any words the answer, the trail and the table are one function's value, so nothing else meets it
  pub answer : remove_on ws k bs ≡ record { answer = r; bytes = after; words = us }
  -- "The first that applies, in this order, is given"
  pub refusal : GivenExactly (first_refusal ws k (length bs)) (0 ∷ 6 ∷ 7 ∷ []) (number_of r)
  -- "Every refusal leaves the table's words alone."
  pub left : (n : ℕ) → number_of r ≡ suc n → us ≡ ws
  -- "An accepted edit changes at most three node records besides the header" (paper 00)
  pub three : ThreeRecords ws us
  -- "all others return zero counts and leave every lent byte"
  pub kept : leaves_all (number_of r) ≡ true → (values_of r ≡ 0 ∷ 0 ∷ []) × (after ≡ bs)
  -- on words that hold a map, with a valid key and room for its trail: what it says, the path's widths and
  -- length, and the new map
  pub meaning : (m : Map) → Holds ws m → Valid k → 129 ≤ length bs
      → r ≡ gives (length (path (keys m) (string_of k))) (get (string_of k) m)
  pub written : (m : Map) → Holds ws m → Valid k → 129 ≤ length bs
      → after ≡ trail (keys m) (string_of k) ++ drop (length (path (keys m) (string_of k))) bs
  pub holds : (m : Map) → Holds ws m → Valid k → 129 ≤ length bs → Holds us (without (string_of k) m)
