-- Store: what it answers and writes on any words, and its promise.
-- Paper 01, "The lent table": "Store adds a prefix or replaces its zone number; it says which, and gives the
-- old number if there was one."
--   Edit A                what an edit gives and leaves: its answer, the trail's bytes, the table's words
--   Stored                the type of an answer
--   accepted_of k p       the answer of an accepted store, where the key's path is p
--   store_on ws k z bs    the answer, the trail and the words, on any words
--   values_of             the values of an answer
--   Store                 the contract of `store`
-- Assumes nothing.
use Rattle.std.specs.Prelude.{ℕ, suc, ◌≤◌, ◌≡◌, Bool, true, cond, List, [], ◌∷◌, ◌++◌, Option, Some, None, Result, Ok, Err, length, drop, replicate}
use Rattle.std.proofs.Math.Option as math
use Rattle.std.proofs.Math.Seq.{paste}
use Rattle.refusals.specs.Refusals.{number_of, nodes_in, GivenExactly}
use Rattle.refusals.specs.declared.Refusal.{Refusal}
use Rattle.refusals.specs.declared.Refusal.TheVariants.{Damaged, Full}
use Rattle.prefix.specs.Keys.{string_of, Valid}
use Rattle.prefix.specs.declared.Prefix.{Prefix}
use Rattle.zones.specs.Maps.{Map, keys, get, put}
use Rattle.zones.specs.Nodes.{path, trail, overflows}
use Rattle.records.specs.Layout.{capacity}
use Rattle.records.specs.Holds.{Holds}
use Rattle.lookup.specs.Walking.{Survey, survey_on, first_refusal, leaves_all, stored_in}
use Rattle.lookup.specs.Fetching.{given}
use Rattle.lookup.specs.declared.Keyed.{Keyed}
use Rattle.lookup.specs.declared.Path.{Path}
use Rattle.plans.specs.Planning.{entry_of, applied, plan_store_on}
use Rattle.plans.specs.Limits.{ThreeRecords}
use Rattle.plans.specs.Plans.{Plan}
use Rattle.plans.specs.declared.Unmade.{Unmade}
use Rattle.plans.specs.declared.Unmade.TheVariants as unmade

pub record Edit (A : Type 0) : Type 0 where
  pub answer : A
  pub bytes : List ℕ
  pub words : List ℕ

-- an answer that leaves all
abbrev pub refused : {A : Type 0} → A → List ℕ → List ℕ → Edit A
refused r bs ws = record { answer = r; bytes = bs; words = ws }

-- the number of nodes, and the old number if there was one; or the refusal
abbrev pub Stored : Type 0
Stored = Result (Keyed (Option ℕ)) Refusal

abbrev pub accepted_of : Prefix → Path → Stored
accepted_of k p = Ok (record { nodes = p.nodes; value = stored_in k.width p.walk.longest })

abbrev pub stored_by : List ℕ → Prefix → List ℕ → List ℕ → Path → Result Plan Unmade → Edit Stored
stored_by ws k bs ts p (Ok q) = record { answer = accepted_of k p; bytes = paste bs 0 ts p.nodes; words = applied ws q }
stored_by ws k bs ts p (Err unmade.Damaged) = refused (Err Damaged) bs ws
stored_by ws k bs ts p (Err unmade.Full) = record { answer = Err (Full p.nodes); bytes = paste bs 0 ts p.nodes; words = ws }

abbrev pub stored_of : List ℕ → Prefix → ℕ → List ℕ → List ℕ → Result Path Refusal → Edit Stored
stored_of ws k z bs ts (Ok p) = stored_by ws k bs ts p (plan_store_on ws k z p.walk p.met)
stored_of ws k z bs ts (Err e) = refused (Err e) bs ws

abbrev pub stored_from : List ℕ → Prefix → ℕ → List ℕ → Survey → Edit Stored
stored_from ws k z bs v = stored_of ws k z bs v.widths v.out

unfoldable pub store_on : List ℕ → Prefix → ℕ → List ℕ → Edit Stored
store_on ws k z bs = stored_from ws k z bs (survey_on ws k (length bs) (replicate 129 0))

-- 1 where a number was replaced and 0 where not, and the old number
abbrev pub old_values : Option ℕ → List ℕ
old_values None = 0 ∷ 0 ∷ []
old_values (Some z) = 1 ∷ z ∷ []

-- the number of nodes before them
abbrev pub values_of : Stored → List ℕ
values_of (Ok x) = x.nodes ∷ old_values x.value
values_of (Err e) = nodes_in e ∷ 0 ∷ 0 ∷ []

-- "it says which, and gives the old number if there was one"
abbrev pub says : ℕ → math.Option ℕ → Stored
says n old = Ok (record { nodes = n; value = given old })

-- "Full is given exactly when the tree of the new set has more than c nodes"
abbrev pub gives : Bool → ℕ → math.Option ℕ → Stored
gives full n old = cond full (Err (Full n)) (says n old)

-- ---- what `store` promises: words ws, trail bytes bs, before; words us, bytes as, after

pub record Store (ws : List ℕ) (k : Prefix) (z : ℕ) (bs : List ℕ) (r : Stored) (us after : List ℕ) : Type 0 where
  -- on any words the answer, the trail and the table are one function's value, so nothing else meets it
  pub answer : store_on ws k z bs ≡ record { answer = r; bytes = after; words = us }
  -- "The first that applies, in this order, is given"
  pub refusal : GivenExactly (first_refusal ws k (length bs)) (0 ∷ 6 ∷ 8 ∷ []) (number_of r)
  -- "Every refusal leaves the table's words alone."
  pub left : (n : ℕ) → number_of r ≡ suc n → us ≡ ws
  -- "An accepted edit changes at most three node records besides the header" (paper 00)
  pub three : ThreeRecords ws us
  -- "all others return zero counts and leave every lent byte"
  pub kept : leaves_all (number_of r) ≡ true → (values_of r ≡ 0 ∷ 0 ∷ 0 ∷ []) × (after ≡ bs)
  -- on words that hold a map, with a valid key and room for its trail: what it says, the path's widths and
  -- length, and the new map
  pub meaning : (m : Map) → Holds ws m → Valid k → 129 ≤ length bs
      → r ≡ gives (overflows (capacity (length ws)) (entry_of k z) m) (length (path (keys m) (string_of k))) (get (string_of k) m)
  pub written : (m : Map) → Holds ws m → Valid k → 129 ≤ length bs
      → after ≡ trail (keys m) (string_of k) ++ drop (length (path (keys m) (string_of k))) bs
  pub holds : (m : Map) → Holds ws m → Valid k → 129 ≤ length bs
      → Holds us (cond (overflows (capacity (length ws)) (entry_of k z) m) m (put (entry_of k z) m))
