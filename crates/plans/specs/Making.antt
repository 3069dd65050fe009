-- What an edit's code comes to, by its plan: the contracts of the functions that write.
-- Internal: what this crate's own functions are held to; no public contract cites it.
-- Paper 01, "Numbered refusals": "Every refusal leaves the table's words alone."
--   made_of p, left_by ws p  what is answered of a plan or its refusal, and the words that it leaves
--   Makes                    the contract of a store, of a remove, and of each of their steps
--   hung_by                  the words with a link hung and with a first spare record
--   Hangs                    the contract of `hang`
--   Taken ws l               l is the link of a record of ws
--   Fitting ws p             the places of a plan are in the table
-- Assumes nothing.
use Rattle.std.specs.Prelude.{ℕ, ◌+◌, ◌≤◌, ◌<◌, ◌≡◌, Result, Ok, Err, List, length}
use Rattle.prefix.specs.declared.Prefix.{Prefix}
use Rattle.records.specs.Layout.{place, header_at, with_header}
use Rattle.plans.specs.Plans.{Hung, Plan}
use Rattle.plans.specs.Planning.{wrote, applied, hang_on}
use Rattle.plans.specs.declared.Unmade.{Unmade}

-- the answer of what x comes to
abbrev pub made_of : {A : Type 0} → Result A Unmade → Result Unit Unmade
made_of (Ok x) = Ok tt
made_of (Err d) = Err d

-- "Every refusal leaves the table's words alone."
abbrev pub left_by : List ℕ → Result Plan Unmade → List ℕ
left_by ws (Ok p) = applied ws p
left_by ws (Err d) = ws

-- by its plan p, an edit of the words ws answers r and leaves us
pub record Makes (ws : List ℕ) (p : Result Plan Unmade) (r : Result Unit Unmade) (us : List ℕ) : Type 0 where
  pub answer : r ≡ made_of p
  pub words : us ≡ left_by ws p

abbrev pub hung_by : List ℕ → ℕ → Result Hung Unmade → List ℕ
hung_by ws spare (Ok x) = wrote (with_header ws (record { root = x.root; spare = spare })) x.one
hung_by ws spare (Err d) = ws

-- the link l hung for k from the node `at` of the words ws, and a first spare record: r says whether, and us
-- is left
pub record Hangs (ws : List ℕ) (k : Prefix) (at l spare : ℕ) (r : Result Unit Unmade) (us : List ℕ) : Type 0 where
  pub answer : r ≡ made_of (hang_on ws (header_at ws).root k at l)
  pub words : us ≡ hung_by ws spare (hang_on ws (header_at ws).root k at l)

pub record Taken (ws : List ℕ) (l : ℕ) : Type 0 where
  pub some : 0 < l
  pub inside : place l + 8 ≤ length ws

pub record Fitting (ws : List ℕ) (p : Plan) : Type 0 where
  pub header : 16 ≤ length ws
  pub one : place p.one.link + 8 ≤ length ws
  pub two : place p.two.link + 8 ≤ length ws
  pub three : place p.three.link + 8 ≤ length ws
