-- Fresh: what it makes of the lent memory, and its promise.
-- Paper 01, "The lent table": "Making a fresh table writes the memory as needed and gives the empty set."
--   next_of l c        the link after l in a chain of c records
--   chained_on ws c n  the words with the records 1 to n made spare, of c
--   fresh_on ws        the words made a fresh table
--   values_of          the values of an answer
--   Fresh              the contract of `fresh`
-- Assumes nothing.
use Rattle.std.specs.Prelude.{ℕ, zero, suc, ◌+◌, ◌≡◌, true, cond, List, [], Result, Ok, Err, ltb, length}
use Rattle.records.specs.Layout.{is_table, capacity, with_record, with_header}
use Rattle.records.specs.Holds.{Holds}
use Rattle.plans.specs.Planning.{freed_of}
use Rattle.refusals.specs.Refusals.{number_of}
use Rattle.refusals.specs.declared.Refusal.{Refusal}
use Rattle.refusals.specs.declared.Refusal.TheVariants.{BadLength}

abbrev pub next_of : ℕ → ℕ → ℕ
next_of l c = cond (ltb l c) (l + 1) 0

unfoldable pub chained_on : List ℕ → ℕ → ℕ → List ℕ
chained_on ws c zero = ws
chained_on ws c (suc n) = with_record (chained_on ws c n) (suc n) (freed_of (next_of (suc n) c))

-- (the header starts from a spare record's words, whose tag no walk passes)
unfoldable pub fresh_on : List ℕ → List ℕ
fresh_on ws =
    with_header (chained_on (with_record ws 0 (freed_of 0)) (capacity (length ws)) (capacity (length ws))) (record { root = 0; spare = 1 })

-- it has no values
abbrev pub values_of : Result Unit Refusal → List ℕ
values_of (Ok x) = []
values_of (Err e) = []

-- ---- what `fresh` promises: words ws before and after

pub record Fresh (ws : List ℕ) (r : Result Unit Refusal) (after : List ℕ) : Type 0 where
  -- one value each, so nothing else meets it
  pub answer : r ≡ cond (is_table (length ws)) (Ok tt) (Err BadLength)
  -- No. 1, BadLength: "the table memory has another length than those above"
  pub number : number_of r ≡ cond (is_table (length ws)) 0 1
  pub values : values_of r ≡ []
  pub words : after ≡ cond (is_table (length ws)) (fresh_on ws) ws
  -- "gives the empty set"
  pub meaning : is_table (length ws) ≡ true → Holds after []
