-- How much an edit changes.
-- Paper 00, demand 3: "An accepted edit changes at most three node records besides the header".
--   ThreeRecords ws us   the words ws and us differ in the header and at most three records
-- Assumes nothing.
use Rattle.std.specs.Prelude.{ℕ, ◌≤◌, ◌<◌, ◌≡◌, length}
use mathlib.Core.List.{List, Memᴰ}
use Rattle.records.specs.Layout.{record_at}

-- from the words ws to the words us at most three node records change, whatever becomes of the header
pub record ThreeRecords (ws us : List ℕ) : Type 0 where
  pub links : List ℕ
  pub few : length links ≤ 3
  pub same : (l : ℕ) → 0 < l → (Memᴰ l links → ⊥) → record_at us l ≡ record_at ws l
  pub same_length : length us ≡ length ws
