-- What a store and a remove rest on: the records that they read, and when two edits are the same.
-- Paper 01, "The lent table": "So do store and remove, where up to two spare records, fixed in docs/, agree
-- too, and they write the same words in the same places on both". Two memories agree at links as `Agree` of
-- lookup/specs/Paths.antt says.
--   edit_links h k    the path's records, and the first two of the spare chain
--   written ws p      the words ws with the plan p written, if there is one
--   SameEdit us ws    two edits, of us and of ws, answer alike, leave the same trail, and write the same plan
-- Assumes nothing.
use Rattle.std.specs.Prelude.{ℕ, ◌≡◌, List, ◌++◌, take}
use Rattle.std.proofs.Math.Option.{Option, none, some}
use Rattle.bits.specs.Bits.{Bits}
use Rattle.zones.specs.Maps.{Map}
use Rattle.records.specs.Holds.{Holds}
use Rattle.lookup.specs.Paths.{path_links}
use Rattle.plans.specs.Plans.{Plan}
use Rattle.plans.specs.Planning.{applied}
use Rattle.edits.specs.Storing.{Edit}

-- (a remove reads no spare record: the law `remove_on_rests` asks only for the path's)
abbrev pub edit_links : {ws : List ℕ} {m : Map} → Holds ws m → Bits → List ℕ
edit_links h k = path_links h.tree k ++ take 2 h.chain

abbrev pub written : List ℕ → Option Plan → List ℕ
written ws none = ws
written ws (some p) = applied ws p

-- (a plan is the header's two words, and up to three records with their links: so one plan is the same words
-- in the same places)
pub record SameEdit {A : Type 0} (us ws : List ℕ) (x y : Edit A) : Type 0 where
  pub answer : x.answer ≡ y.answer
  pub bytes : x.bytes ≡ y.bytes
  pub plan : Option Plan
  pub left_words : x.words ≡ written us plan
  pub right_words : y.words ≡ written ws plan
