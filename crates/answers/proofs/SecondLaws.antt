-- The second answer: `answer_2`. On the way: from a fix to its zone, and what a table ships.
-- Assumes nothing.
use Prim.Native.Nat.{ℕ, ◌≤◌, ◌<◌}
use native.Mathlib.Decide.{dec_lt}
use native.Mathlib.Omega.{arith}
use mathlib.Core.Path.{◌≡◌, refl, sym, ap, ◌∙◌}
use mathlib.Core.Bool.{Bool, true, false}
use mathlib.Core.List.{List, [], ◌∷◌}
use mathlib.Core.Option.{Option, none, some}
use Rattle.std.specs.Prelude.{Result, Ok, Err}
use lib.IntN.{ℤ}
use lib.ListN.{length, get_or, take, drop}
use lib.Seq.{take_at}
use Rattle.refusals.specs.declared.Refusal.{Refusal}
use Rattle.prefix.specs.Keys.{string_of, Valid}
use Rattle.prefix.specs.declared.Prefix.{Prefix}
use Rattle.ground.specs.Cells as ground
use Rattle.refusals.specs.Refusals.{number_of}
use Rattle.refusals.proofs.RefusalsLaws.{number_pos}
use Rattle.ground.specs.Cells.{cell_bits, Cell}
use Rattle.zones.specs.Maps.{Entry, Map, keys, longest_match}
use Rattle.zones.specs.Nodes.{path}
use Rattle.zones.proofs.MatchLaws.{longest_match_some, longest_match-none}
use Rattle.records.specs.Holds.{Holds}
use Rattle.records.proofs.HoldsLaws.{ascending_holds, holds_single}
use Rattle.records.proofs.EntriesLaws.{length_holds}
use Rattle.lookup.specs.Matching as matching
use Rattle.audit.specs.Checking as checking
use Rattle.audit.specs.Checking.{Check}
use Rattle.image.specs.Image.{size24, image, image_length, IsImage}
use Rattle.image.proofs.LengthLaws.{length-image}
use Rattle.image.proofs.FitsLaws.{fits-table}
use Rattle.image_lookup.specs.Looking as looking
use Rattle.nalfipode.specs.Cells.{CellOut}
use Rattle.nalfipode.specs.Reads.{LongestMatchOut}
use Rattle.nalfipode.specs.Checks.{AuditOut}
use Rattle.nalfipode.specs.Images.{WriteOut}
use Rattle.answers.specs.Made.{Made}
use Rattle.answers.specs.Second.{cell_key, shown, ZoneIsRight}
use Rattle.answers.proofs.MadeLaws.{made_holds}
use Rattle.answers.proofs.AnswersLaws.{answers_holds}
use Rattle.answers.proofs.SequencesLaws.{ran-map_tells}
use Rattle.answers.proofs.ListingsLaws.{outputs_once}

-- ---- from a fix to its zone

abbrev CellAt : ℤ → ℤ → Prefix → Type 0
CellAt longitude latitude p = Valid p × (string_of p ≡ cell_bits longitude latitude)

cell-key : {longitude latitude : ℤ} {values : List ℕ} → CellOut longitude latitude 0 values → CellAt longitude latitude (cell_key values)
cell-key {longitude} {latitude} {values} o = at o.answer o.number o.listed o.promise
  where
    at : (a : Result Prefix Refusal) → 0 ≡ number_of a → values ≡ ground.values_of a → Cell longitude latitude a → CellAt longitude latitude (cell_key values)
    at (Ok p) e v c = let s = c.meaning p refl in rw v (s.0, s.2)
    at (Err x) e v c = absurd (omega (arith, e, number_pos x))

-- a longest match as it is told
tells-shown : (n : ℕ) (o : Option Entry) → (number_of (matching.gives n o) ≡ 0) × (matching.values_of (matching.gives n o) ≡ n ∷ shown o)
tells-shown n none = (refl, refl)
tells-shown n (some e) = (refl, refl)

fix-zone : {ws bs cell after values : List ℕ} {m : Map} {longitude latitude : ℤ} {r : ℕ} → Made ws m → CellOut longitude latitude 0 cell
    → LongestMatchOut ws (cell_key cell) bs r after values → 129 ≤ length bs
    → (r ≡ 0) × (values ≡ length (path (keys m) (cell_bits longitude latitude)) ∷ shown (longest_match (cell_bits longitude latitude) m))
fix-zone {m = m} {longitude} {latitude} h c o room =
    let k = cell-key c in
    let t = ((answers_holds (made_holds h)).longest o (k.0, room)).0 in
    let s = tells-shown (length (path (keys m) (cell_bits longitude latitude))) (longest_match (cell_bits longitude latitude) m) in
    let u = rw k.1 at t in
    (u.0 ∙ s.0, u.1 ∙ s.1)

-- ---- the whole-table check

checked_holds : {ws : List ℕ} {r : ℕ} → AuditOut ws r (1 ∷ []) → (m : Map) × Holds ws m
checked_holds {ws} o = at o.answer o.listed o.promise
  where
    at : (a : Result Bool Refusal) → 1 ∷ [] ≡ checking.values_of a → Check ws a → (m : Map) × Holds ws m
    at (Ok true) e c = c.yes refl
    at (Ok false) e c = absurd (omega (arith, ap (λ (vs : List ℕ). get_or vs 0 0) e))
    at (Err x) e c = absurd (omega (arith, ap (λ (vs : List ℕ). get_or vs 0 0) e))

-- ---- what a table ships

module _ {ws out after values : List ℕ} {m : Map} {epoch : ℕ} (h : Holds ws m) where
  -- an accepted image has room
  written-room : WriteOut ws epoch out 0 after values → image_length size24 m epoch ≤ length out
  written-room o = at (dec_lt (length out) (image_length size24 m epoch))
    where
      at : Dec (length out < image_length size24 m epoch) → image_length size24 m epoch ≤ length out
      at (yes i) = absurd (omega (arith, o.number ∙ (o.promise.short m h i).0))
      at (no i) = omega arith

  ships : WriteOut ws epoch out 0 after values → IsImage size24 (take (get_or values 0 0) after) m epoch
  ships o =
      let w = (answers_holds h).image o (written-room o) in
      let e = take_at (image size24 m epoch) (drop (image_length size24 m epoch) out) (image_length size24 m epoch) (length-image size24 m epoch) in
      rw (w.1, w.2, e) (o.promise.image_is m h)

-- ---- the answer

-- Is the zone shown the right one? Yes.
pub answer_2 : ZoneIsRight
answer_2 =
    record {
      longest = longest_match_some;
      no_match = longest_match-none;
      cell = cell-key;
      fix = fix-zone;
      made = made_holds;
      answers = answers_holds;
      one_map = holds_single;
      plain_map = ran-map_tells;
      listed_once = outputs_once;
      checked = checked_holds;
      image_accepted = λ o. o.promise.yes (sym o.number);
      image_exact = λ {m = m} {epoch} i o. o.number ∙ o.promise.exact m epoch i;
      image_answers = λ {m = m} {epoch} i o.
          (o.number ∙ o.promise.number m epoch i, o.listed ∙ ap looking.values_of (o.promise.meaning m epoch i));
      image_described = λ {m = m} {epoch} i o.
          let d = o.promise.meaning m epoch i in
          (o.number ∙ d.0, o.listed ∙ d.1);
      image_ships = λ h o. ships h o;
      image_fits = λ {m = m} h o s.
          let i = o.promise.image_is m h in
          fits-table m (ascending_holds h) (length_holds h) i.narrow i.zones_fit s;
    }
