-- `metadata::steps_back` meets its contract: the byte stands at the first step that is found, or at none.
-- Assumes nothing.
use Rattle.std.proofs.Common.{ℕ, ◌-◌, ◌≤◌, ◌<◌, ◌≡◌, List, get_or, arith, rules, tests}
use Rattle.std.specs.Prelude.{Option, Some, None, MatchOption}
use Rattle.std.proofs.lemmas.Iterator.{first_from_Range}
use Rattle.std.proofs.lemmas.List.{get_or_read}
use Rattle.metadata.specs.Frames.{steps_back}
use Rattle.metadata.proofs.ReadingLaws.{steps_back_at, steps_back_never}
use Rattle.metadata.proofs.steps_back.Goals as goal

module _ (bs : List ℕ) (at b f : ℕ) where
  abbrev Not : ℕ → Type 0
  Not i = get_or bs (at - i) 0 ≡ b → ⊥

  counted : (r : Option ℕ) → MatchOption r ((k : ℕ) → 0 ≤ k → k < f → Not k) (λ i. (0 ≤ i) × (i < f) × (get_or bs (at - i) 0 ≡ b) × ((k : ℕ) → 0 ≤ k → k < i → Not k))
      → MatchOption r (steps_back bs at b f ≡ f) (λ i. (steps_back bs at b f ≡ i) × (i < f))
  counted None h = steps_back_never bs b at f (λ j k. h j (omega arith) k)
  counted (Some i) h = (steps_back_at bs b at f i h.1 (λ j k. h.3 j (omega arith) k) h.2, h.1)

pub returns : goal.returns
returns c =
    let bs = c.args.bytes.now in
    let at = c.args.at in
    let b = c.args.b in
    counted bs at b c.args.f _ (first_from_Range _ _ _ _ (λ i. get_or bs (at - i) 0 ≡ b) (λ i. get_or bs (at - i) 0 ≡ b → ⊥) c.find.ensures.ran
    (λ x q k. grind (arith, tests, get_or_read))
    (λ x q k. (search rules, grind (arith, tests, get_or_read))))
