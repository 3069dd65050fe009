-- `lookup::survey` meets its contract: what is refused, and else the walk.
-- Assumes nothing.
use mathlib.Core.Path.{◌≡◌, refl, ◌∙◌, sym}
use borrow.Author.Rules.{rules}
use Rattle.std.specs.Prelude.{Err}
use Rattle.lookup.proofs.SurveyLaws.{refuse_on-accepts, survey_on-refused, survey_on-walk}
use Rattle.lookup.proofs.survey.Goals as goal

pub returns-in_err-refuse : goal.returns-in_err-refuse
returns-in_err-refuse c =
    let e : c.from_residual.result ≡ Err c.in_err-refuse.field-0.0 = search rules in
    rw e (survey_on-refused _ _ _ _ _ (sym c.refuse.ensures ∙ c.in_err-refuse.was))

pub invariant_of-walk_path : goal.invariant_of-walk_path
invariant_of-walk_path c = record { narrow = (refuse_on-accepts _ _ _ (sym c.refuse.ensures ∙ c.in_ok-refuse.was)).narrow }

pub walk_path-requires : goal.walk_path-requires
walk_path-requires c = (refuse_on-accepts _ _ _ (sym c.refuse.ensures ∙ c.in_ok-refuse.was)).table

pub returns : goal.returns
returns c =
    let w = c.walk_path.ensures in
    survey_on-walk _ _ _ _ (sym c.refuse.ensures ∙ c.in_ok-refuse.was)
    ∙ (λ i. record { widths = sym w.widths i; out = sym (w.path refl) i })
