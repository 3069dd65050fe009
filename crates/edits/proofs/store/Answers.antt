-- `edits::store` meets its contract: what is refused, and else what the definition makes of the plan.
-- Assumes nothing.
use borrow.Author.Rules.{rules}
use Rattle.lookup.proofs.SurveyLaws.{survey_on-bounds}
use Rattle.edits.proofs.StoringLaws.{passed, survey_on-long, store-promise, store_on-survey, store_on_damaged, store_on_full, store_on_done}
use Rattle.edits.proofs.store.Goals as goal
use Rattle.edits.proofs.store.Goals.{in-Ok, in-Err-Full}

pub returns-in_err-p : goal.returns-in_err-p
returns-in_err-p c = rw (passed _ _ c.from_residual.ensures) (store-promise _ _ _ _ _ _ _ (store_on-survey _ _ _ _ _ _ c.in_err-p.ensures))

pub make_store-requires : goal.make_store-requires
make_store-requires c = (
  survey_on-long _ _ _ _ _ _ c.in_ok-p.ensures,
  (survey_on-bounds _ _ _ _ _ _ _ c.survey.ensures c.in_ok-p.was).narrow,
)

pub returns-in-Err-Damaged : goal.returns-in-Err-Damaged
returns-in-Err-Damaged c =
    store-promise _ _ _ _ _ _ _
    (store_on_damaged _ _ _ _ _ _ c.in_ok-p.ensures _ (rw c.in-Err-Damaged.field-0-is at c.in-Err-Damaged.ensures))

pub copy_first-requires : goal.copy_first-requires
copy_first-requires c =
    let b = survey_on-bounds _ _ _ _ _ _ _ c.survey.ensures c.in_ok-p.was in
    (b.few, search rules)

pub returns : goal.returns
returns c =
    store-promise _ _ _ _ _ _ _ (elim c.match-make_store.branch [
      | in-Ok w ↦
          rw w.answer-is
          (store_on_done _ _ _ _ _ _ c.in_ok-p.ensures _ _ _ w.in-Ok.ensures w.stored_at.ensures c.copy_first.ensures)
      | in-Err-Full w ↦
          rw w.answer-is
          (store_on_full _ _ _ _ _ _ c.in_ok-p.ensures _ _ (rw w.in-Err-Full.field-0-is at w.in-Err-Full.ensures) c.copy_first.ensures)
    ])
