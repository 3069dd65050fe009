-- `edits::remove` meets its contract: what is refused, and else what the definition makes of the plan.
-- Assumes nothing.
use borrow.Author.Rules.{rules}
use Rattle.lookup.proofs.SurveyLaws.{survey_on-bounds}
use Rattle.edits.proofs.StoringLaws.{passed, survey_on-long}
use Rattle.edits.proofs.RemovingLaws.{remove-promise, remove_on-survey, remove_on-absent, remove_on_unmade, remove_on_done}
use Rattle.edits.proofs.remove.Goals as goal
use Rattle.edits.proofs.remove.Goals.{in-Some+in_ok-map_err-in-Some, in-None}

pub returns-in_err-p : goal.returns-in_err-p
returns-in_err-p c = rw (passed _ _ c.from_residual.ensures) (remove-promise _ _ _ _ _ _ (remove_on-survey _ _ _ _ _ c.in_err-p.ensures))

pub make_remove-requires : goal.make_remove-requires
make_remove-requires c = (
  survey_on-long _ _ _ _ _ _ c.in_ok-p.ensures,
  (survey_on-bounds _ _ _ _ _ _ _ c.survey.ensures c.in_ok-p.was).narrow,
)

pub returns-in_err-map_err-in-Some : goal.returns-in_err-map_err-in-Some
returns-in_err-map_err-in-Some c =
    rw (passed _ _ c.from_residual-in_err-map_err-in-Some.ensures)
    (remove-promise _ _ _ _ _ _
    (remove_on_unmade _ _ _ _ _ c.in_ok-p.ensures _ c.in-Some.ensures _ _ _ c.make_remove.ensures (search rules)))

pub copy_first-requires : goal.copy_first-requires
copy_first-requires c =
    let b = survey_on-bounds _ _ _ _ _ _ _ c.survey.ensures c.in_ok-p.was in
    (b.few, search rules)

pub returns : goal.returns
returns c =
    remove-promise _ _ _ _ _ _ (elim c.match-stored_at.branch [
      | in-Some+in_ok-map_err-in-Some w ↦
          rw (w.answer-is, w.table-is)
          (remove_on_done _ _ _ _ _ c.in_ok-p.ensures _ w.in-Some.ensures _ _ _ _ w.make_remove.ensures (search rules) c.copy_first.ensures)
      | in-None w ↦
          rw (w.answer-is, w.table-is) (remove_on-absent _ _ _ _ _ c.in_ok-p.ensures _ w.in-None.ensures c.copy_first.ensures)
    ])
