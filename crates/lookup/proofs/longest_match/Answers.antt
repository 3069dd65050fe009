-- `lookup::longest_match` meets its contract: what is refused, and else what the walk comes to, whose widths are
-- written as far as the path goes.
-- Assumes nothing.
use native.Mathlib.Omega.{arith}
use mathlib.Core.Path.{◌≡◌, ◌∙◌, sym}
use borrow.Author.Rules.{rules}
use Rattle.std.specs.Prelude.{Err}
use Rattle.lookup.proofs.SurveyLaws.{refuse_on-accepts}
use Rattle.lookup.proofs.ReadingLaws.{walked_few, longest_on-refused, longest_on-damaged, longest_on-path}
use Rattle.lookup.proofs.MatchingLaws.{longest-promise}
use Rattle.lookup.proofs.longest_match.Goals as goal

pub returns-in_err-refuse : goal.returns-in_err-refuse
returns-in_err-refuse c =
    let e : c.from_residual.result ≡ Err c.in_err-refuse.field-0.0 = search rules in
    rw e (longest-promise _ _ _ _ _ (longest_on-refused _ _ _ _ (sym c.refuse.ensures ∙ c.in_err-refuse.was)))

pub invariant_of-walk_path : goal.invariant_of-walk_path
invariant_of-walk_path c = record { narrow = (refuse_on-accepts _ _ _ (sym c.refuse.ensures ∙ c.in_ok-refuse.was)).narrow }

pub walk_path-requires : goal.walk_path-requires
walk_path-requires c = (refuse_on-accepts _ _ _ (sym c.refuse.ensures ∙ c.in_ok-refuse.was)).table

pub returns-in_err-x : goal.returns-in_err-x
returns-in_err-x c =
    let e : c.from_residual-in_err-x.result ≡ Err c.in_err-x.field-0.0 = search rules in
    rw e (longest-promise _ _ _ _ _
    (longest_on-damaged _ _ _ _ _ _ (sym c.refuse.ensures ∙ c.in_ok-refuse.was) c.walk_path.ensures _ c.in_err-x.was))

pub copy_first-requires : goal.copy_first-requires
copy_first-requires c =
    let a = refuse_on-accepts _ _ _ (sym c.refuse.ensures ∙ c.in_ok-refuse.was) in
    let few = walked_few _ _ _ _ _ _ c.walk_path.ensures _ c.in_ok-x.was in
    (omega arith, omega (arith, a.ample))

pub returns : goal.returns
returns c =
    longest-promise _ _ _ _ _ (rw c.copy_first.ensures
    (longest_on-path _ _ _ _ _ _ (sym c.refuse.ensures ∙ c.in_ok-refuse.was) c.walk_path.ensures _ c.in_ok-x.was))
