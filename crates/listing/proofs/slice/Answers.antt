-- `listing::slice` meets its contract: it answers what the definition makes of the refusal, of the way to the
-- resume prefix, or of the tour.
-- Assumes nothing.
use native.Mathlib.Omega.{arith}
use mathlib.Core.Path.{refl, sym, ◌∙◌}
use Rattle.std.proofs.lemmas.Result.{err_from_is_err_and}
use Rattle.listing.proofs.SlicingLaws.{refused_of-allowed, slice_on-refused, slice_on_damaged, slice_on_few, slice_on-toured, slice-promise}
use Rattle.listing.proofs.slice.Goals as goal

pub returns-in_err-refuse : goal.returns-in_err-refuse
returns-in_err-refuse c =
    let p = err_from_is_err_and c.from_residual.result c.from_residual.ensures.1 in
    rw (p.1, p.2)
    (slice-promise _ _ _ _ _ _ (λ i. (c.type_inv.table i).fits) (slice_on-refused _ _ _ _ _ (sym c.refuse.ensures ∙ c.in_err-refuse.was)))

pub begin-requires : goal.begin-requires
begin-requires c =
    let a = refused_of-allowed _ _ _ _ _ (sym c.refuse.ensures ∙ c.in_ok-refuse.was) in
    (a.least, a.narrow, refl)

pub returns-in_err-start : goal.returns-in_err-start
returns-in_err-start c =
    let p = err_from_is_err_and c.from_residual-in_err-start.result c.from_residual-in_err-start.ensures.1 in
    rw (p.1, p.2)
    (slice-promise _ _ _ _ _ _ (λ i. (c.type_inv.table i).fits)
    (slice_on_damaged _ _ _ _ _ (sym c.refuse.ensures ∙ c.in_ok-refuse.was) _ _ _ c.begin.ensures _ c.in_err-start.was))

pub tour-requires : goal.tour-requires
tour-requires c =
    let a = refused_of-allowed _ _ _ _ _ (sym c.refuse.ensures ∙ c.in_ok-refuse.was) in
    (a.ample, a.small, a.least, a.most)

pub returns-in_err-toured : goal.returns-in_err-toured
returns-in_err-toured c =
    let p = err_from_is_err_and c.from_residual-in_err-toured.result c.from_residual-in_err-toured.ensures.1 in
    rw (p.1, p.2)
    (slice-promise _ _ _ _ _ _ (λ i. (c.type_inv.table i).fits)
    (rw c.in_err-toured.was at (slice_on-toured _ _ _ _ _ (sym c.refuse.ensures ∙ c.in_ok-refuse.was) _ _ _ c.begin.ensures
    _ c.in_ok-start.was _ _ _ c.tour.ensures)))

pub overflow_add-result : goal.overflow_add-result
overflow_add-result c =
    omega (
      arith,
      slice_on_few _ _ _ _ _ (sym c.refuse.ensures ∙ c.in_ok-refuse.was) _ _ _ c.begin.ensures _ c.in_ok-start.was _ _ _ c.tour.ensures
          _ c.in_ok-toured.was,
    )

pub returns : goal.returns
returns c =
    slice-promise _ _ _ _ _ _ (λ i. (c.type_inv.table i).fits)
    (rw c.in_ok-toured.was at (slice_on-toured _ _ _ _ _ (sym c.refuse.ensures ∙ c.in_ok-refuse.was) _ _ _ c.begin.ensures
    _ c.in_ok-start.was _ _ _ c.tour.ensures))
