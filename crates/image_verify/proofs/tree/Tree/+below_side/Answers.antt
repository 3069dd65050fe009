-- `image_verify::tree::below` and `image_verify::tree::side`, which call each other, meet their contracts:
-- the tests are those of the definitions, in their order.
-- Assumes nothing.
use native.Mathlib.Omega.{arith}
use mathlib.Core.Path.{refl}
use Rattle.std.specs.Prelude.{None}
use Rattle.image_verify.proofs.NodesLaws.{below_on_right-bad, below_on_both}
use Rattle.image_verify.proofs.tree.Tree.+below_side.Goals as goal

pub below-returns-in_err-y : goal.below-returns-in_err-y
below-returns-in_err-y t c f e =
    rw (e, c.from_residual-in_err-y.ensures)
    (below_on_right-bad _ _ _ _ c.args.left (omega arith) _ c.record_at-left_record.ensures.number _ c.in_ok-x.ensures
    _ _ refl _ c.record_at-right_record.ensures.number None c.in_err-y.ensures refl)

pub below-returns : goal.below-returns
below-returns t c f e =
    rw e
    (below_on_both _ _ _ _ c.args.left (omega arith) _ c.record_at-left_record.ensures.number _ c.in_ok-x.ensures
    _ _ refl _ c.record_at-right_record.ensures.number _ c.in_ok-y.ensures _ _ refl)
