-- `image_verify::describe` meets its contract: the tests are those of the definition.
-- Assumes nothing.
use mathlib.Core.Path.{◌≡◌, sym, ◌∙◌}
use borrow.Author.Rules.{rules}
use Rattle.std.specs.Prelude.{Err}
use Rattle.refusals.specs.declared.Refusal.TheVariants.{BadImage}
use Rattle.image_verify.proofs.CheckLaws.{frame-inside}
use Rattle.image_verify.proofs.DescribingLaws.{describe-promise, describe_on-bad, describe_on_short, describe_on-room}
use Rattle.image_verify.proofs.describe.Goals as goal

pub returns-in_err-tail : goal.returns-in_err-tail
returns-in_err-tail c =
    let is : c.from_residual.result ≡ Err BadImage = search rules in
    rw is (describe-promise _ _ (describe_on-bad _ (sym c.frame.ensures ∙ c.in_err-tail.ensures.ok_part)))

pub returns-then-tail-start : goal.returns-then-tail-start
returns-then-tail-start c = describe-promise _ _ (describe_on_short _ c.in_ok-tail.tail (sym c.frame.ensures ∙ c.in_ok-tail.ensures.ok_part) c.if-tail-start.true)

pub invariant_of-section : goal.invariant_of-section
invariant_of-section c = record { inside = frame-inside _ c.in_ok-tail.tail (sym c.frame.ensures ∙ c.in_ok-tail.ensures.ok_part) }

pub returns : goal.returns
returns c =
    describe-promise _ _ (describe_on-room _ c.in_ok-tail.tail (sym c.frame.ensures ∙ c.in_ok-tail.ensures.ok_part) c.if-tail-start.false _ c.count.ensures)
