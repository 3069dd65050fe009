-- `image_verify::verify` meets its contract: what stands before the marker is tested where the bytes end as
-- an image does.
-- Assumes nothing.
use mathlib.Core.Path.{◌≡◌, sym, ◌∙◌}
use borrow.Author.Rules.{rules}
use Rattle.std.specs.Prelude.{Err}
use Rattle.refusals.specs.declared.Refusal.TheVariants.{BadImage}
use Rattle.image_verify.proofs.CheckLaws.{frame-inside, verify_on-bad, verify_on_tail}
use Rattle.image_verify.proofs.PromiseLaws.{verify-promise}
use Rattle.image_verify.proofs.verify.Goals as goal

pub returns-in_err-tail : goal.returns-in_err-tail
returns-in_err-tail c =
    let is : c.from_residual.result ≡ Err BadImage = search rules in
    rw is (verify-promise _ _ (λ i. (c.type_inv.bytes i).fits) (rw (verify_on-bad _ (sym c.frame.ensures ∙ c.in_err-tail.ensures.ok_part))))

pub parts-requires : goal.parts-requires
parts-requires c = frame-inside _ c.in_ok-tail.tail (sym c.frame.ensures ∙ c.in_ok-tail.ensures.ok_part)

pub returns-then-parts : goal.returns-then-parts
returns-then-parts c =
    verify-promise _ _ (λ i. (c.type_inv.bytes i).fits)
    (rw (verify_on_tail _ c.in_ok-tail.tail (sym c.frame.ensures ∙ c.in_ok-tail.ensures.ok_part) ∙ sym c.parts.ensures ∙ c.if-parts.true))

pub returns : goal.returns
returns c =
    verify-promise _ _ (λ i. (c.type_inv.bytes i).fits)
    (rw (verify_on_tail _ c.in_ok-tail.tail (sym c.frame.ensures ∙ c.in_ok-tail.ensures.ok_part) ∙ sym c.parts.ensures ∙ c.if-parts.false))
