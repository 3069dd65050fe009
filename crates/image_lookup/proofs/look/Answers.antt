-- `image_lookup::look` meets its contract: the promise follows from the answer, which is the definition's.
-- Assumes nothing.
use native.Mathlib.Omega.{arith}
use mathlib.Core.Path.{◌≡◌, sym, ap, ◌∙◌}
use borrow.Author.Rules.{rules}
use Rattle.std.specs.Prelude.{Err}
use Rattle.refusals.specs.declared.Refusal.TheVariants.{BadImage}
use Rattle.image_lookup.specs.Looking.{walk_on}
use Rattle.image_lookup.proofs.ReadingLaws.{length-address_bits, words_bits_four, look_on-bad, look_on_short, look_on-walk}
use Rattle.image_lookup.proofs.LookingLaws.{look-promise}
use Rattle.image_lookup.proofs.look.Goals as goal

pub returns-in_err-x : goal.returns-in_err-x
returns-in_err-x c =
    let is : c.from_residual.result ≡ Err BadImage = search rules in
    rw is (look-promise _ _ _ (length-address_bits _ _ _ _) (look_on-bad _ _ (sym c.count.ensures.value ∙ c.in_err-x.ensures.ok_part)))

pub returns-then-bytes-x : goal.returns-then-bytes-x
returns-then-bytes-x c = look-promise _ _ _ (length-address_bits _ _ _ _) (look_on_short _ _ c.in_ok-x.x (sym c.count.ensures.value ∙ c.in_ok-x.ensures.ok_part) (omega arith))

pub returns : goal.returns
returns c =
    look-promise _ _ _ (length-address_bits _ _ _ _)
    (c.walk.ensures ∙ ap (walk_on _ _ 0) (words_bits_four c.args.key (omega arith)) ∙ look_on-walk _ _ c.in_ok-x.x (sym c.count.ensures.value ∙ c.in_ok-x.ensures.ok_part) (omega arith))
