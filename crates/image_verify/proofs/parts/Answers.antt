-- `image_verify::parts` meets its contract: the tests are those of the definition, in its order.
-- Assumes nothing.
use Prim.Native.Nat.{◌+◌, ◌*◌}
use native.Mathlib.Omega.{arith}
use mathlib.Core.Path.{refl, ◌∙◌}
use borrow.Author.Tests.{le-leb, lt-leb}
use Rattle.image_verify.specs.Verifying.{exact_on}
use Rattle.image_verify.proofs.CheckLaws.{and_yes, and_no, zeros_part, verify_frame-tests}
use Rattle.image_verify.proofs.parts.Goals as goal
use Rattle.image_verify.proofs.parts.Goals.{then-zeros, else-zeros, then-entries, else-entries}

pub returns-then-end-start : goal.returns-then-end-start
returns-then-end-start c = rw (lt-leb (6 * c.args.tail.nodes + 16) c.args.tail.start (omega arith)) refl

pub returns-then-numbered : goal.returns-then-numbered
returns-then-numbered c =
    verify_frame-tests c.args.bytes.now c.args.tail c.zeros.result c.if-zeros.value c.if-entries.value c.exact.result
    (and_yes _ (le-leb _ _ (omega arith)) (zeros_part c.args.bytes.now (6 * c.args.tail.nodes) _ (omega arith) c.zeros.ensures))
    (elim c.if-zeros.branch [
      | then-zeros w ↦ and_yes _ w.if-zeros.true (w.value-is ∙ w.entries.ensures)
      | else-zeros w ↦ and_no _ w.if-zeros.false w.value-is
    ])
    (elim c.if-entries.branch [
      | then-entries w ↦ and_yes _ w.if-entries.true (w.value-is ∙ w.numbered.ensures)
      | else-entries w ↦ and_no _ w.if-entries.false w.value-is
    ])
    (and_yes (exact_on c.args.bytes.now c.args.tail.nodes c.args.tail.start) c.if-numbered.true
    (elim c.if-zeros.branch [
      | then-zeros w ↦ rw w.section-is at c.exact.ensures
      | else-zeros w ↦ rw w.section-is at c.exact.ensures
    ]))

pub returns-else-numbered : goal.returns-else-numbered
returns-else-numbered c =
    verify_frame-tests c.args.bytes.now c.args.tail c.zeros.result c.if-zeros.value c.if-entries.value c.if-entries.value
    (and_yes _ (le-leb _ _ (omega arith)) (zeros_part c.args.bytes.now (6 * c.args.tail.nodes) _ (omega arith) c.zeros.ensures))
    (elim c.if-zeros.branch [
      | then-zeros w ↦ and_yes _ w.if-zeros.true (w.value-is ∙ w.entries.ensures)
      | else-zeros w ↦ and_no _ w.if-zeros.false w.value-is
    ])
    (elim c.if-entries.branch [
      | then-entries w ↦ and_yes _ w.if-entries.true (w.value-is ∙ w.numbered.ensures)
      | else-entries w ↦ and_no _ w.if-entries.false w.value-is
    ])
    (and_no _ c.if-numbered.false refl)
