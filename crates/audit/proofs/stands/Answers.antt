-- `audit::stands` meets its contract: under a node the key is wider, begins as the node's key does, and has the
-- bit of the side next.
-- Assumes nothing.
use native.Mathlib.Omega.{arith}
use mathlib.Core.Path.{refl, sym, ◌∙◌}
use mathlib.Core.Bool.{true, false}
use borrow.Author.Rules.{rules}
use borrow.Author.Tests.{ltb-true}
use Rattle.audit.proofs.CheckingLaws.{stands_top, stands-under, stands_short}
use Rattle.audit.proofs.stands.Goals as goal
use Rattle.audit.proofs.stands.Goals.{then-p-k, else-p-k}

pub returns-in-None : goal.returns-in-None
returns-in-None c = stands_top _ _ c.in-None.is

pub returns-then-begins : goal.returns-then-begins
returns-then-begins c =
    elim c.if-p-k.branch [
      | then-p-k w ↦
          stands-under _ _ (search rules) (search rules) _ c.in-Some.is true _ (search rules) (sym c.if-begins.true ∙ w.value-is ∙ w.begins.ensures)
          c.bit.ensures
      | else-p-k w ↦ absurd (omega (arith, ltb-true _ _ (sym w.value-is ∙ c.if-begins.true)))
    ]

pub returns-else-begins : goal.returns-else-begins
returns-else-begins c =
    elim c.if-p-k.branch [
      | then-p-k w ↦
          c.if-begins.false
          ∙ stands-under _ _ (search rules) (search rules) _ c.in-Some.is false _ (search rules) (sym c.if-begins.false ∙ w.value-is ∙ w.begins.ensures) refl
      | else-p-k w ↦ c.if-begins.false ∙ stands_short _ _ (search rules) (search rules) _ c.in-Some.is (search rules)
    ]
