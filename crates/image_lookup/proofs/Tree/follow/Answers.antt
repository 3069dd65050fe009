-- `image_lookup::Tree::follow` meets its contract. The loop's invariant: the walk by the bits left, from the node
-- here, is the walk from the start.
-- Assumes nothing.
use native.Mathlib.Omega.{arith}
use mathlib.Core.Path.{◌∙◌}
use Rattle.image_lookup.proofs.ReadingLaws.{follow_on_next, follow_on-stop, follow_on_end}
use Rattle.image_lookup.proofs.Tree.follow.Goals as goal

pub returns-then-self-r : goal.returns-then-self-r
returns-then-self-r c =
    follow_on-stop _ _ _ c.loop-i.i c.args.word _ (omega arith) c.record_at-r.ensures.number (omega arith) ∙ c.loop-i.invariant.2

pub loop-i-preserved : goal.loop-i-preserved
loop-i-preserved c =
    let next = follow_on_next _ _ _ c.loop-i.i c.args.word _ (omega arith) c.record_at-r.ensures.number (omega arith) in
    (omega arith, omega arith, next ∙ c.loop-i.invariant.2)

pub returns : goal.returns
returns c = follow_on_end _ _ _ c.loop-i.i c.args.word (omega arith) ∙ c.loop-i.invariant.2
