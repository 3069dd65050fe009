-- `image_verify::used::exact` meets its contract. The loop's invariant: up to `base` records and entries
-- agree, and nothing is marked. The measure is how many bytes are left.
-- Assumes nothing.
use mathlib.Core.Path.{refl}
use borrow.Author.Rules.{rules}
use Rattle.image_verify.proofs.CoveredLaws.{covered_start, covered_next, uncovered, exact_on_yes}
use Rattle.image_verify.proofs.used.exact.Goals as goal

pub loop-base-init : goal.loop-base-init
loop-base-init c = covered_start _ _ _ 4096 refl (search rules)

pub returns-then-not-blank : goal.returns-then-not-blank
returns-then-not-blank c =
    let b = c.blank.ensures.some c.if-not-blank.true in
    uncovered _ _ _ _ _ _ _ _ _ _ c.loop-base.invariant (search rules) c.mark_records.ensures c.flip_starts-at.ensures b.0 b.1

pub loop-base-preserved : goal.loop-base-preserved
loop-base-preserved c =
    covered_next _ _ _ _ _ _ _ _ _ _ c.loop-base.invariant (search rules) c.mark_records.ensures c.flip_starts-at.ensures (search rules)
    (c.blank.ensures.none c.if-not-blank.false)

pub returns : goal.returns
returns c = exact_on_yes _ _ _ _ _ _ c.loop-base.invariant (search rules)
