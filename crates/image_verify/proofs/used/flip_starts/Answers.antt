-- `image_verify::used::flip_starts` meets its contract. The loop's invariant: with the starts from here on
-- turned over too, the marks are what they must become. The measure is how many bytes are left.
-- Assumes nothing.
use native.Mathlib.Omega.{arith}
use borrow.Author.Rules.{rules}
use Rattle.image_verify.proofs.StartsLaws.{next-nearer}
use Rattle.image_verify.proofs.StretchLaws.{flipping_next, flipping_end}
use Rattle.image_verify.proofs.used.flip_starts.Goals as goal

pub loop-at-smaller : goal.loop-at-smaller
loop-at-smaller c =
    let w = next-nearer _ _ _ _ (omega arith) c.after-at.ensures in
    omega arith

pub loop-at-preserved : goal.loop-at-preserved
loop-at-preserved c =
    let a = c.args in
    let w = next-nearer a.section.now.bytes.now c.loop-at.at a.section.now.end c.after-at.result (omega arith) c.after-at.ensures in (
      omega arith,
      w.inside,
      flipping_next a.section.now.bytes.now a.first a.section.now.end a.span.base a.span.stop a.marks.now (search rules) (search rules) c.loop-at.at
          (search rules) _ _ _ (search rules) c.loop-at.invariant.2
          c.flip.ensures
          c.after-at.ensures,
    )

pub returns : goal.returns
returns c = flipping_end _ _ _ _ _ _ _ _ (search rules) (search rules) (search rules) c.loop-at.invariant.2
