-- `image_verify::data::Section::entries` meets its contract. The loop's invariant: the entries from here on come to
-- what all come to. The measure is how many bytes are left.
-- Assumes nothing.
use native.Mathlib.Omega.{arith}
use mathlib.Core.Path.{refl, sym}
use Rattle.image_verify.proofs.StartsLaws.{read_on-nearer, entries_on_low, entries_on_next}
use Rattle.image_verify.proofs.data.Section.entries.Goals as goal

pub returns-then-number-low : goal.returns-then-number-low
returns-then-number-low c =
    let w = read_on-nearer _ _ _ _ _ (sym c.in-Some.ensures) in
    entries_on_low _ _ (omega arith) _ _ _ c.loop-x.invariant.1 (omega arith) _ c.in-Some.ensures _ _ refl c.if-number-low.true

pub loop-x-smaller : goal.loop-x-smaller
loop-x-smaller c = let w = read_on-nearer _ _ _ _ _ (sym c.in-Some.ensures) in omega arith

pub loop-x-preserved : goal.loop-x-preserved
loop-x-preserved c =
    let w = read_on-nearer _ _ _ _ _ (sym c.in-Some.ensures) in
    (w.inside, entries_on_next _ _ (omega arith) _ _ _ c.loop-x.invariant.1 (omega arith) _ c.in-Some.ensures _ _ refl c.if-number-low.false)
