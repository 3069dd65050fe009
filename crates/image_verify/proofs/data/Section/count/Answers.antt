-- `image_verify::data::Section::count` meets its contract. The loop's invariant: those counted and those from
-- here on are all, and no more are counted than bytes passed. The measure is how many bytes are left.
-- Assumes nothing.
use native.Mathlib.Omega.{arith}
use mathlib.Core.Path.{refl, sym}
use Rattle.image_verify.proofs.StartsLaws.{read_on-nearer}
use Rattle.image_verify.proofs.DescribingLaws.{entry_count_next}
use Rattle.image_verify.proofs.data.Section.count.Goals as goal

pub loop-x-smaller : goal.loop-x-smaller
loop-x-smaller c = let w = read_on-nearer _ _ _ _ _ (sym c.in-Some.ensures) in omega arith

pub loop-x-preserved : goal.loop-x-preserved
loop-x-preserved c =
    let w = read_on-nearer _ _ _ _ _ (sym c.in-Some.ensures) in
    (omega arith, w.inside, entry_count_next _ _ (omega arith) _ _ _ c.loop-x.invariant.2 (omega arith) _ c.in-Some.ensures _ _ refl)
