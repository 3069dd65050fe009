-- `image_write::measure::count_below` meets its contract: the node's own part of the trie is the way to it
-- and a fork, and what hangs on its sides is counted by the same function.
-- Assumes nothing.
use Prim.Native.Nat.{ℕ, ◌+◌, ◌-◌, ◌*◌, ◌/◌, ◌≤◌}
use native.Mathlib.Omega.{arith}
use borrow.Author.Rules.{rules}
use Rattle.image_write.proofs.PartLaws.{inside-hangs}
use Rattle.image_write.proofs.CountLaws.{counts-tip, counts_end, counts-fork, part_low, part_high, part_left, part_right, counts_fit}
use Rattle.image_write.proofs.measure.+count_below.Goals as goal
use Rattle.image_write.proofs.measure.+count_below.Goals.{After-count_below-y}

pub returns-then-l-eq0 : goal.returns-then-l-eq0
returns-then-l-eq0 t c = counts-tip _ _ _ (search rules)

pub read_record-r-requires : goal.read_record-r-requires
read_record-r-requires t c = inside-hangs _ _ _ _ c.requires.hangs (search rules)

pub overflow_sub-way : goal.overflow_sub-way
overflow_sub-way t c = part_low _ _ _ (search rules) _ c.read_record-r.ensures c.requires

pub returns-then-both_end : goal.returns-then-both_end
returns-then-both_end t c = counts_end _ _ _ (search rules) _ c.read_record-r.ensures _ c.both_end.ensures (search rules)

pub count_below-x-requires : goal.count_below-x-requires
count_below-x-requires t c =
    let low = part_low _ _ _ (search rules) _ c.read_record-r.ensures c.requires in
    let high = part_high _ _ _ (search rules) _ c.read_record-r.ensures c.requires in
    (omega arith, part_left _ _ _ (search rules) _ c.read_record-r.ensures c.requires)

pub count_below-y-requires : goal.count_below-y-requires
count_below-y-requires t c =
    let low = part_low _ _ _ (search rules) _ c.read_record-r.ensures c.requires in
    let high = part_high _ _ _ (search rules) _ c.read_record-r.ensures c.requires in
    (omega arith, part_right _ _ _ (search rules) _ c.read_record-r.ensures c.requires)

-- all that is added at the end
fit : (t : ℕ) (c : After-count_below-y t)
    → c.read_record-r.result.tag / 2 - c.args.a + 1 + c.count_below-x.result + c.count_below-y.result ≤ 129 * 65535
fit t c =
    counts_fit _ _ _ (search rules) _ c.read_record-r.ensures c.requires _ _ c.count_below-x.ensures c.count_below-y.ensures

pub overflow_add-result-2 : goal.overflow_add-result-2
overflow_add-result-2 t c = omega (arith, fit t (goal.at.overflow_add-result-2 t c).After-count_below-y)

pub overflow_add-result-3 : goal.overflow_add-result-3
overflow_add-result-3 t c = omega (arith, fit t (goal.at.overflow_add-result-3 t c).After-count_below-y)

pub returns : goal.returns
returns t c =
    counts-fork _ _ _ (search rules) _ c.read_record-r.ensures _ _ c.count_below-x.ensures c.count_below-y.ensures
    _ c.both_end.ensures (search rules)
