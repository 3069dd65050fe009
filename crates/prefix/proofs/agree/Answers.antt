-- `prefix::agree` meets its contract: by the first halves, or by the second where the first are the same.
-- Assumes nothing.
use native.Mathlib.Omega.{arith}
use borrow.Author.Rules.{rules}
use Rattle.prefix.proofs.HalvesLaws.{common_most, agree_high, agree_low}
use Rattle.prefix.proofs.agree.Goals as goal

pub returns-then-n-lt64 : goal.returns-then-n-lt64
returns-then-n-lt64 c =
    agree_high _ _ _ _ c.high.ensures c.high-2.ensures _ c.same_top-n.ensures (search rules)

pub overflow_add-result : goal.overflow_add-result
overflow_add-result c = omega (arith, c.same_top.ensures, common_most c.low.result c.low-2.result)

pub returns : goal.returns
returns c =
    agree_low _ _ _ _ c.high.ensures c.high-2.ensures _ _ _ c.low.ensures c.low-2.ensures
    (omega (arith, c.same_top-n.ensures)) c.same_top.ensures
