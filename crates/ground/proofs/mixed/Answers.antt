-- `ground::mixed` meets its contract: bits in turn are the bits of each after zeros, c's one place up.
-- Assumes nothing.
use native.Mathlib.Omega.{arith}
use borrow.Author.Rules.{rules}
use Rattle.ground.proofs.CellsLaws.{value-turns-lt, value-turns-spread}
use Rattle.ground.proofs.mixed.Goals as goal

pub returns : goal.returns
returns c =
    value-turns-spread 16 c.args.c c.args.r (search rules) (search rules)

pub overflow_mul-result : goal.overflow_mul-result
overflow_mul-result c =
    omega (arith, returns c, value-turns-lt 16 c.args.c c.args.r)

pub overflow_add-result : goal.overflow_add-result
overflow_add-result c =
    omega (arith, returns c, value-turns-lt 16 c.args.c c.args.r)
