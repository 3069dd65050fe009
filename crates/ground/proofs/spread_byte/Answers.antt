-- `ground::spread_byte` meets its contract: what 8 bits spread to is what their two halves spread to, joined.
-- Assumes nothing.
use native.Mathlib.Omega.{arith}
use borrow.Author.Rules.{rules}
use Rattle.ground.proofs.CellsLaws.{value-turns-lt, value-turns-join}
use Rattle.ground.proofs.spread_byte.Goals as goal

pub returns : goal.returns
returns c = value-turns-join 4 4 0 c.args.x (search rules) (search rules)

pub overflow_mul-result : goal.overflow_mul-result
overflow_mul-result c = omega (arith, returns c, value-turns-lt 8 0 c.args.x)

pub overflow_add-result : goal.overflow_add-result
overflow_add-result c = omega (arith, returns c, value-turns-lt 8 0 c.args.x)
