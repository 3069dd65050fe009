-- `lookup::descent::turn_at` meets its contract: each test passed is one thing known of the node.
-- Assumes nothing.
use Prim.Native.Nat.{ℕ, ◌≤◌}
use native.Mathlib.Omega.{arith}
use mathlib.Core.Path.{◌≡◌}
use mathlib.Core.Bool.{cond}
use lib.Dec.{eqb}
use borrow.Author.Rules.{rules}
use borrow.Author.Tests.{eq-eqb, ne_eqb}
use Rattle.lookup.specs.Descending.{Passed}
use Rattle.lookup.proofs.DescentLaws.{whole_room, passed-turn}
use Rattle.lookup.proofs.descent.turn_at.Goals as goal
use Rattle.lookup.proofs.descent.turn_at.Goals.{After-parting-x}

passes : (c : After-parting-x) (link : ℕ) → c.parting-x.result ≤ 1 → link ≡ cond (eqb c.parting-x.result 1) c.right_at-right.result c.left_at-left.result
    → Passed c.args.table.now c.args.k c.args.at c.args.low c.tag_at-tag.result link
passes c link h e =
    let room = whole_room c.args.table.now c.args.at c.requires.0 c.requires.1 (search rules) in
    passed-turn _ _ _ _ _ c.requires.1 room _ _ _ _ _ (search rules) c.tag_at-tag.ensures
    c.left_at-left.ensures c.right_at-right.ensures c.high_at.ensures c.high.ensures
    c.parting-x.ensures (search rules) (omega (arith, c.min.ensures)) h _ e

pub returns-then-x-eq1 : goal.returns-then-x-eq1
returns-then-x-eq1 c = passes (goal.at.returns-then-x-eq1 c).After-parting-x _ (search rules) (rw (eq-eqb _ _ c.if-x-eq1.true))

pub returns-else-x-eq1 : goal.returns-else-x-eq1
returns-else-x-eq1 c = passes (goal.at.returns-else-x-eq1 c).After-parting-x _ (search rules) (rw (ne_eqb _ _ c.if-x-eq1.false))
