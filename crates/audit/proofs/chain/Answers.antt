-- `audit::chain` meets its contract: each turn is a step of the definition.
-- Assumes nothing.
use Prim.Native.Nat.{◌+◌, ◌-◌}
use native.Mathlib.Omega.{arith}
use borrow.Author.Rules.{rules}
use Rattle.records.proofs.LayoutLaws.{inside_tested}
use Rattle.audit.proofs.CheckingLaws.{chain_on_end, chain_on_outside, chain_on_other, chain_on_next}
use Rattle.audit.proofs.chain.Goals as goal

pub returns-then-not-has_room : goal.returns-then-not-has_room
returns-then-not-has_room c =
    chain_on_outside _ _ _ _ c.loop.invariant (c.args.left - (c.loop.counter + 1)) (omega arith) _ c.has_room.ensures (search rules)

pub read_record-r-requires : goal.read_record-r-requires
read_record-r-requires c = inside_tested _ _ _ c.has_room.ensures (search rules)

pub returns-then-r : goal.returns-then-r
returns-then-r c =
    chain_on_other _ _ _ _ c.loop.invariant (c.args.left - (c.loop.counter + 1)) (omega arith) _ c.has_room.ensures
    _ c.read_record-r.ensures (search rules) (search rules)

pub loop-preserved : goal.loop-preserved
loop-preserved c =
    chain_on_next _ _ _ _ c.loop.invariant (c.args.left - (c.loop.counter + 1)) (omega arith) _ c.has_room.ensures
    _ c.read_record-r.ensures (search rules) (search rules)

pub returns : goal.returns
returns c = chain_on_end _ _ _ _ c.loop.invariant (omega arith)
