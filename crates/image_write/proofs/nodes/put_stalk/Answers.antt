-- `image_write::nodes::put_stalk` meets its contract: each step's node is the next of the way.
-- Assumes nothing.
use Rattle.std.proofs.Common.{◌≡◌, ◌+◌, ◌-◌, cond, rules, arith, ltb}
use borrow.Author.Tests.{lt-ltb, le-ltb}
use Rattle.prefix.specs.Keys.{string_of}
use Rattle.prefix.proofs.KeysLaws.{length-string_of}
use Rattle.image_write.proofs.StalkLaws.{stalk_step, put-stalk-promise}
use Rattle.image_write.proofs.nodes.put_stalk.Goals as goal
use Rattle.image_write.proofs.nodes.put_stalk.Goals.{then-i-w, else-i-w}

pub loop-i-init : goal.loop-i-init
loop-i-init c = let none : c.args.next + (c.args.a - c.args.a) ≡ c.args.next = omega arith in rw none

pub loop-i-preserved : goal.loop-i-preserved
loop-i-preserved c =
    let i = c.loop-i.i in
    let at = c.args.next + (i - c.args.a) in
    let next : c.args.next + (i + 1 - c.args.a) ≡ at + 1 = omega arith in
    let on : c.if-i-w.on ≡ cond (ltb (i + 1) c.args.k.width) (at + 1) c.args.tip =
    elim c.if-i-w.branch [ then-i-w w ↦ rw (w.on-is, lt-ltb _ _ w.if-i-w.true) | else-i-w w ↦ rw (w.on-is, le-ltb _ _ w.if-i-w.false) ] in
    rw next
    (stalk_step (string_of c.args.k) _ i at _ _ _ _ c.loop-i.out _ _ (length-string_of c.args.k (search rules)) (search rules) c.bit.ensures on
    c.loop-i.invariant c.put_step.ensures)

pub returns-then-a-w : goal.returns-then-a-w
returns-then-a-w c =
    put-stalk-promise (string_of c.args.k) _ c.args.a c.loop-i.i c.args.next _ c.args.above c.args.tip _ _ _
    (length-string_of c.args.k (search rules)) (search rules) c.loop-i.invariant (rw (lt-ltb _ _ c.if-a-w.true))

pub returns-else-a-w : goal.returns-else-a-w
returns-else-a-w c =
    put-stalk-promise (string_of c.args.k) _ c.args.a c.loop-i.i c.args.next _ c.args.above c.args.tip _ _ _
    (length-string_of c.args.k (search rules)) (search rules) c.loop-i.invariant (rw (le-ltb _ _ c.if-a-w.false))
