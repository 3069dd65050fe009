-- `metadata::number_at` meets its contract. The loop's invariant: v is the number of the bytes before.
-- Assumes nothing.
use Prim.Native.Nat.{◌+◌, ◌-◌, ◌<◌}
use native.Mathlib.Omega.{arith}
use mathlib.Core.Path.{◌≡◌, ap}
use lib.Dec.{lit<}
use lib.ListN.{take, drop, get_or, length-take}
use Rattle.metadata.proofs.WritingLaws.{value_of_next, next-lt, next_fits, number-at}
use Rattle.metadata.proofs.number_at.Goals as goal

pub overflow_mul-v : goal.overflow_mul-v
overflow_mul-v c =
    let few : c.loop-b.b-index < c.args.n = omega (arith, length-take (c.args.at + c.args.n - c.args.at) (drop c.args.at c.args.bytes.now)) in
    omega (arith, next_fits c.loop-b.v 0 c.loop-b.b-index c.args.n c.loop-b.invariant.1 (lit< tt) few c.requires.0)

pub overflow_add-v : goal.overflow_add-v
overflow_add-v c =
    let part = take (c.args.at + c.args.n - c.args.at) (drop c.args.at c.args.bytes.now) in
    let few : c.loop-b.b-index < c.args.n = omega (arith, length-take (c.args.at + c.args.n - c.args.at) (drop c.args.at c.args.bytes.now)) in
    let byte : get_or part c.loop-b.b-index 0 < 256 = omega arith in
    omega (arith, next_fits c.loop-b.v (get_or part c.loop-b.b-index 0) c.loop-b.b-index c.args.n c.loop-b.invariant.1 byte few c.requires.0)

pub loop-b-preserved : goal.loop-b-preserved
loop-b-preserved c =
    let i = c.loop-b.b-index in
    let part = take (c.args.at + c.args.n - c.args.at) (drop c.args.at c.args.bytes.now) in
    let byte : get_or part i 0 < 256 = omega arith in
    let next = value_of_next part i c.loop-b-test.true in
    (omega (arith, next, c.loop-b.invariant.0), next-lt _ _ _ c.loop-b.invariant.1 byte)

pub returns : goal.returns
returns c =
    let e : c.args.at + c.args.n - c.args.at ≡ c.args.n = omega arith in
    number-at _ _ _ _ _ _ (ap (λ k. take k (drop c.args.at c.args.bytes.now)) e) c.requires.1 (omega arith) c.loop-b.invariant.0 c.loop-b.invariant.1
