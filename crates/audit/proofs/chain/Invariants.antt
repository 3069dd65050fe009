-- `audit::chain` meets its contract. The loop's invariant: the chain from here is the chain from the start.
-- Assumes nothing.
use Prim.Native.Nat.{◌-◌}
use mathlib.Core.Path.{◌≡◌}
use Rattle.audit.specs.Checking.{chain_on}
use Rattle.audit.proofs.chain.Given as goal

abbrev pub invariant-loop : goal.invariant-loop
invariant-loop l = chain_on l.table l.at (l.left - l.counter) ≡ chain_on l.table l.l l.left
