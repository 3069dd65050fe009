-- `audit::below` meets its contract: the tests are those of the definition, in its order, and below a node
-- there are fewer levels.
-- Assumes nothing.
use Prim.Native.Nat.{ℕ}
use native.Mathlib.Omega.{arith}
use borrow.Author.Rules.{rules}
use Rattle.records.proofs.LayoutLaws.{inside_tested}
use Rattle.audit.proofs.CheckingLaws.{Node, node_seen, node-fair}
use Rattle.audit.proofs.CheckingLaws.{below_on_end, below_on_many, below_on_outside, below_on_other, below_on-bad, below_on_right}
use Rattle.audit.proofs.+below.Goals as goal
use Rattle.audit.proofs.+below.Goals.{After-key_of-key, then-left-eq0-via-then-left-eq0, then-left-eq0-via-else-left-eq0+then-not-has_room}

pub returns-then-l-eq0 : goal.returns-then-l-eq0
returns-then-l-eq0 t c = below_on_end _ _ _ _ (search rules)

pub returns-then-left-eq0 : goal.returns-then-left-eq0
returns-then-left-eq0 t c =
    elim c.then-left-eq0.branch [
      | then-left-eq0-via-then-left-eq0 w ↦ below_on_many _ _ _ _ (search rules) (search rules)
      | then-left-eq0-via-else-left-eq0+then-not-has_room w ↦
          below_on_outside _ _ _ _ (search rules) (search rules) _ w.has_room.ensures (search rules)
    ]

pub read_record-r-requires : goal.read_record-r-requires
read_record-r-requires t c = inside_tested _ _ _ c.has_room.ensures (search rules)

pub returns-then-not-is_node : goal.returns-then-not-is_node
returns-then-not-is_node t c =
    below_on_other _ _ _ _ (search rules) (search rules) _ c.has_room.ensures _ c.read_record-r.ensures
    _ c.is_node.ensures (search rules) (search rules)

-- the node whose sides are counted
node : (t : ℕ) (c : After-key_of-key t) → Node c.args.table.now c.args.l c.args.at c.args.left c.read_record-r.result c.key_of-key.result
node t c =
    node_seen _ _ _ _ (search rules) (search rules) _ c.has_room.ensures _ c.read_record-r.ensures
    _ c.is_node.ensures (search rules) _ c.key_of-key.ensures (search rules) (search rules)

pub below-requires : goal.below-requires
below-requires t c =
    let w = node-fair _ _ _ _ _ _ (node t (goal.at.below-requires t c).After-key_of-key) in
    (omega arith, omega arith)

pub below-requires-2 : goal.below-requires-2
below-requires-2 t c =
    let w = node-fair _ _ _ _ _ _ (node t (goal.at.below-requires-2 t c).After-key_of-key) in
    (omega arith, omega arith)

pub returns-in_err-n : goal.returns-in_err-n
returns-in_err-n t c =
    rw c.from_residual.ensures (below_on-bad _ _ _ _ _ _ (node t (goal.at.returns-in_err-n t c).After-key_of-key) _ c.below.ensures c.in_err-n.was)

pub returns : goal.returns
returns t c =
    below_on_right _ _ _ _ _ _ (node t (goal.at.returns t c).After-key_of-key) _ c.below.ensures _ _ c.in_ok-n.was c.below-2.ensures
