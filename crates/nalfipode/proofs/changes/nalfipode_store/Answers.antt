-- `nalfipode::changes::nalfipode_store` meets its contract: the count of nodes fits a C number.
-- Assumes nothing.
use native.Mathlib.Omega.{arith}
use Rattle.nalfipode.proofs.CountsLaws.{store_few, given_few, refused_few}
use Rattle.nalfipode.proofs.changes.nalfipode_store.Goals as goal

pub overflow_cast-nodes : goal.overflow_cast-nodes
overflow_cast-nodes c = let few = given_few (store_few c.store.ensures) c.in-Ok.is in omega (arith, few)

pub overflow_cast-values : goal.overflow_cast-values
overflow_cast-values c = let few = refused_few (store_few c.store.ensures) c.in-Err.is c.nodes.ensures in omega (arith, few)
