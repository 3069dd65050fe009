-- `nalfipode::reads::nalfipode_fetch` meets its contract: the count of nodes fits a C number.
-- Assumes nothing.
use native.Mathlib.Omega.{arith}
use Rattle.nalfipode.proofs.CountsLaws.{fetch_few, given_few, refused_few}
use Rattle.nalfipode.proofs.reads.nalfipode_fetch.Goals as goal

pub overflow_cast-values : goal.overflow_cast-values
overflow_cast-values c = let few = given_few (fetch_few c.fetch.ensures) c.in-Ok.is in omega (arith, few)

pub overflow_cast-values-in-Err : goal.overflow_cast-values-in-Err
overflow_cast-values-in-Err c = let few = refused_few (fetch_few c.fetch.ensures) c.in-Err.is c.nodes.ensures in omega (arith, few)
