-- `nalfipode::reads::nalfipode_longest_match` meets its contract: the count of nodes fits a C number.
-- Assumes nothing.
use native.Mathlib.Omega.{arith}
use Rattle.nalfipode.proofs.CountsLaws.{longest_few, given_few}
use Rattle.nalfipode.proofs.reads.nalfipode_longest_match.Goals as goal

pub overflow_cast-nodes : goal.overflow_cast-nodes
overflow_cast-nodes c = let few = given_few (longest_few c.longest_match.ensures) c.in-Ok.is in omega (arith, few)
