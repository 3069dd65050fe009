-- `listing::touring::put_entry` meets its contract: a stored node's six words are written one by one, which
-- leaves the length, and a branch writes none.
-- Assumes nothing.
use native.Mathlib.Omega.{arith}
use lib.ListN.{length-set}
use borrow.Author.Rules.{rules}
use Rattle.listing.specs.Touring.{entry_set}
use Rattle.listing.proofs.TourOnLaws.{entry_put_branch, entry_put_stored}
use Rattle.listing.proofs.touring.put_entry.Goals as goal

pub returns-then-r-eq0 : goal.returns-then-r-eq0
returns-then-r-eq0 c = entry_put_branch _ _ _ (search rules)

pub returns : goal.returns
unfolding entry_set
returns c = entry_put_stored _ _ _ (search rules)

pub bounds-out-at-2 : goal.bounds-out-at-2
bounds-out-at-2 c = simp length-set (omega arith)

pub bounds-out-at-3 : goal.bounds-out-at-3
bounds-out-at-3 c = simp length-set (omega arith)

pub bounds-out-at-4 : goal.bounds-out-at-4
bounds-out-at-4 c = simp length-set (omega arith)

pub bounds-out-at-5 : goal.bounds-out-at-5
bounds-out-at-5 c = simp length-set (omega arith)

pub bounds-out-at-6 : goal.bounds-out-at-6
bounds-out-at-6 c = simp length-set (omega arith)
