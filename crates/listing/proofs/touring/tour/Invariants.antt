-- `listing::touring::tour` meets its contract. The loop's invariant: the tour from here is the tour from the
-- start, no more entries are given than asked for, no more nodes passed than the table has records, and the
-- output keeps its length.
-- Assumes nothing.
use Prim.Native.Nat.{◌-◌, ◌≤◌}
use mathlib.Core.Path.{◌≡◌}
use lib.ListN.{length}
use Rattle.listing.specs.Touring.{tour_on, tour_from}
use Rattle.listing.proofs.touring.tour.Given as goal

abbrev pub invariant-loop-count : goal.invariant-loop-count
invariant-loop-count l =
    record {
      given_few : l.given ≤ l.size;
      passed_few : l.count ≤ l.budget;
      length_is : length l.out ≡ length l.initial.out;
      same :
          tour_on (l.budget - l.count) l.table l.size l.next l.links.depth l.links.open l.out l.given l.count
          ≡ tour_from l.table l.size l.start l.initial.links.depth l.initial.links.open l.initial.out;
    }
