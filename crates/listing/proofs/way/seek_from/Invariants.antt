-- `listing::way::seek_from` meets its contract. The loop's invariant: the way from here is the way from the
-- top, there are no more nodes than bits that the next one must share, and no more open links than nodes. The
-- measure is how many of 129 these bits lack.
-- Assumes nothing.
use Prim.Native.Nat.{◌-◌, ◌≤◌}
use mathlib.Core.Path.{◌≡◌}
use Rattle.listing.specs.Touring.{seek_on, seek_from}
use Rattle.listing.proofs.way.seek_from.Given as goal

abbrev pub invariant-loop-next : goal.invariant-loop-next
invariant-loop-next l =
    record {
      found_few : l.found ≤ l.low;
      low_few : l.low ≤ 129;
      open_few : l.links.depth ≤ l.found;
      same : seek_on (130 - l.found) l.table l.k.prefix l.next l.low l.found l.links.open l.links.depth ≡ seek_from l.table l.k.prefix l.root l.initial.links.open;
    }

abbrev pub decreases-loop-next : goal.decreases-loop-next
decreases-loop-next l = 129 - l.low
