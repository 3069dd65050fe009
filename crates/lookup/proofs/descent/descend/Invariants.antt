-- `lookup::descent::descend` meets its contract. The loop's invariant is the contract's: the walk from the top
-- comes to what the walk from here does. The measure is how many of 64 bits the next node need not share.
-- Assumes nothing.
use Prim.Native.Nat.{◌-◌}
use Rattle.lookup.specs.Descending.{Reached}
use Rattle.lookup.proofs.descent.descend.Given as goal

abbrev pub invariant-loop-x : goal.invariant-loop-x
invariant-loop-x g l = Reached g.N.Note.noted l.table l.k l.initial.widths (g.N.Note.nodes l.note) l.d l.widths

abbrev pub decreases-loop-x : goal.decreases-loop-x
decreases-loop-x g l = 64 - l.d.low
