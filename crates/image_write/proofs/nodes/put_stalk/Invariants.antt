-- `image_write::nodes::put_stalk` meets its contract. The loop's invariant: what is left to write from
-- here, once it is written, gives what was to be written from the start.
-- Assumes nothing.
use Rattle.std.proofs.Common.{◌≡◌, ◌+◌, ◌-◌, ◌*◌, drop}
use Rattle.std.proofs.lemmas.List.Edits.{sets}
use Rattle.prefix.specs.Keys.{string_of}
use Rattle.image_write.specs.Stalks.{stalk_bytes}
use Rattle.image_write.proofs.nodes.put_stalk.Given as goal

abbrev pub invariant-loop-i : goal.invariant-loop-i
invariant-loop-i l =
    sets l.out (6 * (l.next + (l.i - l.a))) (stalk_bytes (drop l.i (string_of l.k)) (l.next + (l.i - l.a)) l.above l.tip)
    ≡ sets l.initial.out (6 * l.next) (stalk_bytes (drop l.a (string_of l.k)) l.next l.above l.tip)
