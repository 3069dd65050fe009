-- `metadata::frame` meets its contract: what is compared is the tail that `put_tail` writes.
-- Assumes nothing.
use native.Mathlib.Omega.{arith}
use mathlib.Core.Path.{sym, ◌∙◌}
use lib.ListN.{length-take}
use lib.Seq.{take-length}
use Rattle.std.proofs.lemmas.List.{take_rest}
use Rattle.metadata.proofs.ReadingLaws.{tail-room, tail_fits, frame_on_same, frame_on-differ, frame_on-none}
use Rattle.metadata.proofs.frame.Goals as goal

pub returns-in_err-x : goal.returns-in_err-x
returns-in_err-x c = rw c.from_residual.ensures (frame_on-none _ (sym c.in_err-x.ensures.value))

pub put_tail-end-requires : goal.put_tail-end-requires
put_tail-end-requires c = omega (arith, tail-room c.in_ok-x.x.count c.number_at-epoch.result (omega arith))

pub slice_bounds-written-end : goal.slice_bounds-written-end
slice_bounds-written-end c = let fits = tail_fits _ _ c.put_tail-end.ensures (omega arith) in simp length-take (omega arith)

pub returns-then-eq : goal.returns-then-eq
returns-then-eq c =
    frame_on_same _ c.in_ok-x.x (sym c.in_ok-x.ensures.value) c.number_at-epoch.ensures.number c.put_tail-end.ensures (omega arith) (omega arith)
    (simp (take_rest, take-length)) (sym c.eq.ensures ∙ c.if-eq.true)

pub returns : goal.returns
returns c =
    frame_on-differ _ c.in_ok-x.x (sym c.in_ok-x.ensures.value) c.number_at-epoch.ensures.number c.put_tail-end.ensures (omega arith) (omega arith)
    (simp (take_rest, take-length)) (sym c.eq.ensures ∙ c.if-eq.false)
