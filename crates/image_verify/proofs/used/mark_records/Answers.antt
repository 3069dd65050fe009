-- `image_verify::used::mark_records` meets its contract. The loop's invariant: what the first j records
-- mean is marked.
-- Assumes nothing.
use native.Mathlib.Omega.{arith}
use Rattle.image_verify.proofs.StretchLaws.{used-none, used_next, used_all}
use Rattle.image_verify.proofs.used.mark_records.Goals as goal

pub loop-j-init : goal.loop-j-init
loop-j-init c = used-none c.args.bytes.now c.args.n _ _ _ (omega arith)

pub loop-j-preserved : goal.loop-j-preserved
loop-j-preserved c =
    used_next _ c.args.n c.args.span.base c.args.span.stop _ c.loop-j.j _ _ c.record_at-r.result (omega arith)
    c.loop-j.invariant c.record_at-r.ensures.number c.mark_inside.ensures

pub returns : goal.returns
returns c = used_all _ c.args.n c.args.span.base c.args.span.stop _ c.loop-j.j _ (omega arith) c.loop-j.invariant
