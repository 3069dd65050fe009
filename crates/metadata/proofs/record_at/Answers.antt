-- `metadata::record_at` meets its contract: three bytes, each below 256, are one number.
-- Assumes nothing.
use Prim.Native.Nat.{◌+◌, ◌*◌}
use mathlib.Core.Path.{◌≡◌}
use native.Mathlib.Omega.{arith}
use lib.ListN.{get_or}
use Rattle.metadata.proofs.WritingLaws.{number_at_three}
use Rattle.metadata.proofs.record_at.Goals as goal

pub returns : goal.returns
returns c =
    let byte = c.type_inv.bytes in
    let bs = c.args.bytes.now in
    let at = c.args.at in
    let e : c.from_be_bytes.result ≡ (get_or bs at 0 * 256 + get_or bs (at + 1) 0) * 256 + get_or bs (at + 2) 0 = omega (arith, c.from_be_bytes.ensures) in
    rw e (number_at_three _ _ c.requires (omega (arith, byte at)) (omega (arith, byte (at + 1))) (omega (arith, byte (at + 2))))
