-- `image_data::Runs::offset_of` meets its contract: a number below 2 ^ 32 has at most four bytes, its run lies
-- in the section, and its place in the run gives the offset.
-- Assumes nothing.
use Prim.Native.Nat.{◌+◌, ◌*◌, ◌≤◌}
use native.Mathlib.Omega.{arith}
use borrow.Author.Rules.{rules}
use Rattle.image.proofs.LengthLaws.{length_short_below}
use Rattle.image_data.specs.Runs.{Offset}
use Rattle.image_data.proofs.RunsLaws.{run-le}
use Rattle.image_data.proofs.PlaceLaws.{offset-placed}
use Rattle.image_data.proofs.Runs.offset_of.Goals as goal
use Rattle.image_data.proofs.Runs.offset_of.Goals.{After-bytes_in-s, After-place_in-i}

few : (c : After-bytes_in-s) → c.bytes_in-s.result ≤ 4
few c = omega (arith, length_short_below 4 c.args.z (omega arith) (search rules))

-- what the place in the run gives
offset : (c : After-place_in-i) → Offset c.args.bytes.now c.args.base c.args.self c.args.z (c.start-start.result + (c.bytes_in-s.result + 1) * c.place_in-i.result)
offset c =
    offset-placed _ _ _ _ _ _ _ (search rules) (omega (arith, length_short_below 4 c.args.z (omega arith) (search rules))) (search rules)
    c.place_in-i.ensures

pub returns : goal.returns
returns c = offset (goal.at.returns c).After-place_in-i

pub start-start-requires : goal.start-start-requires
start-start-requires c = omega (arith, few (goal.at.start-start-requires c).After-bytes_in-s)

pub bounds-self-s : goal.bounds-self-s
bounds-self-s c = omega (arith, few (goal.at.bounds-self-s c).After-bytes_in-s)

pub overflow_add-base : goal.overflow_add-base
overflow_add-base c =
    let s = few (goal.at.overflow_add-base c).After-bytes_in-s in
    omega (arith, run-le c.args.self c.bytes_in-s.result s)

pub place_in-i-requires : goal.place_in-i-requires
place_in-i-requires c =
    let s = few (goal.at.place_in-i-requires c).After-bytes_in-s in
    (s, omega (arith, run-le c.args.self c.bytes_in-s.result s))

pub overflow_add-result-2 : goal.overflow_add-result-2
overflow_add-result-2 c = omega (arith, (offset (goal.at.overflow_add-result-2 c).After-place_in-i).within)

pub overflow_cast-result : goal.overflow_cast-result
overflow_cast-result c = omega (arith, (offset (goal.at.overflow_cast-result c).After-place_in-i).within)
