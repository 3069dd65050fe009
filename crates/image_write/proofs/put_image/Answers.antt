-- `image_write::put_image` meets its contract: each part is written at its place, and none over another.
-- Assumes nothing.
use native.Mathlib.Omega.{arith}
use Rattle.image_write.proofs.ImageLaws.{room_parts, rooted-put, image-put}
use Rattle.image_write.proofs.put_image.Goals as goal

pub put_data-tail-requires : goal.put_data-tail-requires
put_data-tail-requires c = let f = c.requires in (f.map, f.holds, omega (arith, room_parts f))

pub put-requires : goal.put-requires
put-requires c =
    let f = c.requires in
    omega (arith, room_parts f, (c.put_data-tail.ensures f.map f.holds).room)

pub put_tree-requires : goal.put_tree-requires
put_tree-requires c =
    let f = c.requires in
    rooted-put f (λ i. (c.type_inv.table i).fits) (c.put_data-tail.ensures f.map f.holds) c.put.ensures

pub put_tail-requires : goal.put_tail-requires
put_tail-requires c =
    let f = c.requires in
    let d = c.put_data-tail.ensures f.map f.holds in
    omega (arith, room_parts f, d.room, d.end, c.put.ensures.room, c.put_tree.auto.out)

pub returns : goal.returns
returns c f =
    image-put f (λ i. (c.type_inv.table i).fits) (c.put_data-tail.ensures f.map f.holds) c.put.ensures
    c.put_tree.ensures c.put_tail.ensures
