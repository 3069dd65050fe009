-- The laws of the end of an image of a list: its node count and its epoch are found there. No contract cites
-- this file.
-- Assumes nothing.
use Prim.Native.Nat.{ℕ, ◌+◌, ◌*◌, ◌<◌}
use native.Mathlib.Omega.{arith}
use mathlib.Core.Path.{◌≡◌, ap, ◌∙◌}
use mathlib.Core.List.{List, ◌++◌, append_assoc}
use lib.ListN.{length, replicate, length-append, length-replicate}
use Rattle.std.specs.Prelude.{Some}
use Rattle.zones.specs.Maps.{Map}
use Rattle.image.specs.Bytes.{short}
use Rattle.image.specs.Image.{size24, Fork, forks_of, zones_of, data_of, tree_bytes, image_of, image, IsImage}
use Rattle.image.proofs.LengthLaws.{length-tree_bytes}
use Rattle.image.proofs.NodeCountLaws.{length-forks_of_pos, length-forks_of-fits}
use Rattle.metadata.specs.Frames.{tail_of, count_on, frame_on}
use Rattle.metadata.proofs.FramesLaws.{count_on-tail, frame_on-tail}

-- the search tree, 16 zero bytes and the data section
unfoldable pub front_of : List Fork → List ℕ
front_of fs = tree_bytes size24 (length fs) (zones_of fs) fs ++ (replicate 16 0 ++ data_of (zones_of fs))

pub length-front_of : (fs : List Fork) → length (front_of fs) ≡ 6 * length fs + 16 + length (data_of (zones_of fs))
unfolding front_of
length-front_of fs = simp (length-append, length-tree_bytes, length-replicate) (omega arith)

pub image_of_parts : (epoch : ℕ) (fs : List Fork) → image_of size24 epoch fs ≡ front_of fs ++ tail_of (length fs) epoch
unfolding image_of front_of tail_of
image_of_parts epoch fs = simp append_assoc

module _ {bs : List ℕ} {m : Map} {epoch : ℕ} (h : IsImage size24 bs m epoch) where
  pub image_parts : bs ≡ front_of (forks_of m) ++ tail_of (length (forks_of m)) epoch
  unfolding image
  image_parts = h.bytes_are ∙ image_of_parts epoch (forks_of m)

  pub count_on-image : count_on bs ≡ Some (record { count = length (forks_of m); width = length (short (length (forks_of m))); epoch_width = length (short epoch) })
  count_on-image =
      let some : 0 < length (forks_of m) = length-forks_of_pos m in
      ap count_on image_parts
      ∙ count_on-tail (front_of (forks_of m)) (length (forks_of m)) epoch (omega (arith, length-front_of (forks_of m))) some
      (length-forks_of-fits size24 m h.records_fit) h.epoch_fits

  pub frame_on-image : frame_on bs ≡ Some (record { nodes = length (forks_of m); start = length (front_of (forks_of m)); epoch = epoch })
  frame_on-image =
      let some : 0 < length (forks_of m) = length-forks_of_pos m in
      ap frame_on image_parts
      ∙ frame_on-tail (front_of (forks_of m)) (length (forks_of m)) epoch (omega (arith, length-front_of (forks_of m))) some
      (length-forks_of-fits size24 m h.records_fit) h.epoch_fits
