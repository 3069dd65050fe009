-- The whole image of a table: what is measured before anything is written, and how its parts come together.
-- Paper 01, "The image".
-- Internal: what the writer's own functions are held to; no public contract cites it.
--   Planned      what is measured is what the image of the map has
--   length_by    the image's length, from what is measured
--   Fills        a table, what is measured of it, and an output with room for its image
--   filled       that output with the image
-- Assumes nothing.
use Rattle.std.specs.Prelude.{ℕ, ◌+◌, ◌*◌, ◌≤◌, ◌≡◌, List, ◌++◌, length, drop}
use Rattle.zones.specs.Maps.{Map}
use Rattle.records.specs.Layout.{header_at}
use Rattle.records.specs.Holds.{Holds}
use Rattle.image.specs.Bytes.{short}
use Rattle.image.specs.Image.{size24, zones_of, forks_of, image, image_length}
use Rattle.image_data.specs.Runs.{runs_of, length_of}
use Rattle.image_write.specs.declared.Plan.{Plan}

pub record Planned (ws : List ℕ) (m : Map) (p : Plan) : Type 0 where
  pub root_is : p.root ≡ (header_at ws).root
  pub nodes_are : p.nodes ≡ length (forks_of m)
  pub runs_are : p.runs ≡ runs_of (zones_of (forks_of m))

-- the paper's length, over what is measured
unfoldable pub length_by : Plan → ℕ → ℕ
length_by p epoch = 6 * p.nodes + length_of p.runs + 170 + length (short p.nodes) + length (short epoch)

pub record Fills (ws : List ℕ) (p : Plan) (epoch : ℕ) (out : List ℕ) : Type 0 where
  pub map : Map
  pub holds : Holds ws map
  pub planned : Planned ws map p
  pub room : image_length size24 map epoch ≤ length out

unfoldable pub filled : Map → ℕ → List ℕ → List ℕ
filled m epoch out = image size24 m epoch ++ drop (image_length size24 m epoch) out
