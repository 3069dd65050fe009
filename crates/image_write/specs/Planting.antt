-- A part of a table's tree with its place in an image: what the writer asks before it writes the part, and
-- what it then leaves.
-- Paper 01, "The image".
-- Internal: what the writer's own functions are held to; no public contract cites it.
--   Stocked    an output that has its data section
--   Here       what the record of a node's own zone leads to
--   Planted    a part of the tree, the zone above it, and the data section that the output already has
--   Grew       the output has the part's nodes, and the answer says where the next one goes
--   Grows      the contract of `put_below`
--   Rooted     the same of the whole tree
--   Stands     the output has all nodes of the image
-- Assumes nothing.
use Rattle.std.specs.Prelude.{ℕ, ◌+◌, ◌*◌, ◌^◌, ◌≤◌, ◌≡◌, List, length}
use Rattle.std.proofs.Math.Option.{Option}
use Rattle.std.proofs.lemmas.List.Edits.{sets}
use Rattle.zones.specs.Tree.{Tree}
use Rattle.records.specs.Layout.{zone_of}
use Rattle.records.specs.Hanging.{Hangs}
use Rattle.records.specs.declared.Record.{Record}
use Rattle.image.specs.Image.{size24, data_of, record_of, tree_bytes}
use Rattle.image.specs.Tries.{size, ref, refs, nearer, topped, grow}
use Rattle.image_data.specs.Runs.{runs_of, DataAt}
use Rattle.image_data.specs.declared.Runs.{Runs}
use Rattle.image_write.specs.Parts.{Reaches, Uses}
use Rattle.image_write.specs.declared.Grown.{Grown}

-- the data section zs stands in an output after n nodes, in the given runs, and every record fits 24 bits
pub record Stocked (out : List ℕ) (n : ℕ) (runs : Runs) (zs : List ℕ) : Type 0 where
  pub section : DataAt out (6 * n + 16) zs
  pub runs_are : runs ≡ runs_of zs
  pub fits : n + 16 + length (data_of zs) ≤ 2 ^ 24

-- the record h leads to the record r's own zone, or to what is above
abbrev pub Here : List ℕ → ℕ → Runs → Record → ℕ → ℕ → Type 0
Here out n runs r above h = (zs : List ℕ) (o : Option ℕ) → Stocked out n runs zs → Reaches n zs o above → Reaches n zs (nearer (zone_of r) o) h

pub record Planted (ws : List ℕ) (l a above next n : ℕ) (runs : Runs) (out : List ℕ) : Type 0 where
  pub tree : Tree ℕ
  pub hangs : Hangs ws l a tree
  pub zones : List ℕ
  pub stocked : Stocked out n runs zones
  -- the zone of the longest stored prefix above
  pub over : Option ℕ
  pub reaches : Reaches n zones over above
  pub uses : Uses zones (grow over a tree)
  pub room : next + size (grow over a tree) ≤ n

-- the part's nodes, numbered from next on
pub record Grew (a next n : ℕ) (out : List ℕ) (zs : List ℕ) (o : Option ℕ) (t : Tree ℕ) (r : Grown) (after : List ℕ) : Type 0 where
  pub bytes : after ≡ sets out (6 * next) (tree_bytes size24 n zs (refs next (grow o a t)))
  pub goes_on : r.next ≡ next + size (grow o a t)
  pub leads : r.top ≡ record_of n zs (ref next (grow o a t))

abbrev pub Grows : List ℕ → ℕ → ℕ → ℕ → ℕ → ℕ → Runs → List ℕ → Grown → List ℕ → Type 0
Grows ws l a above next n runs out r after =
    (p : Planted ws l a above next n runs out) → Grew a next n out p.zones p.over p.tree r after

-- the whole tree: n nodes, from the empty string down
pub record Rooted (ws : List ℕ) (l n : ℕ) (runs : Runs) (out : List ℕ) : Type 0 where
  pub planted : Planted ws l 0 n 0 n runs out
  -- (the empty string is one)
  pub some_node : 1 ≤ n

abbrev pub Stands : List ℕ → ℕ → ℕ → Runs → List ℕ → List ℕ → Type 0
Stands ws l n runs out after =
    (p : Planted ws l 0 n 0 n runs out) → after ≡ sets out 0 (tree_bytes size24 n p.zones (refs 0 (topped (grow p.over 0 p.tree))))
