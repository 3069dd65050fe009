-- A part of a table's tree in an image: how it is counted, what its records lead to, and the zones it uses.
-- Paper 01, "The image".
-- Internal: what the writer's own functions are held to; no public contract cites it.
--   Part                a part of the tree, small enough to be counted
--   Reaches n zs o r    the record r leads to the zone o, in an image of n nodes that uses the zones zs
--   Uses zs t           every zone of the trie t is one of zs
-- Assumes nothing.
use Rattle.std.specs.Prelude.{ℕ, ◌+◌, ◌≤◌, ◌≡◌, length}
use mathlib.Core.List.{List, Memᴰ}
use Rattle.std.proofs.Math.Option.{Option, none, some}
use Rattle.zones.specs.Tree.{Tree}
use Rattle.records.specs.Holds.{labels}
use Rattle.records.specs.Hanging.{Hangs}
use Rattle.image.specs.Image.{offset}
use Rattle.image.specs.Tries.{Trie}
use Rattle.image_zones.specs.Used.{used_in}

pub record Part (ws : List ℕ) (l a : ℕ) : Type 0 where
  pub tree : Tree ℕ
  pub hangs : Hangs ws l a tree
  -- no more nodes than a table has records
  pub few : length (labels tree) ≤ 65535

-- "equal to N is no data; N + 16 + d means the data entry at offset d" (of a zone that no record uses nothing
-- is asked: it has no entry)
abbrev pub Reaches : ℕ → List ℕ → Option ℕ → ℕ → Type 0
Reaches n zs none r = r ≡ n
Reaches n zs (some z) r = Memᴰ z zs → r ≡ n + 16 + offset zs z

abbrev pub Uses : List ℕ → Trie → Type 0
Uses zs t = (z : ℕ) → Memᴰ z (used_in t) → Memᴰ z zs
