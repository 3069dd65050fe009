-- A part of a table's tree, as it hangs from a link: what a function that goes down the tree asks of the words
-- and hands on to the two sides.
-- Internal: what such a function is held to; no public contract cites it.
-- Paper 01, "The lent table".
--   Hangs ws l a t    from the link l the words ws have the tree t, all of whose strings have at least a bits
--   HangsNode         the same of a link that is not 0: the node there, and what hangs on its sides
-- Assumes nothing.
use Rattle.std.specs.Prelude.{ℕ, ◌+◌, ◌≤◌, ◌/◌, ◌≡◌, true, length}
use mathlib.Core.List.{List, Memᴰ}
use Rattle.std.proofs.Math.Option.{Option}
use Rattle.bits.specs.Bits.{Bits}
use Rattle.zones.specs.Tree.{Tree, node, Good}
use Rattle.records.specs.Layout.{room_of, record_at}
use Rattle.records.specs.Inside.{Inside}
use Rattle.records.specs.Holds.{labels, Bears, Linked}

pub record Hangs (ws : List ℕ) (l a : ℕ) (t : Tree ℕ) : Type 0 where
  pub linked : Linked (record_at ws) l t
  pub rooms : (b : ℕ) → Memᴰ b (labels t) → room_of (length ws) b ≡ true
  pub stem : Bits
  pub stem_length : length stem ≡ a
  pub good : Good stem t

pub record HangsNode (ws : List ℕ) (l a : ℕ) (t : Tree ℕ) : Type 0 where
  pub string : Bits
  pub zone : Option ℕ
  pub left : Tree ℕ
  pub right : Tree ℕ
  pub is_node : t ≡ node l string zone left right
  pub inside : Inside ws l
  pub bears : Bears (record_at ws l) string zone
  pub low : a ≤ length string
  pub high : length string ≤ 128
  -- the width that the record's tag says
  pub width : (record_at ws l).tag / 2 ≡ length string
  pub hangs_left : Hangs ws (record_at ws l).left (length string + 1) left
  pub hangs_right : Hangs ws (record_at ws l).right (length string + 1) right
