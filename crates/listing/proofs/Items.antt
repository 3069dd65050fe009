-- The nodes of a tree in their order, as a listing passes them, and the trees that a tour still has before
-- it. Definitions that the laws of listing share. No contract cites this file.
--   Item, items t       a node's link, string and number; the nodes of a tree, from the top, the side of 0
--                       first
--   all_items ts         those of several trees, one after the other
--   stored_in is         what they store
--   up_to b is, past b is   the items up to the b-th stored one, and those after it
--   height t            the longest way down
--   Sound ws t          every label of t is a record of the table
--   Stacked, Pending    the links on the stack, and the next link, lead to trees
-- Assumes nothing.
use Prim.Native.Nat.{ℕ, ◌+◌, ◌-◌, ◌≤◌, ◌<◌, max}
use mathlib.Core.Path.{◌≡◌}
use mathlib.Core.Bool.{true, cond}
use mathlib.Core.List.{List, [], ◌∷◌, ◌++◌, Memᴰ}
use mathlib.Core.Option.{Option, none, some}
use lib.Dec.{T, eqb}
use lib.ListN.{length, get_or}
use Rattle.bits.specs.Bits.{Bits}
use Rattle.zones.specs.Maps.{Map}
use Rattle.zones.specs.Tree.{Tree, tip, node, own, full}
use Rattle.records.specs.Layout.{room_of, record_at}
use Rattle.records.specs.Holds.{labels, Linked}

pub record Item : Type 0 where
  pub link : ℕ
  pub key : Bits
  pub zone : Option ℕ

abbrev pub items : Tree ℕ → List Item
items tip = []
items (node a s v l r) = record { link = a; key = s; zone = v } ∷ (items l ++ items r)

abbrev pub all_items : List (Tree ℕ) → List Item
all_items [] = []
all_items (t ∷ ts) = items t ++ all_items ts

abbrev pub stored_in : List Item → Map
stored_in [] = []
stored_in (i ∷ is) = own i.key i.zone ++ stored_in is

-- 1 where an item is stored
abbrev pub counts : Option ℕ → ℕ
counts none = 0
counts (some z) = 1

abbrev pub up_to : ℕ → List Item → List Item
up_to b [] = []
up_to b (i ∷ is) = cond (eqb b 0) [] (i ∷ up_to (b - counts i.zone) is)

abbrev pub past : ℕ → List Item → List Item
past b [] = []
past b (i ∷ is) = cond (eqb b 0) (i ∷ is) (past (b - counts i.zone) is)

abbrev pub height : Tree ℕ → ℕ
height tip = 0
height (node a s v l r) = 1 + max (height l) (height r)

abbrev pub Sound : List ℕ → Tree ℕ → Type 0
Sound ws t = (a : ℕ) → Memᴰ a (labels t) → room_of (length ws) a ≡ true

-- the first d links of the array ls lead to the trees ts, the last of them to the first tree; each has room
-- on the stack for its height
abbrev pub Stacked : List ℕ → List ℕ → ℕ → List (Tree ℕ) → Type 0
Stacked ws ls d [] = d ≡ 0
Stacked ws ls d (t ∷ ts) =
    (0 < d) × T (full t) × Linked (record_at ws) (get_or ls (d - 1) 0) t × Sound ws t × ((d - 1) + height t ≤ 129) × Stacked ws ls (d - 1) ts

pub record Pending (ws : List ℕ) (next : ℕ) (ls : List ℕ) (d : ℕ) (t : Tree ℕ) (ts : List (Tree ℕ)) : Type 0 where
  pub linked : Linked (record_at ws) next t
  pub sound : Sound ws t
  pub room : d + height t ≤ 129
  pub stacked : Stacked ws ls d ts
  pub length_is : length ls ≡ 129
