-- When words are a table of a map: the bridge between the paper's sets and the memory.
-- Paper 01, "Numbered refusals": the whole-table check "says yes exactly if, for some set, the records in use
-- are that set's tree, each node once and linked as the tree is, and every other record is spare and open to
-- later stores".
--   Memory              what a table's words are to a tree: a record for each link
--   labels t            the links of a tree's nodes, from the top, the side of 0 first
--   Linked mem l t      from the link l the records are linked as the tree t is, each with its node's string
--                       and number
--   Chained mem l ls    from the link l the spare records ls hang together, each by the one before, and end
--   times l ls          how often the link l stands in ls
--   Once c ls           ls has every record from 1 to c exactly once, and nothing else
--   Holds ws m          the words ws are a table of the map m
-- Assumes nothing.
use Rattle.std.specs.Prelude.{ℕ, ◌+◌, ◌≤◌, ◌≡◌, true, ◌&&◌, cond, List, [], ◌∷◌, ◌++◌, leb, ltb, eqb, length}
use Rattle.std.proofs.Math.Option.{Option}
use Rattle.bits.specs.Bits.{Bits}
use Rattle.prefix.specs.Keys.{string_of, Valid}
use Rattle.zones.specs.Maps.{Map}
use Rattle.zones.specs.Tree.{Tree, tip, node, Good, entries}
use Rattle.records.specs.Layout.{table_length, record_at, header_at, key_of, zone_of, is_spare}
use Rattle.records.specs.declared.Record.{Record}

abbrev pub Memory : Type 0
Memory = ℕ → Record

abbrev pub labels : Tree ℕ → List ℕ
labels tip = []
labels (node a s v l r) = a ∷ (labels l ++ labels r)

-- the record r is a node with the string s and the number v
pub record Bears (r : Record) (s : Bits) (v : Option ℕ) : Type 0 where
  pub valid : Valid (key_of r)
  pub string : string_of (key_of r) ≡ s
  pub zone : zone_of r ≡ v

-- "linked as the tree is"
abbrev pub Linked : Memory → ℕ → Tree ℕ → Type 0
Linked mem l tip = l ≡ 0
Linked mem l (node a s v x y) = (l ≡ a) × Bears (mem a) s v × Linked mem (mem a).left x × Linked mem (mem a).right y

-- "spare and open to later stores": a store takes the first of them
abbrev pub Chained : Memory → ℕ → List ℕ → Type 0
Chained mem l [] = l ≡ 0
Chained mem l (a ∷ ls) = (l ≡ a) × (is_spare (mem a) ≡ true) × Chained mem (mem a).left ls

-- how often the link l stands in a list
abbrev pub times : ℕ → List ℕ → ℕ
times l [] = 0
times l (a ∷ ls) = cond (eqb l a) 1 0 + times l ls

-- "each node once .. and every other record": every record from 1 to c stands in the list exactly once, and
-- nothing else does
abbrev pub Once : ℕ → List ℕ → Type 0
Once c ls = (l : ℕ) → times l ls ≡ cond (ltb 0 l && leb l c) 1 0

pub record Holds (ws : List ℕ) (m : Map) : Type 0 where
  -- "c is 1 to 65,535"
  pub records : ℕ
  pub some_records : 1 ≤ records
  pub most_records : records ≤ 65535
  pub length_is : length ws ≡ table_length records
  -- "the records in use are that set's tree"
  pub tree : Tree ℕ
  pub good : Good [] tree
  pub map_is : entries tree ≡ m
  pub linked : Linked (record_at ws) (header_at ws).root tree
  -- the spare ones
  pub chain : List ℕ
  pub chained : Chained (record_at ws) (header_at ws).spare chain
  pub once : Once records (labels tree ++ chain)
