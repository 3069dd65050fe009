-- The small cases M1 to M12: one table under one statement, closed by computation. It is also the shortest
-- way into the definitions: each row is a question, and what they answer.
-- Paper 01, "Small cases": "Marked M: proved." and "M1 to M12 form one table under one proved statement."
--   Question, Answer    what a case asks, and what it is told
--   answer q            what the definitions say to q
--   cases               the paper's table
--   M1-to-M12           every row is answered as it stands there
-- Assumes nothing.
use Rattle.std.specs.Prelude.{ℕ, ◌≡◌, refl, Bool, true, false, List, [], ◌∷◌, map, ℤ, pos, negsuc}
use Prim.Native.String.{String}
use Rattle.std.proofs.Math.Option.{Option, none, some}
use Rattle.bits.specs.Bits.{Bits}
use Rattle.bits.specs.Numbers.{bits_of, value}
use Rattle.zones.specs.Maps.{Entry, Map, keys, without, longest_match}
use Rattle.zones.specs.Nodes.{nodes, prefix_nodes, beyond, last_node, path, trail, overflows}
use Rattle.zones.specs.Slices.{left, given, remains, passed, found, count}
use Rattle.ground.specs.Cells.{scaled, column, row, cell_bits}
use Rattle.cases.specs.Text.{bits}

pub data Question : Type 0 where
  nodes_of : Map → Question
  -- a key in a map
  look_up : Bits → Map → Question
  -- a store into a table of c records: is it Full
  store : ℕ → Entry → Map → Question
  -- a slice of a map from a resume prefix, of a size
  slice : Map → Option Bits → ℕ → Question
  column_of row_of : ℤ → Question
  cell_of : ℤ → ℤ → Question

pub data Answer : Type 0 where
  strings : List Bits → Answer
  -- the trail and the longest match
  looked_up : List ℕ → Option Entry → Answer
  full : Bool → Answer
  -- what is given, the count, whether more remain
  listed : Map → ℕ → Bool → Answer
  number : ℕ → Answer

abbrev pub answer : Question → Answer
answer (nodes_of m) = strings (nodes (keys m))
answer (look_up k m) = looked_up (trail (keys m) k) (longest_match k m)
answer (store c e m) = full (overflows c e m)
answer (slice m r b) = listed (given m r b) (count m r b) (remains m r b)
answer (column_of longitude) = number (column longitude)
answer (row_of latitude) = number (row latitude)
answer (cell_of longitude latitude) = number (value (cell_bits longitude latitude))

pub record Case : Type 0 where
  pub asked : Question
  pub told : Answer

infix 20 ◌⇒◌
abbrev pub ◌⇒◌ : Question → Answer → Case
q ⇒ a = record { asked = q; told = a }

abbrev pub entry : String → ℕ → Entry
entry k z = record { key = bits k; zone = z }

-- "Set A: 00 -> 10, 01 -> 20, 0110 -> 30."
abbrev pub set_a : Map
set_a = entry "00" 10 ∷ entry "01" 20 ∷ entry "0110" 30 ∷ []

-- the sets of M7 and M8, whose zone numbers the paper leaves open
abbrev pub just_zero : Map
just_zero = entry "0" 1 ∷ []

abbrev pub zero_and_ten : Map
zero_and_ten = entry "0" 1 ∷ entry "10" 2 ∷ []

abbrev pub cases : List Case
cases =
    -- M1 "A's nodes in order: 0, 00, 01, 0110."
    (nodes_of set_a ⇒ strings (bits "0" ∷ bits "00" ∷ bits "01" ∷ bits "0110" ∷ []))
    -- M2 "0111 in A: trail 1 2 4, answer 20 at width 2."
    ∷ (look_up (bits "0111") set_a ⇒ looked_up (1 ∷ 2 ∷ 4 ∷ []) (some (entry "01" 20)))
    -- M3 "0101 in A: trail 1 2, answer 20."
    ∷ (look_up (bits "0101") set_a ⇒ looked_up (1 ∷ 2 ∷ []) (some (entry "01" 20)))
    -- M4 "the key 1 in A: trail 1, no match."
    ∷ (look_up (bits "1") set_a ⇒ looked_up (1 ∷ []) none)
    -- M5 "the empty key: the same."
    ∷ (look_up (bits "") set_a ⇒ looked_up (1 ∷ []) none)
    -- M6 "A without 00: nodes 01, 0110."
    ∷ (nodes_of (without (bits "00") set_a) ⇒ strings (bits "01" ∷ bits "0110" ∷ []))
    -- M7 "c = 2 holding 0: storing 10 is Full (nodes empty, 0, 10); storing 00 is accepted."
    ∷ (store 2 (entry "10" 2) just_zero ⇒ full true)
    ∷ (nodes_of zero_and_ten ⇒ strings (bits "" ∷ bits "0" ∷ bits "10" ∷ []))
    ∷ (store 2 (entry "00" 2) just_zero ⇒ full false)
    -- M8 "c = 3 holding 0 and 10: storing the empty prefix is accepted."
    ∷ (store 3 (entry "" 3) zero_and_ten ⇒ full false)
    -- M9 "A in slices of 2: 00, 01 with count 3, more; after 01: 0110 with count 3, no more."
    ∷ (slice set_a none 2 ⇒ listed (entry "00" 10 ∷ entry "01" 20 ∷ []) 3 true)
    ∷ (slice set_a (some (bits "01")) 2 ⇒ listed (entry "0110" 30 ∷ []) 3 false)
    -- M10 "longitude -1: column 2147483646; longitude 1: column 2147483649."
    ∷ (column_of (negsuc 0) ⇒ number 2147483646)
    ∷ (column_of (pos 1) ⇒ number 2147483649)
    -- M11 "latitude -1: row 2147483645; latitude 1: row 2147483650."
    ∷ (row_of (negsuc 0) ⇒ number 2147483645)
    ∷ (row_of (pos 1) ⇒ number 2147483650)
    -- M12 "position 0, 0: cell C000000000000000 (hex)."
    ∷ (cell_of (pos 0) (pos 0) ⇒ number 0xC000000000000000)
    ∷ []

-- every definition that stays shut elsewhere, opened at once
unfoldable pub computed : Unit {0}
unfolding bits_of value keys without longest_match nodes prefix_nodes beyond last_node path trail overflows left given remains passed found count scaled column row cell_bits
computed = tt

pub M1-to-M12 : map (λ c. answer c.asked) cases ≡ map (λ c. c.told) cases
unfolding computed
M1-to-M12 = refl
