-- The whole-table check over any words, and its promise.
-- Paper 01, "Numbered refusals": "The whole-table check gives BadLength, yes or no. It says yes exactly if,
-- for some set, the records in use are that set's tree, each node once and linked as the tree is, and every
-- other record is spare and open to later stores."
--   Place                 where a node stands: at the top, or under a node's key on a side
--   under r x             the place under a node's record, on a side
--   stem at               the string that a node at a place begins with: none at the top
--   stands k at           the key begins so
--   is_node r at          a record may be a node at that place
--   below_on              the count after the nodes from a link down
--   chain_on              the spare records from a link on are exactly as many as are left
--   audit_on ws           what `audit` answers
--   values_of             an answer's values
--   Check                 the contract of `audit`
-- Assumes nothing.
use Rattle.std.specs.Prelude.{ℕ, zero, suc, ◌-◌, ◌≡◌, Bool, true, false, ◌&&◌, ◌||◌, cond, List, [], ◌∷◌, ◌++◌, Option, None, Some, Result, Ok, Err, ltb, eqb, length}
use Rattle.bits.specs.Bits.{Bits, is_prefix}
use Rattle.bits.specs.Numbers.{odd}
use Rattle.refusals.specs.Refusals.{number_of}
use Rattle.refusals.specs.declared.Refusal.{Refusal}
use Rattle.refusals.specs.declared.Refusal.TheVariants.{BadLength}
use Rattle.prefix.specs.Keys.{string_of, is_valid}
use Rattle.prefix.specs.declared.Prefix.{Prefix}
use Rattle.zones.specs.Maps.{Map}
use Rattle.records.specs.Layout.{is_table, capacity, room_of, record_at, header_at, key_of, is_spare}
use Rattle.records.specs.Holds.{Holds}
use Rattle.records.specs.declared.Record.{Record}
use Rattle.audit.specs.declared.Under.{Under}

abbrev pub Place : Type 0
Place = Option Under

abbrev pub under : Record → Bool → Place
under r x = Some (record { key = key_of r; side = x })

abbrev pub stem : Place → Bits
stem None = []
stem (Some u) = string_of u.key ++ (u.side ∷ [])

unfoldable pub stands : Prefix → Place → Bool
stands k at = is_prefix (stem at) (string_of k)

-- a node that stores nothing has both sides
unfoldable pub is_node : Record → Place → Bool
is_node r at = is_valid (key_of r) && (stands (key_of r) at && (odd r.tag || (ltb 0 r.left && ltb 0 r.right)))

-- the right side after the left one
abbrev pub then_on : Option ℕ → (ℕ → Option ℕ) → Option ℕ
then_on None go = None
then_on (Some n) go = go n

-- (130 levels are enough: widths grow from 0 to at most 128)
unfoldable pub below_on : ℕ → List ℕ → ℕ → Place → ℕ → Option ℕ
below_on zero ws l at left = cond (eqb l 0) (Some left) None
below_on (suc f) ws l at left =
    cond (eqb l 0) (Some left)
    (cond (eqb left 0) None
    (cond (room_of (length ws) l)
    (cond (is_node (record_at ws l) at)
    (then_on (below_on f ws (record_at ws l).left (under (record_at ws l) false) (left - 1))
    (λ n. below_on f ws (record_at ws l).right (under (record_at ws l) true) n))
    None)
    None))

-- (by the number that are left, so that it ends on any words)
unfoldable pub chain_on : List ℕ → ℕ → ℕ → Bool
chain_on ws l zero = eqb l 0
chain_on ws l (suc n) =
    cond (eqb l 0) false (room_of (length ws) l && (is_spare (record_at ws l) && chain_on ws (record_at ws l).left n))

abbrev pub audit_of : List ℕ → Option ℕ → Bool
audit_of ws None = false
audit_of ws (Some n) = chain_on ws (header_at ws).spare n

unfoldable pub audit_on : List ℕ → Result Bool Refusal
audit_on ws =
    cond (is_table (length ws)) (Ok (audit_of ws (below_on 130 ws (header_at ws).root None (capacity (length ws))))) (Err BadLength)

-- 1 for yes
abbrev pub values_of : Result Bool Refusal → List ℕ
values_of (Ok b) = cond b 1 0 ∷ []
values_of (Err e) = 0 ∷ []

-- ---- what `audit` promises

pub record Check (ws : List ℕ) (r : Result Bool Refusal) : Type 0 where
  -- one value on any words
  pub answer : r ≡ audit_on ws
  -- No. 1, BadLength: "the table memory has another length than those above"
  pub refusal : (number_of r ≡ 1 → is_table (length ws) ≡ false) × (is_table (length ws) ≡ false → number_of r ≡ 1)
  -- "yes exactly if, for some set" the words are its table
  pub yes : r ≡ Ok true → (m : Map) × Holds ws m
  pub exact : (m : Map) → Holds ws m → r ≡ Ok true
