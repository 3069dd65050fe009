-- The plan of an edit, for any words: what a store and a remove will write, from where the walk ended, or why
-- it is refused; and the words once it is written.
-- Paper 01, "Numbered refusals": No. 6, Damaged, "the call met words that no table has"; No. 8, Full.
-- Paper 01, "The lent table"; paper 00, demand 3: "An accepted edit changes at most three node records
-- besides the header".
--   entry_of k z                the entry that a store adds
--   nowhere_of, node_of, freed_of   writes and records by value
--   wrote ws w, applied ws p   the words with a write, with a plan
--   look_on, node_on, spare_on   what a link leads to: a record or nothing, and where it must be a node or a spare
--                              record; or the refusal of words that no table has, or of want of room
--   hang_on, plan_of             a link hung from a node or at the top, and the plan of that
--   plan_store_on                a store: here_on where the key has a node, else new_on, by above_on or fork_on
--                              where a node is in the way
--   plan_remove_on               a remove: out_on by the node's sides, pass_on, alone_on and twin_on
-- Assumes nothing.
use Rattle.std.specs.Prelude.{ℕ, ◌+◌, ◌*◌, ◌/◌, Bool, false, not, cond, Option, Some, None, Result, Ok, Err, List, leb, ltb, eqb, length, get_or}
use Rattle.bits.specs.Numbers.{odd}
use Rattle.prefix.specs.Keys.{string_of, cut_of}
use Rattle.prefix.specs.declared.Prefix.{Prefix}
use Rattle.zones.specs.Maps.{Entry}
use Rattle.records.specs.Layout.{room_of, record_at, header_at, with_record, with_header, key_of, side_of, with_side}
use Rattle.records.specs.declared.Record.{Record}
use Rattle.records.specs.declared.Header.{Header}
use Rattle.lookup.specs.declared.Walk.{Walk}
use Rattle.lookup.specs.declared.Met.{Met}
use Rattle.lookup.specs.declared.Met.TheVariants.{Matching, Mismatching}
use Rattle.plans.specs.Plans.{Write, Plan, Hung}
use Rattle.plans.specs.declared.Spare.{Spare}
use Rattle.plans.specs.declared.Unmade.{Unmade}
use Rattle.plans.specs.declared.Unmade.TheVariants as unmade

-- the entry that storing a number for k adds
abbrev pub entry_of : Prefix → ℕ → Entry
entry_of k z = record { key = string_of k; zone = z }

-- ---- records by value

unfoldable pub node_of : Prefix → ℕ → ℕ → ℕ → ℕ → Record
node_of k tag zone left right =
    record { w0 = k.w0; w1 = k.w1; w2 = k.w2; w3 = k.w3; zone = zone; left = left; right = right; tag = tag }

unfoldable pub freed_of : ℕ → Record
freed_of next = record { w0 = 0; w1 = 0; w2 = 0; w3 = 0; zone = 0; left = next; right = 0; tag = 4294967295 }

unfoldable pub nowhere_of : Write
nowhere_of = record { link = 0; content = freed_of 0 }

-- ---- applying

unfoldable pub wrote : List ℕ → Write → List ℕ
wrote ws w = cond (eqb w.link 0) ws (with_record ws w.link w.content)

unfoldable pub applied : List ℕ → Plan → List ℕ
applied ws p = wrote (wrote (wrote (with_header ws p.header) p.one) p.two) p.three

-- ---- reading

-- (there is no room for the link 0)
unfoldable pub node_on : List ℕ → ℕ → Result Record Unmade
node_on ws l = cond (room_of (length ws) l) (Ok (record_at ws l)) (Err unmade.Damaged)

abbrev pub look_of : Result Record Unmade → Result (Option Record) Unmade
look_of (Ok r) = Ok (Some r)
look_of (Err d) = Err d

unfoldable pub look_on : List ℕ → ℕ → Result (Option Record) Unmade
look_on ws l = cond (eqb l 0) (Ok None) (look_of (node_on ws l))

abbrev pub spare_of : ℕ → Result Record Unmade → Result Spare Unmade
spare_of l (Ok r) = cond (eqb r.tag 4294967295) (Ok (record { link = l; next = r.left })) (Err unmade.Damaged)
spare_of l (Err d) = Err d

unfoldable pub spare_on : List ℕ → ℕ → Result Spare Unmade
spare_on ws l = cond (eqb l 0) (Err unmade.Full) (spare_of l (node_on ws l))

-- ---- hanging a link

-- k's bit after the first n
abbrev pub bit_at : Prefix → ℕ → Bool
bit_at k n = get_or (string_of k) n false

abbrev pub hang_of : ℕ → Prefix → ℕ → ℕ → Result (Option Record) Unmade → Result Hung Unmade
hang_of root k at l (Ok None) = Ok (record { root = l; one = nowhere_of })
hang_of root k at l (Ok (Some r)) =
    cond (leb k.width (r.tag / 2)) (Err unmade.Damaged)
    (Ok (record { root = root; one = record { link = at; content = with_side r (bit_at k (r.tag / 2)) l } }))
hang_of root k at l (Err d) = Err d

unfoldable pub hang_on : List ℕ → ℕ → Prefix → ℕ → ℕ → Result Hung Unmade
hang_on ws root k at l = hang_of root k at l (look_on ws at)

abbrev pub plan_of : Result Hung Unmade → ℕ → Write → Write → Result Plan Unmade
plan_of (Ok x) spare two three =
    Ok (record { header = record { root = x.root; spare = spare }; one = x.one; two = two; three = three })
plan_of (Err d) spare two three = Err d

-- ---- a store

abbrev pub here_of : Header → Prefix → ℕ → ℕ → Result Record Unmade → Result Plan Unmade
here_of h k zone at (Ok r) =
    Ok (record {
      header = h;
      one = record { link = at; content = node_of k (2 * k.width + 1) zone r.left r.right };
      two = nowhere_of;
      three = nowhere_of;
    })
here_of h k zone at (Err d) = Err d

unfoldable pub here_on : List ℕ → Header → Prefix → ℕ → ℕ → Result Plan Unmade
here_on ws h k zone at = here_of h k zone at (node_on ws at)

abbrev pub above_of : List ℕ → Header → Prefix → ℕ → ℕ → ℕ → ℕ → ℕ → Result Record Unmade → Result Plan Unmade
above_of ws h k zone at l a next (Ok r) =
    cond (ltb 128 (r.tag / 2)) (Err unmade.Damaged)
    (cond (leb (r.tag / 2) k.width) (Err unmade.Damaged)
    (plan_of (hang_on ws h.root k at a) next
    (record { link = a; content = with_side (node_of k (2 * k.width + 1) zone 0 0) (bit_at (key_of r) k.width) l })
    nowhere_of))
above_of ws h k zone at l a next (Err d) = Err d

unfoldable pub above_on : List ℕ → Header → Prefix → ℕ → ℕ → ℕ → ℕ → ℕ → Result Plan Unmade
above_on ws h k zone at l a next = above_of ws h k zone at l a next (node_on ws l)

abbrev pub fork_of : List ℕ → Header → Prefix → ℕ → ℕ → ℕ → ℕ → ℕ → Result Spare Unmade → Result Plan Unmade
fork_of ws h k zone at l b a (Ok y) =
    plan_of (hang_on ws h.root k at y.link) y.next
    (record { link = a; content = node_of k (2 * k.width + 1) zone 0 0 })
    (record { link = y.link; content = with_side (node_of (cut_of k b) (2 * b) 0 l l) (bit_at k b) a })
fork_of ws h k zone at l b a (Err d) = Err d

unfoldable pub fork_on : List ℕ → Header → Prefix → ℕ → ℕ → ℕ → ℕ → ℕ → ℕ → Result Plan Unmade
fork_on ws h k zone at l b a next = fork_of ws h k zone at l b a (spare_on ws next)

abbrev pub new_on : List ℕ → Header → Prefix → ℕ → ℕ → Met → ℕ → ℕ → Result Plan Unmade
new_on ws h k zone at (Matching q) a next =
    plan_of (hang_on ws h.root k at a) next (record { link = a; content = node_of k (2 * k.width + 1) zone 0 0 }) nowhere_of
new_on ws h k zone at (Mismatching l b) a next =
    cond (ltb b k.width) (fork_on ws h k zone at l b a next) (above_on ws h k zone at l a next)

abbrev pub store_of : List ℕ → Header → Prefix → ℕ → ℕ → Met → Result Spare Unmade → Result Plan Unmade
store_of ws h k zone at e (Ok x) = new_on ws h k zone at e x.link x.next
store_of ws h k zone at e (Err d) = Err d

-- (the last node that is a prefix of the key has the key's width: it is the key's)
unfoldable pub plan_store_on : List ℕ → Prefix → ℕ → Walk → Met → Result Plan Unmade
plan_store_on ws k zone s e =
    cond (eqb s.low (k.width + 1))
    (here_on ws (header_at ws) k zone s.at)
    (store_of ws (header_at ws) k zone s.at e (spare_on ws (header_at ws).spare))

-- ---- a remove

unfoldable pub pass_on : List ℕ → Header → Prefix → ℕ → ℕ → ℕ → Result Plan Unmade
pass_on ws h k up at l = plan_of (hang_on ws h.root k up l) at (record { link = at; content = freed_of h.spare }) nowhere_of

unfoldable pub twin_on : List ℕ → Header → Prefix → Walk → Record → Result Plan Unmade
twin_on ws h k s p =
    cond (leb k.width (p.tag / 2)) (Err unmade.Damaged)
    (plan_of (hang_on ws h.root k s.over (side_of p (not (bit_at k (p.tag / 2))))) s.up
    (record { link = s.at; content = freed_of h.spare })
    (record { link = s.up; content = freed_of s.at }))

abbrev pub alone_of : List ℕ → Header → Prefix → Walk → Result (Option Record) Unmade → Result Plan Unmade
alone_of ws h k s (Ok None) = pass_on ws h k s.up s.at 0
alone_of ws h k s (Err d) = Err d
alone_of ws h k s (Ok (Some p)) = cond (odd p.tag) (pass_on ws h k s.up s.at 0) (twin_on ws h k s p)

unfoldable pub alone_on : List ℕ → Header → Prefix → Walk → Result Plan Unmade
alone_on ws h k s = alone_of ws h k s (look_on ws s.up)

unfoldable pub out_on : List ℕ → Header → Prefix → Walk → Record → Result Plan Unmade
out_on ws h k s r =
    cond (eqb r.left 0)
    (cond (eqb r.right 0) (alone_on ws h k s) (pass_on ws h k s.up s.at r.right))
    (cond (eqb r.right 0) (pass_on ws h k s.up s.at r.left)
    (Ok (record {
      header = h;
      one = record { link = s.at; content = node_of k (2 * k.width) 0 r.left r.right };
      two = nowhere_of;
      three = nowhere_of;
    })))

abbrev pub remove_of : List ℕ → Header → Prefix → Walk → Result Record Unmade → Result Plan Unmade
remove_of ws h k s (Ok r) = out_on ws h k s r
remove_of ws h k s (Err d) = Err d

unfoldable pub plan_remove_on : List ℕ → Prefix → Walk → Result Plan Unmade
plan_remove_on ws k s = remove_of ws (header_at ws) k s (node_on ws s.at)
