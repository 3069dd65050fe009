-- The tour of a listing over any words: the way to the resume prefix, the stack of open links, and the nodes
-- after it one by one.
-- Paper 01, "Listing in slices".
--   push_on, pop_on       the stack with a link more, and the link to look at next
--   room_on o             whether a stack has room for o links
--   parted_of, sought_of, sought_on   one step on the way to the resume prefix
--   seek_on, seek_from, start_on      the whole way
--   visit_on             the record of a node
--   entry_put            a stored node's entry in the output
--   tour_on, tour_from    the tour, of at most so many nodes
-- Assumes nothing.
use Rattle.std.specs.Prelude.{ℕ, zero, suc, ◌+◌, ◌-◌, ◌*◌, ◌/◌, Bool, true, false, cond, List, Option, None, Some, Result, Ok, Err, leb, ltb, eqb, length, get_or, set}
use Rattle.bits.specs.Bits.{lcp}
use Rattle.bits.specs.Numbers.{odd}
use Rattle.refusals.specs.declared.Refusal.{Refusal}
use Rattle.refusals.specs.declared.Refusal.TheVariants.{Damaged}
use Rattle.prefix.specs.Keys.{string_of}
use Rattle.prefix.specs.declared.Prefix.{Prefix}
use Rattle.records.specs.Layout.{room_of, record_at, header_at, key_of}
use Rattle.records.specs.declared.Record.{Record}
use Rattle.listing.specs.declared.Sliced.{Sliced}
use Rattle.listing.specs.declared.way.Seek.{Seek}
use Rattle.listing.specs.declared.way.Sought.{Sought}
use Rattle.listing.specs.declared.way.Sought.TheVariants.{On, Done}

-- ---- the stack of open links: an array, and how many of it are open

pub record Stack : Type 0 where
  pub links : List ℕ
  pub depth : ℕ

unfoldable pub push_on : List ℕ → ℕ → ℕ → Stack
push_on ls o l =
    cond (eqb l 0) (record { links = ls; depth = o })
    (cond (leb 129 o) (record { links = ls; depth = 130 }) (record { links = set ls o l; depth = o + 1 }))

-- (a table needs no more than 129)
abbrev pub room_on : ℕ → Result (Unit {0}) Refusal
room_on o = cond (ltb 129 o) (Err Damaged) (Ok tt)

-- the link to look at, 0 for none, and how many are then open
pub record Tour : Type 0 where
  pub next : ℕ
  pub depth : ℕ

unfoldable pub pop_on : List ℕ → ℕ → ℕ → Tour
pop_on ls at o =
    cond (eqb at 0)
    (cond (eqb o 0) (record { next = 0; depth = o }) (record { next = get_or ls (o - 1) 0; depth = o - 1 }))
    (record { next = at; depth = o })

-- ---- the way to the resume prefix

-- a node that is no prefix of k, with which it shares b bits
unfoldable pub parted_of : Prefix → ℕ → ℕ → Sought
parted_of k l b = cond (ltb b k.width) (cond (get_or (string_of k) b false) (Done 0 0) (Done l 0)) (Done l 0)

-- a node that is one: what lies on the side of 1 comes after k where k goes on by 0 or ends there
unfoldable pub passed_of : Record → Prefix → ℕ → Sought
passed_of r k w =
    cond (ltb w k.width)
    (cond (get_or (string_of k) w false) (On r.right (w + 1) 0) (On r.left (w + 1) r.right))
    (Done r.left r.right)

unfoldable pub sought_of : Record → Prefix → ℕ → ℕ → Result Sought Refusal
sought_of r k l low =
    cond (ltb 128 (r.tag / 2)) (Err Damaged)
    (cond (ltb (length (lcp (string_of (key_of r)) (string_of k))) low) (Err Damaged)
    (cond (ltb (length (lcp (string_of (key_of r)) (string_of k))) (r.tag / 2))
    (Ok (parted_of k l (length (lcp (string_of (key_of r)) (string_of k)))))
    (Ok (passed_of r k (r.tag / 2)))))

unfoldable pub sought_on : List ℕ → Prefix → ℕ → ℕ → Result Sought Refusal
sought_on ws k l low = cond (room_of (length ws) l) (sought_of (record_at ws l) k l low) (Err Damaged)

-- the stack after the way, and where the tour starts
pub record Seeking : Type 0 where
  pub links : List ℕ
  pub depth : ℕ
  pub out : Result Seek Refusal

abbrev pub starts : ℕ → ℕ → Result Seek Refusal
starts l n = Ok (record { next = l; found = n })

-- what the way does with a step, where it goes on by `go`
unfoldable pub after_on : Result Sought Refusal → List ℕ → ℕ → ℕ → (ℕ → ℕ → Stack → Seeking) → Seeking
after_on (Ok (On l w side)) ls o n go = go l w (push_on ls o side)
after_on (Ok (Done l side)) ls o n go =
    record { links = (push_on ls o side).links; depth = (push_on ls o side).depth; out = starts l (n + 1) }
after_on (Err e) ls o n go = record { links = ls; depth = o; out = Err e }

unfoldable pub seek_on : ℕ → List ℕ → Prefix → ℕ → ℕ → ℕ → List ℕ → ℕ → Seeking
seek_on zero ws k l low n ls o = record { links = ls; depth = o; out = cond (eqb l 0) (starts 0 n) (Err Damaged) }
seek_on (suc f) ws k l low n ls o =
    cond (eqb l 0) (record { links = ls; depth = o; out = starts 0 n })
    (after_on (sought_on ws k l low) ls o n (λ m w s. seek_on f ws k m w (n + 1) s.links s.depth))

unfoldable pub seek_from : List ℕ → Prefix → ℕ → List ℕ → Seeking
seek_from ws k root ls = seek_on 130 ws k root 0 0 ls 0

abbrev pub start_on : List ℕ → Option Prefix → List ℕ → Seeking
start_on ws None ls = record { links = ls; depth = 0; out = starts (header_at ws).root 0 }
start_on ws (Some k) ls = seek_from ws k (header_at ws).root ls

-- ---- the tour

unfoldable pub visit_on : List ℕ → ℕ → Result Record Refusal
visit_on ws l = cond (room_of (length ws) l) (cond (ltb 257 (record_at ws l).tag) (Err Damaged) (Ok (record_at ws l))) (Err Damaged)

pub record Entries : Type 0 where
  pub words : List ℕ
  pub given : ℕ

-- "Each takes six words: the four key words, the width, the zone number."
unfoldable pub entry_set : List ℕ → ℕ → Record → List ℕ
entry_set us n r =
    set (set (set (set (set (set us (6 * n) r.w0) (6 * n + 1) r.w1) (6 * n + 2) r.w2) (6 * n + 3) r.w3) (6 * n + 4) (r.tag / 2)) (6 * n + 5) r.zone

unfoldable pub entry_put : List ℕ → ℕ → Record → Entries
entry_put us n r = cond (odd r.tag) (record { words = entry_set us n r; given = n + 1 }) (record { words = us; given = n })

pub record Touring : Type 0 where
  pub links : List ℕ
  pub words : List ℕ
  pub out : Result Sliced Refusal

abbrev pub gives : ℕ → Bool → ℕ → Result Sliced Refusal
gives n more count = Ok (record { given = n; more = more; count = count })

abbrev pub ends : List ℕ → List ℕ → Result Sliced Refusal → Touring
ends ls us r = record { links = ls; words = us; out = r }

-- what the tour does at a node, where it goes on by `go`
unfoldable pub node_on : Result Record Refusal → List ℕ → List ℕ → ℕ → ℕ → (ℕ → Stack → Entries → Touring) → Touring
node_on (Err e) ls us n o go = ends ls us (Err e)
node_on (Ok r) ls us n o go = go r.left (push_on ls o r.right) (entry_put us n r)

-- (one turn for each node that may still be passed)
unfoldable pub turn_on : List ℕ → ℕ → Tour → List ℕ → List ℕ → ℕ → ℕ → Touring → Touring
turn_on ws b t ls us n count onward =
    cond (eqb t.next 0) (ends ls us (gives n false count))
    (cond (eqb n b) (ends ls us (gives n true count)) onward)

unfoldable pub tour_on : ℕ → List ℕ → ℕ → ℕ → ℕ → List ℕ → List ℕ → ℕ → ℕ → Touring
tour_on zero ws b at o ls us n count =
    cond (ltb 129 o) (ends ls us (Err Damaged)) (turn_on ws b (pop_on ls at o) ls us n count (ends ls us (Err Damaged)))
tour_on (suc f) ws b at o ls us n count =
    cond (ltb 129 o) (ends ls us (Err Damaged))
    (turn_on ws b (pop_on ls at o) ls us n count
    (node_on (visit_on ws (pop_on ls at o).next) ls us n (pop_on ls at o).depth
    (λ l s e. tour_on f ws b l s.depth s.links e.words e.given (count + 1))))

unfoldable pub tour_from : List ℕ → ℕ → ℕ → ℕ → List ℕ → List ℕ → Touring
tour_from ws b next o ls us = tour_on (length ws / 8) ws b next o ls us 0 0
