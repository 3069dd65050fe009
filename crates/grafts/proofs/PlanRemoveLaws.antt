-- The laws of what a remove plans where a walk has ended at the key's node: by the node's sides, and by the
-- node above it where it has none. No contract cites this file.
--   empty_plan ws k a         the node a of the key k stores nothing
--   cut_plan ws c l n v w     the link l hangs in the open place of c, the chain starts at n, and there are
--                             the writes v and w
--   freeing a n               the write that makes the record a spare, the chain going on at n
--   pass_plan ws c a l        the link l in the place of the node a
--   twin_plan ws c a b l      the link l in the place of the branch node b above a
--   Stays c                   with nothing left in the open place of c, what is above it stays
-- Assumes nothing.
use Prim.Native.Nat.{ℕ, ◌*◌, ◌/◌, ◌%◌, ◌<◌}
use native.Mathlib.Omega.{arith}
use mathlib.Core.Path.{◌≡◌, refl, ap, ◌∙◌}
use mathlib.Core.Bool.{Bool, true, false, not, cond}
use mathlib.Core.List.{List}
use mathlib.Core.Option.{none, some}
use lib.ListN.{length}
use borrow.Author.Tests.{eq-eqb, ne_eqb, lt-leb}
use Rattle.bits.specs.Bits.{Bits}
use Rattle.bits.specs.Numbers.{odd}
use Rattle.std.specs.Prelude.{Ok}
use Rattle.prefix.specs.Keys.{string_of, Valid}
use Rattle.prefix.specs.declared.Prefix.{Prefix}
use Rattle.zones.specs.Tree.{Tree}
use Rattle.zones.specs.Focus.{Context, top, into, link_at}
use Rattle.records.specs.Layout.{room_of, record_at, header_at, key_of, zone_of, side_of, is_spare}
use Rattle.records.specs.Holds.{Bears}
use Rattle.records.specs.declared.Record.{Record}
use Rattle.lookup.specs.declared.Walk.{Walk}
use Rattle.lookup.proofs.EndsLaws.{Stood}
use Rattle.lookup.proofs.FramesLaws.{Frames}
use Rattle.plans.specs.Planning.{node_of, freed_of, nowhere_of, pass_on, twin_on, alone_on, out_on, plan_remove_on}
use Rattle.plans.specs.Plans.{Write, Plan}
use Rattle.grafts.proofs.HangLaws.{root_with, hang_write, look_on_nothing, look_on-room, node_on-room, hang_on-frames}

-- ---- records by value

pub is_spare-freed_of : (n : ℕ) → is_spare (freed_of n) ≡ true
unfolding is_spare freed_of
is_spare-freed_of n = refl

pub left-freed_of : (n : ℕ) → (freed_of n).left ≡ n
unfolding freed_of
left-freed_of n = refl

pub key_of-node_of : (k : Prefix) (tag zone left right : ℕ) → tag / 2 ≡ k.width → key_of (node_of k tag zone left right) ≡ k
unfolding key_of node_of
key_of-node_of k tag zone left right e = λ i. record { width = e i; w0 = k.w0; w1 = k.w1; w2 = k.w2; w3 = k.w3 }

zone_of-node_of_branch : (k : Prefix) (w zone left right : ℕ) → zone_of (node_of k (2 * w) zone left right) ≡ none
unfolding zone_of node_of
zone_of-node_of_branch k w zone left right = rw (ne_eqb (2 * w % 2) 1 (omega arith))

-- a node that stores nothing
pub bears-node_of_branch : (k : Prefix) (left right : ℕ) → Valid k → Bears (node_of k (2 * k.width) 0 left right) (string_of k) none
bears-node_of_branch k left right v =
    let e = key_of-node_of k (2 * k.width) 0 left right (omega arith) in
    record { valid = rw e v; string = ap string_of e; zone = zone_of-node_of_branch k k.width 0 left right }

-- ---- the plans

abbrev pub empty_plan : List ℕ → Prefix → ℕ → Plan
empty_plan ws k a =
    record {
      header = header_at ws;
      one = record { link = a; content = node_of k (2 * k.width) 0 (record_at ws a).left (record_at ws a).right };
      two = nowhere_of;
      three = nowhere_of;
    }

abbrev pub cut_plan : List ℕ → Context ℕ → ℕ → ℕ → Write → Write → Plan
cut_plan ws c l spare two three =
    record { header = record { root = root_with c (header_at ws).root l; spare = spare }; one = hang_write ws c l; two = two; three = three }

abbrev pub freeing : ℕ → ℕ → Write
freeing a next = record { link = a; content = freed_of next }

abbrev pub pass_plan : List ℕ → Context ℕ → ℕ → ℕ → Plan
pass_plan ws c a l = cut_plan ws c l a (freeing a (header_at ws).spare) nowhere_of

abbrev pub twin_plan : List ℕ → Context ℕ → ℕ → ℕ → ℕ → Plan
twin_plan ws c a b l = cut_plan ws c l b (freeing a (header_at ws).spare) (freeing b a)

-- ---- the key's node: by its sides

pass_on-frames : (ws : List ℕ) (k : Prefix) (c : Context ℕ) (a l : ℕ) → Frames ws k c
    → pass_on ws (header_at ws) k (link_at 0 c) a l ≡ Ok (pass_plan ws c a l)
unfolding pass_on
pass_on-frames ws k c a l f = rw (hang_on-frames ws k c (header_at ws).root l f)

module _ (ws : List ℕ) (k : Prefix) (c : Context ℕ) (a n : ℕ) (s : Walk) (room : room_of (length ws) a ≡ true) (frames : Frames ws k c)
    (st : Stood a (link_at 0 c) (link_at 1 c) n s) where
  plan_remove_on_out : plan_remove_on ws k s ≡ out_on ws (header_at ws) k s (record_at ws a)
  unfolding plan_remove_on
  plan_remove_on_out = rw (st.at, node_on-room ws a room)

  pub plan_remove_on_both : 0 < (record_at ws a).left → 0 < (record_at ws a).right → plan_remove_on ws k s ≡ Ok (empty_plan ws k a)
  unfolding out_on
  plan_remove_on_both i j =
      plan_remove_on_out ∙ rw (ne_eqb (record_at ws a).left 0 (omega arith), ne_eqb (record_at ws a).right 0 (omega arith), st.at)

  pub plan_remove_on_low : 0 < (record_at ws a).left → (record_at ws a).right ≡ 0
      → plan_remove_on ws k s ≡ Ok (pass_plan ws c a (record_at ws a).left)
  unfolding out_on
  plan_remove_on_low i j =
      plan_remove_on_out
      ∙ rw (ne_eqb (record_at ws a).left 0 (omega arith), eq-eqb (record_at ws a).right 0 j, st.up, st.at)
      (pass_on-frames ws k c a (record_at ws a).left frames)

  pub plan_remove_on_high : (record_at ws a).left ≡ 0 → 0 < (record_at ws a).right
      → plan_remove_on ws k s ≡ Ok (pass_plan ws c a (record_at ws a).right)
  unfolding out_on
  plan_remove_on_high i j =
      plan_remove_on_out
      ∙ rw (eq-eqb (record_at ws a).left 0 i, ne_eqb (record_at ws a).right 0 (omega arith), st.up, st.at)
      (pass_on-frames ws k c a (record_at ws a).right frames)

  plan_remove_on_alone : (record_at ws a).left ≡ 0 → (record_at ws a).right ≡ 0 → plan_remove_on ws k s ≡ alone_on ws (header_at ws) k s
  unfolding out_on
  plan_remove_on_alone i j = plan_remove_on_out ∙ rw (eq-eqb (record_at ws a).left 0 i, eq-eqb (record_at ws a).right 0 j)

-- ---- with no side: by the node above

abbrev pub Stays : Context ℕ → Type 0
Stays top = Unit {0}
Stays (into a p (some z) x o c) = Unit {0}
Stays (into a p none x o c) = ⊥

-- a record's tag says whether it stores something
odd_some : (r : Record) (z : ℕ) → zone_of r ≡ some z → odd r.tag ≡ true
unfolding zone_of
odd_some r z h = at (odd r.tag) h
  where
    at : (b : Bool) → cond b (some r.zone) none ≡ some z → b ≡ true
    at true h = refl
    at false h = cc

odd-none : (r : Record) → zone_of r ≡ none → odd r.tag ≡ false
unfolding zone_of
odd-none r h = at (odd r.tag) h
  where
    at : (b : Bool) → cond b (some r.zone) none ≡ none → b ≡ false
    at true h = cc
    at false h = refl

module _ (ws : List ℕ) (k : Prefix) (a n : ℕ) (s : Walk) (room : room_of (length ws) a ≡ true) (low : (record_at ws a).left ≡ 0)
    (high : (record_at ws a).right ≡ 0) where
  pub plan_remove_on-stays : (c : Context ℕ) → Frames ws k c → Stood a (link_at 0 c) (link_at 1 c) n s → Stays c
      → plan_remove_on ws k s ≡ Ok (pass_plan ws c a 0)
  unfolding alone_on
  plan_remove_on-stays top f st w =
      plan_remove_on_alone ws k top a n s room f st low high ∙ rw (st.up, st.at, look_on_nothing ws) (pass_on-frames ws k top a 0 f)
  plan_remove_on-stays (into b p (some z) x o c) f st w =
      plan_remove_on_alone ws k (into b p (some z) x o c) a n s room f st low high
      ∙ rw (st.up, st.at, look_on-room ws b f.0.room, odd_some (record_at ws b) z f.0.bears.zone)
      (pass_on-frames ws k (into b p (some z) x o c) a 0 f)
  plan_remove_on-stays (into b p none x o c) f st w = elim w [ ]

  pub plan_remove_on-twin : (b : ℕ) (p : Bits) (x : Bool) (o : Tree ℕ) (c : Context ℕ) → Frames ws k (into b p none x o c)
      → Stood a b (link_at 0 c) n s
      → plan_remove_on ws k s ≡ Ok (twin_plan ws c a b (side_of (record_at ws b) (not x)))
  unfolding alone_on twin_on
  plan_remove_on-twin b p x o c f st =
      plan_remove_on_alone ws k (into b p none x o c) a n s room f st low high
      ∙ rw (
        st.up,
        look_on-room ws b f.0.room,
        odd-none (record_at ws b) f.0.bears.zone,
        f.0.width,
        lt-leb k.width (length p) f.0.narrow,
        f.0.bit,
        st.over,
        st.at,
        hang_on-frames ws k c (header_at ws).root (side_of (record_at ws b) (not x)) f.3,
      )
