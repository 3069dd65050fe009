-- The laws of what planning a store sees on words that hold a map: the links of the tree and of the chain of
-- spare records lead to their records, so that each plan is one of a few. No contract cites this file.
--   spare_in ws ls       what the first of the spare records ls is
--   here_plan            the plan that gives the number to a node of the key's own
--   hang_plan            the plan that hangs a link in an open place and writes two records more
--   above_write, leaf_write, fork_write   the records of new nodes
-- Assumes nothing.
use Prim.Native.Nat.{ℕ, ◌+◌, ◌*◌, ◌/◌, ◌≤◌, ◌<◌}
use native.Mathlib.Omega.{arith}
use mathlib.Core.Path.{◌≡◌, refl}
use mathlib.Core.Bool.{Bool, true, false}
use mathlib.Core.List.Memᴰ
use mathlib.Core.List.{List, [], ◌∷◌, Memᴰ}
use lib.ListN.{length, get_or}
use borrow.Author.Tests.{eq-eqb, ne_eqb, lt-ltb, le-ltb, lt-leb}
use Rattle.std.specs.Prelude.{Result, Ok, Err}
use Rattle.prefix.specs.Keys.{string_of, cut_of}
use Rattle.prefix.specs.declared.Prefix.{Prefix}
use Rattle.zones.specs.Maps.{Map}
use Rattle.zones.specs.Focus.{Context, top, into, link_at}
use Rattle.records.specs.Layout.{room_of, record_at, header_at, key_of, with_side, is_spare}
use Rattle.records.specs.Holds.{Chained, Holds}
use Rattle.records.proofs.LayoutLaws.{room_of_true}
use Rattle.records.proofs.HoldsLaws.{chain-room}
use Rattle.lookup.specs.declared.Walk.{Walk}
use Rattle.lookup.specs.declared.Met.{Met}
use Rattle.lookup.specs.declared.Met.TheVariants.{Matching, Mismatching}
use Rattle.lookup.proofs.FramesLaws.{Frames}
use Rattle.lookup.proofs.EndsLaws.{low_of, StoodAt}
use Rattle.plans.specs.Planning.{nowhere_of, node_of, spare_on, here_on, above_on, fork_on, new_on, store_of, plan_of, hang_on, plan_store_on}
use Rattle.plans.specs.Plans.{Write, Plan}
use Rattle.plans.specs.declared.Spare.{Spare}
use Rattle.plans.specs.declared.Unmade.{Unmade}
use Rattle.plans.specs.declared.Unmade.TheVariants.{Full}
use Rattle.grafts.proofs.HangLaws.{root_with, hang_write, node_on-room, hang_on-frames}

-- ---- spare_on

-- what the first of the spare records is
abbrev pub spare_in : List ℕ → List ℕ → Result Spare Unmade
spare_in ws [] = Err Full
spare_in ws (a ∷ ls) = Ok (record { link = a; next = (record_at ws a).left })

pub spare_on-chained : (ws : List ℕ) (l : ℕ) (ls : List ℕ) → ((a : ℕ) → Memᴰ a ls → room_of (length ws) a ≡ true)
    → Chained (record_at ws) l ls → spare_on ws l ≡ spare_in ws ls
unfolding spare_on is_spare
spare_on-chained ws l [] room e = rw e
spare_on-chained ws l (a ∷ ls) room e =
    let h = room a (Memᴰ.head refl) in
    let f = room_of_true (length ws) a h in
    rw (e.0, ne_eqb a 0 (omega arith), node_on-room ws a h, e.1)

-- ---- plan_store_on

-- at a node with the key itself: its record with the number
abbrev pub here_plan : List ℕ → Prefix → ℕ → ℕ → Plan
here_plan ws k z a =
    record {
      header = header_at ws;
      one = record { link = a; content = node_of k (2 * k.width + 1) z (record_at ws a).left (record_at ws a).right };
      two = nowhere_of;
      three = nowhere_of;
    }

pub plan_store_on-here : (ws : List ℕ) (k : Prefix) (z : ℕ) (s : Walk) (e : Met) (a : ℕ) → s.low ≡ k.width + 1 → s.at ≡ a
    → room_of (length ws) a ≡ true → plan_store_on ws k z s e ≡ Ok (here_plan ws k z a)
unfolding plan_store_on here_on
plan_store_on-here ws k z s e a low at room = rw (eq-eqb s.low (k.width + 1) low, at, node_on-room ws a room)

low-frames : (ws : List ℕ) (k : Prefix) (c : Context ℕ) → Frames ws k c → low_of c ≤ k.width
low-frames ws k top f = omega arith
low-frames ws k (into a p v x o c) f = omega (arith, f.0.narrow)

-- the link l hung in the open place of c, the spare records from `next` on, and two records more
abbrev pub hang_plan : List ℕ → Context ℕ → ℕ → ℕ → Write → Write → Plan
hang_plan ws c l next two three =
    record {
      header = record { root = root_with c (header_at ws).root l; spare = next };
      one = hang_write ws c l;
      two = two;
      three = three;
    }

-- a node for k with the link l on its side x, in the record a
abbrev pub above_write : Prefix → ℕ → ℕ → Bool → ℕ → Write
above_write k z a x l = record { link = a; content = with_side (node_of k (2 * k.width + 1) z 0 0) x l }

-- a leaf for k
abbrev pub leaf_write : Prefix → ℕ → ℕ → Write
leaf_write k z a = record { link = a; content = node_of k (2 * k.width + 1) z 0 0 }

-- a branch at k's first n bits, with the link a on the side x and l on the other, in the record b
abbrev pub fork_write : Prefix → ℕ → ℕ → Bool → ℕ → ℕ → Write
fork_write k n b x a l = record { link = b; content = with_side (node_of (cut_of k n) (2 * n) 0 l l) x a }

-- where the key has no node, the plan goes by the first spare record and by what was met
module _ (ws : List ℕ) (k : Prefix) (z : ℕ) (c : Context ℕ) (frames : Frames ws k c) where
  pub plan_store_on_new : (m : Map) (h : Holds ws m) (s : Walk) (e : Met) → StoodAt c s
      → plan_store_on ws k z s e ≡ store_of ws (header_at ws) k z (link_at 0 c) e (spare_in ws h.chain)
  unfolding plan_store_on
  plan_store_on_new m h s e st =
      let d = low-frames ws k c frames in
      let n : s.low ≡ k.width + 1 → ⊥ = λ i. omega (arith, st.low) in
      rw (ne_eqb s.low (k.width + 1) n, st.at, spare_on-chained ws (header_at ws).spare h.chain (chain-room h) h.chained)

  plan_of-frames : (l next : ℕ) (two three : Write)
      → plan_of (hang_on ws (header_at ws).root k (link_at 0 c) l) next two three ≡ Ok (hang_plan ws c l next two three)
  plan_of-frames l next two three = rw (hang_on-frames ws k c (header_at ws).root l frames)

  pub new_on-tip : (q a next : ℕ)
      → new_on ws (header_at ws) k z (link_at 0 c) (Matching q) a next ≡ Ok (hang_plan ws c a next (leaf_write k z a) nowhere_of)
  new_on-tip q a next = plan_of-frames a next (leaf_write k z a) nowhere_of

  -- a node d that the key lies above, by the side x
  pub new_on_above : (d n a next : ℕ) (x : Bool) → room_of (length ws) d ≡ true → k.width ≤ n → (record_at ws d).tag / 2 ≤ 128
      → k.width < (record_at ws d).tag / 2 → get_or (string_of (key_of (record_at ws d))) k.width false ≡ x
      → new_on ws (header_at ws) k z (link_at 0 c) (Mismatching d n) a next ≡ Ok (hang_plan ws c a next (above_write k z a x d) nowhere_of)
  unfolding above_on
  new_on_above d n a next x room all narrow wide bit =
      let w = (record_at ws d).tag / 2 in
      rw (le-ltb n k.width all, node_on-room ws d room, le-ltb 128 w narrow, lt-leb w k.width wide, bit)
      (plan_of-frames a next (above_write k z a x d) nowhere_of)

  -- a node d that parts from the key after n bits
  module _ (d n a next : ℕ) (some : n < k.width) where
    pub new_on_full : next ≡ 0 → new_on ws (header_at ws) k z (link_at 0 c) (Mismatching d n) a next ≡ Err Full
    unfolding fork_on
    new_on_full e = rw (lt-ltb n k.width some, spare_on-chained ws next [] (λ b i. absurd (Memᴰ.not-nil i)) e)

    pub new_on-fork : (x : Bool) (b : ℕ) (ls : List ℕ) → get_or (string_of k) n false ≡ x
        → ((j : ℕ) → Memᴰ j (b ∷ ls) → room_of (length ws) j ≡ true) → Chained (record_at ws) next (b ∷ ls)
        → new_on ws (header_at ws) k z (link_at 0 c) (Mismatching d n) a next
        ≡ Ok (hang_plan ws c b (record_at ws b).left (leaf_write k z a) (fork_write k n b x a d))
    unfolding fork_on
    new_on-fork x b ls bit room chained =
        rw (lt-ltb n k.width some, spare_on-chained ws next (b ∷ ls) room chained, bit)
        (plan_of-frames b (record_at ws b).left (leaf_write k z a) (fork_write k n b x a d))
