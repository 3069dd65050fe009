-- The laws of a descent: what a test of a record shows, what a descent stands for, and where the walk goes on from
-- it. No contract cites this file.
-- Assumes nothing.
use Prim.Native.Nat.{ℕ, zero, suc, ◌+◌, ◌/◌, ◌≤◌, ◌<◌, min}
use native.Mathlib.Omega.{arith}
use mathlib.Core.Path.{◌≡◌, refl, sym, subst, ◌∙◌}
use mathlib.Core.Bool.{Bool, true, false, not, cond}
use mathlib.Core.List.{List}
use lib.Dec.{eqb, ltb}
use lib.ListN.{length}
use borrow.Author.Tests.{not-false, leb-true, lt-ltb, le-ltb}
use Rattle.prefix.specs.Calls.{High, Parting}
use Rattle.prefix.specs.declared.Prefix.{Prefix}
use Rattle.prefix.proofs.HalvesLaws.{agree_after, agree_at}
use Rattle.records.specs.Layout.{is_table, place, record_at, key_of}
use Rattle.records.specs.declared.Record.{Record}
use Rattle.records.proofs.LayoutLaws.{is_table_true}
use Rattle.lookup.specs.Walking.{agree_on}
use Rattle.lookup.specs.Descending.{Whole, Passed, Turned, ends_on, past_on, walk_in}
use Rattle.lookup.specs.declared.Walk.{Walk}
use Rattle.lookup.specs.declared.descent.Descent.{Descent}
use Rattle.lookup.specs.declared.descent.Pass.{Pass}
use Rattle.std.specs.Prelude.{Option, Some}

-- ---- turn_at

pub whole_room : (ws : List ℕ) (at : ℕ) → is_table (length ws) ≡ true → Whole at → at < length ws → at + 8 ≤ length ws
whole_room ws at t w h = let f = is_table_true (length ws) t in omega arith

pub room_most : (ws : List ℕ) (at : ℕ) → is_table (length ws) ≡ true → at + 8 ≤ length ws → at < 524288
room_most ws at t h = let f = is_table_true (length ws) t in omega arith

-- which link is chosen by the shift: the second where the words part at the node's width
turn_way : (w x left right a : ℕ) → x ≤ 1 → (x ≡ 0 → w < a) → (x ≡ 1 → a ≡ w) → (w ≤ a) × (cond (eqb x 1) right left ≡ cond (ltb w a) left right)
turn_way w zero left right a h p q = (omega (arith, p refl), rw (lt-ltb w a (p refl)))
turn_way w (suc zero) left right a h p q = (omega (arith, q refl), rw (le-ltb w a (omega (arith, q refl))))
turn_way w (suc (suc x)) left right a h p q = absurd (omega arith)

-- a record with a tag to pass is not where the header stands
not_top : (ws : List ℕ) (at tag : ℕ) → ends_on ws ≡ true → ((l : ℕ) → at ≡ place l → tag ≡ (record_at ws l).tag) → tag / 2 < 64 → 0 < at
unfolding ends_on
not_top ws zero tag e t h = let f = leb-true 128 (record_at ws 0).tag e in absurd (omega (arith, t 0 refl))
not_top ws (suc at) tag e t h = omega arith

module _ (ws : List ℕ) (k : Prefix) (at low tag : ℕ) (w : Whole at) (room : at + 8 ≤ length ws) where
  pub passed-turn : (hi own x left right : ℕ) → ends_on ws ≡ true → ((l : ℕ) → at ≡ place l → tag ≡ (record_at ws l).tag)
      → ((l : ℕ) → at ≡ place l → left ≡ (record_at ws l).left) → ((l : ℕ) → at ≡ place l → right ≡ (record_at ws l).right)
      → ((l : ℕ) → at ≡ place l → High (key_of (record_at ws l)) hi) → High k own → Parting hi own (tag / 2) x
      → low ≤ tag / 2 → tag / 2 < min k.width 64 → x ≤ 1 → (link : ℕ) → link ≡ cond (eqb x 1) right left
      → Passed ws k at low tag link
  unfolding agree_on
  passed-turn hi own x left right ne t tl tr h g p f e s link el =
      let early : tag / 2 < 64 = omega arith in
      let here : Record = record_at ws (at / 8) in
      let after = agree_after (key_of here) k hi own (h (at / 8) w) g (tag / 2) x early p in
      let same = agree_at (key_of here) k hi own (h (at / 8) w) g (tag / 2) x early p in
      let way = turn_way (tag / 2) x left right _ s after same in
      record {
        some_record = not_top ws at tag ne t early;
        room = room;
        tag_is = t (at / 8) w;
        grown = f;
        wider = omega arith;
        early = early;
        agrees = way.0;
        goes = el ∙ way.1 ∙ rw (tl (at / 8) w, tr (at / 8) w);
      }

pub turned-passed : (ws : List ℕ) (k : Prefix) (at low : ℕ) (x : Option Pass) (p : Pass) → Turned ws k at low x → x ≡ Some p
    → Passed ws k at low p.tag p.link
turned-passed ws k at low x p t e = subst (Turned ws k at low) e t

-- as the code tests it, which goes on where the answer is not false
pub ends_tested : (ws : List ℕ) (b : Bool) → b ≡ ends_on ws → not b ≡ false → ends_on ws ≡ true
ends_tested ws b e t = sym e ∙ not-false b t

-- ---- past

pub low_past : (d : Descent) (tag link : ℕ) (r : Descent) → r ≡ past_on d tag link → r.low ≡ tag / 2 + 1
unfolding past_on
low_past d tag link r e = rw e

-- ---- where the walk goes on

pub low-walk_in : (ws : List ℕ) (last : ℕ) (d : Descent) (s : Walk) → s ≡ walk_in ws last d → s.low ≡ d.low
unfolding walk_in
low-walk_in ws last d s e = rw e
