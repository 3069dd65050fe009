-- A node that a descent passes is a step of the walk, so that the loop of `descend` keeps what the walk from the
-- top comes to. No contract cites this file.
-- Assumes nothing.
use Prim.Native.Nat.{ℕ, ◌+◌, ◌*◌, ◌/◌, ◌%◌, ◌^◌, ◌≤◌, ◌<◌, min}
use native.Mathlib.Omega.{arith}
use mathlib.Core.Path.{◌≡◌, refl, sym, ap, subst, ◌∙◌}
use mathlib.Core.Bool.{Bool, true, false, cond}
use mathlib.Core.List.{List}
use lib.Dec.{eqb}
use lib.ListN.{length, set}
use lib.Pow.{shr-shr, high, low, field, mod-mod-pow}
use borrow.Author.Tests.{lt-ltb, ne_eqb}
use Rattle.bits.specs.Numbers.{odd}
use Rattle.bits.proofs.BitsLaws.{length-lcp-take}
use Rattle.prefix.specs.Keys.{word_bits, string_of}
use Rattle.prefix.specs.declared.Prefix.{Prefix}
use Rattle.prefix.proofs.HalvesLaws.{shifted-mod}
use Rattle.records.specs.Layout.{is_table, place, record_at, header_at, key_of}
use Rattle.records.specs.declared.Record.{Record}
use Rattle.records.proofs.LayoutLaws.{is_table_true, room-room_of}
use Rattle.lookup.specs.Walking.{shared_on, agree_on, side_on, down_on, step_on, start_on, walk_from}
use Rattle.lookup.specs.Descending.{Held, Passed, top_of, past_on, longest_in, walk_in, Sound, Descended, Reached}
use Rattle.lookup.specs.declared.Match.{Match}
use Rattle.lookup.specs.declared.Step.TheVariants.{Down}
use Rattle.std.specs.Prelude.{Option, Some, Ok}
use Rattle.lookup.specs.declared.descent.Descent.{Descent}
use Rattle.lookup.proofs.StepsLaws.{step_on_node, seen_on_down}
use Rattle.lookup.proofs.WalkingLaws.{walk_on_down}

-- ---- the last nodes, when one more is put below them

pushed : (x l : ℕ) → x * 1048576 % 2 ^ 64 + l ≡ x % 2 ^ 44 * 2 ^ 20 + l
pushed x l = ap (λ (y : ℕ). y + l) (shifted-mod 44 20 x)

module _ (x l : ℕ) (h : l < 1048576) where
  pushed_first : l ≡ (x * 1048576 % 2 ^ 64 + l) % 1048576
  pushed_first = sym (ap (λ (y : ℕ). y % 1048576) (pushed x l) ∙ low (x % 2 ^ 44) 20 h)

  shifted : (x * 1048576 % 2 ^ 64 + l) / 1048576 ≡ x % 2 ^ 44
  shifted = ap (λ (y : ℕ). y / 1048576) (pushed x l) ∙ high (x % 2 ^ 44) 20 h

  pushed_second : x % 1048576 ≡ (x * 1048576 % 2 ^ 64 + l) / 1048576 % 1048576
  pushed_second = sym (ap (λ (y : ℕ). y % 1048576) shifted ∙ mod-mod-pow x 24 20)

  pushed-third : x / 1048576 % 1048576 ≡ (x * 1048576 % 2 ^ 64 + l) / 1099511627776 % 1048576
  pushed-third =
      let e : (x * 1048576 % 2 ^ 64 + l) / 1099511627776 ≡ x / 2 ^ 20 % 2 ^ 24 =
      sym (shr-shr (x * 1048576 % 2 ^ 64 + l) 20 20) ∙ ap (λ (y : ℕ). y / 1048576) shifted ∙ field x 24 20 in
      sym (ap (λ (y : ℕ). y % 1048576) e ∙ mod-mod-pow (x / 2 ^ 20) 4 20)

-- ---- a node passed is a step of the walk

shared_on-agree : (r : Record) (k : Prefix) → shared_on r k ≡ min (min (r.tag / 2) k.width) (agree_on r k)
unfolding shared_on agree_on string_of key_of
shared_on-agree r k = length-lcp-take (r.tag / 2) k.width (word_bits (key_of r)) (word_bits k)

-- the last nodes once a descent passes the one where it stands
abbrev pushed_on : ℕ → Descent → ℕ
pushed_on last d = last * 1048576 % 2 ^ 64 + d.next

module _ (ws : List ℕ) (k : Prefix) (last : ℕ) (d : Descent) (tag link : ℕ) (t : is_table (length ws) ≡ true) (s : Sound ws d)
    (p : Passed ws k d.next d.low tag link) where
  abbrev here : Record
  here = record_at ws (d.next / 8)

  passed-shared : shared_on here k ≡ here.tag / 2
  passed-shared = omega (arith, shared_on-agree here k, p.agrees, p.wider, p.tag_is)

  passed_next : side_on here k (here.tag / 2) ≡ place link / 8
  unfolding side_on
  passed_next =
      let w : place link / 8 ≡ link = omega arith in
      let e : here.tag / 2 ≡ tag / 2 = rw p.tag_is in
      rw (e, lt-ltb (tag / 2) k.width p.wider, w) (sym p.goes)

  passed_held : (z : Option Match) (f : ℕ → Option Match) → z ≡ f d.next → cond (odd tag) z (f d.held) ≡ f (cond (odd tag) d.next d.held)
  passed_held z f e = at (odd tag)
    where
      at : (b : Bool) → cond b z (f d.held) ≡ f (cond b d.next d.held)
      at true = e
      at false = refl

  down_past : down_on here k (walk_in ws last d) ≡ walk_in ws (pushed_on last d) (past_on d tag link)
  unfolding down_on walk_in past_on longest_in
  down_past =
      let f = is_table_true (length ws) t in
      let place-most : d.next < 1048576 = omega (arith, p.room) in
      let some : eqb d.next 0 ≡ false = ne_eqb d.next 0 (omega (arith, p.some_record)) in
      let low : here.tag / 2 + 1 ≡ tag / 2 + 1 = rw p.tag_is in
      let stored : Option Match = Some (record { width = here.tag / 2; zone = here.zone }) in
      let longest : cond (odd tag) stored (longest_in ws d.held) ≡ longest_in ws (cond (odd tag) d.next d.held) =
      passed_held stored (longest_in ws) (rw some) in
      let same : odd here.tag ≡ odd tag = ap odd (sym p.tag_is) in
      rw same (λ i.
      record {
        at = ap (λ (x : ℕ). x / 8) (pushed_first last d.next place-most) i;
        up = ap (λ (x : ℕ). x / 8) (pushed_second last d.next place-most) i;
        over = ap (λ (x : ℕ). x / 8) (pushed-third last d.next place-most) i;
        next = passed_next i;
        low = low i;
        longest = longest i;
      })

  pub passed_step : Ok (Down (tag / 2) (walk_in ws (pushed_on last d) (past_on d tag link))) ≡ step_on ws k (walk_in ws last d)
  unfolding walk_in
  passed_step =
      let room = room-room_of (length ws) (d.next / 8) (omega (arith, p.some_record, s.next_whole)) (omega (arith, p.room, s.next_whole)) in
      let e : tag / 2 ≡ here.tag / 2 = rw p.tag_is in
      let grown : d.low ≤ shared_on here k = omega (arith, passed-shared, p.grown) in
      sym (step_on_node ws k (walk_in ws last d) (d.next / 8) refl room
      ∙ seen_on_down here k (walk_in ws last d) (omega (arith, p.early)) grown (omega (arith, passed-shared))
      ∙ rw (down_past, e))

-- ---- the loop of `descend`

descended_start : (ws : List ℕ) (k : Prefix) (ts : List ℕ) (root : ℕ) (d : Descent) → root ≡ (header_at ws).root → root < 2 ^ 32 → d ≡ top_of root
    → Descended ws k ts 0 d ts
unfolding walk_in longest_in walk_from start_on top_of
descended_start ws k ts root d e h g =
    let whole : 8 * root / 8 ≡ root = omega arith in
    subst (λ (x : Descent). Descended ws k ts 0 x ts) (sym g)
    (record {
      sound = record { next_whole = omega arith; next_link = omega arith; held_at = record { whole = refl; room = λ ne. absurd (ne refl) } };
      few = omega arith;
      early = omega arith;
      same = rw (whole, e);
    })

module _ (ws : List ℕ) (k : Prefix) (ts after : List ℕ) (last : ℕ) (d : Descent) (tag link : ℕ) (t : is_table (length ws) ≡ true)
    (p : Passed ws k d.next d.low tag link) (h : Descended ws k ts last d after) where
  held_past : Held ws (cond (odd tag) d.next d.held)
  held_past = at (odd tag)
    where
      at : (b : Bool) → Held ws (cond b d.next d.held)
      at true = record { whole = h.sound.next_whole; room = λ ne. p.room }
      at false = h.sound.held_at

  descended_on : (past_on d tag link).next / 8 < 2 ^ 32 → Descended ws k ts (pushed_on last d) (past_on d tag link) (set after d.n (tag / 2))
  unfolding past_on
  descended_on f =
      record {
        sound = record { next_whole = omega arith; next_link = f; held_at = held_past };
        few = omega (arith, h.few, p.grown);
        early = omega (arith, p.early);
        same =
            walk_on_down ws k d.n after (walk_in ws last d) (walk_from ws k ts) (step_on ws k (walk_in ws last d)) refl h.same
            (omega (arith, h.few, h.early)) (tag / 2) (walk_in ws (pushed_on last d) (past_on d tag link))
            (sym (passed_step ws k last d tag link t h.sound p));
      }

  descended_past : (r : Descent) → (r ≡ past_on d tag link) × (r.next / 8 < 2 ^ 32)
      → Descended ws k ts (last * 1048576 % 2 ^ 64 + d.next) r (set after d.n (tag / 2))
  descended_past r e =
      subst (λ (x : Descent). Descended ws k ts (pushed_on last d) x (set after d.n (tag / 2))) (sym e.0)
      (descended_on (subst (λ (x : Descent). x.next / 8 < 2 ^ 32) e.0 e.1))

pub reached_start : (noted : Bool) (ws : List ℕ) (k : Prefix) (ts : List ℕ) (note root : ℕ) (d : Descent) → (noted ≡ true → note ≡ 0)
    → root ≡ (header_at ws).root → root < 2 ^ 32 → d ≡ top_of root → Reached noted ws k ts note d ts
reached_start noted ws k ts note root d n e h g =
    record { nodes = 0; are = λ t. sym (n t); descended = descended_start ws k ts root d e h g }

pub reached_past : (noted : Bool) (ws : List ℕ) (k : Prefix) (ts after : List ℕ) (note more : ℕ) (d : Descent) (tag link : ℕ)
    → is_table (length ws) ≡ true → Passed ws k d.next d.low tag link → Reached noted ws k ts note d after
    → (noted ≡ true → more ≡ note * 1048576 % 2 ^ 64 + d.next) → (r : Descent) → (r ≡ past_on d tag link) × (r.next / 8 < 2 ^ 32)
    → Reached noted ws k ts more r (set after d.n (tag / 2))
reached_past noted ws k ts after note more d tag link t p h f r e =
    record {
      nodes = pushed_on h.nodes d;
      are = λ i. ap (λ (x : ℕ). pushed_on x d) (h.are i) ∙ sym (f i);
      descended = descended_past ws k ts after h.nodes d tag link t p h.descended r e;
    }
