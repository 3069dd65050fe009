-- The laws of a read: what it makes of a walk does not depend on the links that a walk carries for an edit; and
-- one law for each way out of `longest_match`.
-- No contract cites this file.
-- Assumes nothing.
use Prim.Native.Nat.{ℕ, zero, suc, ◌+◌, ◌-◌, ◌/◌, ◌≤◌}
use mathlib.Core.Path.{◌≡◌, refl, sym, ap, ◌∙◌}
use mathlib.Core.Bool.{Bool, true, false, cond}
use mathlib.Core.List.{List}
use lib.Dec.{eqb, ltb}
use lib.ListN.{length, set, replicate}
use lib.Seq.{paste}
use Rattle.std.specs.Prelude.{Option, Some, Result, Ok, Err}
use Rattle.bits.specs.Numbers.{odd}
use Rattle.refusals.specs.declared.Refusal.{Refusal}
use Rattle.refusals.specs.declared.Refusal.TheVariants.{Damaged}
use Rattle.prefix.specs.declared.Prefix.{Prefix}
use Rattle.records.specs.Layout.{room_of, record_at}
use Rattle.records.specs.declared.Record.{Record}
use Rattle.lookup.specs.Walking.{shared_on, side_on, down_on, seen_on, step_on, Survey, after_on, walk_on, walk_from, refuse_on, survey_on, leave_on}
use Rattle.lookup.specs.Descending.{longest_in, walk_in, Reached}
use Rattle.lookup.specs.Matching.{matched_of, longest_on}
use Rattle.lookup.specs.Reading.{Walked}
use Rattle.lookup.specs.declared.Keyed.{Keyed}
use Rattle.lookup.specs.declared.Match.{Match}
use Rattle.lookup.specs.declared.Walk.{Walk}
use Rattle.lookup.specs.declared.Path.{Path}
use Rattle.lookup.specs.declared.Step.{Step}
use Rattle.lookup.specs.declared.Step.TheVariants.{Down, Last, End}
use Rattle.lookup.specs.declared.descent.Descent.{Descent}
use Rattle.lookup.proofs.WalkingLaws.{Short, walk_from_short}

-- ---- a walk, whatever links it carries

abbrev Alike : Survey → Survey → Type 0
Alike v w = (v.widths ≡ w.widths) × (matched_of v.out ≡ matched_of w.out)

abbrev walk_with : (a u o next low : ℕ) → Option Match → Walk
walk_with a u o next low longest = record { at = a; up = u; over = o; next = next; low = low; longest = longest }

module _ (a u o a' u' o' next low : ℕ) (longest : Option Match) (n : ℕ) (ts : List ℕ) (go : ℕ → Walk → Survey) where
  abbrev step : (b1 b2 b3 b4 b5 : Bool) (w shared : ℕ) (d : Walk) → Result Step Refusal
  step b1 b2 b3 b4 b5 w shared d =
      cond b1 (Ok End) (cond b2 (cond b3 (Err Damaged) (cond b4 (Err Damaged) (cond b5 (Ok (Last w shared)) (Ok (Down w d))))) (Err Damaged))

  alike_step : (b1 b2 b3 b4 b5 : Bool) (w shared : ℕ) (d d' : Walk) → Alike (go w d) (go w d')
      → Alike (after_on (step b1 b2 b3 b4 b5 w shared d) n ts (walk_with a u o next low longest) go)
      (after_on (step b1 b2 b3 b4 b5 w shared d') n ts (walk_with a' u' o' next low longest) go)
  unfolding after_on
  alike_step true b2 b3 b4 b5 w shared d d' h = (refl, refl)
  alike_step false false b3 b4 b5 w shared d d' h = (refl, refl)
  alike_step false true true b4 b5 w shared d d' h = (refl, refl)
  alike_step false true false true b5 w shared d d' h = (refl, refl)
  alike_step false true false false true w shared d d' h = (refl, refl)
  alike_step false true false false false w shared d d' h = h

walk_on_alike : (f : ℕ) (ws : List ℕ) (k : Prefix) (n : ℕ) (ts : List ℕ) (a u o a' u' o' next low : ℕ) (longest : Option Match)
    → Alike (walk_on f ws k n ts (walk_with a u o next low longest)) (walk_on f ws k n ts (walk_with a' u' o' next low longest))
unfolding walk_on step_on seen_on down_on
walk_on_alike zero ws k n ts a u o a' u' o' next low longest = (refl, refl)
walk_on_alike (suc f) ws k n ts a u o a' u' o' next low longest =
    let r : Record = record_at ws next in
    let w : ℕ = r.tag / 2 in
    alike_step a u o a' u' o' next low longest n ts (λ w d. walk_on f ws k (n + 1) (set ts n w) d) (eqb next 0) (room_of (length ws) next)
    (ltb 128 w) (ltb (shared_on r k) low) (ltb (shared_on r k) w) w (shared_on r k) (down_on r k (walk_with a u o next low longest))
    (down_on r k (walk_with a' u' o' next low longest))
    (walk_on_alike f ws k (n + 1) (set ts n w) next a u next a' u' (side_on r k w) (w + 1)
    (cond (odd r.tag) (Some (record { width = w; zone = r.zone })) longest))

-- ---- walk_path: where the walk goes on from where a descent stopped, with links l, a read has of it what it would
-- of the whole; and where l are the last nodes, it is the whole's

pub walked_from : (noted : Bool) (ws : List ℕ) (k : Prefix) (ts after us : List ℕ) (note l : ℕ) (d : Descent) (s : Walk) (r : Result Path Refusal)
    → Reached noted ws k ts note d after → (noted ≡ true → l ≡ note) → s ≡ walk_in ws l d
    → walk_on (130 - d.n) ws k d.n after s ≡ record { widths = us; out = r } → Walked noted (walk_from ws k ts) r us
unfolding walk_in
walked_from noted ws k ts after us note l d s r h f e q =
    let same = walk_on_alike (130 - d.n) ws k d.n after _ _ _ _ _ _ (d.next / 8) d.low (longest_in ws d.held) in
    let from : walk_on (130 - d.n) ws k d.n after (walk_in ws l d) ≡ record { widths = us; out = r } =
    ap (walk_on (130 - d.n) ws k d.n after) (sym e) ∙ q in
    record {
      widths = ap (λ (x : Survey). x.widths) (sym from) ∙ same.0 ∙ ap (λ (x : Survey). x.widths) h.descended.same;
      read = ap (λ (x : Survey). matched_of x.out) (sym from) ∙ same.1 ∙ ap (λ (x : Survey). matched_of x.out) h.descended.same;
      path =
          λ t.
          let these : l ≡ h.nodes = f t ∙ sym (h.are t) in
          ap (λ (x : Survey). x.out) (sym from ∙ ap (λ (m : ℕ). walk_on (130 - d.n) ws k d.n after (walk_in ws m d)) these ∙ h.descended.same);
    }

-- what a path has of the walk: its widths fit a trail
same_nodes : (p q : Path) → matched_of (Ok p) ≡ matched_of (Ok q) → p.nodes ≡ q.nodes
same_nodes p q e =
    let k : ◌≡◌ {A = Keyed (Option Match)} (record { nodes = p.nodes; value = p.walk.longest }) (record { nodes = q.nodes; value = q.walk.longest }) = cc in
    ap (λ (x : Keyed (Option Match)). x.nodes) k

pub walked_few : (noted : Bool) (ws : List ℕ) (k : Prefix) (ts us : List ℕ) (r : Result Path Refusal) → Walked noted (walk_from ws k ts) r us
    → (p : Path) → r ≡ Ok p → p.nodes ≤ 129
walked_few noted ws k ts us r w p e =
    at (walk_from ws k ts).out (walk_from_short ws k ts) (ap matched_of (sym e) ∙ w.read)
  where
    at : (x : Result Path Refusal) → Short x → matched_of (Ok p) ≡ matched_of x → p.nodes ≤ 129
    at (Ok q) h f = rw (same_nodes p q f) h
    at (Err g) h f = cc

-- ---- longest_match

module _ (ws : List ℕ) (k : Prefix) (bs : List ℕ) where
  pub longest_on-refused : (e : Refusal) → refuse_on (length ws) k (length bs) ≡ Err e → longest_on ws k bs ≡ record { answer = Err e; bytes = bs }
  unfolding longest_on survey_on
  longest_on-refused e h = rw h

  module _ (noted : Bool) (us : List ℕ) (r : Result Path Refusal) (h : refuse_on (length ws) k (length bs) ≡ Ok tt)
      (w : Walked noted (walk_from ws k (replicate 129 0)) r us) where
    abbrev out : Result Path Refusal
    out = (walk_from ws k (replicate 129 0)).out

    longest_on-walk : longest_on ws k bs ≡ record { answer = matched_of r; bytes = leave_on bs us out }
    unfolding longest_on survey_on
    longest_on-walk = rw (h, w.read, w.widths)

    pub longest_on-damaged : (e : Refusal) → r ≡ Err e → longest_on ws k bs ≡ record { answer = Err e; bytes = bs }
    longest_on-damaged e q =
        longest_on-walk ∙ (λ i. record { answer = matched_of (q i); bytes = at out (ap matched_of (sym q) ∙ w.read) i })
      where
        at : (x : Result Path Refusal) → matched_of (Err e) ≡ matched_of x → leave_on bs us x ≡ bs
        at (Ok p) f = cc
        at (Err g) f = refl

    pub longest_on-path : (p : Path) → r ≡ Ok p → longest_on ws k bs ≡ record { answer = matched_of (Ok p); bytes = paste bs 0 us p.nodes }
    longest_on-path p q =
        longest_on-walk ∙ (λ i. record { answer = matched_of (q i); bytes = at out (ap matched_of (sym q) ∙ w.read) i })
      where
        at : (x : Result Path Refusal) → matched_of (Ok p) ≡ matched_of x → leave_on bs us x ≡ paste bs 0 us p.nodes
        at (Ok y) f = rw (same_nodes p y f)
        at (Err g) f = cc
