-- The laws of the path walk: what a step shows of widths, the walk's equations, one for each kind of step, and
-- the bounds on what it answers.
-- No contract cites this file.
-- Assumes nothing.
use Prim.Native.Nat.{ℕ, zero, suc, ◌+◌, ◌-◌, ◌/◌, ◌≤◌}
use native.Mathlib.Nat.{le_trans}
use native.Mathlib.Omega.{arith}
use mathlib.Core.Path.{◌≡◌, refl, sym, ap, subst, ◌∙◌}
use mathlib.Core.Bool.{Bool, true, false, cond}
use mathlib.Core.List.{List}
use lib.Dec.{ltb, eqb}
use lib.ListN.{length, set, length-set}
use borrow.Author.Tests.{ltb-false}
use Rattle.bits.proofs.BitsLaws.{length-lcp}
use Rattle.prefix.specs.Keys.{string_of}
use Rattle.prefix.specs.declared.Prefix.{Prefix}
use Rattle.prefix.proofs.KeysLaws.{length-string_of}
use Rattle.records.specs.Layout.{room_of, record_at, key_of}
use Rattle.records.specs.declared.Record.{Record}
use Rattle.lookup.specs.Walking.{shared_on, down_on, seen_on, step_on, Survey, path_of, after_on, walk_on, start_on, walk_from}
use Rattle.lookup.specs.declared.Walk.{Walk}
use Rattle.lookup.specs.declared.Step.{Step}
use Rattle.lookup.specs.declared.Step.TheVariants.{Down, Last, End}
use Rattle.lookup.specs.declared.Met.TheVariants.{Matching, Mismatching}
use Rattle.lookup.specs.declared.Path.{Path}
use Rattle.refusals.specs.Refusals.{nodes_in}
use Rattle.refusals.specs.declared.Refusal.{Refusal}
use Rattle.refusals.specs.declared.Refusal.TheVariants.{Damaged}
use Rattle.std.specs.Prelude.{Result, Ok, Err, Some, None}
use Rattle.std.specs.Result.{result_ok}
use Rattle.std.proofs.lemmas.Option.{none-some, same_Some}

-- ---- shared_on

pub shared_on_most : (r : Record) (k : Prefix) → r.tag / 2 ≤ 128 → shared_on r k ≤ r.tag / 2
unfolding shared_on key_of
shared_on_most r k h = omega (arith, length-lcp (string_of (key_of r)) (string_of k), length-string_of (key_of r) h)

-- ---- step_on

-- what a step shows of widths: a node is wider than those before it, and at most 128 wide; and it is refused as Damaged alone
abbrev pub Grows : Walk → Result Step Refusal → Type 0
Grows s (Ok (Down w d)) = (s.low ≤ w) × (w ≤ 128) × (d.low ≡ w + 1)
Grows s (Ok (Last w b)) = (s.low ≤ w) × (w ≤ 128)
Grows s (Ok End) = Unit {0}
Grows s (Err e) = e ≡ Damaged

seen_on-grows : (r : Record) (k : Prefix) (s : Walk) → Grows s (seen_on r k s)
unfolding seen_on down_on
seen_on-grows r k s = at (ltb 128 w) (ltb (shared_on r k) s.low) (ltb (shared_on r k) w) refl refl
  where
    w : ℕ
    w = r.tag / 2

    at : (a b c : Bool) → ltb 128 w ≡ a → ltb (shared_on r k) s.low ≡ b
        → Grows s (cond a (Err Damaged) (cond b (Err Damaged) (cond c (Ok (Last w (shared_on r k))) (Ok (Down w (down_on r k s))))))
    at true b c p q = refl
    at false true c p q = refl
    at false false true p q = (le_trans (ltb-false _ _ q) (shared_on_most r k (ltb-false _ _ p)), ltb-false _ _ p)
    at false false false p q = (le_trans (ltb-false _ _ q) (shared_on_most r k (ltb-false _ _ p)), ltb-false _ _ p, refl)

pub step_on-grows : (ws : List ℕ) (k : Prefix) (s : Walk) → Grows s (step_on ws k s)
unfolding step_on
step_on-grows ws k s = at (eqb s.next 0) (room_of (length ws) s.next)
  where
    at : (a b : Bool) → Grows s (cond a (Ok End) (cond b (seen_on (record_at ws s.next) k s) (Err Damaged)))
    at true b = tt
    at false true = seen_on-grows (record_at ws s.next) k s
    at false false = refl

pub step_on_grown : (ws : List ℕ) (k : Prefix) (s : Walk) (x y : Result Step Refusal) → x ≡ step_on ws k s → x ≡ y → Grows s y
step_on_grown ws k s x y e q = subst (Grows s) (sym e ∙ q) (step_on-grows ws k s)

pub step_on_given : (ws : List ℕ) (k : Prefix) (s : Walk) (y : Step) → result_ok (step_on ws k s) ≡ Some y → step_on ws k s ≡ Ok y
step_on_given ws k s y h = at (step_on ws k s) h
  where
    at : (x : Result Step Refusal) → result_ok x ≡ Some y → x ≡ Ok y
    at (Ok x) q = ap Ok (same_Some x y q)
    at (Err e) q = absurd (none-some y q)

pub step_on-refused : (ws : List ℕ) (k : Prefix) (s : Walk) → result_ok (step_on ws k s) ≡ None → step_on ws k s ≡ Err Damaged
step_on-refused ws k s h = at (step_on ws k s) (step_on-grows ws k s) h
  where
    at : (x : Result Step Refusal) → Grows s x → result_ok x ≡ None → x ≡ Err Damaged
    at (Ok x) g q = absurd (none-some x (sym q))
    at (Err e) g q = ap Err g

-- ---- walk_on, where a walk that has the value v goes on after n nodes, and its step is x

module _ (ws : List ℕ) (k : Prefix) (n : ℕ) (ts : List ℕ) (s : Walk) (v : Survey) (x : Result Step Refusal) (e : x ≡ step_on ws k s)
    (i : walk_on (130 - n) ws k n ts s ≡ v) (h : n ≤ 129) where
  walk_on_step : v ≡ after_on x n ts s (λ w d. walk_on (130 - (n + 1)) ws k (n + 1) (set ts n w) d)
  unfolding walk_on
  walk_on_step =
      let f : 130 - n ≡ suc (130 - (n + 1)) = omega arith in
      sym i ∙ ap (λ (m : ℕ). walk_on m ws k n ts s) f ∙ rw (← e)

  pub walk_on_down : (w : ℕ) (d : Walk) → x ≡ Ok (Down w d) → walk_on (130 - (n + 1)) ws k (n + 1) (set ts n w) d ≡ v
  unfolding after_on
  walk_on_down w d q = sym (walk_on_step ∙ rw q)

  pub walk_on-last : (w b : ℕ) → x ≡ Ok (Last w b) → v ≡ record { widths = set ts n w; out = path_of (n + 1) s (Mismatching s.next b) }
  unfolding after_on
  walk_on-last w b q = walk_on_step ∙ rw q

  pub walk_on_end : x ≡ Ok End → v ≡ record { widths = ts; out = path_of n s (Matching s.at) }
  unfolding after_on
  walk_on_end q = walk_on_step ∙ rw q

  pub walk_on-bad : (f : Refusal) → x ≡ Err f → v ≡ record { widths = ts; out = Err f }
  unfolding after_on
  walk_on-bad f q = walk_on_step ∙ rw q

-- a path has at most 129 nodes, and a refusal has none
abbrev pub Short : Result Path Refusal → Type 0
Short (Ok p) = p.nodes ≤ 129
Short (Err e) = nodes_in e ≡ 0

module _ (n : ℕ) (ts : List ℕ) (s : Walk) (go : ℕ → Walk → Survey) where
  after_on_short : (x : Result Step Refusal) → Grows s x → n ≤ s.low → s.low ≤ 129
      → ((w : ℕ) (d : Walk) → n + 1 ≤ d.low → d.low ≤ 129 → Short (go w d).out) → Short (after_on x n ts s go).out
  unfolding after_on
  after_on_short (Ok (Down w d)) g h l rec = rec w d (omega arith) (omega arith)
  after_on_short (Ok (Last w b)) g h l rec = omega arith
  after_on_short (Ok End) g h l rec = omega arith
  after_on_short (Err e) g h l rec = ap nodes_in g

  length-after_on : (x : Result Step Refusal) → ((w : ℕ) (d : Walk) → length (go w d).widths ≡ length ts) → length (after_on x n ts s go).widths ≡ length ts
  unfolding after_on
  length-after_on (Ok (Down w d)) rec = rec w d
  length-after_on (Ok (Last w b)) rec = length-set ts n w
  length-after_on (Ok End) rec = refl
  length-after_on (Err e) rec = refl

pub walk_on_short : (f : ℕ) (ws : List ℕ) (k : Prefix) (n : ℕ) (ts : List ℕ) (s : Walk) → n ≤ s.low → s.low ≤ 129
    → Short (walk_on f ws k n ts s).out
unfolding walk_on
walk_on_short zero ws k n ts s h l = refl
walk_on_short (suc f) ws k n ts s h l =
    after_on_short n ts s (λ w d. walk_on f ws k (n + 1) (set ts n w) d) (step_on ws k s) (step_on-grows ws k s) h l
    (λ w d. walk_on_short f ws k (n + 1) (set ts n w) d)

pub length-walk_on : (f : ℕ) (ws : List ℕ) (k : Prefix) (n : ℕ) (ts : List ℕ) (s : Walk) → length (walk_on f ws k n ts s).widths ≡ length ts
unfolding walk_on
length-walk_on zero ws k n ts s = refl
length-walk_on (suc f) ws k n ts s =
    length-after_on n ts s (λ w d. walk_on f ws k (n + 1) (set ts n w) d) (step_on ws k s)
    (λ w d. length-walk_on f ws k (n + 1) (set ts n w) d ∙ length-set ts n w)

-- ---- walk_from

pub walk_from_short : (ws : List ℕ) (k : Prefix) (ts : List ℕ) → Short (walk_from ws k ts).out
unfolding walk_from start_on
walk_from_short ws k ts = walk_on_short 130 ws k 0 ts (start_on ws) (omega arith) (omega arith)

pub length-walk_from : (ws : List ℕ) (k : Prefix) (ts : List ℕ) → length (walk_from ws k ts).widths ≡ length ts
unfolding walk_from
length-walk_from ws k ts = length-walk_on 130 ws k 0 ts (start_on ws)
