-- The laws of a survey: its ways out, the bounds on a path that it answers, and its refusals by number.
-- No contract cites this file.
-- Assumes nothing.
use Prim.Native.Nat.{ℕ, zero, suc, ◌+◌, ◌/◌, ◌≤◌}
use native.Mathlib.Omega.{arith}
use mathlib.Core.Path.{◌≡◌, refl, subst, ◌∙◌}
use mathlib.Core.Bool.{Bool, true, false, cond}
use mathlib.Core.List.{List, [], ◌∷◌}
use lib.Dec.{ltb, eqb}
use lib.ListN.{length, set}
use borrow.Author.Tests.{ltb-false}
use Rattle.refusals.specs.Refusals.{number, number_of, nodes_in, OneOf, GivenExactly}
use Rattle.refusals.proofs.RefusalsLaws.{number_pos, exactly-walk}
use Rattle.prefix.specs.Keys.{is_valid}
use Rattle.prefix.specs.declared.Prefix.{Prefix}
use Rattle.prefix.proofs.KeysLaws.{is_valid_true}
use Rattle.records.specs.Layout.{is_table, room_of, record_at}
use Rattle.records.specs.declared.Record.{Record}
use Rattle.lookup.specs.Walking.{Survey, shared_on, down_on, step_on, after_on, walk_on, start_on, seen_on, walk_from, refuse_on, past_refusal, survey_on, first_refusal, leaves_all}
use Rattle.lookup.specs.declared.Walk.{Walk}
use Rattle.lookup.specs.declared.Step.{Step}
use Rattle.lookup.specs.declared.Step.TheVariants.{Down, Last, End}
use Rattle.lookup.specs.declared.Path.{Path}
use Rattle.refusals.specs.declared.Refusal.{Refusal}
use Rattle.refusals.specs.declared.Refusal.TheVariants.{BadLength, BadPrefix, BadPosition, BadSize, ShortOut, Damaged, Absent, Full, BadImage}
use Rattle.std.specs.Prelude.{Result, Ok, Err}
use Rattle.lookup.proofs.WalkingLaws.{Short, walk_from_short, length-walk_from}

-- ---- refuse_on

-- what holds where nothing is refused
pub record Accepts (n : ℕ) (k : Prefix) (room : ℕ) : Type 0 where
  pub table : is_table n ≡ true
  pub narrow : k.width ≤ 128
  pub ample : 129 ≤ room

pub refuse_on-accepts : (n : ℕ) (k : Prefix) (room : ℕ) → refuse_on n k room ≡ Ok tt → Accepts n k room
unfolding refuse_on
refuse_on-accepts n k room = at (is_table n) (is_valid k) (ltb room 129) refl refl refl
  where
    at : (a b c : Bool) → is_table n ≡ a → is_valid k ≡ b → ltb room 129 ≡ c
        → ◌≡◌ {A = Result (Unit {0}) Refusal} (cond a (cond b (cond c (Err (ShortOut 129)) (Ok tt)) (Err BadPrefix)) (Err BadLength)) (Ok tt)
        → Accepts n k room
    at false b c p q r h = cc
    at true false c p q r h = cc
    at true true true p q r h = cc
    at true true false p q r h = record { table = p; narrow = (is_valid_true k q).narrow; ample = ltb-false _ _ r }

-- ---- survey_on

module _ (ws : List ℕ) (k : Prefix) (room : ℕ) (ts : List ℕ) where
  pub survey_on-refused : (e : Refusal) → refuse_on (length ws) k room ≡ Err e → survey_on ws k room ts ≡ record { widths = ts; out = Err e }
  unfolding survey_on
  survey_on-refused e h = rw h

  pub survey_on-walk : refuse_on (length ws) k room ≡ Ok tt → survey_on ws k room ts ≡ walk_from ws k ts
  unfolding survey_on
  survey_on-walk h = rw h

-- what holds at each way out holds of a survey
module _ (ws : List ℕ) (k : Prefix) (room : ℕ) (ts : List ℕ) (P : Survey → Type 0) where
  pub survey_on-cases : (is_table (length ws) ≡ false → P (record { widths = ts; out = Err BadLength }))
      → (is_table (length ws) ≡ true → is_valid k ≡ false → P (record { widths = ts; out = Err BadPrefix }))
      → (is_table (length ws) ≡ true → is_valid k ≡ true → ltb room 129 ≡ true → P (record { widths = ts; out = Err (ShortOut 129) }))
      → (is_table (length ws) ≡ true → is_valid k ≡ true → ltb room 129 ≡ false → P (walk_from ws k ts)) → P (survey_on ws k room ts)
  unfolding survey_on refuse_on
  survey_on-cases f g h w = at (is_table (length ws)) (is_valid k) (ltb room 129) refl refl refl
    where
      at : (a b c : Bool) → is_table (length ws) ≡ a → is_valid k ≡ b → ltb room 129 ≡ c
          → P (past_refusal (cond a (cond b (cond c (Err (ShortOut 129)) (Ok tt)) (Err BadPrefix)) (Err BadLength)) ts (walk_from ws k ts))
      at false b c p q r = f p
      at true false c p q r = g p q
      at true true true p q r = h p q r
      at true true false p q r = w p q r

pub survey_on_short : (ws : List ℕ) (k : Prefix) (room : ℕ) (ts : List ℕ) → Short (survey_on ws k room ts).out
survey_on_short ws k room ts =
    survey_on-cases ws k room ts (λ v. Short v.out) (λ a. refl) (λ a b. refl) (λ a b c. refl) (λ a b c. walk_from_short ws k ts)

-- what a survey shows that ends with a path of n nodes
pub record Bounds (k : Prefix) (room : ℕ) (ts us : List ℕ) (n : ℕ) : Type 0 where
  pub narrow : k.width ≤ 128
  pub ample : 129 ≤ room
  pub few : n ≤ 129
  pub long : length us ≡ length ts

abbrev Bounded : Prefix → ℕ → List ℕ → List ℕ → Result Path Refusal → Type 0
Bounded k room ts us (Ok p) = Bounds k room ts us p.nodes
Bounded k room ts us (Err e) = Unit {0}

short-bounded : (k : Prefix) (room : ℕ) (ts us : List ℕ) (x : Result Path Refusal) → k.width ≤ 128 → 129 ≤ room → length us ≡ length ts → Short x
    → Bounded k room ts us x
short-bounded k room ts us (Ok p) h g l f = record { narrow = h; ample = g; few = f; long = l }
short-bounded k room ts us (Err e) h g l f = tt

survey_on-bounded : (ws : List ℕ) (k : Prefix) (room : ℕ) (ts : List ℕ) → Bounded k room ts (survey_on ws k room ts).widths (survey_on ws k room ts).out
survey_on-bounded ws k room ts =
    survey_on-cases ws k room ts (λ v. Bounded k room ts v.widths v.out) (λ a. tt) (λ a b. tt) (λ a b c. tt)
    (λ a b c.
    short-bounded k room ts (walk_from ws k ts).widths (walk_from ws k ts).out (is_valid_true k b).narrow (ltb-false _ _ c)
    (length-walk_from ws k ts) (walk_from_short ws k ts))

module _ (ws : List ℕ) (k : Prefix) (room : ℕ) (ts us : List ℕ) (x : Result Path Refusal) (p : Path) where
  pub survey_on-bounds : survey_on ws k room ts ≡ record { widths = us; out = x } → x ≡ Ok p → Bounds k room ts us p.nodes
  survey_on-bounds e q =
      let b : Bounded k room ts us x = subst (λ (v : Survey). Bounded k room ts v.widths v.out) e (survey_on-bounded ws k room ts) in
      subst (Bounded k room ts us) q b

-- ---- first_refusal

-- a walk ends with a path, or is Damaged
abbrev Walks : Survey → Type 0
Walks v = OneOf (0 ∷ 6 ∷ []) (number_of v.out)

abbrev Steps : Result Step Refusal → Type 0
Steps x = OneOf (0 ∷ 6 ∷ []) (number_of x)

cond-steps : (b : Bool) (x y : Result Step Refusal) → Steps x → Steps y → Steps (cond b x y)
cond-steps true x y h i = h
cond-steps false x y h i = i

step_on-steps : (ws : List ℕ) (k : Prefix) (s : Walk) → Steps (step_on ws k s)
unfolding step_on seen_on
step_on-steps ws k s =
    cond-steps (eqb s.next 0) (Ok End) _ tt
    (cond-steps (room_of (length ws) s.next) (seen_on r k s) (Err Damaged)
    (cond-steps (ltb 128 (r.tag / 2)) (Err Damaged) _ tt
    (cond-steps (ltb (shared_on r k) s.low) (Err Damaged) _ tt
    (cond-steps (ltb (shared_on r k) (r.tag / 2)) (Ok (Last (r.tag / 2) (shared_on r k))) (Ok (Down (r.tag / 2) (down_on r k s))) tt tt))) tt)
  where
    r : Record
    r = record_at ws s.next

walk_on-walks : (f : ℕ) (ws : List ℕ) (k : Prefix) (n : ℕ) (ts : List ℕ) (s : Walk) → Walks (walk_on f ws k n ts s)
unfolding walk_on after_on
walk_on-walks zero ws k n ts s = tt
walk_on-walks (suc f) ws k n ts s = at (step_on ws k s) (step_on-steps ws k s) (λ w d. walk_on-walks f ws k (n + 1) (set ts n w) d)
  where
    at : (x : Result Step Refusal) → Steps x → ((w : ℕ) (d : Walk) → Walks (walk_on f ws k (n + 1) (set ts n w) d))
        → Walks (after_on x n ts s (λ w d. walk_on f ws k (n + 1) (set ts n w) d))
    at (Ok (Down w d)) h go = go w d
    at (Ok (Last w b)) h go = tt
    at (Ok End) h go = tt
    at (Err e) h go = h

module _ (ws : List ℕ) (k : Prefix) (room : ℕ) (ts : List ℕ) where
  survey_on_exactly : GivenExactly (first_refusal ws k room) (0 ∷ 6 ∷ []) (number_of (survey_on ws k room ts).out)
  unfolding first_refusal walk_from
  survey_on_exactly =
      survey_on-cases ws k room ts (λ v. GivenExactly (first_refusal ws k room) (0 ∷ 6 ∷ []) (number_of v.out)) (λ a. rw a) (λ a b. rw (a, b))
      (λ a b c. rw (a, b, c)) (λ a b c. rw (a, b, c) (walk_on-walks 130 ws k 0 ts (start_on ws)))

  -- A call that hands on the refusals of its survey, and answers one of the rest where there is a path: its
  -- number is given exactly when the paper says so.
  pub survey_on-given : (num : Result Path Refusal → ℕ) (rest : List ℕ) → ((e : Refusal) → num (Err e) ≡ number e)
      → ((p : Path) → OneOf rest (num (Ok p))) → OneOf rest 6
      → GivenExactly (first_refusal ws k room) rest (num (survey_on ws k room ts).out)
  survey_on-given num rest same done six =
      let x = (survey_on ws k room ts).out in
      exactly-walk (first_refusal ws k room) rest (number_of x) (num x) survey_on_exactly (on x) (at x) six
    where
      on : (x : Result Path Refusal) (n : ℕ) → number_of x ≡ suc n → num x ≡ suc n
      on (Ok p) n h = cc
      on (Err e) n h = same e ∙ h

      at : (x : Result Path Refusal) → number_of x ≡ 0 → OneOf rest (num x)
      at (Ok p) h = done p
      at (Err e) h = absurd (omega (arith, h, number_pos e))

-- ---- leaves_all

-- a refusal that leaves everything lent has no node to give
pub nodes_kept : (e : Refusal) → leaves_all (number e) ≡ true → nodes_in e ≡ 0
unfolding leaves_all
nodes_kept BadLength h = refl
nodes_kept BadPrefix h = refl
nodes_kept BadPosition h = refl
nodes_kept BadSize h = refl
nodes_kept (ShortOut n) h = refl
nodes_kept Damaged h = refl
nodes_kept (Absent n) h = cc
nodes_kept (Full n) h = cc
nodes_kept BadImage h = refl
