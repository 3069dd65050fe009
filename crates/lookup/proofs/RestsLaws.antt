-- The laws of what fetch and longest match rest on: on any memory of the same length that agrees with a
-- table in the header and in the records of the path's nodes, they leave the same.
-- No contract cites this file.
-- Assumes nothing.
use Prim.Native.Nat.{ℕ, zero, suc, ◌+◌, ◌/◌, ◌≤◌}
use native.Mathlib.Omega.{arith}
use mathlib.Core.Path.{◌≡◌, refl, sym, ap, ◌∙◌, subst}
use mathlib.Core.Bool.{Bool, true, false, cond}
use mathlib.Core.List.{List, [], ◌∷◌, Memᴰ}
use mathlib.Core.Option.{Option}
use lib.Dec.{ltb, eqb}
use lib.ListN.{length, set, replicate}
use borrow.Author.Tests.{ltb-false}
use Rattle.bits.specs.Bits.{Bits}
use Rattle.bits.specs.Meet.{meet}
use Rattle.bits.specs.declared.Meeting.{Meeting}
use Rattle.bits.specs.declared.Meeting.TheVariants.{Equal, Below, Above, Apart}
use Rattle.bits.proofs.MeetLaws.{Says, meet-says}
use Rattle.prefix.specs.Keys.{string_of, is_valid, Valid}
use Rattle.prefix.specs.declared.Prefix.{Prefix}
use Rattle.prefix.proofs.KeysLaws.{is_valid_true}
use Rattle.zones.specs.Maps.{Map}
use Rattle.zones.specs.Tree.{Tree, tip, node}
use Rattle.zones.specs.Searching.{onward}
use Rattle.records.specs.Layout.{is_table, room_of, record_at}
use Rattle.records.specs.Holds.{Linked, Holds}
use Rattle.records.specs.declared.Record.{Record}
use Rattle.lookup.specs.Walking.{shared_on, down_on, seen_on, step_on, Survey, after_on, walk_on, start_on, walk_from, refuse_on, past_refusal, survey_on}
use Rattle.lookup.specs.Paths.{path_links, Agree}
use Rattle.lookup.specs.Fetching as fetching
use Rattle.lookup.specs.Fetching.{fetch_on}
use Rattle.lookup.specs.Matching as matching
use Rattle.lookup.specs.Matching.{longest_on}
use Rattle.lookup.specs.declared.Walk.{Walk}
use Rattle.lookup.specs.declared.Step.{Step}
use Rattle.lookup.specs.declared.Step.TheVariants.{Down, Last, End}
use Rattle.refusals.specs.declared.Refusal.{Refusal}
use Rattle.refusals.specs.declared.Refusal.TheVariants.{BadLength, BadPrefix, ShortOut, Damaged}
use Rattle.std.specs.Prelude.{Result, Ok, Err}
use Rattle.lookup.proofs.PathLinksLaws.{walk_links, path_links-walk}
use Rattle.lookup.proofs.StepsLaws.{shared_on_above, shared_on_apart, side_on-equal, side_on_below, step_on_end}

-- ---- after_on: what comes after a step is alike if it is where the step goes down

module _ (n : ℕ) (ts : List ℕ) (s : Walk) (go to : ℕ → Walk → Survey) where
  abbrev Alike : Result Step Refusal → Type 0
  Alike x = after_on x n ts s go ≡ after_on x n ts s to

  alike-cond : (b : Bool) (x y : Result Step Refusal) → Alike x → Alike y → Alike (cond b x y)
  alike-cond true x y h i = h
  alike-cond false x y h i = i

  alike_seen : (r : Record) (k : Prefix)
      → (r.tag / 2 ≤ shared_on r k → go (r.tag / 2) (down_on r k s) ≡ to (r.tag / 2) (down_on r k s)) → Alike (seen_on r k s)
  unfolding after_on seen_on
  alike_seen r k h =
      alike-cond (ltb 128 (r.tag / 2)) (Err Damaged) _ refl
      (alike-cond (ltb (shared_on r k) s.low) (Err Damaged) _ refl (at (ltb (shared_on r k) (r.tag / 2)) refl))
    where
      at : (b : Bool) → ltb (shared_on r k) (r.tag / 2) ≡ b
          → Alike (cond b (Ok (Last (r.tag / 2) (shared_on r k))) (Ok (Down (r.tag / 2) (down_on r k s))))
      at true e = refl
      at false e = h (ltb-false (shared_on r k) (r.tag / 2) e)

  alike_step : (ws : List ℕ) (k : Prefix) (a : ℕ) → s.next ≡ a → Alike (seen_on (record_at ws a) k s) → Alike (step_on ws k s)
  unfolding after_on step_on
  alike_step ws k a e h =
      let i : Alike (seen_on (record_at ws s.next) k s) = subst (λ (b : ℕ). Alike (seen_on (record_at ws b) k s)) (sym e) h in
      alike-cond (eqb s.next 0) (Ok End) _ refl (alike-cond (room_of (length ws) s.next) (seen_on (record_at ws s.next) k s) (Err Damaged) i refl)

-- ---- walk_on

module _ (us ws : List ℕ) (k : Prefix) (v : Valid k) (length-same : length us ≡ length ws) where
  abbrev Same : List ℕ → Type 0
  Same ls = (l : ℕ) → Memᴰ l ls → record_at us l ≡ record_at ws l

  abbrev Rests : Tree ℕ → Type 0
  Rests t =
      (f n : ℕ) (ts : List ℕ) (s : Walk) → Linked (record_at ws) s.next t → Same (walk_links t (string_of k))
      → walk_on f us k n ts s ≡ walk_on f ws k n ts s

  step_on_same : (s : Walk) → record_at us s.next ≡ record_at ws s.next → step_on us k s ≡ step_on ws k s
  unfolding step_on
  step_on_same s e = rw (length-same, e)

  rests-tip : Rests tip
  unfolding walk_on after_on
  rests-tip zero n ts s e same = refl
  rests-tip (suc f) n ts s e same = rw (step_on_end us k s e, step_on_end ws k s e)

  -- from a node, by how the key meets its string
  module _ (a : ℕ) (z : Bits) (u : Option ℕ) (l r : Tree ℕ) (s : Walk) (e : Linked (record_at ws) s.next (node a z u l r)) where
    -- its record
    abbrev here : Record
    here = record_at ws a

    rests_below : (x : Bool) (t : Tree ℕ) → Rests t → Linked (record_at ws) (cond x here.right here.left) t
        → Says (Below x) z (string_of k) → Same (a ∷ walk_links t (string_of k)) → (f n : ℕ) (ts : List ℕ)
        → walk_on f us k n ts (down_on here k s) ≡ walk_on f ws k n ts (down_on here k s)
    unfolding down_on
    rests_below x t rests linked y same f n ts =
        let next = subst (λ (i : ℕ). Linked (record_at ws) i t) (sym (side_on_below here z u e.1 k v x y)) linked in
        rests f n ts (down_on here k s) next (λ i j. same i (Memᴰ.tail j))

    rests_at : Rests l → Rests r → (f n : ℕ) (ts : List ℕ) (m : Meeting) → Says m z (string_of k)
        → Same (a ∷ onward m [] [] (walk_links l (string_of k)) (walk_links r (string_of k)))
        → here.tag / 2 ≤ shared_on here k → walk_on f us k n ts (down_on here k s) ≡ walk_on f ws k n ts (down_on here k s)
    unfolding down_on
    rests_at rl rr f n ts Equal y same h =
        rests-tip f n ts (down_on here k s) (side_on-equal here z u e.1 k v y) (λ i j. same i (Memᴰ.tail j))
    rests_at rl rr f n ts (Below false) y same h = rests_below false l rl e.2 y same f n ts
    rests_at rl rr f n ts (Below true) y same h = rests_below true r rr e.3 y same f n ts
    rests_at rl rr f n ts (Above x) y same h = absurd (omega (arith, shared_on_above here z u e.1 k x y))
    rests_at rl rr f n ts (Apart x) y same h = absurd (omega (arith, shared_on_apart here z u e.1 k x y))

  -- a walk reads the records of the path's nodes, and no other
  walk_on_rests : (t : Tree ℕ) → Rests t
  unfolding walk_on
  walk_on_rests tip f n ts s e same = rests-tip f n ts s e same
  walk_on_rests (node a z u l r) zero n ts s e same = refl
  walk_on_rests (node a z u l r) (suc f) n ts s e same =
      let go : ℕ → Walk → Survey = λ w d. walk_on f us k (n + 1) (set ts n w) d in
      let to : ℕ → Walk → Survey = λ w d. walk_on f ws k (n + 1) (set ts n w) d in
      let q = record_at ws a in
      ap (λ (x : Result Step Refusal). after_on x n ts s go) (step_on_same s (rw e.0 (same a (Memᴰ.head refl))))
      ∙ alike_step n ts s go to ws k a e.0 (alike_seen n ts s go to q k
      (rests_at a z u l r s e (walk_on_rests l) (walk_on_rests r) f (n + 1) (set ts n (q.tag / 2)) (meet z (string_of k))
      (meet-says z (string_of k)) same))

-- ---- survey_on, fetch_on, longest_on

module _ (ws us : List ℕ) (k : Prefix) (m : Map) (h : Holds ws m) (agree : Agree us ws (path_links h.tree (string_of k))) where
  walk_from_rests : Valid k → (ts : List ℕ) → walk_from us k ts ≡ walk_from ws k ts
  unfolding walk_from start_on
  walk_from_rests v ts =
      rw agree.same_header
      (walk_on_rests us ws k v agree.same_length h.tree 130 0 ts (start_on ws) h.linked
      (rw (path_links-walk h.tree (string_of k) h.good) at agree.same_records))

  pub survey_on_rests : (room : ℕ) (ts : List ℕ) → survey_on us k room ts ≡ survey_on ws k room ts
  unfolding survey_on refuse_on
  survey_on_rests room ts =
      rw agree.same_length (at (is_table (length ws)) (is_valid k) (ltb room 129) refl)
    where
      at : (a b c : Bool) → is_valid k ≡ b
          → past_refusal (cond a (cond b (cond c (Err (ShortOut 129)) (Ok tt)) (Err BadPrefix)) (Err BadLength)) ts (walk_from us k ts)
          ≡ past_refusal (cond a (cond b (cond c (Err (ShortOut 129)) (Ok tt)) (Err BadPrefix)) (Err BadLength)) ts (walk_from ws k ts)
      at true true false e = walk_from_rests (is_valid_true k e) ts
      at true true true e = refl
      at true false c e = refl
      at false b c e = refl

pub fetch_on_rests : (ws us : List ℕ) (k : Prefix) (bs : List ℕ) (m : Map) → (h : Holds ws m)
    → Agree us ws (path_links h.tree (string_of k)) → fetch_on us k bs ≡ fetch_on ws k bs
unfolding fetch_on
fetch_on_rests ws us k bs m h agree = ap (fetching.outcome_of k bs) (survey_on_rests ws us k m h agree (length bs) (replicate 129 0))

pub longest_on_rests : (ws us : List ℕ) (k : Prefix) (bs : List ℕ) (m : Map) → (h : Holds ws m)
    → Agree us ws (path_links h.tree (string_of k)) → longest_on us k bs ≡ longest_on ws k bs
unfolding longest_on
longest_on_rests ws us k bs m h agree = ap (matching.outcome_of bs) (survey_on_rests ws us k m h agree (length bs) (replicate 129 0))
