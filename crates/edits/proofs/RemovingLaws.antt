-- The laws of remove: one for each way out, and the one that makes the contract of the answer.
-- No contract cites this file.
-- Assumes nothing.
use Prim.Native.Nat.{ℕ}
use mathlib.Core.Path.{◌≡◌, refl, sym, ap, subst, ◌∙◌}
use mathlib.Core.Bool.{true}
use mathlib.Core.List.{List, [], ◌∷◌}
use lib.ListN.{length, replicate}
use lib.Seq.{paste}
use Rattle.std.specs.Prelude.{Option, Some, None, Result, Ok, Err}
use Rattle.std.specs.Result.{result_or}
use Rattle.refusals.specs.Refusals.{number_of, OneOf, GivenExactly}
use Rattle.refusals.specs.declared.Refusal.{Refusal}
use Rattle.refusals.specs.declared.Refusal.TheVariants.{Damaged, Absent}
use Rattle.prefix.specs.declared.Prefix.{Prefix}
use Rattle.lookup.specs.Walking.{survey_on, first_refusal, leaves_all, stored_in}
use Rattle.lookup.specs.declared.Path.{Path}
use Rattle.lookup.proofs.SurveyLaws.{survey_on-given, nodes_kept}
use Rattle.plans.specs.Planning.{plan_remove_on}
use Rattle.plans.specs.Plans.{Plan}
use Rattle.plans.specs.Limits.{ThreeRecords}
use Rattle.plans.specs.Making.{made_of, left_by, Makes}
use Rattle.plans.specs.declared.Unmade.{Unmade}
use Rattle.edits.specs.Storing.{Edit, refused}
use Rattle.edits.specs.Removing.{Removal, removed_by, removed_at, removed_of, remove_on, values_of, Remove}
use Rattle.edits.proofs.ThreeLaws.{remove_on_three, remove_on-refused}
use Rattle.edits.proofs.RemoveHoldsLaws.{remove_on_holds}
use Rattle.edits.proofs.StoringLaws.{holds_words}

-- ---- remove_on: where the survey is refused, and where it ends with the path p, and the plan is made or not and
-- leaves the words `now`

pub remove_on-survey : (ws : List ℕ) (k : Prefix) (bs us : List ℕ) (e : Refusal)
    → survey_on ws k (length bs) (replicate 129 0) ≡ record { widths = us; out = Err e } → remove_on ws k bs ≡ refused (Err e) bs ws
unfolding remove_on
remove_on-survey ws k bs us e h = rw h

abbrev removed_as : List ℕ → List ℕ → ℕ → ℕ → List ℕ → Result Unit Unmade → Edit Removal
removed_as bs ts n z now (Ok x) = record { answer = Ok (record { nodes = n; value = z }); bytes = paste bs 0 ts n; words = now }
removed_as bs ts n z now (Err d) = refused (Err Damaged) bs now

removed_by_made : (ws bs ts : List ℕ) (n z : ℕ) (p : Result Plan Unmade)
    → removed_by ws bs ts n z p ≡ removed_as bs ts n z (left_by ws p) (made_of p)
removed_by_made ws bs ts n z (Ok p) = refl
removed_by_made ws bs ts n z (Err d) = refl

module _ (ws : List ℕ) (k : Prefix) (bs us : List ℕ) (p : Path)
    (e : survey_on ws k (length bs) (replicate 129 0) ≡ record { widths = us; out = Ok p }) where
  pub remove_on-absent : (after : List ℕ) → None ≡ stored_in k.width p.walk.longest → after ≡ paste bs 0 us p.nodes
      → remove_on ws k bs ≡ record { answer = Err (Absent p.nodes); bytes = after; words = ws }
  unfolding remove_on
  remove_on-absent after h g = rw (e, ← h, g)

  module _ (z : ℕ) (h : Some z ≡ stored_in k.width p.walk.longest) (now : List ℕ) where
    remove_on_made : (r : Result Unit Unmade) → Makes ws (plan_remove_on ws k p.walk) r now → remove_on ws k bs ≡ removed_as bs us p.nodes z now r
    unfolding remove_on
    remove_on_made r f = rw (e, ← h, f.answer, f.words) (removed_by_made ws bs us p.nodes z (plan_remove_on ws k p.walk))

    pub remove_on_unmade : (r : Result Unit Unmade) (d : Refusal) → Makes ws (plan_remove_on ws k p.walk) r now → Err d ≡ result_or r (Err Damaged)
        → remove_on ws k bs ≡ refused (Err d) bs now
    remove_on_unmade (Ok x) d f g = cc
    remove_on_unmade (Err e) d f g = let q : d ≡ Damaged = cc in rw q (remove_on_made (Err e) f)

    pub remove_on_done : (r : Result Unit Unmade) (x : Unit) (after : List ℕ) → Makes ws (plan_remove_on ws k p.walk) r now
        → Ok x ≡ result_or {D = Refusal} r (Err Damaged) → after ≡ paste bs 0 us p.nodes
        → remove_on ws k bs ≡ record { answer = Ok (record { nodes = p.nodes; value = z }); bytes = after; words = now }
    remove_on_done (Ok y) x after f g h = rw h (remove_on_made (Ok y) f)
    remove_on_done (Err e) x after f g h = cc

-- ---- what any answer of remove_on shows

abbrev Exact : ℕ → Edit Removal → Type 0
Exact first o = GivenExactly first (0 ∷ 6 ∷ 7 ∷ []) (number_of o.answer)

-- a refusal that leaves all has zero counts and leaves the bytes
abbrev Kept : List ℕ → Edit Removal → Type 0
Kept bs o = leaves_all (number_of o.answer) ≡ true → (values_of o.answer ≡ 0 ∷ 0 ∷ []) × (o.bytes ≡ bs)

module _ (ws bs ts : List ℕ) (n : ℕ) where
  removed_at-given : (o : Option ℕ) (y : Result Plan Unmade) → OneOf (0 ∷ 6 ∷ 7 ∷ []) (number_of (removed_at ws bs ts n o y).answer)
  removed_at-given (Some z) (Ok p) = tt
  removed_at-given (Some z) (Err d) = tt
  removed_at-given None y = tt

  removed_at_kept : (o : Option ℕ) (y : Result Plan Unmade) → Kept bs (removed_at ws bs ts n o y)
  unfolding leaves_all
  removed_at_kept (Some z) (Ok p) h = (cc, cc)
  removed_at_kept (Some z) (Err d) h = (refl, refl)
  removed_at_kept None y h = (cc, cc)

removed_of_kept : (ws : List ℕ) (k : Prefix) (bs ts : List ℕ) (x : Result Path Refusal) → Kept bs (removed_of ws k bs ts x)
removed_of_kept ws k bs ts (Ok p) h = removed_at_kept ws bs ts p.nodes (stored_in k.width p.walk.longest) (plan_remove_on ws k p.walk) h
removed_of_kept ws k bs ts (Err e) h = (rw (nodes_kept e h), refl)

module _ (ws : List ℕ) (k : Prefix) (bs : List ℕ) where
  remove_on_exact : Exact (first_refusal ws k (length bs)) (remove_on ws k bs)
  unfolding remove_on
  remove_on_exact =
      let ts = (survey_on ws k (length bs) (replicate 129 0)).widths in
      survey_on-given ws k (length bs) (replicate 129 0) (λ x. number_of (removed_of ws k bs ts x).answer) _ (λ e. refl)
      (λ p. removed_at-given ws bs ts p.nodes (stored_in k.width p.walk.longest) (plan_remove_on ws k p.walk)) tt

  remove_on_kept : Kept bs (remove_on ws k bs)
  unfolding remove_on
  remove_on_kept = let v = survey_on ws k (length bs) (replicate 129 0) in removed_of_kept ws k bs v.widths v.out

-- ---- the contract

pub remove-promise : (ws : List ℕ) (k : Prefix) (bs : List ℕ) (r : Removal) (us after : List ℕ)
    → remove_on ws k bs ≡ record { answer = r; bytes = after; words = us } → Remove ws k bs r us after
remove-promise ws k bs r us after e =
    record {
      answer = e;
      refusal = subst (Exact (first_refusal ws k (length bs))) e (remove_on_exact ws k bs);
      left = λ n h. ap (λ (o : Edit Removal). o.words) (sym e) ∙ remove_on-refused ws k bs n (ap (λ (o : Edit Removal). number_of o.answer) e ∙ h);
      three = subst (λ (o : Edit Removal). ThreeRecords ws o.words) e (remove_on_three ws k bs);
      kept = subst (Kept bs) e (remove_on_kept ws k bs);
      meaning = λ m h v g. ap (λ (o : Edit Removal). o.answer) (sym e) ∙ (remove_on_holds ws k bs m h v g).answer;
      written = λ m h v g. ap (λ (o : Edit Removal). o.bytes) (sym e) ∙ (remove_on_holds ws k bs m h v g).bytes;
      holds = λ m h v g. holds_words (ap (λ (o : Edit Removal). o.words) e) (remove_on_holds ws k bs m h v g).holds;
    }

-- the promise admits one answer, one table and one trail, on any words
pub remove_single : (ws : List ℕ) (k : Prefix) (bs : List ℕ) (r q : Removal) (us vs as' bs' : List ℕ) → Remove ws k bs r us as' → Remove ws k bs q vs bs'
    → (r ≡ q) × (us ≡ vs) × (as' ≡ bs')
remove_single ws k bs r q us vs as' bs' x y =
    let e = sym x.answer ∙ y.answer in
    (ap (λ (o : Edit Removal). o.answer) e, ap (λ (o : Edit Removal). o.words) e, ap (λ (o : Edit Removal). o.bytes) e)
