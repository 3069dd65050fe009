-- The laws of store: what a survey with a path tells, one law for each way out, and the one that makes the
-- contract of the answer.
-- No contract cites this file.
-- Assumes nothing.
use Prim.Native.Nat.{ℕ, ◌≤◌}
use mathlib.Core.Path.{◌≡◌, refl, sym, ap, subst, ◌∙◌}
use mathlib.Core.Bool.{true}
use mathlib.Core.List.{List, [], ◌∷◌}
use lib.ListN.{length, replicate}
use lib.Seq.{paste}
use Rattle.std.specs.Prelude.{Option, Result, Ok, Err}
use Rattle.std.specs.Result.{IsErr, IsErrAnd}
use Rattle.refusals.specs.Refusals.{number_of, OneOf, GivenExactly}
use Rattle.refusals.specs.declared.Refusal.{Refusal}
use Rattle.refusals.specs.declared.Refusal.TheVariants.{Damaged, Full}
use Rattle.prefix.specs.declared.Prefix.{Prefix}
use Rattle.zones.specs.Maps.{Map}
use Rattle.records.specs.Holds.{Holds}
use Rattle.records.proofs.LayoutLaws.{is_table_true}
use Rattle.lookup.specs.Walking.{Survey, walk_from, survey_on, first_refusal, leaves_all, stored_in}
use Rattle.lookup.specs.declared.Path.{Path}
use Rattle.lookup.proofs.SurveyLaws.{survey_on-cases, survey_on-given, nodes_kept}
use Rattle.plans.specs.Planning.{plan_store_on}
use Rattle.plans.specs.Plans.{Plan}
use Rattle.plans.specs.Limits.{ThreeRecords}
use Rattle.plans.specs.Making.{made_of, left_by, Makes}
use Rattle.plans.specs.declared.Unmade.{Unmade}
use Rattle.plans.specs.declared.Unmade.TheVariants as unmade
use Rattle.edits.specs.Storing.{Edit, refused, Stored, accepted_of, stored_by, stored_of, store_on, values_of, Store}
use Rattle.edits.proofs.ThreeLaws.{store_on_three, store_on-refused}
use Rattle.edits.proofs.StoreHoldsLaws.{store_on_holds}

-- ---- what a `?` passes on

pub passed : {A : Type 0} (r : Result A Refusal) (e : Refusal) → IsErr r × IsErrAnd r (λ d. d ≡ e) → r ≡ Err e
passed (Ok x) e h = absurd h.1
passed (Err d) e h = rw h.1

-- ---- survey_on: words with a path are long enough for a header and a record

abbrev Long : List ℕ → Result Path Refusal → Type 0
Long ws (Ok p) = 16 ≤ length ws
Long ws (Err e) = Unit {0}

long-any : (ws : List ℕ) (x : Result Path Refusal) → 16 ≤ length ws → Long ws x
long-any ws (Ok p) h = h
long-any ws (Err e) h = tt

pub survey_on-long : (ws : List ℕ) (k : Prefix) (room : ℕ) (ts us : List ℕ) (p : Path)
    → survey_on ws k room ts ≡ record { widths = us; out = Ok p } → 16 ≤ length ws
survey_on-long ws k room ts us p e =
    subst (λ (v : Survey). Long ws v.out) e
    (survey_on-cases ws k room ts (λ v. Long ws v.out) (λ a. tt) (λ a b. tt) (λ a b c. tt)
    (λ a b c. long-any ws (walk_from ws k ts).out (is_table_true (length ws) a).least))

-- ---- store_on: where the survey is refused, and where it ends with the path p, and the plan is made or not and
-- leaves the words `now`

pub store_on-survey : (ws : List ℕ) (k : Prefix) (z : ℕ) (bs us : List ℕ) (e : Refusal)
    → survey_on ws k (length bs) (replicate 129 0) ≡ record { widths = us; out = Err e } → store_on ws k z bs ≡ refused (Err e) bs ws
unfolding store_on
store_on-survey ws k z bs us e h = rw h

abbrev stored_as : Prefix → List ℕ → List ℕ → Path → List ℕ → Result Unit Unmade → Edit Stored
stored_as k bs ts p now (Ok x) = record { answer = accepted_of k p; bytes = paste bs 0 ts p.nodes; words = now }
stored_as k bs ts p now (Err unmade.Damaged) = refused (Err Damaged) bs now
stored_as k bs ts p now (Err unmade.Full) = record { answer = Err (Full p.nodes); bytes = paste bs 0 ts p.nodes; words = now }

stored_by_made : (ws : List ℕ) (k : Prefix) (bs ts : List ℕ) (p : Path) (x : Result Plan Unmade)
    → stored_by ws k bs ts p x ≡ stored_as k bs ts p (left_by ws x) (made_of x)
stored_by_made ws k bs ts p (Ok q) = refl
stored_by_made ws k bs ts p (Err unmade.Damaged) = refl
stored_by_made ws k bs ts p (Err unmade.Full) = refl

module _ (ws : List ℕ) (k : Prefix) (z : ℕ) (bs us : List ℕ) (p : Path)
    (e : survey_on ws k (length bs) (replicate 129 0) ≡ record { widths = us; out = Ok p }) (now : List ℕ) where
  store_on_made : (r : Result Unit Unmade) → Makes ws (plan_store_on ws k z p.walk p.met) r now → store_on ws k z bs ≡ stored_as k bs us p now r
  unfolding store_on
  store_on_made r f = rw (e, f.answer, f.words) (stored_by_made ws k bs us p (plan_store_on ws k z p.walk p.met))

  pub store_on_damaged : Makes ws (plan_store_on ws k z p.walk p.met) (Err unmade.Damaged) now → store_on ws k z bs ≡ refused (Err Damaged) bs now
  store_on_damaged = store_on_made (Err unmade.Damaged)

  pub store_on_full : (after : List ℕ) → Makes ws (plan_store_on ws k z p.walk p.met) (Err unmade.Full) now → after ≡ paste bs 0 us p.nodes
      → store_on ws k z bs ≡ record { answer = Err (Full p.nodes); bytes = after; words = now }
  store_on_full after f h = rw h (store_on_made (Err unmade.Full) f)

  pub store_on_done : (after : List ℕ) (o : Option ℕ) → Makes ws (plan_store_on ws k z p.walk p.met) (Ok tt) now
      → o ≡ stored_in k.width p.walk.longest → after ≡ paste bs 0 us p.nodes
      → store_on ws k z bs ≡ record { answer = Ok (record { nodes = p.nodes; value = o }); bytes = after; words = now }
  store_on_done after o f g h = rw (g, h) (store_on_made (Ok tt) f)

-- ---- what any answer of store_on shows

abbrev Exact : ℕ → Edit Stored → Type 0
Exact first o = GivenExactly first (0 ∷ 6 ∷ 8 ∷ []) (number_of o.answer)

-- a refusal that leaves all has zero counts and leaves the bytes
abbrev Kept : List ℕ → Edit Stored → Type 0
Kept bs o = leaves_all (number_of o.answer) ≡ true → (values_of o.answer ≡ 0 ∷ 0 ∷ 0 ∷ []) × (o.bytes ≡ bs)

module _ (ws : List ℕ) (k : Prefix) (bs ts : List ℕ) (p : Path) where
  stored_by-given : (y : Result Plan Unmade) → OneOf (0 ∷ 6 ∷ 8 ∷ []) (number_of (stored_by ws k bs ts p y).answer)
  stored_by-given (Ok q) = tt
  stored_by-given (Err unmade.Damaged) = tt
  stored_by-given (Err unmade.Full) = tt

  stored_by_kept : (y : Result Plan Unmade) → Kept bs (stored_by ws k bs ts p y)
  unfolding leaves_all
  stored_by_kept (Ok q) h = (cc, cc)
  stored_by_kept (Err unmade.Damaged) h = (refl, refl)
  stored_by_kept (Err unmade.Full) h = (cc, cc)

stored_of_kept : (ws : List ℕ) (k : Prefix) (z : ℕ) (bs ts : List ℕ) (x : Result Path Refusal) → Kept bs (stored_of ws k z bs ts x)
stored_of_kept ws k z bs ts (Ok p) h = stored_by_kept ws k bs ts p (plan_store_on ws k z p.walk p.met) h
stored_of_kept ws k z bs ts (Err e) h = (rw (nodes_kept e h), refl)

module _ (ws : List ℕ) (k : Prefix) (z : ℕ) (bs : List ℕ) where
  store_on_exact : Exact (first_refusal ws k (length bs)) (store_on ws k z bs)
  unfolding store_on
  store_on_exact =
      let ts = (survey_on ws k (length bs) (replicate 129 0)).widths in
      survey_on-given ws k (length bs) (replicate 129 0) (λ x. number_of (stored_of ws k z bs ts x).answer) _ (λ e. refl)
      (λ p. stored_by-given ws k bs ts p (plan_store_on ws k z p.walk p.met)) tt

  store_on_kept : Kept bs (store_on ws k z bs)
  unfolding store_on
  store_on_kept = let v = survey_on ws k (length bs) (replicate 129 0) in stored_of_kept ws k z bs v.widths v.out

-- ---- the contract

pub holds_words : {us ws : List ℕ} {m : Map} → us ≡ ws → Holds us m → Holds ws m
holds_words {m = m} e h = subst (λ (x : List ℕ). Holds x m) e h

pub store-promise : (ws : List ℕ) (k : Prefix) (z : ℕ) (bs : List ℕ) (r : Stored) (us after : List ℕ)
    → store_on ws k z bs ≡ record { answer = r; bytes = after; words = us } → Store ws k z bs r us after
store-promise ws k z bs r us after e =
    record {
      answer = e;
      refusal = subst (Exact (first_refusal ws k (length bs))) e (store_on_exact ws k z bs);
      left = λ n h. ap (λ (o : Edit Stored). o.words) (sym e) ∙ store_on-refused ws k z bs n (ap (λ (o : Edit Stored). number_of o.answer) e ∙ h);
      three = subst (λ (o : Edit Stored). ThreeRecords ws o.words) e (store_on_three ws k z bs);
      kept = subst (Kept bs) e (store_on_kept ws k z bs);
      meaning = λ m h v g. ap (λ (o : Edit Stored). o.answer) (sym e) ∙ (store_on_holds ws k z bs m h v g).answer;
      written = λ m h v g. ap (λ (o : Edit Stored). o.bytes) (sym e) ∙ (store_on_holds ws k z bs m h v g).bytes;
      holds = λ m h v g. holds_words (ap (λ (o : Edit Stored). o.words) e) (store_on_holds ws k z bs m h v g).holds;
    }

-- the promise admits one answer, one table and one trail, on any words
pub store_single : (ws : List ℕ) (k : Prefix) (z : ℕ) (bs : List ℕ) (r q : Stored) (us vs as' bs' : List ℕ) → Store ws k z bs r us as' → Store ws k z bs q vs bs'
    → (r ≡ q) × (us ≡ vs) × (as' ≡ bs')
store_single ws k z bs r q us vs as' bs' x y =
    let e = sym x.answer ∙ y.answer in
    (ap (λ (o : Edit Stored). o.answer) e, ap (λ (o : Edit Stored). o.words) e, ap (λ (o : Edit Stored). o.bytes) e)
