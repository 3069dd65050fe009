-- A keyed call reports at most 129 nodes, on any words, so that its count fits a C number.
--   Few r                                           what an answer says of nodes, accepted or refused, is at most 129
--   fetch_few, longest_few, store_few, remove_few   so of each call's answer, from its promise
--   given_few, refused_few                          the count that an accepted answer has, and a refused one
-- Assumes nothing.
use Prim.Native.Nat.{ℕ, ◌≤◌}
use native.Mathlib.Omega.{arith}
use mathlib.Core.Path.{◌≡◌, subst}
use mathlib.Core.List.{List}
use lib.ListN.{length, replicate}
use Rattle.prefix.specs.declared.Prefix.{Prefix}
use Rattle.refusals.specs.Refusals.{nodes_in}
use Rattle.refusals.specs.declared.Refusal.{Refusal}
use Rattle.std.specs.Prelude.{Option, Some, None, Result, Ok, Err}
use Rattle.lookup.specs.Walking.{survey_on, Outcome, stored_in}
use Rattle.lookup.specs.Fetching.{found_by, found_of, fetched_of, fetch_on, Fetch}
use Rattle.lookup.specs.Matching.{matched_of, longest_on, LongestMatch}
use Rattle.lookup.specs.declared.Path.{Path}
use Rattle.lookup.specs.declared.Keyed.{Keyed}
use Rattle.lookup.specs.declared.Match.{Match}
use Rattle.lookup.proofs.WalkingLaws.{Short}
use Rattle.lookup.proofs.SurveyLaws.{survey_on_short}
use Rattle.plans.specs.Planning.{plan_store_on, plan_remove_on}
use Rattle.plans.specs.Plans.{Plan}
use Rattle.plans.specs.declared.Unmade.{Unmade}
use Rattle.plans.specs.declared.Unmade.TheVariants.{Damaged, Full}
use Rattle.edits.specs.Storing.{Edit, Stored, stored_by, stored_of, store_on, Store}
use Rattle.edits.specs.Removing.{Removal, removed_at, removed_of, remove_on, Remove}

-- ---- an answer

abbrev pub Few : {A : Type 0} → Result (Keyed A) Refusal → Type 0
Few (Ok x) = x.nodes ≤ 129
Few (Err e) = nodes_in e ≤ 129

module _ {A : Type 0} {r : Result (Keyed A) Refusal} where
  pub given_few : {x : Keyed A} → Few r → r ≡ Ok x → x.nodes ≤ 129
  given_few f e = let P : Result (Keyed A) Refusal → Type 0 = Few {A = A} in subst P e f

  pub refused_few : {e : Refusal} {n : ℕ} → Few r → r ≡ Err e → n ≡ nodes_in e → n ≤ 129
  refused_few f e same = let P : Result (Keyed A) Refusal → Type 0 = Few {A = A} in let g = subst P e f in omega (arith, g, same)

-- ---- fetch and longest match

fetched_of_few : (k : Prefix) (x : Result Path Refusal) → Short x → Few (fetched_of k x)
unfolding found_of
fetched_of_few k (Ok p) h = at (stored_in k.width p.walk.longest)
  where
    at : (o : Option ℕ) → Few (found_by p.nodes o)
    at (Some z) = h
    at None = h
fetched_of_few k (Err e) h = omega (arith, h)

pub fetch_few : {ws : List ℕ} {k : Prefix} {bs : List ℕ} {r : Result (Keyed ℕ) Refusal} {after : List ℕ} → Fetch ws k bs r after → Few r
unfolding fetch_on
fetch_few {ws} {k} {bs} {r} {after} p =
    subst (λ (o : Outcome (Result (Keyed ℕ) Refusal)). Few o.answer) p.answer
    (fetched_of_few k (survey_on ws k (length bs) (replicate 129 0)).out (survey_on_short ws k (length bs) (replicate 129 0)))

matched_of_few : (x : Result Path Refusal) → Short x → Few (matched_of x)
matched_of_few (Ok p) h = h
matched_of_few (Err e) h = omega (arith, h)

pub longest_few : {ws : List ℕ} {k : Prefix} {bs : List ℕ} {r : Result (Keyed (Option Match)) Refusal} {after : List ℕ} → LongestMatch ws k bs r after
    → Few r
unfolding longest_on
longest_few {ws} {k} {bs} {r} {after} p =
    subst (λ (o : Outcome (Result (Keyed (Option Match)) Refusal)). Few o.answer) p.answer
    (matched_of_few (survey_on ws k (length bs) (replicate 129 0)).out (survey_on_short ws k (length bs) (replicate 129 0)))

-- ---- store and remove

module _ (ws : List ℕ) (k : Prefix) (bs ts : List ℕ) where
  stored_by_few : (p : Path) (x : Result Plan Unmade) → p.nodes ≤ 129 → Few (stored_by ws k bs ts p x).answer
  stored_by_few p (Ok q) h = h
  stored_by_few p (Err Damaged) h = omega arith
  stored_by_few p (Err Full) h = h

  stored_of_few : (z : ℕ) (x : Result Path Refusal) → Short x → Few (stored_of ws k z bs ts x).answer
  stored_of_few z (Ok p) h = stored_by_few p (plan_store_on ws k z p.walk p.met) h
  stored_of_few z (Err e) h = omega (arith, h)

  removed_at_few : (n : ℕ) (o : Option ℕ) (x : Result Plan Unmade) → n ≤ 129 → Few (removed_at ws bs ts n o x).answer
  removed_at_few n (Some z) (Ok q) h = h
  removed_at_few n (Some z) (Err u) h = omega arith
  removed_at_few n None x h = h

  removed_of_few : (x : Result Path Refusal) → Short x → Few (removed_of ws k bs ts x).answer
  removed_of_few (Ok p) h = removed_at_few p.nodes (stored_in k.width p.walk.longest) (plan_remove_on ws k p.walk) h
  removed_of_few (Err e) h = omega (arith, h)

pub store_few : {ws : List ℕ} {k : Prefix} {z : ℕ} {bs : List ℕ} {r : Stored} {us after : List ℕ} → Store ws k z bs r us after → Few r
unfolding store_on
store_few {ws} {k} {z} {bs} {r} {us} {after} p =
    let v = survey_on ws k (length bs) (replicate 129 0) in
    subst (λ (e : Edit Stored). Few e.answer) p.answer
    (stored_of_few ws k bs v.widths z v.out (survey_on_short ws k (length bs) (replicate 129 0)))

pub remove_few : {ws : List ℕ} {k : Prefix} {bs : List ℕ} {r : Removal} {us after : List ℕ} → Remove ws k bs r us after → Few r
unfolding remove_on
remove_few {ws} {k} {bs} {r} {us} {after} p =
    let v = survey_on ws k (length bs) (replicate 129 0) in
    subst (λ (e : Edit Removal). Few e.answer) p.answer
    (removed_of_few ws k bs v.widths v.out (survey_on_short ws k (length bs) (replicate 129 0)))
