-- What an edit leaves of any memory: at most three node records change, and a refused edit changes no word.
-- Paper 00, demand 3. No contract cites this file.
-- Assumes nothing.
use Prim.Native.Nat.{ℕ, suc}
use mathlib.Core.Path.{◌≡◌, refl}
use mathlib.Core.List.{List}
use lib.ListN.{length, replicate}
use lib.Seq.{paste}
use Rattle.std.specs.Prelude.{Option, Some, None, Result, Ok, Err}
use Rattle.refusals.specs.Refusals.{number_of}
use Rattle.refusals.specs.declared.Refusal.{Refusal}
use Rattle.prefix.specs.declared.Prefix.{Prefix}
use Rattle.lookup.specs.Walking.{survey_on, stored_in}
use Rattle.lookup.specs.declared.Path.{Path}
use Rattle.plans.specs.Planning.{applied, plan_store_on, plan_remove_on}
use Rattle.plans.specs.Plans.{Plan}
use Rattle.plans.specs.Limits.{ThreeRecords}
use Rattle.plans.specs.declared.Unmade.{Unmade}
use Rattle.plans.specs.declared.Unmade.TheVariants as unmade
use Rattle.plans.proofs.AppliedLaws.{three_refl, applied_three}
use Rattle.edits.specs.Storing.{Edit, stored_by, stored_of, store_on}
use Rattle.edits.specs.Removing.{removed_at, removed_of, remove_on}

-- what is shown of every edit
record Sparing {A : Type 0} (ws : List ℕ) (e : Edit (Result A Refusal)) : Type 0 where
  pub three : ThreeRecords ws e.words
  pub refused : (n : ℕ) → number_of e.answer ≡ suc n → e.words ≡ ws

-- an edit that leaves the words
left-sparing : {A : Type 0} (ws bs : List ℕ) (r : Result A Refusal) → Sparing ws (record { answer = r; bytes = bs; words = ws })
left-sparing ws bs r = record { three = three_refl ws; refused = λ n h. refl }

-- an accepted edit
made-sparing : {A : Type 0} (ws bs : List ℕ) (x : A) (p : Plan) → Sparing ws (record { answer = Ok x; bytes = bs; words = applied ws p })
made-sparing ws bs x p = record { three = applied_three ws p; refused = λ n h. cc }

-- ---- store_on

module _ (ws : List ℕ) (k : Prefix) (z : ℕ) (bs : List ℕ) where
  stored_by-sparing : (ts : List ℕ) (p : Path) (r : Result Plan Unmade) → Sparing ws (stored_by ws k bs ts p r)
  stored_by-sparing ts p (Ok q) = made-sparing ws _ _ q
  stored_by-sparing ts p (Err unmade.Damaged) = left-sparing ws bs _
  stored_by-sparing ts p (Err unmade.Full) = left-sparing ws (paste bs 0 ts p.nodes) _

  stored_of-sparing : (ts : List ℕ) (r : Result Path Refusal) → Sparing ws (stored_of ws k z bs ts r)
  stored_of-sparing ts (Ok p) = stored_by-sparing ts p (plan_store_on ws k z p.walk p.met)
  stored_of-sparing ts (Err e) = left-sparing ws bs _

  store_on-sparing : Sparing ws (store_on ws k z bs)
  unfolding store_on
  store_on-sparing = let v = survey_on ws k (length bs) (replicate 129 0) in stored_of-sparing v.widths v.out

  pub store_on_three : ThreeRecords ws (store_on ws k z bs).words
  store_on_three = store_on-sparing.three

  pub store_on-refused : (n : ℕ) → number_of (store_on ws k z bs).answer ≡ suc n → (store_on ws k z bs).words ≡ ws
  store_on-refused = store_on-sparing.refused

-- ---- remove_on

module _ (ws : List ℕ) (k : Prefix) (bs : List ℕ) where
  removed_at-sparing : (ts : List ℕ) (n : ℕ) (o : Option ℕ) (r : Result Plan Unmade) → Sparing ws (removed_at ws bs ts n o r)
  removed_at-sparing ts n (Some z) (Ok p) = made-sparing ws _ _ p
  removed_at-sparing ts n (Some z) (Err d) = left-sparing ws bs _
  removed_at-sparing ts n None r = left-sparing ws (paste bs 0 ts n) _

  removed_of-sparing : (ts : List ℕ) (r : Result Path Refusal) → Sparing ws (removed_of ws k bs ts r)
  removed_of-sparing ts (Ok p) = removed_at-sparing ts p.nodes (stored_in k.width p.walk.longest) (plan_remove_on ws k p.walk)
  removed_of-sparing ts (Err e) = left-sparing ws bs _

  remove_on-sparing : Sparing ws (remove_on ws k bs)
  unfolding remove_on
  remove_on-sparing = let v = survey_on ws k (length bs) (replicate 129 0) in removed_of-sparing v.widths v.out

  pub remove_on_three : ThreeRecords ws (remove_on ws k bs).words
  remove_on_three = remove_on-sparing.three

  pub remove_on-refused : (n : ℕ) → number_of (remove_on ws k bs).answer ≡ suc n → (remove_on ws k bs).words ≡ ws
  remove_on-refused = remove_on-sparing.refused
