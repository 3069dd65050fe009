-- The first answer: `answer_1`. Each field is what the function's contract says by the answer's number and values.
-- Assumes nothing.
use Prim.Native.Nat.{ℕ, suc}
use native.Mathlib.Omega.{arith}
use mathlib.Core.Path.{◌≡◌, refl, sym, ap, ◌∙◌}
use mathlib.Core.Bool.{Bool, true, false, cond}
use mathlib.Core.List.{List, [], ◌∷◌}
use Rattle.std.specs.Prelude.{Result, Ok, Err}
use lib.ListN.{length}
use Rattle.refusals.specs.Refusals.{number_of}
use Rattle.refusals.specs.declared.Refusal.{Refusal}
use Rattle.records.specs.Layout.{is_table}
use Rattle.lookup.specs.Walking.{leaves_all}
use Rattle.audit.specs.Checking as checking
use Rattle.audit.specs.Checking.{Check}
use Rattle.audit.proofs.PromiseLaws.{number-audit_on}
use Rattle.nalfipode.specs.Changes.{FreshOut}
use Rattle.answers.specs.First.{NoInputStops}

-- ---- fresh

-- a refusal says that the length is none, and then the words are as they were
fresh_left : {ws us : List ℕ} {n : ℕ} → FreshOut ws (suc n) us → us ≡ ws
fresh_left {ws} {us} {n} o = at (is_table (length ws)) refl
  where
    at : (b : Bool) → is_table (length ws) ≡ b → us ≡ ws
    at true e =
        let f : suc n ≡ 0 = o.number ∙ o.promise.number ∙ ap (λ (b : Bool). cond b 0 1) e in
        absurd (omega (arith, f))
    at false e = o.promise.words ∙ rw e

-- ---- audit

check-number : {ws : List ℕ} {r : ℕ} (a : Result Bool Refusal) → Check ws a → r ≡ number_of a → r ≡ cond (is_table (length ws)) 0 1
check-number {ws} {r} a p e = e ∙ ap number_of p.answer ∙ number-audit_on ws

check-zeros : {n : ℕ} (a : Result Bool Refusal) → suc n ≡ number_of a → checking.values_of a ≡ 0 ∷ []
check-zeros (Ok b) e = absurd (omega (arith, e))
check-zeros (Err x) e = refl

-- ---- the answer

-- Can any fix or map file stop the unit? No.
pub answer_1 : NoInputStops
answer_1 =
    record {
      cell = λ o. o.number ∙ o.promise.number;
      fresh = λ o. o.number ∙ o.promise.number;
      fetch = λ o. rw o.number o.promise.refusal;
      longest = λ o. rw o.number o.promise.refusal;
      store = λ o. rw o.number o.promise.refusal;
      remove = λ o. rw o.number o.promise.refusal;
      slice = λ o. rw o.number o.promise.refusal;
      check = λ o. check-number o.answer o.promise o.number;
      image_write = λ o. rw o.number o.promise.refusal;
      image_check = λ o. o.number ∙ o.promise.number;
      image_describe = λ o. rw o.number o.promise.refusal;
      image_look = λ o. rw o.number o.promise.refusal;
      cell_leaves = λ o. o.listed ∙ o.promise.kept (sym o.number);
      fresh_leaves = fresh_left;
      fetch_leaves = λ o h. let k = o.promise.kept (ap leaves_all (sym o.number) ∙ h) in (o.listed ∙ k.0, k.1);
      longest_leaves = λ o h. let k = o.promise.kept (ap leaves_all (sym o.number) ∙ h) in (o.listed ∙ k.0, k.1);
      store_leaves = λ o h. let k = o.promise.kept (ap leaves_all (sym o.number) ∙ h) in (o.listed ∙ k.0, k.1);
      store_refused = λ o. o.promise.left _ (sym o.number);
      remove_leaves = λ o h. let k = o.promise.kept (ap leaves_all (sym o.number) ∙ h) in (o.listed ∙ k.0, k.1);
      remove_refused = λ o. o.promise.left _ (sym o.number);
      slice_counts = λ o. o.listed ∙ o.promise.counts _ (sym o.number);
      slice_leaves = λ o h. o.promise.kept _ h;
      check_counts = λ o. o.listed ∙ check-zeros o.answer o.number;
      image_counts = λ o h. o.listed ∙ o.promise.counts _ h;
      image_leaves = λ o. o.promise.kept _ (sym o.number);
      describe_counts = λ o. o.listed ∙ o.promise.kept (sym o.number);
      look_counts = λ o. o.listed ∙ o.promise.kept (sym o.number);
    }
