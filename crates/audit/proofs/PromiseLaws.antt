-- The laws that make the contract of `audit` of its answer. No contract cites this file.
-- Assumes nothing.
use Prim.Native.Nat.{ℕ}
use mathlib.Core.Path.{◌≡◌, refl, sym, subst, ◌∙◌}
use mathlib.Core.Bool.{Bool, true, false, cond}
use mathlib.Core.List.{List}
use Rattle.std.specs.Prelude.{Result, Ok, Err}
use lib.ListN.{length}
use Rattle.refusals.specs.Refusals.{number_of}
use Rattle.refusals.specs.declared.Refusal.{Refusal}
use Rattle.refusals.specs.declared.Refusal.TheVariants.{BadLength}
use Rattle.records.specs.Layout.{is_table}
use Rattle.audit.specs.Checking.{audit_on, Check}
use Rattle.audit.proofs.HoldsLaws.{audit_on_yes, audit_on_holds}

-- the number is 1 exactly for a length that no table has
abbrev Numbered : Bool → Result Bool Refusal → Type 0
Numbered b r = (number_of r ≡ 1 → b ≡ false) × (b ≡ false → number_of r ≡ 1)

audit_on-number : (ws : List ℕ) → Numbered (is_table (length ws)) (audit_on ws)
unfolding audit_on
audit_on-number ws = at (is_table (length ws)) _
  where
    at : (b x : Bool) → Numbered b (cond b (Ok x) (Err BadLength))
    at false x = (λ h. refl, λ h. refl)
    at true x = (λ h. cc, λ h. cc)

pub number-audit_on : (ws : List ℕ) → number_of (audit_on ws) ≡ cond (is_table (length ws)) 0 1
unfolding audit_on
number-audit_on ws = at (is_table (length ws)) _
  where
    at : (b x : Bool) → number_of (cond b (Ok x) (Err BadLength)) ≡ cond b 0 1
    at false x = refl
    at true x = refl

-- no other refusal is given
pub audit_on_refused : (ws : List ℕ) (e : Refusal) → audit_on ws ≡ Err e → e ≡ BadLength
unfolding audit_on
audit_on_refused ws e = at (is_table (length ws)) _
  where
    at : (b x : Bool) → cond b (Ok x) (Err BadLength) ≡ Err e → e ≡ BadLength
    at false x h = cc
    at true x h = cc

pub check-promise : (ws : List ℕ) (r : Result Bool Refusal) → r ≡ audit_on ws → Check ws r
check-promise ws r e =
    record {
      answer = e;
      refusal = subst (Numbered (is_table (length ws))) (sym e) (audit_on-number ws);
      yes = λ q. audit_on_yes ws (sym e ∙ q);
      exact = λ m h. e ∙ audit_on_holds ws m h;
    }

-- the promise admits one answer, on any words
pub check_single : (ws : List ℕ) (r q : Result Bool Refusal) → Check ws r → Check ws q → r ≡ q
check_single ws r q x y = x.answer ∙ sym y.answer
