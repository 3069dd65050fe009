-- The laws of longest match: the one that makes its contract of the answer, and what that admits.
-- No contract cites this file.
-- Assumes nothing.
use Prim.Native.Nat.{ℕ}
use mathlib.Core.Path.{◌≡◌, refl, sym, ap, subst, ◌∙◌}
use mathlib.Core.Bool.{true}
use mathlib.Core.List.{List, [], ◌∷◌}
use lib.ListN.{length, replicate}
use Rattle.std.specs.Prelude.{Option, Result, Ok, Err}
use Rattle.refusals.specs.Refusals.{number_of, GivenExactly}
use Rattle.refusals.specs.declared.Refusal.{Refusal}
use Rattle.prefix.specs.declared.Prefix.{Prefix}
use Rattle.lookup.specs.Walking.{survey_on, first_refusal, leaves_all, Outcome, leave_on}
use Rattle.lookup.specs.Matching.{matched_of, longest_on, values_of, LongestMatch}
use Rattle.lookup.specs.declared.Keyed.{Keyed}
use Rattle.lookup.specs.declared.Match.{Match}
use Rattle.lookup.specs.declared.Path.{Path}
use Rattle.lookup.proofs.SurveyLaws.{survey_on-given}
use Rattle.lookup.proofs.HoldsLaws.{longest_on_holds}

-- ---- matched_of

matched_of_kept : (bs us : List ℕ) (x : Result Path Refusal) → leaves_all (number_of (matched_of x)) ≡ true
    → (values_of (matched_of x) ≡ 0 ∷ 0 ∷ 0 ∷ 0 ∷ []) × (leave_on bs us x ≡ bs)
unfolding leaves_all
matched_of_kept bs us (Ok p) h = (cc, cc)
matched_of_kept bs us (Err e) h = (refl, refl)

-- ---- longest_on

abbrev Exact : ℕ → Outcome (Result (Keyed (Option Match)) Refusal) → Type 0
Exact first o = GivenExactly first (0 ∷ 6 ∷ []) (number_of o.answer)

longest_on_exact : (ws : List ℕ) (k : Prefix) (bs : List ℕ) → Exact (first_refusal ws k (length bs)) (longest_on ws k bs)
unfolding longest_on
longest_on_exact ws k bs =
    survey_on-given ws k (length bs) (replicate 129 0) (λ x. number_of (matched_of x)) _ (λ e. refl) (λ p. tt) tt

abbrev Kept : List ℕ → Outcome (Result (Keyed (Option Match)) Refusal) → Type 0
Kept bs o = leaves_all (number_of o.answer) ≡ true → (values_of o.answer ≡ 0 ∷ 0 ∷ 0 ∷ 0 ∷ []) × (o.bytes ≡ bs)

longest_on_kept : (ws : List ℕ) (k : Prefix) (bs : List ℕ) → Kept bs (longest_on ws k bs)
unfolding longest_on
longest_on_kept ws k bs =
    matched_of_kept bs (survey_on ws k (length bs) (replicate 129 0)).widths (survey_on ws k (length bs) (replicate 129 0)).out

-- ---- the contract

pub longest-promise : (ws : List ℕ) (k : Prefix) (bs : List ℕ) (r : Result (Keyed (Option Match)) Refusal) (after : List ℕ) → longest_on ws k bs ≡ record { answer = r; bytes = after }
    → LongestMatch ws k bs r after
longest-promise ws k bs r after e =
    record {
      answer = e;
      refusal = subst (Exact (first_refusal ws k (length bs))) e (longest_on_exact ws k bs);
      kept = subst (Kept bs) e (longest_on_kept ws k bs);
      meaning = λ m h v g. ap (λ (o : Outcome (Result (Keyed (Option Match)) Refusal)). o.answer) (sym e ∙ longest_on_holds ws k bs m h v g);
      written = λ m h v g. ap (λ (o : Outcome (Result (Keyed (Option Match)) Refusal)). o.bytes) (sym e ∙ longest_on_holds ws k bs m h v g);
    }

-- the promise admits one answer and one trail, on any words
pub longest_single : (ws : List ℕ) (k : Prefix) (bs : List ℕ) (r q : Result (Keyed (Option Match)) Refusal) (as' bs' : List ℕ) → LongestMatch ws k bs r as' → LongestMatch ws k bs q bs'
    → (r ≡ q) × (as' ≡ bs')
longest_single ws k bs r q as' bs' x y =
    let e = sym x.answer ∙ y.answer in
    (ap (λ (o : Outcome (Result (Keyed (Option Match)) Refusal)). o.answer) e, ap (λ (o : Outcome (Result (Keyed (Option Match)) Refusal)). o.bytes) e)
