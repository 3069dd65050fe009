-- The laws of fetch: what it makes of a longest match, the one that makes its contract of the answer, and what
-- that admits.
-- No contract cites this file.
-- Assumes nothing.
use Prim.Native.Nat.{ℕ}
use mathlib.Core.Path.{◌≡◌, refl, sym, ap, subst, ◌∙◌}
use mathlib.Core.Bool.{true, false}
use mathlib.Core.List.{List, [], ◌∷◌}
use lib.ListN.{length, replicate}
use Rattle.std.specs.Prelude.{Option, Some, None, Result, Ok, Err}
use Rattle.refusals.specs.Refusals.{number_of, OneOf, GivenExactly}
use Rattle.refusals.specs.declared.Refusal.{Refusal}
use Rattle.prefix.specs.declared.Prefix.{Prefix}
use Rattle.lookup.specs.Walking.{survey_on, first_refusal, leaves_all, Outcome, leave_on, stored_in}
use Rattle.lookup.specs.Fetching.{found_by, found_of, fetched_of, fetch_on, values_of, Fetch}
use Rattle.lookup.specs.Matching.{matched_of, longest_on}
use Rattle.lookup.specs.declared.Keyed.{Keyed}
use Rattle.lookup.specs.declared.Match.{Match}
use Rattle.lookup.specs.declared.Path.{Path}
use Rattle.lookup.proofs.SurveyLaws.{survey_on-given, nodes_kept}
use Rattle.lookup.proofs.HoldsLaws.{fetch_on_holds}

-- ---- found_by

-- both answers write the trail
found_by-writes : (n : ℕ) (o : Option ℕ) → leaves_all (number_of (found_by n o)) ≡ false
unfolding leaves_all
found_by-writes n (Some z) = refl
found_by-writes n None = refl

found_by-given : (n : ℕ) (o : Option ℕ) → OneOf (0 ∷ 6 ∷ 7 ∷ []) (number_of (found_by n o))
found_by-given n (Some z) = tt
found_by-given n None = tt

-- ---- fetch_on

-- what fetch makes of a longest match
abbrev fetched_from : Prefix → Result (Keyed (Option Match)) Refusal → Result (Keyed ℕ) Refusal
fetched_from k (Ok x) = found_by x.nodes (stored_in k.width x.value)
fetched_from k (Err e) = Err e

fetched_of-matched : (k : Prefix) (x : Result Path Refusal) → fetched_of k x ≡ fetched_from k (matched_of x)
unfolding found_of
fetched_of-matched k (Ok p) = refl
fetched_of-matched k (Err e) = refl

fetch_on-longest : (ws : List ℕ) (k : Prefix) (bs : List ℕ) (r : Result (Keyed (Option Match)) Refusal) (after : List ℕ)
    → longest_on ws k bs ≡ record { answer = r; bytes = after } → fetch_on ws k bs ≡ record { answer = fetched_from k r; bytes = after }
unfolding fetch_on longest_on
fetch_on-longest ws k bs r after e =
    rw (fetched_of-matched k (survey_on ws k (length bs) (replicate 129 0)).out) (λ i. record { answer = fetched_from k (e i).answer; bytes = (e i).bytes })

module _ (ws : List ℕ) (k : Prefix) (bs after : List ℕ) where
  pub fetch_on-refused : (e : Refusal) → longest_on ws k bs ≡ record { answer = Err e; bytes = after }
      → fetch_on ws k bs ≡ record { answer = Err e; bytes = after }
  fetch_on-refused e h = fetch_on-longest ws k bs (Err e) after h

  pub fetch_on-found : (x : Keyed (Option Match)) → longest_on ws k bs ≡ record { answer = Ok x; bytes = after }
      → (o : Option ℕ) → stored_in k.width x.value ≡ o → fetch_on ws k bs ≡ record { answer = found_by x.nodes o; bytes = after }
  fetch_on-found x h o q = fetch_on-longest ws k bs (Ok x) after h ∙ rw q

fetched_of_kept : (k : Prefix) (bs us : List ℕ) (x : Result Path Refusal) → leaves_all (number_of (fetched_of k x)) ≡ true
    → (values_of (fetched_of k x) ≡ 0 ∷ 0 ∷ []) × (leave_on bs us x ≡ bs)
unfolding found_of
fetched_of_kept k bs us (Ok p) h =
    let f : false ≡ true = sym (found_by-writes p.nodes (stored_in k.width p.walk.longest)) ∙ h in
    (cc, cc)
fetched_of_kept k bs us (Err e) h = (rw (nodes_kept e h), refl)

abbrev Exact : ℕ → Outcome (Result (Keyed ℕ) Refusal) → Type 0
Exact first o = GivenExactly first (0 ∷ 6 ∷ 7 ∷ []) (number_of o.answer)

fetch_on_exact : (ws : List ℕ) (k : Prefix) (bs : List ℕ) → Exact (first_refusal ws k (length bs)) (fetch_on ws k bs)
unfolding fetch_on found_of
fetch_on_exact ws k bs =
    survey_on-given ws k (length bs) (replicate 129 0) (λ x. number_of (fetched_of k x)) _ (λ e. refl)
    (λ p. found_by-given p.nodes (stored_in k.width p.walk.longest)) tt

abbrev Kept : List ℕ → Outcome (Result (Keyed ℕ) Refusal) → Type 0
Kept bs o = leaves_all (number_of o.answer) ≡ true → (values_of o.answer ≡ 0 ∷ 0 ∷ []) × (o.bytes ≡ bs)

fetch_on_kept : (ws : List ℕ) (k : Prefix) (bs : List ℕ) → Kept bs (fetch_on ws k bs)
unfolding fetch_on
fetch_on_kept ws k bs =
    fetched_of_kept k bs (survey_on ws k (length bs) (replicate 129 0)).widths (survey_on ws k (length bs) (replicate 129 0)).out

-- ---- the contract

pub fetch-promise : (ws : List ℕ) (k : Prefix) (bs : List ℕ) (r : Result (Keyed ℕ) Refusal) (after : List ℕ) → fetch_on ws k bs ≡ record { answer = r; bytes = after }
    → Fetch ws k bs r after
fetch-promise ws k bs r after e =
    record {
      answer = e;
      refusal = subst (Exact (first_refusal ws k (length bs))) e (fetch_on_exact ws k bs);
      kept = subst (Kept bs) e (fetch_on_kept ws k bs);
      meaning = λ m h v g. ap (λ (o : Outcome (Result (Keyed ℕ) Refusal)). o.answer) (sym e ∙ fetch_on_holds ws k bs m h v g);
      written = λ m h v g. ap (λ (o : Outcome (Result (Keyed ℕ) Refusal)). o.bytes) (sym e ∙ fetch_on_holds ws k bs m h v g);
    }

-- the promise admits one answer and one trail, on any words
pub fetch_single : (ws : List ℕ) (k : Prefix) (bs : List ℕ) (r q : Result (Keyed ℕ) Refusal) (as' bs' : List ℕ) → Fetch ws k bs r as' → Fetch ws k bs q bs'
    → (r ≡ q) × (as' ≡ bs')
fetch_single ws k bs r q as' bs' x y =
    let e = sym x.answer ∙ y.answer in
    (ap (λ (o : Outcome (Result (Keyed ℕ) Refusal)). o.answer) e, ap (λ (o : Outcome (Result (Keyed ℕ) Refusal)). o.bytes) e)
