-- The law of what calls answer on a table of a map: each field of `Answers` is a call's own promise there.
-- No contract cites this file.
-- Assumes nothing.
use Prim.Native.Nat.{ℕ}
use native.Mathlib.Omega.{arith}
use mathlib.Core.Path.{◌≡◌, refl, ap, ◌∙◌}
use mathlib.Core.Bool.{Bool, true, false}
use mathlib.Core.List.{List}
use mathlib.Core.Option.{Option}
use Rattle.std.specs.Prelude.{Result, Ok, Err}
use Rattle.refusals.specs.Refusals.{number_of}
use Rattle.refusals.specs.declared.Refusal.{Refusal}
use Rattle.refusals.proofs.RefusalsLaws.{number_pos}
use Rattle.zones.specs.Maps.{Map}
use Rattle.records.specs.Holds.{Holds}
use Rattle.records.proofs.HoldsLaws.{overflows-replaced}
use Rattle.lookup.specs.Fetching as fetching
use Rattle.lookup.specs.Matching as matching
use Rattle.audit.specs.Checking as checking
use Rattle.plans.specs.Planning.{entry_of}
use Rattle.edits.specs.Storing as storing
use Rattle.edits.specs.Removing as removing
use Rattle.listing.specs.Slicing as slicing
use Rattle.answers.specs.Made.{Tells}
use Rattle.answers.specs.Answers.{Answers}
use Rattle.answers.proofs.MadeLaws.{store_holds}

-- ---- Tells

-- what is returned is the number and the values of an answer that is equal to a
tells_same : {A : Type 0} (number_of : A → ℕ) (values_of : A → List ℕ) {x a : A} {r : ℕ} {values : List ℕ} → r ≡ number_of x → values ≡ values_of x
    → x ≡ a → Tells number_of values_of a r values
tells_same number_of values_of n v e = (n ∙ ap number_of e, v ∙ ap values_of e)

-- ---- number_of

-- what has the number of none is accepted
pub refused_no : (x : Result (Unit {0}) Refusal) → number_of x ≡ 0 → x ≡ Ok tt
refused_no (Ok u) h = refl
refused_no (Err e) h = absurd (omega (arith, h, number_pos e))

-- ---- Answers

-- a store that is not Full is accepted
gives_accepted : (full : Bool) (n : ℕ) (old : Option ℕ) → full ≡ false → number_of (storing.gives full n old) ≡ 0
gives_accepted false n old e = refl
gives_accepted true n old e = cc

pub answers_holds : {ws : List ℕ} {m : Map} → Holds ws m → Answers ws m
answers_holds {ws} {m} h =
    record {
      fetch = λ o v. (tells_same number_of fetching.values_of o.number o.listed (o.promise.meaning m h v.0 v.1), o.promise.written m h v.0 v.1);
      longest = λ o v. (tells_same number_of matching.values_of o.number o.listed (o.promise.meaning m h v.0 v.1), o.promise.written m h v.0 v.1);
      store = λ o v. (
        tells_same number_of storing.values_of o.number o.listed (o.promise.meaning m h v.0 v.1),
        o.promise.written m h v.0 v.1,
        store_holds h o,
      );
      replace = λ o v e.
          o.number ∙ ap number_of (o.promise.meaning m h v.0 v.1) ∙ gives_accepted _ _ _ (overflows-replaced h (entry_of _ _) _ e);
      remove = λ o v. (
        tells_same number_of removing.values_of o.number o.listed (o.promise.meaning m h v.0 v.1),
        o.promise.written m h v.0 v.1,
        o.promise.holds m h v.0 v.1,
      );
      slice = λ o e. (
        tells_same number_of slicing.values_of o.number o.listed (o.promise.meaning m h (refused_no _ e)),
        o.promise.written m h (refused_no _ e),
      );
      image = λ o i.
          let w = o.promise.written m h i in
          (o.number ∙ w.0, o.listed ∙ w.1, w.2);
      image_short = λ o i.
          let w = o.promise.short m h i in
          (o.number ∙ w.0, o.listed ∙ w.1, o.promise.kept 4 w.0);
      check = λ o. o.listed ∙ ap checking.values_of (o.promise.exact m h);
    }
