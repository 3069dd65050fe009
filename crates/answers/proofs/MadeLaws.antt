-- The laws of the tables that calls have made: each is a table of its map. No contract cites this file.
-- Assumes nothing.
use Prim.Native.Nat.{ℕ, zero, suc}
use native.Mathlib.Omega.{arith}
use mathlib.Core.Path.{◌≡◌, refl, sym, ap, subst, ◌∙◌}
use mathlib.Core.Bool.{Bool, true, false, cond}
use mathlib.Core.List.{List, [], ◌∷◌}
use mathlib.Core.Option.{Option, none, some}
use lib.Dec.{ltb}
use lib.ListN.{length}
use borrow.Author.Tests.{ltb-false}
use Rattle.refusals.specs.Refusals.{number_of}
use Rattle.refusals.specs.Refusals.{GivenExactly}
use Rattle.prefix.specs.Keys.{string_of, is_valid}
use Rattle.prefix.specs.declared.Prefix.{Prefix}
use Rattle.prefix.proofs.KeysLaws.{is_valid_true}
use Rattle.zones.specs.Maps.{Map, get, put, without}
use Rattle.zones.proofs.MapsLaws.{without-none}
use Rattle.records.specs.Layout.{is_table}
use Rattle.records.specs.Holds.{Holds}
use Rattle.lookup.specs.Walking.{first_refusal}
use Rattle.plans.specs.Planning.{entry_of}
use Rattle.edits.specs.Storing as storing
use Rattle.edits.specs.Removing as removing
use Rattle.nalfipode.specs.Changes.{FreshOut, StoreOut, RemoveOut}
use Rattle.answers.specs.Made.{edited, Made, fresh, by_store, by_remove, Ready}

-- ---- first_refusal

first_refusal-ready : (ws : List ℕ) (k : Prefix) (bs : List ℕ) → first_refusal ws k (length bs) ≡ 0 → Ready k bs
unfolding first_refusal
first_refusal-ready ws k bs = at (is_table (length ws)) (is_valid k) (ltb (length bs) 129) refl refl
  where
    at : (a b c : Bool) → is_valid k ≡ b → ltb (length bs) 129 ≡ c → ◌≡◌ {A = ℕ} (cond a (cond b (cond c 5 0) 2) 1) 0 → Ready k bs
    at true true false p q h = (is_valid_true k p, ltb-false (length bs) 129 q)
    at true true true p q h = absurd (omega arith)
    at true false c p q h = absurd (omega arith)
    at false b c p q h = absurd (omega arith)

-- ---- edited

edited_stored : (full : Bool) (n : ℕ) (o : Option ℕ) (new old : Map) → edited (number_of (storing.gives full n o)) new old ≡ cond full old new
edited_stored true n o new old = refl
edited_stored false n none new old = refl
edited_stored false n (some z) new old = refl

edited-removed : (n : ℕ) (o : Option ℕ) (k : Prefix) (m : Map) → get (string_of k) m ≡ o
    → edited (number_of (removing.gives n o)) (without (string_of k) m) m ≡ without (string_of k) m
edited-removed n none k m h = sym (without-none (string_of k) m h)
edited-removed n (some z) k m h = refl

-- an edit that leaves the words leaves the map
edited-refused : {ws us : List ℕ} {m : Map} (r n : ℕ) (new : Map) → Holds ws m → r ≡ suc n → us ≡ ws → Holds us (edited r new m)
edited-refused {m = m} r n new h e f = rw (e, f) h

-- ---- one edit, refused or not

pub store_holds : {ws bs us after values : List ℕ} {m : Map} {k : Prefix} {z r : ℕ} → Holds ws m → StoreOut ws k z bs r us after values
    → Holds us (edited r (put (entry_of k z) m) m)
store_holds {ws} {bs} {us} {m = m} {k} {z} {r} h o = at (first_refusal ws k (length bs)) refl
  where
    at : (n : ℕ) → first_refusal ws k (length bs) ≡ n → Holds us (edited r (put (entry_of k z) m) m)
    at zero e =
        let p = first_refusal-ready ws k bs e in
        rw (o.number, o.promise.meaning m h p.0 p.1, edited_stored) (o.promise.holds m h p.0 p.1)
    at (suc n) e =
        let g = subst (λ (f : ℕ). GivenExactly f (0 ∷ 6 ∷ 8 ∷ []) (number_of o.answer)) e o.promise.refusal in
        edited-refused r n (put (entry_of k z) m) h (o.number ∙ g) (o.promise.left n g)

pub remove_holds : {ws bs us after values : List ℕ} {m : Map} {k : Prefix} {r : ℕ} → Holds ws m → RemoveOut ws k bs r us after values
    → Holds us (edited r (without (string_of k) m) m)
remove_holds {ws} {bs} {us} {m = m} {k} {r} h o = at (first_refusal ws k (length bs)) refl
  where
    at : (n : ℕ) → first_refusal ws k (length bs) ≡ n → Holds us (edited r (without (string_of k) m) m)
    at zero e =
        let p = first_refusal-ready ws k bs e in
        rw (o.number, o.promise.meaning m h p.0 p.1, edited-removed _ (get (string_of k) m) k m refl) (o.promise.holds m h p.0 p.1)
    at (suc n) e =
        let g = subst (λ (f : ℕ). GivenExactly f (0 ∷ 6 ∷ 7 ∷ []) (number_of o.answer)) e o.promise.refusal in
        edited-refused r n (without (string_of k) m) h (o.number ∙ g) (o.promise.left n g)

-- ---- Made

fresh_holds : {ws us : List ℕ} → FreshOut ws 0 us → Holds us []
fresh_holds {ws} {us} o = at (is_table (length ws)) refl
  where
    at : (b : Bool) → is_table (length ws) ≡ b → Holds us []
    at true e = o.promise.meaning e
    at false e = let f : ◌≡◌ {A = ℕ} 0 1 = o.number ∙ o.promise.number ∙ ap (λ (b : Bool). cond b 0 1) e in absurd (omega (arith, f))

-- every table that calls have made is a table of its map
pub made_holds : {ws : List ℕ} {m : Map} → Made ws m → Holds ws m
made_holds (fresh o) = fresh_holds o
made_holds (by_store r o) = store_holds (made_holds r) o
made_holds (by_remove r o) = remove_holds (made_holds r) o
