-- The third answer: `answer_3`. On the way: what a call reports, and what it rests on, by its contract.
-- Assumes nothing.
use Prim.Native.Nat.{ℕ}
use native.Mathlib.Omega.{arith}
use mathlib.Core.Path.{◌≡◌, refl, sym, ap, ◌∙◌}
use mathlib.Core.Bool.{Bool, true, false}
use mathlib.Core.List.{List, [], ◌∷◌}
use mathlib.Core.Option.{Option, none, some}
use Rattle.std.specs.Prelude as std
use Rattle.refusals.specs.Refusals.{number_of}
use Rattle.refusals.specs.declared.Refusal.{Refusal}
use lib.ListN.{length, take}
use Rattle.prefix.specs.Keys.{string_of, Valid}
use Rattle.prefix.specs.declared.Prefix.{Prefix}
use Rattle.prefix.proofs.KeysLaws.{length-string_of}
use Rattle.zones.specs.Maps.{Entry, Map, keys, get, longest_match}
use Rattle.zones.specs.Nodes.{overflows}
use Rattle.zones.proofs.PathLaws.{length-path}
use Rattle.records.specs.Layout.{capacity}
use Rattle.records.specs.Holds.{Holds}
use Rattle.lookup.specs.Walking.{Outcome}
use Rattle.lookup.specs.Fetching as fetching
use Rattle.lookup.specs.Matching as matching
use Rattle.lookup.specs.Paths.{Agree, path_links}
use Rattle.lookup.specs.declared.Keyed.{Keyed}
use Rattle.lookup.specs.declared.Match.{Match}
use Rattle.lookup.proofs.RestsLaws.{fetch_on_rests, longest_on_rests}
use Rattle.plans.specs.Planning.{entry_of}
use Rattle.edits.specs.Storing as storing
use Rattle.edits.specs.Storing.{Edit}
use Rattle.edits.specs.Removing as removing
use Rattle.edits.specs.Resting.{SameEdit, edit_links}
use Rattle.edits.proofs.EditRestsLaws.{store_on_rests, remove_on_rests}
use Rattle.listing.specs.Slicing as slicing
use Rattle.listing.specs.Slicing.{Sliding}
use Rattle.listing.specs.Resting.{slice_links}
use Rattle.listing.proofs.SliceRestsLaws.{slice_on_rests}
use Rattle.nalfipode.specs.Changes.{StoreOut, RemoveOut}
use Rattle.nalfipode.specs.Reads.{FetchOut, LongestMatchOut}
use Rattle.nalfipode.specs.Slices.{SliceOut}
use Rattle.nalfipode.proofs.SinglesLaws.{alike}
use Rattle.answers.specs.Answers.{nodes_for, trail_for}
use Rattle.answers.specs.Third.{Reports, Changes, WorkIsBounded}
use Rattle.answers.proofs.MadeLaws.{made_holds}
use Rattle.answers.proofs.AnswersLaws.{answers_holds}
use Rattle.answers.proofs.ListingsLaws.{slice-bound, counts_whole}

-- ---- Reports

take-fetched : (n : ℕ) (o : Option ℕ) → take 1 (fetching.values_of (fetching.gives n o)) ≡ n ∷ []
take-fetched n none = refl
take-fetched n (some z) = refl

take-matched : (n : ℕ) (o : Option Entry) → take 1 (matching.values_of (matching.gives n o)) ≡ n ∷ []
take-matched n none = refl
take-matched n (some e) = refl

take_stored : (b : Bool) (n : ℕ) (o : Option ℕ) → take 1 (storing.values_of (storing.gives b n o)) ≡ n ∷ []
take_stored true n o = refl
take_stored false n none = refl
take_stored false n (some z) = refl

take-removed : (n : ℕ) (o : Option ℕ) → take 1 (removing.values_of (removing.gives n o)) ≡ n ∷ []
take-removed n none = refl
take-removed n (some z) = refl

-- of values vs that start with the number of nodes
reports : {m : Map} {k : Prefix} {bs values vs after : List ℕ} → Valid k → values ≡ vs → take 1 vs ≡ nodes_for m k ∷ [] → after ≡ trail_for m k bs
    → Reports m k bs values after
reports {m} {k} v e n t =
    record {
      number = ap (take 1) e ∙ n;
      widths = t;
      most = omega (arith, length-path (keys m) (string_of k), length-string_of k v.narrow);
    }

-- ---- Changes

store-changes : {ws bs us after values : List ℕ} {k : Prefix} {z r : ℕ} → StoreOut ws k z bs r us after values → Changes ws us r
store-changes o = record { three = o.promise.three; refused = λ n e. o.promise.left n (sym o.number ∙ e) }

remove-changes : {ws bs us after values : List ℕ} {k : Prefix} {r : ℕ} → RemoveOut ws k bs r us after values → Changes ws us r
remove-changes o = record { three = o.promise.three; refused = λ n e. o.promise.left n (sym o.number ∙ e) }

-- ---- what a call rests on

-- the same edit, by the answer's number
same_edit-number : {A : Type 0} (f : A → ℕ) {us ws : List ℕ} {x y : Edit A} {q r : ℕ} → q ≡ f x.answer → r ≡ f y.answer → SameEdit us ws x y
    → SameEdit us ws (record { answer = q; bytes = x.bytes; words = x.words }) (record { answer = r; bytes = y.bytes; words = y.words })
same_edit-number f p q s =
    record {
      answer = alike f p q s.answer;
      bytes = s.bytes;
      plan = s.plan;
      left_words = s.left_words;
      right_words = s.right_words;
    }

module _ {ws us bs after later values told : List ℕ} {m : Map} {k : Prefix} {r q : ℕ} (h : Holds ws m)
    (agree : Agree us ws (path_links h.tree (string_of k))) where
  fetch_alike : FetchOut ws k bs r after values → FetchOut us k bs q later told → (r ≡ q) × (values ≡ told) × (after ≡ later)
  fetch_alike o u =
      let e = sym o.promise.answer ∙ sym (fetch_on_rests ws us k bs m h agree) ∙ u.promise.answer in
      let a = ap (λ (x : Outcome (std.Result (Keyed ℕ) Refusal)). x.answer) e in
      (alike number_of o.number u.number a, alike fetching.values_of o.listed u.listed a, ap (λ (x : Outcome (std.Result (Keyed ℕ) Refusal)). x.bytes) e)

  longest_alike : LongestMatchOut ws k bs r after values → LongestMatchOut us k bs q later told → (r ≡ q) × (values ≡ told) × (after ≡ later)
  longest_alike o u =
      let e = sym o.promise.answer ∙ sym (longest_on_rests ws us k bs m h agree) ∙ u.promise.answer in
      let a = ap (λ (x : Outcome (std.Result (Keyed (std.Option Match)) Refusal)). x.answer) e in
      (alike number_of o.number u.number a, alike matching.values_of o.listed u.listed a, ap (λ (x : Outcome (std.Result (Keyed (std.Option Match)) Refusal)). x.bytes) e)

-- the words that two edits leave
module _ {ws us bs wt ut after later values told : List ℕ} {m : Map} {k : Prefix} {r q : ℕ} (h : Holds ws m) where
  store_alike : {z : ℕ} → Agree us ws (edit_links h (string_of k)) → StoreOut ws k z bs r wt after values → StoreOut us k z bs q ut later told
      → (values ≡ told) × SameEdit us ws (record { answer = q; bytes = later; words = ut }) (record { answer = r; bytes = after; words = wt })
  store_alike {z} agree o u =
      let s = rw (o.promise.answer, u.promise.answer) at (store_on_rests ws us k z bs m h agree) in
      (alike storing.values_of o.listed u.listed (sym s.answer), same_edit-number number_of u.number o.number s)

  remove_alike : Agree us ws (path_links h.tree (string_of k)) → RemoveOut ws k bs r wt after values → RemoveOut us k bs q ut later told
      → (values ≡ told) × SameEdit us ws (record { answer = q; bytes = later; words = ut }) (record { answer = r; bytes = after; words = wt })
  remove_alike agree o u =
      let s = rw (o.promise.answer, u.promise.answer) at (remove_on_rests ws us k bs m h agree) in
      (alike removing.values_of o.listed u.listed (sym s.answer), same_edit-number number_of u.number o.number s)

module _ {ws us vs after later values told : List ℕ} {m : Map} {from : std.Option Prefix} {b r q : ℕ} (h : Holds ws m)
    (agree : Agree us ws (slice_links h.tree from b)) where
  slice_alike : SliceOut ws from b vs r after values → SliceOut us from b vs q later told → (r ≡ q) × (values ≡ told) × (after ≡ later)
  slice_alike o u =
      let e = sym o.promise.answer ∙ sym (slice_on_rests ws us from b vs m h agree) ∙ u.promise.answer in
      let a = ap (λ (x : Sliding). x.answer) e in
      (alike number_of o.number u.number a, alike slicing.values_of o.listed u.listed a, ap (λ (x : Sliding). x.words) e)

-- ---- the answer

-- How much table work can one holder of the lock do, and does that grow as a unit ages? As much as it reports,
-- which the set and the key give; it does not grow.
pub answer_3 : WorkIsBounded
answer_3 =
    record {
      fetch = λ {m = m} {k} h v o. let a = (answers_holds (made_holds h)).fetch o v in reports v.0 a.0.1 (take-fetched _ (get (string_of k) m)) a.1;
      longest = λ {m = m} {k} h v o.
          let a = (answers_holds (made_holds h)).longest o v in
          reports v.0 a.0.1 (take-matched _ (longest_match (string_of k) m)) a.1;
      store = λ {ws} {m = m} {k} {z} h v o.
          let a = (answers_holds (made_holds h)).store o v in
          let full = overflows (capacity (length ws)) (entry_of k z) m in
          (reports v.0 a.0.1 (take_stored full _ (get (string_of k) m)) a.1, store-changes o);
      remove = λ {m = m} {k} h v o.
          let a = (answers_holds (made_holds h)).remove o v in
          (reports v.0 a.0.1 (take-removed _ (get (string_of k) m)) a.1, remove-changes o);
      ageless = λ x y. (x.number ∙ sym y.number, x.widths ∙ sym y.widths);
      slice = λ h o. slice-bound h o;
      listing = counts_whole;
      fetch_rests = λ h a o u. fetch_alike h a o u;
      longest_rests = λ h a o u. longest_alike h a o u;
      store_rests = λ h a o u. store_alike h a o u;
      remove_rests = λ h a o u. remove_alike h a o u;
      slice_rests = λ h a o u. slice_alike h a o u;
    }
