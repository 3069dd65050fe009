-- The law of sequences of calls: they tell what the plain map tells. No contract cites this file.
-- Assumes nothing.
use Prim.Native.Nat.{ℕ}
use mathlib.Core.Path.{◌≡◌, refl}
use mathlib.Core.List.{List, ◌∷◌}
use lib.ListN.{length}
use Rattle.refusals.specs.Refusals.{number_of}
use Rattle.prefix.specs.Keys.{string_of}
use Rattle.zones.specs.Maps.{Map, get, longest_match}
use Rattle.zones.specs.Nodes.{overflows}
use Rattle.records.specs.Layout.{capacity}
use Rattle.records.specs.Holds.{Holds}
use Rattle.lookup.specs.Fetching as fetching
use Rattle.lookup.specs.Matching as matching
use Rattle.plans.specs.Planning.{entry_of}
use Rattle.edits.specs.Storing as storing
use Rattle.edits.specs.Removing as removing
use Rattle.answers.specs.Made.{Tells}
use Rattle.answers.specs.Answers.{nodes_for}
use Rattle.answers.specs.Sequences.{Call, Told, Ran, done, fetched, matched, stored, removed, told, map_tells}
use Rattle.answers.proofs.AnswersLaws.{answers_holds}

-- ---- told

told-tells : {A : Type 0} (number_of : A → ℕ) (values_of : A → List ℕ) (a : A) {r : ℕ} {values : List ℕ} → Tells number_of values_of a r values
    → record { number = r; values = values } ≡ told number_of values_of a
told-tells number_of values_of a t = λ i. record { number = t.0 i; values = t.1 i }

-- ---- map_tells

-- the first call is told alike, and the others are
told_next : {a b : Told} {ts us : List Told} → a ≡ b → ts ≡ us → a ∷ ts ≡ b ∷ us
told_next p q = λ i. p i ∷ q i

pub ran-map_tells : {ws : List ℕ} {m : Map} {cs : List Call} {ts : List Told} → Holds ws m → Ran ws cs ts → ts ≡ map_tells (capacity (length ws)) m cs
ran-map_tells h done = refl
ran-map_tells {m = m} h (fetched {k = k} o v rest) =
    let a = fetching.gives (nodes_for m k) (get (string_of k) m) in
    told_next (told-tells number_of fetching.values_of a ((answers_holds h).fetch o v).0) (ran-map_tells h rest)
ran-map_tells {m = m} h (matched {k = k} o v rest) =
    let a = matching.gives (nodes_for m k) (longest_match (string_of k) m) in
    told_next (told-tells number_of matching.values_of a ((answers_holds h).longest o v).0) (ran-map_tells h rest)
ran-map_tells {ws} {m} h (stored {k = k} {z} o v rest) =
    let a = storing.gives (overflows (capacity (length ws)) (entry_of k z) m) (nodes_for m k) (get (string_of k) m) in
    told_next (told-tells number_of storing.values_of a ((answers_holds h).store o v).0)
    (rw o.promise.three.same_length at (ran-map_tells (o.promise.holds m h v.0 v.1) rest))
ran-map_tells {m = m} h (removed {k = k} o v rest) =
    let a = removing.gives (nodes_for m k) (get (string_of k) m) in
    told_next (told-tells number_of removing.values_of a ((answers_holds h).remove o v).0)
    (rw o.promise.three.same_length at (ran-map_tells (o.promise.holds m h v.0 v.1) rest))
