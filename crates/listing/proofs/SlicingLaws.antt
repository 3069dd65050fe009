-- The laws of a slice: one for each way out of its functions, what it shows that no refusal applies, and the
-- one that makes its contract of the answer.
-- No contract cites this file.
-- Assumes nothing.
use Prim.Native.Nat.{ℕ, zero, suc, ◌+◌, ◌*◌, ◌/◌, ◌^◌, ◌≤◌, ◌<◌}
use native.Mathlib.Omega.{arith}
use mathlib.Core.Path.{◌≡◌, refl, sym, ap, subst, ◌∙◌}
use mathlib.Core.Bool.{Bool, true, false, cond}
use mathlib.Core.List.{List, [], ◌∷◌}
use Rattle.std.specs.Prelude.{Option, None, Some, Result, Ok, Err}
use lib.Dec.{ltb, eqb}
use lib.ListN.{length, get_or, replicate}
use borrow.Author.Tests.{ltb-false}
use Rattle.refusals.specs.Refusals.{number, number_of, OneOf, GivenExactly}
use Rattle.refusals.specs.declared.Refusal.{Refusal}
use Rattle.refusals.specs.declared.Refusal.TheVariants.{BadLength, BadPrefix, BadSize, ShortOut}
use Rattle.prefix.specs.declared.Prefix.{Prefix}
use Rattle.prefix.proofs.KeysLaws.{is_valid_true}
use Rattle.records.specs.Layout.{is_table}
use Rattle.records.proofs.LayoutLaws.{is_table_true}
use Rattle.listing.specs.Touring.{Seeking, start_on, Touring, tour_from}
use Rattle.listing.specs.Slicing.{sound_of, refused_of, counted_of, Sliding, sought_from, sliding_of, slice_on, values_of, Slice}
use Rattle.listing.specs.Bounds.{Narrow}
use Rattle.listing.specs.declared.Sliced.{Sliced}
use Rattle.listing.specs.declared.way.Seek.{Seek}
use Rattle.listing.proofs.TouringLaws.{Short, start_on_short}
use Rattle.listing.proofs.TourOnLaws.{Within, tour_from-within}
use Rattle.listing.proofs.HoldsLaws.{slice_on_holds, slice_on-written}

-- ---- sound_of

sound_of_narrow : (r : Option Prefix) → sound_of r ≡ true → Narrow r
sound_of_narrow None h = tt
sound_of_narrow (Some k) h = (is_valid_true k h).narrow

-- ---- refused_of

-- what it shows that no refusal applies
pub record Allowed (n : ℕ) (r : Option Prefix) (b room : ℕ) : Type 0 where
  pub least : 16 ≤ n
  pub most : n ≤ 524288
  pub narrow : Narrow r
  pub small : b ≤ 4096
  pub ample : 6 * b ≤ room

abbrev Allows : ℕ → Option Prefix → ℕ → ℕ → Result (Unit {0}) Refusal → Type 0
Allows n r b room (Ok u) = Allowed n r b room
Allows n r b room (Err e) = Unit {0}

module _ (n : ℕ) (r : Option Prefix) (b room : ℕ) where
  refused_of-allows : Allows n r b room (refused_of n r b room)
  unfolding refused_of
  refused_of-allows = at (is_table n) (sound_of r) (eqb b 0) (ltb 4096 b) (ltb room (6 * b)) refl refl refl refl
    where
      at : (v w x y z : Bool) → is_table n ≡ v → sound_of r ≡ w → ltb 4096 b ≡ y → ltb room (6 * b) ≡ z
          → Allows n r b room
          (cond v (cond w (cond x (Err BadSize) (cond y (Err BadSize) (cond z (Err (ShortOut (6 * b))) (Ok tt)))) (Err BadPrefix))
          (Err BadLength))
      at false w x y z p q s t = tt
      at true false x y z p q s t = tt
      at true true true y z p q s t = tt
      at true true false true z p q s t = tt
      at true true false false true p q s t = tt
      at true true false false false p q s t =
          let i = is_table_true n p in
          record { least = i.least; most = i.most; narrow = sound_of_narrow r q; small = ltb-false _ _ s; ample = ltb-false _ _ t }

  pub refused_of-allowed : (u : Unit {0}) → refused_of n r b room ≡ Ok u → Allowed n r b room
  refused_of-allowed u e = subst (Allows n r b room) e refused_of-allows

-- ---- slice_on

module _ (ws : List ℕ) (r : Option Prefix) (b : ℕ) (us : List ℕ) where
  -- for a refusal this is the whole answer, and the output as it was
  pub slice_on-refused : (x : Result (Unit {0}) Refusal) → refused_of (length ws) r b (length us) ≡ x → slice_on ws r b us ≡ sliding_of ws r b us x
  unfolding slice_on
  slice_on-refused x q = rw q

  module _ (u : Unit {0}) (q : refused_of (length ws) r b (length us) ≡ Ok u) (ls : List ℕ) (o : ℕ) (s : Result Seek Refusal)
      (g : start_on ws r (replicate 129 0) ≡ record { links = ls; depth = o; out = s }) where
    pub slice_on_damaged : (e : Refusal) → s ≡ Err e → slice_on ws r b us ≡ record { answer = Err e; words = us }
    slice_on_damaged e p = slice_on-refused (Ok u) q ∙ rw (g, p)

    module _ (t : Seek) (p : s ≡ Ok t) (ms ys : List ℕ) (z : Result Sliced Refusal)
        (h : tour_from ws b t.next o ls us ≡ record { links = ms; words = ys; out = z }) where
      pub slice_on-toured : slice_on ws r b us ≡ record { answer = counted_of z t.found; words = ys }
      slice_on-toured = slice_on-refused (Ok u) q ∙ rw (g, p, h)

      -- few nodes are counted, on the resume's path and in the tour
      pub slice_on_few : (d : Sliced) → z ≡ Ok d → d.count + t.found ≤ 131072
      slice_on_few d e =
          let few : t.found ≤ 129 = subst Short (ap (λ (v : Seeking). v.out) g ∙ p) (start_on_short ws r (replicate 129 0)) in
          let passed = subst (Within b (length ws / 8)) (ap (λ (v : Touring). v.out) h ∙ e) (tour_from-within ws b t.next o ls us) in
          omega (arith, passed.1, (refused_of-allowed (length ws) r b (length us) u q).most)

-- ---- the contract

-- a slice that is not refused is given, or Damaged
tour_from-given : (ws : List ℕ) (b next o : ℕ) (ls us : List ℕ) (found : ℕ)
    → OneOf (0 ∷ 6 ∷ []) (number_of (counted_of (tour_from ws b next o ls us).out found))
tour_from-given ws b next o ls us found = at (tour_from ws b next o ls us).out (tour_from-within ws b next o ls us)
  where
    at : (z : Result Sliced Refusal) → Within b (length ws / 8) z → OneOf (0 ∷ 6 ∷ []) (number_of (counted_of z found))
    at (Ok s) w = tt
    at (Err e) w = rw w tt

sought_from-given : (ws : List ℕ) (b : ℕ) (us ls : List ℕ) (o : ℕ) (s : Result Seek Refusal) → Short s
    → OneOf (0 ∷ 6 ∷ []) (number_of (sought_from ws b us ls o s).answer)
sought_from-given ws b us ls o (Ok t) w = tour_from-given ws b t.next o ls us t.found
sought_from-given ws b us ls o (Err e) w = rw w tt

abbrev Exact : Result (Unit {0}) Refusal → Sliding → Type 0
Exact y s = GivenExactly (number_of y) (0 ∷ 6 ∷ []) (number_of s.answer)

-- a refusal's number is given exactly
exact_same : (e : Refusal) → GivenExactly (number e) (0 ∷ 6 ∷ []) (number e)
exact_same e = at (number e)
  where
    at : (n : ℕ) → GivenExactly n (0 ∷ 6 ∷ []) n
    at zero = tt
    at (suc n) = refl

sliding_of_exact : (ws : List ℕ) (r : Option Prefix) (b : ℕ) (us : List ℕ) (y : Result (Unit {0}) Refusal) → Exact y (sliding_of ws r b us y)
sliding_of_exact ws r b us (Err e) = exact_same e
sliding_of_exact ws r b us (Ok u) =
    let s = start_on ws r (replicate 129 0) in
    sought_from-given ws b us s.links s.depth s.out (start_on_short ws r (replicate 129 0))

-- a refusal has zero counts
values_of-refused : (x : Result Sliced Refusal) (n : ℕ) → number_of x ≡ suc n → values_of x ≡ 0 ∷ 0 ∷ 0 ∷ []
values_of-refused (Ok s) n h = cc
values_of-refused (Err e) n h = refl

-- and one of what is asked leaves the output
sliding_of_kept : (ws : List ℕ) (r : Option Prefix) (b : ℕ) (us : List ℕ) (y : Result (Unit {0}) Refusal) (n : ℕ) → number_of y ≡ suc n
    → (sliding_of ws r b us y).words ≡ us
sliding_of_kept ws r b us (Err e) n h = refl
sliding_of_kept ws r b us (Ok u) n h = cc

-- the table's words are of 32 bits, as the machine has them
pub slice-promise : (ws : List ℕ) (r : Option Prefix) (b : ℕ) (us : List ℕ) (x : Result Sliced Refusal) (after : List ℕ) → ((i : ℕ) → get_or ws i 0 < 2 ^ 32)
    → slice_on ws r b us ≡ record { answer = x; words = after } → Slice ws r b us x after
unfolding slice_on
slice-promise ws r b us x after words e =
    let y = refused_of (length ws) r b (length us) in
    record {
      answer = e;
      refusal = subst (Exact y) e (sliding_of_exact ws r b us y);
      counts = values_of-refused x;
      kept = λ n h. ap (λ (s : Sliding). s.words) (sym e) ∙ sliding_of_kept ws r b us y n h;
      meaning = λ m h q. ap (λ (s : Sliding). s.answer) (sym e) ∙ slice_on_holds ws r b us m h q;
      written = λ m h q. ap (λ (s : Sliding). s.words) (sym e) ∙ slice_on-written ws r b us m h words q;
    }

-- the promise admits one answer and one output, on any words
pub slice_single : (ws : List ℕ) (r : Option Prefix) (b : ℕ) (us : List ℕ) (x y : Result Sliced Refusal) (xs ys : List ℕ) → Slice ws r b us x xs → Slice ws r b us y ys
    → (x ≡ y) × (xs ≡ ys)
slice_single ws r b us x y xs ys p q =
    let e = sym p.answer ∙ q.answer in
    (ap (λ (s : Sliding). s.answer) e, ap (λ (s : Sliding). s.words) e)
