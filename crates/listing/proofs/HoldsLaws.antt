-- The laws of a slice on words that hold a map: it answers and writes what the paper says of that map.
-- No contract cites this file.
-- Assumes nothing.
use Prim.Native.Nat.{ℕ, ◌+◌, ◌*◌, ◌/◌, ◌^◌, ◌≤◌, ◌<◌}
use native.Mathlib.Omega.{arith}
use mathlib.Core.Path.{◌≡◌, refl, sym, ap, ◌∙◌}
use mathlib.Core.Bool.{Bool, true, false, not, cond}
use mathlib.Core.List.{List, [], ◌++◌}
use Rattle.std.specs.Prelude.{Option, None, Some, Result, Ok, Err}
use lib.Dec.{ltb, eqb}
use lib.ListN.{length, get_or, take, drop, replicate, length-map}
use borrow.Author.Tests.{ltb-false}
use Rattle.bits.specs.Lists.{keep, is_empty}
use Rattle.bits.proofs.ListsLaws.{length-keep_imp, keep-every}
use Rattle.refusals.specs.declared.Refusal.{Refusal}
use Rattle.refusals.specs.declared.Refusal.TheVariants.{BadLength, BadPrefix, BadSize, ShortOut}
use Rattle.prefix.specs.declared.Prefix.{Prefix}
use Rattle.prefix.proofs.KeysLaws.{is_valid_true}
use Rattle.zones.specs.Maps.{Map, keys}
use Rattle.zones.specs.Nodes.{nodes}
use Rattle.zones.specs.Slices.{after, given, remains, found, count}
use Rattle.zones.proofs.TreeLaws.{nodes-entries}
use Rattle.records.specs.Layout.{is_table}
use Rattle.records.specs.Holds.{Holds}
use Rattle.records.proofs.HoldsLaws.{nodes_holds}
use Rattle.listing.specs.Touring.{gives, start_on, Touring, tour_from}
use Rattle.listing.specs.Slicing.{sound_of, refused_of, toured_of, slice_on, resume_of, words_of}
use Rattle.listing.proofs.TourLaws.{tour_from_out, tour_from-pending}
use Rattle.listing.proofs.Items.{Item, items, all_items, stored_in, up_to, past}
use Rattle.listing.proofs.SliceItemsLaws.{keys-items, given-items, remains-items, passed-items}
use Rattle.listing.proofs.StartLaws.{Resumes, Sought, start_on_holds}

-- ---- refused_of

-- what is known where no refusal applies
pub record Accepted (r : Option Prefix) (b room : ℕ) : Type 0 where
  pub resumes : Resumes r
  pub fits : 6 * b ≤ room

resumes_sound : (r : Option Prefix) → sound_of r ≡ true → Resumes r
resumes_sound None e = tt
resumes_sound (Some k) e = is_valid_true k e

refused_of_no_at : (t s z f short : Bool)
    (needed : ℕ) → cond {A = Result (Unit {0}) Refusal} t
    (cond s (cond z (Err BadSize) (cond f (Err BadSize) (cond short (Err (ShortOut needed)) (Ok tt)))) (Err BadPrefix)) (Err BadLength) ≡ Ok tt
    → (s ≡ true) × (short ≡ false)
refused_of_no_at true true false false false n e = (refl, refl)
refused_of_no_at true true false false true n e = (refl, cc)
refused_of_no_at true true false true short n e = (refl, cc)
refused_of_no_at true true true f short n e = (refl, cc)
refused_of_no_at true false z f short n e = (cc, cc)
refused_of_no_at false s z f short n e = (cc, cc)

pub refused_of_no : (n : ℕ) (r : Option Prefix) (b room : ℕ) → refused_of n r b room ≡ Ok tt → Accepted r b room
unfolding refused_of
refused_of_no n r b room e =
    let q = refused_of_no_at (is_table n) (sound_of r) (eqb b 0) (ltb 4096 b) (ltb room (6 * b)) (6 * b) e in
    record { resumes = resumes_sound r q.0; fits = ltb-false room (6 * b) q.1 }

-- ---- Sought: the items that the way leads to are those of the slice

module _ (ws : List ℕ) (m : Map) (h : Holds ws m) (r : Option Prefix) (ls : List ℕ) (s : Sought ws m h r ls) where
  -- the items that are still to come
  abbrev coming : List Item
  coming = items s.t ++ all_items s.ts

  given-sought : (b : ℕ) → take b (stored_in coming) ≡ given m (resume_of r) b
  given-sought b = rw s.items_is (rw h.map_is at (given-items [] h.tree h.good (resume_of r) b))

  remains-sought : (b : ℕ) → not (is_empty (past b coming)) ≡ remains m (resume_of r) b
  remains-sought b = rw s.items_is (rw h.map_is at (remains-items [] h.tree h.good (resume_of r) b))

  count-sought : (b : ℕ) → length (up_to b coming) + s.number ≡ count m (resume_of r) b
  unfolding count
  count-sought b =
      rw (s.items_is, s.number_is)
      (ap (λ (n : ℕ). n + found m (resume_of r)) (rw h.map_is at (passed-items [] h.tree h.good (resume_of r) b)))

  -- no more than the table has records
  few-sought : length coming ≤ length ws / 8
  few-sought =
      let is : List Item = items h.tree in
      let n : length (nodes (keys m)) ≡ length is = rw h.map_is at (ap length (nodes-entries [] h.tree h.good ∙ sym (keys-items h.tree))
      ∙ length-map is (λ (i : Item). i.key)) in
      let k : length (keep (λ i. after (resume_of r) i.key) is) ≤ length (keep (λ (i : Item). true) is) =
      length-keep_imp (λ i. after (resume_of r) i.key) (λ (i : Item). true) is (λ i j o. tt) in
      omega (arith, ap length s.items_is, ap length (keep-every (λ (i : Item). true) is (λ i j. tt)), nodes_holds h, h.length_is)

-- ---- slice_on

module _ (ws : List ℕ) (r : Option Prefix) (b : ℕ) (us : List ℕ) (m : Map) (h : Holds ws m)
    (ok : refused_of (length ws) r b (length us) ≡ Ok tt) where
  -- the stack before the way
  abbrev blank : List ℕ
  blank = replicate 129 0

  -- what the way comes to
  sought_holds : Sought ws m h r blank
  sought_holds = start_on_holds ws m h blank refl r (refused_of_no (length ws) r b (length us) ok).resumes

  -- the items that come from there, and the tour of them
  abbrev left : List Item
  left = coming ws m h r blank sought_holds

  abbrev tour : Touring
  tour = tour_from ws b sought_holds.next (start_on ws r blank).depth (start_on ws r blank).links us

  slice_on-toured : slice_on ws r b us ≡ toured_of tour sought_holds.number
  unfolding slice_on
  slice_on-toured = rw (ok, sought_holds.found_is)

  answer-toured : tour.out ≡ gives (length (take b (stored_in left))) (not (is_empty (past b left))) (length (up_to b left))
      → (slice_on ws r b us).answer ≡ gives (length (given m (resume_of r) b)) (remains m (resume_of r) b) (count m (resume_of r) b)
  answer-toured e =
      rw (slice_on-toured, e, given-sought ws m h r blank sought_holds b, remains-sought ws m h r blank sought_holds b)
      (ap (gives (length (given m (resume_of r) b)) (remains m (resume_of r) b)) (count-sought ws m h r blank sought_holds b))

  words-toured : tour.words ≡ words_of (take b (stored_in left)) ++ drop (6 * length (take b (stored_in left))) us
      → (slice_on ws r b us).words ≡ words_of (given m (resume_of r) b) ++ drop (6 * length (given m (resume_of r) b)) us
  words-toured e = rw (slice_on-toured, e, given-sought ws m h r blank sought_holds b)

pub slice_on_holds : (ws : List ℕ) (r : Option Prefix) (b : ℕ) (us : List ℕ) (m : Map) → Holds ws m
    → refused_of (length ws) r b (length us) ≡ Ok tt
    → (slice_on ws r b us).answer ≡ gives (length (given m (resume_of r) b)) (remains m (resume_of r) b) (count m (resume_of r) b)
slice_on_holds ws r b us m h ok =
    let s = sought_holds ws r b us m h ok in
    let ls : List ℕ = replicate 129 0 in
    answer-toured ws r b us m h ok
    (tour_from_out ws b s.next (start_on ws r ls).depth (start_on ws r ls).links us s.t s.ts s.pending (few-sought ws m h r ls s))

pub slice_on-written : (ws : List ℕ) (r : Option Prefix) (b : ℕ) (us : List ℕ) (m : Map) → Holds ws m → ((i : ℕ) → get_or ws i 0 < 2 ^ 32)
    → refused_of (length ws) r b (length us) ≡ Ok tt
    → (slice_on ws r b us).words ≡ words_of (given m (resume_of r) b) ++ drop (6 * length (given m (resume_of r) b)) us
slice_on-written ws r b us m h w ok =
    let s = sought_holds ws r b us m h ok in
    let ls : List ℕ = replicate 129 0 in
    words-toured ws r b us m h ok
    (tour_from-pending ws b s.next (start_on ws r ls).depth (start_on ws r ls).links us s.t s.ts s.pending w
    (refused_of_no (length ws) r b (length us) ok).fits (few-sought ws m h r ls s)).words
