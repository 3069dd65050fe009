-- The laws of whole listings as calls have made them: the slices give, count and end as the paper's do.
-- No contract cites this file.
-- Assumes nothing.
use Prim.Native.Nat.{ℕ, ◌+◌, ◌*◌, ◌≤◌}
use native.Mathlib.Omega.{arith}
use mathlib.Core.Path.{◌≡◌, refl, sym, ap, ap₂, subst, ◌∙◌}
use mathlib.Core.Bool.{Bool, true, false, not, cond}
use mathlib.Core.List.Memᴰ
use mathlib.Core.List.{List, [], ◌∷◌, ◌++◌, Memᴰ}
use mathlib.Core.Option.{Option, none, some, some-injective}
use Rattle.std.specs.Prelude as std
use Rattle.std.specs.Prelude.{None, Some}
use lib.Dec.{T, leb, le→leb}
use lib.ListN.{length, get_or, take, drop}
use lib.Seq.{take_at}
use Rattle.bits.specs.Lists.{all, keep}
use Rattle.bits.specs.Bits.{Bits, equal, member}
use Rattle.bits.proofs.ListsLaws.{mem-all, and_both}
use Rattle.refusals.specs.Refusals.{number_of}
use Rattle.refusals.proofs.RefusalsLaws.{exactly_accepted}
use Rattle.prefix.specs.Keys.{string_of}
use Rattle.prefix.specs.declared.Prefix.{Prefix}
use Rattle.prefix.proofs.KeysLaws.{length-string_of}
use Rattle.zones.specs.Maps.{Entry, Map, keys, ascending}
use Rattle.zones.specs.Nodes.{nodes}
use Rattle.zones.specs.Slices.{given, remains, count}
use Rattle.zones.specs.Listings.{next, pathed}
use Rattle.zones.specs.WholeListings.{turns, listed, counted, ended}
use Rattle.zones.proofs.SlicesLaws.{listed_once}
use Rattle.zones.proofs.CountLaws.{counted-whole, count-bound}
use Rattle.zones.proofs.TreeLaws.{keys-append}
use Rattle.records.specs.Holds.{Holds}
use Rattle.records.proofs.HoldsLaws.{ascending_holds}
use Rattle.records.proofs.EntriesLaws.{narrow_holds}
use Rattle.listing.specs.Slicing.{refused_of, resume_of, entry_words, words_of}
use Rattle.listing.proofs.StartLaws.{Resumes}
use Rattle.listing.proofs.HoldsLaws.{refused_of_no}
use Rattle.listing.proofs.TourLaws.{length-words_of}
use Rattle.nalfipode.specs.Slices.{SliceOut}
use Rattle.answers.specs.Listings.{Page, turn_of, turns_of, Follows, Ended, counts, outputs}
use Rattle.answers.proofs.AnswersLaws.{answers_holds, refused_no}

-- ---- Holds

narrow-all : {ws : List ℕ} {m : Map} → Holds ws m → T (all (λ e. leb (length e.key) 128) m)
unfolding keys
narrow-all {m = m} h = mem-all (λ e. leb (length e.key) 128) m (λ e i. le→leb _ _ (narrow_holds h e.key (Memᴰ.map (λ (x : Entry). x.key) i)))

-- a resume prefix that is sound is at most 128 wide
resume_narrow : (from : std.Option Prefix) → Resumes from → (q : Bits) → resume_of from ≡ some q → length q ≤ 128
resume_narrow None v q e = absurd (let z : ◌≡◌ {A = ℕ} 0 1 = cc in omega arith)
resume_narrow (Some k) v q e =
    omega (arith, length-string_of k v.narrow, v.narrow, ap length (some-injective (string_of k) q e))

-- ---- one slice

-- where a slice is accepted no refusal applies
pub accepted_no : {ws us after values : List ℕ} {from : std.Option Prefix} {b : ℕ} → SliceOut ws from b us 0 after values
    → number_of (refused_of (length ws) from b (length us)) ≡ 0
accepted_no o = exactly_accepted _ _ _ o.promise.refusal (sym o.number)

module _ {ws us after values : List ℕ} {m : Map} {from : std.Option Prefix} {b : ℕ} (h : Holds ws m) (o : SliceOut ws from b us 0 after values) where
  pub slice-values : values ≡ length (given m (resume_of from) b) ∷ cond (remains m (resume_of from) b) 1 0 ∷ count m (resume_of from) b ∷ []
  slice-values = ((answers_holds h).slice o (accepted_no o)).0.1

  -- the words given, as many as the first value says
  pub slice_words : take (6 * get_or values 0 0) after ≡ words_of (given m (resume_of from) b)
  slice_words =
      let g = given m (resume_of from) b in
      rw (slice-values, ((answers_holds h).slice o (accepted_no o)).1) (take_at (words_of g) (drop (6 * length g) us) (6 * length g) (length-words_of g))

  -- "It is at most 129 + 129b."
  pub slice-bound : get_or values 2 0 ≤ 129 + 129 * b
  slice-bound =
      rw slice-values
      (count-bound m (resume_of from) b (ascending_holds h) (narrow-all h) (resume_narrow from (refused_of_no _ _ _ _ (refused_no _ (accepted_no o))).resumes))

-- ---- the slices of a listing

words_of-append : (m n : Map) → words_of (m ++ n) ≡ words_of m ++ words_of n
words_of-append [] n = refl
words_of-append (e ∷ m) n = ap (λ (l : List ℕ). entry_words e ++ l) (words_of-append m n)

-- the entries that they give, the first resuming at o
abbrev entries_from : Option Bits → List Page → Map
entries_from o [] = []
entries_from o (p ∷ ps) = given p.stored o p.size ++ entries_from (next o (turn_of p)) ps

keys-entries_from : (o : Option Bits) (ps : List Page) → keys (entries_from o ps) ≡ listed o (turns_of ps)
unfolding keys
keys-entries_from o [] = refl
keys-entries_from o (p ∷ ps) =
    keys-append (given p.stored o p.size) (entries_from (next o (turn_of p)) ps)
    ∙ ap (λ (l : List Bits). keys (given p.stored o p.size) ++ l) (keys-entries_from (next o (turn_of p)) ps)

outputs-entries : (o : Option Bits) (ps : List Page) → Follows o ps → outputs ps ≡ words_of (entries_from o ps)
outputs-entries o [] f = refl
outputs-entries o (p ∷ ps) f =
    let g = given p.stored o p.size in
    let first = slice_words p.holds p.call ∙ ap (λ (r : Option Bits). words_of (given p.stored r p.size)) f.0 in
    ap₂ ◌++◌ first (outputs-entries (next o (turn_of p)) ps f.1) ∙ sym (words_of-append g (entries_from (next o (turn_of p)) ps))

-- the last slice leaves nothing
remains_no : (b : Bool) → ◌≡◌ {A = ℕ} (cond b 1 0) 0 → T (not b)
remains_no true e = absurd (omega (arith, e))
remains_no false e = tt

ended-turns : (o : Option Bits) (ps : List Page) → Follows o ps → Ended ps → T (ended o (turns_of ps))
ended-turns o (p ∷ []) f e =
    subst (λ (r : Option Bits). T (not (remains p.stored r p.size))) f.0
    (remains_no (remains p.stored (resume_of p.resume) p.size) (rw (slice-values p.holds p.call) at e))
ended-turns o (p ∷ (q ∷ ps)) f e = ended-turns (next o (turn_of p)) (q ∷ ps) f.1 e
ended-turns o [] f e = elim e [ ]

counts-counted : (o : Option Bits) (ps : List Page) → Follows o ps → counts ps ≡ counted o (turns_of ps)
counts-counted o [] f = refl
counts-counted o (p ∷ ps) f =
    let first = ap (λ (vs : List ℕ). get_or vs 2 0) (slice-values p.holds p.call) ∙ ap (λ (r : Option Bits). count p.stored r p.size) f.0 in
    ap₂ ◌+◌ first (counts-counted (next o (turn_of p)) ps f.1)

-- what holds of every page's map holds of every turn's
all-turns : (g : Map → Bool) (ps : List Page) → ((p : Page) → Memᴰ p ps → T (g p.stored)) → T (all (λ t. g t.stored) (turns_of ps))
all-turns g [] h = tt
all-turns g (p ∷ ps) h =
    and_both (g p.stored) (all (λ t. g t.stored) (turns_of ps)) (h p (Memᴰ.head refl)) (all-turns g ps (λ q i. h q (Memᴰ.tail i)))

-- "whatever stays stored from the first slice to the last is listed exactly once"
pub outputs_once : (k : Bits) (ps : List Page) → Follows none ps → Ended ps → ((p : Page) → Memᴰ p ps → T (member k (keys p.stored)))
    → (es : Map) × ((outputs ps ≡ words_of es) × (length (keep (equal k) (keys es)) ≡ 1))
outputs_once k ps f e s = (
  entries_from none ps,
  (
    outputs-entries none ps f,
    rw (keys-entries_from none ps)
        (listed_once k (turns_of ps) (all-turns ascending ps (λ p i. ascending_holds p.holds)) (all-turns (λ m. member k (keys m)) ps s)
        (ended-turns none ps f e)),
  ),
)

-- ---- an unchanged table

abbrev sizes_of : List Page → List ℕ
sizes_of [] = []
sizes_of (p ∷ ps) = p.size ∷ sizes_of ps

turns_of-turns : (m : Map) (ps : List Page) → ((p : Page) → Memᴰ p ps → p.stored ≡ m) → turns_of ps ≡ turns m (sizes_of ps)
turns_of-turns m [] h = refl
turns_of-turns m (p ∷ ps) h =
    ap₂ ◌∷◌ (ap (λ (n : Map). record { stored = n; size = p.size }) (h p (Memᴰ.head refl))) (turns_of-turns m ps (λ q i. h q (Memᴰ.tail i)))

-- the map of a listing that has a slice ascends
ascending-pages : (m : Map) (ps : List Page) → Ended ps → ((p : Page) → Memᴰ p ps → p.stored ≡ m) → T (ascending m)
ascending-pages m (p ∷ ps) e h = subst (λ (n : Map). T (ascending n)) (h p (Memᴰ.head refl)) (ascending_holds p.holds)
ascending-pages m [] e h = elim e [ ]

-- "A whole listing of an unchanged table, in slices, counts each node once plus the search path of each resume."
pub counts_whole : (m : Map) (ps : List Page) → Follows none ps → Ended ps → ((p : Page) → Memᴰ p ps → p.stored ≡ m)
    → counts ps ≡ length (nodes (keys m)) + pathed none (turns_of ps)
counts_whole m ps f e h =
    let t = turns_of-turns m ps h in
    counts-counted none ps f ∙ rw t (counted-whole m (sizes_of ps) (ascending-pages m ps e h) (rw t at (ended-turns none ps f e)))
