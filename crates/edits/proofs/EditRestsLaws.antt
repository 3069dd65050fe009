-- The laws of what store and remove rest on: on any memory of the same length that agrees with a table in the
-- header, in the records of the path's nodes and, for a store, in the first two spare records, they answer
-- alike, leave the same trail and write the same words in the same places. Which of these records a plan
-- looks at is said at the head of PlanRestsLaws. Paper 01, "The lent table". No contract cites this file.
-- Assumes nothing.
use Prim.Native.Nat.{ℕ, suc, ◌+◌, ◌≤◌}
use mathlib.Core.Path.{◌≡◌, refl}
use mathlib.Core.Bool.{Bool, true, false, cond}
use mathlib.Core.List.Memᴰ
use mathlib.Core.List.{List, [], ◌∷◌, Memᴰ}
use mathlib.Core.Logic.{◌⊎◌, inl, inr}
use mathlib.Core.Option.{Option, none, some}
use lib.Dec.{ltb, eqb}
use lib.ListN.{length, take, replicate}
use lib.Seq.{paste}
use borrow.Author.Tests.{ltb-false}
use Rattle.std.specs.Prelude.{Result, Ok, Err}
use Rattle.std.specs.Prelude as rust
use Rattle.bits.specs.Bits.{Bits}
use Rattle.bits.specs.Meet.{meet}
use Rattle.bits.specs.declared.Meeting.{Meeting}
use Rattle.bits.specs.declared.Meeting.TheVariants.{Equal, Below, Above, Apart}
use Rattle.prefix.specs.Keys.{string_of, Valid}
use Rattle.prefix.specs.declared.Prefix.{Prefix}
use Rattle.prefix.proofs.KeysLaws.{is_valid_true}
use Rattle.zones.specs.Maps.{Map}
use Rattle.zones.specs.Tree.{Tree, tip, node}
use Rattle.zones.specs.Focus.{Context, top, focus, link_at}
use Rattle.records.specs.Layout.{record_at, header_at}
use Rattle.records.specs.Holds.{Chained, Holds}
use Rattle.lookup.specs.Walking.{survey_on, stored_in}
use Rattle.lookup.specs.Paths.{path_links, Agree}
use Rattle.lookup.specs.declared.Walk.{Walk}
use Rattle.lookup.specs.declared.Met.{Met}
use Rattle.lookup.specs.declared.Met.TheVariants.{Matching, Mismatching}
use Rattle.lookup.specs.declared.Path.{Path}
use Rattle.refusals.specs.declared.Refusal.{Refusal}
use Rattle.lookup.proofs.SurveyLaws.{survey_on-cases}
use Rattle.lookup.proofs.PathLinksLaws.{walk_links, path_links-walk}
use Rattle.lookup.proofs.RestsLaws.{survey_on_rests}
use Rattle.lookup.proofs.EndsLaws.{low_of, Stood, StoodAt, EndedBy, Ended, survey_on-ends}
use Rattle.lookup.proofs.FramesLaws.{Along, AtTop, link_at-path, below-path}
use Rattle.plans.specs.Planning.{spare_on, plan_store_on, plan_remove_on}
use Rattle.plans.specs.Plans.{Plan}
use Rattle.plans.specs.declared.Spare.{Spare}
use Rattle.plans.specs.declared.Unmade.{Unmade}
use Rattle.plans.specs.declared.Unmade.TheVariants as unmade
use Rattle.edits.specs.Storing.{stored_by, stored_of, store_on}
use Rattle.edits.specs.Removing.{removed_at, removed_of, remove_on}
use Rattle.edits.specs.Resting.{written, SameEdit, edit_links}
use Rattle.grafts.proofs.PlanRestsLaws.{SameLook, SameLooks, look_on_zero, look_on_same, SameNext, same_next_zero, same_next-spare_on, way_links, store_links, plan_store_on_rests, remove_links, plan_remove_on_rests}

-- ---- SameLooks, at the links that a walk ends with

-- a survey that ends with a path had a valid key and room
survey_on-path : (ws : List ℕ) (k : Prefix) (room : ℕ) (ts : List ℕ) (p : Path)
    → (survey_on ws k room ts).out ≡ Ok p → Valid k × (129 ≤ room)
survey_on-path ws k room ts p =
    survey_on-cases ws k room ts (λ v. v.out ≡ Ok p → Valid k × (129 ≤ room))
    (λ a h. cc) (λ a b h. cc) (λ a b c h. cc) (λ a b c h. (is_valid_true k b, ltb-false room 129 c))

-- at the nodes that the walk passed last, and at the one in the way, if there is one
abbrev SameEnds : List ℕ → List ℕ → Walk → Met → Type 0
SameEnds us ws s (Matching q) = SameLooks us ws (remove_links s)
SameEnds us ws s (Mismatching l b) = SameLooks us ws (remove_links s) × SameLook us ws l

same_ends-remove : (us ws : List ℕ) (s : Walk) (e : Met) → SameEnds us ws s e → SameLooks us ws (remove_links s)
same_ends-remove us ws s (Matching q) h = h
same_ends-remove us ws s (Mismatching l b) h = h.0

same_looks-stood : (us ws : List ℕ) (a u o b : ℕ) (s : Walk) → Stood a u o b s
    → SameLook us ws a → SameLook us ws u → SameLook us ws o → SameLooks us ws (remove_links s)
same_looks-stood us ws a u o b s st x y z = (rw st.at x, (rw st.up y, (rw st.over z, tt)))

-- the memories show the same at the links of ls
module _ (us ws ls : List ℕ) (same : (l : ℕ) → Memᴰ l ls → SameLook us ws l) where
  same_look-or : (l : ℕ) → (l ≡ 0) ⊎ Memᴰ l ls → SameLook us ws l
  same_look-or l (inl e) = look_on_zero us ws l e
  same_look-or l (inr i) = same l i

  module _ (c : Context ℕ) (above : Along (λ a. Memᴰ a ls) c) (k : Bits) (s : Walk) (e : Met) where
    same_look-link_at : (n : ℕ) → SameLook us ws (link_at n c)
    same_look-link_at n = same_look-or (link_at n c) (above n)

    same_looks_above : StoodAt c s → SameLooks us ws (remove_links s)
    same_looks_above st =
        same_looks-stood us ws (link_at 0 c) (link_at 1 c) (link_at 2 c) (low_of c) s st
        (same_look-link_at 0) (same_look-link_at 1) (same_look-link_at 2)

    same_ends_by : (a : ℕ) (p : Bits) → Memᴰ a ls → (o : Meeting) → EndedBy o c a p k s e → SameEnds us ws s e
    same_ends_by a p i Equal h =
        rw h.1 (same_looks-stood us ws a (link_at 0 c) (link_at 1 c) _ s h.0 (same a i) (same_look-link_at 0) (same_look-link_at 1))
    same_ends_by a p i (Below x) h = absurd h
    same_ends_by a p i (Above x) h = rw h.1 (same_looks_above h.0, same a i)
    same_ends_by a p i (Apart x) h = rw h.1 (same_looks_above h.0, same a i)

    same_ends-ended : (t : Tree ℕ) → AtTop (λ a. Memᴰ a ls) t → Ended c t k s e → SameEnds us ws s e
    same_ends-ended tip i h = rw h.1 (same_looks_above h.0)
    same_ends-ended (node a p v l r) i h = same_ends_by a p i (meet p k) h

-- the memories show the same where a survey on words that hold a map ends
same_ends-survey : (ws us : List ℕ) (k : Prefix) (m : Map) (h : Holds ws m) → Agree us ws (path_links h.tree (string_of k))
    → (room : ℕ) (ts : List ℕ) (p : Path) → (survey_on ws k room ts).out ≡ Ok p → SameEnds us ws p.walk p.met
same_ends-survey ws us k m h agree room ts p q =
    let v = survey_on-path ws k room ts p q in
    let x = survey_on-ends ws m k room ts h v.0 v.1 in
    let f = focus top h.tree (string_of k) in
    let last : x.last ≡ p.walk = cc in
    let met : x.met ≡ p.met = cc in
    let same = rw (path_links-walk h.tree (string_of k) h.good) at agree.same_records in
    rw (last, met) at (same_ends-ended us ws (walk_links h.tree (string_of k))
    (λ l i. look_on_same us ws agree.same_length l (same l i)) f.above (link_at-path h.tree (string_of k))
    (string_of k) x.last x.met f.below (below-path h.tree (string_of k)) x.ended)

-- ---- SameLooks, at the links of the spare chain, and at all that a store looks at

chained_first : (ws : List ℕ) (n l : ℕ) (ls : List ℕ) → Chained (record_at ws) l ls → (l ≡ 0) ⊎ Memᴰ l (take (suc n) ls)
chained_first ws n l [] h = inl h
chained_first ws n l (a ∷ ls) h = inr (Memᴰ.head h.0)

same_next-chained : (us ws : List ℕ) (l : ℕ) (ls : List ℕ) → ((a : ℕ) → Memᴰ a (take 2 ls) → SameLook us ws a)
    → Chained (record_at ws) l ls → SameNext us ws (spare_on ws l)
same_next-chained us ws l [] same h = rw h (same_next_zero us ws)
same_next-chained us ws l (a ∷ ls) same h =
    let next = (record_at ws a).left in
    rw h.0 (same_next-spare_on us ws a
    (same_look-or us ws (take 1 ls) (λ b i. same b (Memᴰ.tail i)) next (chained_first ws 0 next ls h.2)))

same_looks_way : (us ws : List ℕ) (k : Prefix) (s : Walk) (e : Met) (x : Result Spare Unmade) → SameEnds us ws s e → SameNext us ws x
    → SameLooks us ws (way_links k e x)
same_looks_way us ws k s (Matching q) x i j = tt
same_looks_way us ws k s (Mismatching l b) (Err d) i j = tt
same_looks_way us ws k s (Mismatching l b) (Ok x) i j = at (ltb b k.width)
  where
    at : (c : Bool) → SameLooks us ws (cond c (x.next ∷ []) (l ∷ []))
    at true = (j, tt)
    at false = (i.1, tt)

same_looks-store : (us ws : List ℕ) (k : Prefix) (m : Map) (h : Holds ws m) → ((l : ℕ) → Memᴰ l (take 2 h.chain) → SameLook us ws l)
    → (s : Walk) (e : Met) → SameEnds us ws s e → SameLooks us ws (store_links ws k s e)
same_looks-store us ws k m h same s e x = ((same_ends-remove us ws s e x).0, at (eqb s.low (k.width + 1)))
  where
    l : ℕ
    l = (header_at ws).spare

    at : (b : Bool) → SameLooks us ws (cond b [] (l ∷ way_links k e (spare_on ws l)))
    at true = tt
    at false = (
      same_look-or us ws (take 2 h.chain) same l (chained_first ws 1 l h.chain h.chained),
      same_looks_way us ws k s e (spare_on ws l) x (same_next-chained us ws l h.chain same h.chained),
    )

-- ---- SameEdit

-- an edit with the answer r and the bytes bs that writes the plan p, if any
same-written : {A : Type 0} (us ws : List ℕ) (r : A) (bs : List ℕ) (p : Option Plan)
    → SameEdit us ws (record { answer = r; bytes = bs; words = written us p }) (record { answer = r; bytes = bs; words = written ws p })
same-written us ws r bs p = record { answer = refl; bytes = refl; plan = p; left_words = refl; right_words = refl }

-- ---- store_on

module _ (ws us : List ℕ) (k : Prefix) (z : ℕ) (bs : List ℕ) where
  stored_by_same : (ts : List ℕ) (p : Path) (r : Result Plan Unmade)
      → SameEdit us ws (stored_by us k bs ts p r) (stored_by ws k bs ts p r)
  stored_by_same ts p (Ok q) = same-written us ws _ (paste bs 0 ts p.nodes) (some q)
  stored_by_same ts p (Err unmade.Damaged) = same-written us ws _ bs none
  stored_by_same ts p (Err unmade.Full) = same-written us ws _ (paste bs 0 ts p.nodes) none

  stored_of_same : (ts : List ℕ) (r : Result Path Refusal)
      → ((p : Path) → r ≡ Ok p → plan_store_on us k z p.walk p.met ≡ plan_store_on ws k z p.walk p.met)
      → SameEdit us ws (stored_of us k z bs ts r) (stored_of ws k z bs ts r)
  stored_of_same ts (Ok p) f = rw (f p refl) (stored_by_same ts p (plan_store_on ws k z p.walk p.met))
  stored_of_same ts (Err e) f = same-written us ws _ bs none

module _ (ws us : List ℕ) (k : Prefix) (m : Map) (h : Holds ws m) (agree : Agree us ws (edit_links h (string_of k))) where
  agree-path : Agree us ws (path_links h.tree (string_of k))
  agree-path =
      record {
        same_length = agree.same_length;
        same_header = agree.same_header;
        same_records = λ l i. agree.same_records l (Memᴰ.append_left (take 2 h.chain) i);
      }

  same_look_spare : (l : ℕ) → Memᴰ l (take 2 h.chain) → SameLook us ws l
  same_look_spare l i =
      look_on_same us ws agree.same_length l (agree.same_records l (Memᴰ.append_right (path_links h.tree (string_of k)) i))

pub store_on_rests : (ws us : List ℕ) (k : Prefix) (z : ℕ) (bs : List ℕ) (m : Map) → (h : Holds ws m)
    → Agree us ws (edit_links h (string_of k)) → SameEdit us ws (store_on us k z bs) (store_on ws k z bs)
unfolding store_on
store_on_rests ws us k z bs m h agree =
    let path = agree-path ws us k m h agree in
    let v = survey_on ws k (length bs) (replicate 129 0) in
    let ends = same_ends-survey ws us k m h path (length bs) (replicate 129 0) in
    rw (survey_on_rests ws us k m h path (length bs) (replicate 129 0)) (stored_of_same ws us k z bs v.widths v.out
    (λ p q. plan_store_on_rests us ws k z p.walk p.met agree.same_header
    (same_looks-store us ws k m h (same_look_spare ws us k m h agree) p.walk p.met (ends p q))))

-- ---- remove_on

module _ (ws us : List ℕ) (k : Prefix) (bs : List ℕ) where
  removed_at_same : (ts : List ℕ) (n : ℕ) (o : rust.Option ℕ) (r : Result Plan Unmade)
      → SameEdit us ws (removed_at us bs ts n o r) (removed_at ws bs ts n o r)
  removed_at_same ts n (rust.Some z) (Ok p) = same-written us ws _ (paste bs 0 ts n) (some p)
  removed_at_same ts n (rust.Some z) (Err d) = same-written us ws _ bs none
  removed_at_same ts n rust.None r = same-written us ws _ (paste bs 0 ts n) none

  removed_of_same : (ts : List ℕ) (r : Result Path Refusal)
      → ((p : Path) → r ≡ Ok p → plan_remove_on us k p.walk ≡ plan_remove_on ws k p.walk)
      → SameEdit us ws (removed_of us k bs ts r) (removed_of ws k bs ts r)
  removed_of_same ts (Ok p) f = rw (f p refl) (removed_at_same ts p.nodes (stored_in k.width p.walk.longest) (plan_remove_on ws k p.walk))
  removed_of_same ts (Err e) f = same-written us ws _ bs none

-- a remove reads no spare record
pub remove_on_rests : (ws us : List ℕ) (k : Prefix) (bs : List ℕ) (m : Map) → (h : Holds ws m)
    → Agree us ws (path_links h.tree (string_of k)) → SameEdit us ws (remove_on us k bs) (remove_on ws k bs)
unfolding remove_on
remove_on_rests ws us k bs m h agree =
    let v = survey_on ws k (length bs) (replicate 129 0) in
    let ends = same_ends-survey ws us k m h agree (length bs) (replicate 129 0) in
    rw (survey_on_rests ws us k m h agree (length bs) (replicate 129 0)) (removed_of_same ws us k bs v.widths v.out
    (λ p q. plan_remove_on_rests us ws k p.walk agree.same_header (same_ends-remove us ws p.walk p.met (ends p q))))
