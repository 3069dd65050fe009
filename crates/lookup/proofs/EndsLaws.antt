-- The laws of where a walk ends on words that hold a map: what an edit of the key is planned from. The last
-- place of the walk and what it met are what the tree's focus says. No contract cites this file.
--   low_of c            the width plus 1 of the first node above the open place of c, 0 where there is none
--   Stood, Ended        where a walk stood at its end, by its links; and by what lies below the open place
--   EndsAt              all that a survey for a key leaves on words that hold a map
-- Assumes nothing.
use Prim.Native.Nat.{ℕ, zero, suc, ◌+◌, ◌/◌, ◌≤◌, ◌<◌}
use native.Mathlib.Nat.{zero-add}
use native.Mathlib.Omega.{arith}
use mathlib.Core.Path.{◌≡◌, refl, sym, ap, ◌∙◌, subst}
use mathlib.Core.Bool.{Bool, true, false, cond}
use mathlib.Core.List.Memᴰ
use mathlib.Core.List.{List, [], ◌∷◌, ◌++◌, map}
use mathlib.Core.Option.{Option, none}
use lib.Dec.{T, ltb}
use lib.ListN.{length, set}
use lib.Seq.{sets}
use borrow.Author.Tests.{lt-ltb, le-ltb}
use Rattle.bits.specs.Bits.{Bits, is_prefix, lcp}
use Rattle.bits.specs.Meet.{meet}
use Rattle.bits.specs.declared.Meeting.{Meeting}
use Rattle.bits.specs.declared.Meeting.TheVariants.{Equal, Below, Above, Apart}
use Rattle.bits.proofs.BitsLaws.{is_prefix_refl, is_prefix_trans, is_prefix-append}
use Rattle.bits.proofs.MeetLaws.{Says, meet-says}
use Rattle.prefix.specs.Keys.{string_of, Valid}
use Rattle.prefix.specs.declared.Prefix.{Prefix}
use Rattle.prefix.proofs.KeysLaws.{valid-is_valid}
use Rattle.zones.specs.Maps.{Map, keys}
use Rattle.zones.specs.Nodes.{path}
use Rattle.zones.specs.Tree.{Tree, tip, node}
use Rattle.zones.specs.Searching.{onward, walk, best}
use Rattle.zones.specs.Focus.{Context, top, into, Focus, focus, link_at}
use Rattle.records.specs.Layout.{record_at}
use Rattle.records.specs.Holds.{labels, Linked, Holds}
use Rattle.records.specs.declared.Record.{Record}
use Rattle.records.proofs.HoldsLaws.{is_table_holds}
use Rattle.lookup.specs.Walking.{shared_on, down_on, seen_on, Survey, path_of, after_on, walk_on, start_on, walk_from, refuse_on, survey_on}
use Rattle.lookup.specs.declared.Walk.{Walk}
use Rattle.lookup.specs.declared.Step.{Step}
use Rattle.lookup.specs.declared.Step.TheVariants.{Down, Last}
use Rattle.lookup.specs.declared.Met.{Met}
use Rattle.lookup.specs.declared.Met.TheVariants.{Matching, Mismatching}
use Rattle.lookup.specs.declared.Path.{Path}
use Rattle.refusals.specs.declared.Refusal.{Refusal}
use Rattle.refusals.specs.declared.Refusal.TheVariants.{Damaged}
use Rattle.std.specs.Prelude.{Result, Ok, Err}
use Rattle.lookup.proofs.StepsLaws.{width-bears, shared_on-bears, shared_on-prefix, shared_on_above, shared_on_apart, side_on-equal, side_on_below, step_on_end, step_on_node}
use Rattle.lookup.proofs.PathsLaws.{Rooms, Noted}
use Rattle.lookup.proofs.HoldsLaws.{rooms_holds, path_holds, survey_on_holds}

-- ---- Ended

abbrev pub low_of : Context ℕ → ℕ
low_of top = 0
low_of (into a p v x o c) = length p + 1

-- the walk s has the node a, u above it and o above that, and what it looks for has b bits of the key or more
pub record Stood (a u o b : ℕ) (s : Walk) : Type 0 where
  pub at : s.at ≡ a
  pub up : s.up ≡ u
  pub over : s.over ≡ o
  pub low : s.low ≡ b

-- it stands where c is open
abbrev pub StoodAt : Context ℕ → Walk → Type 0
StoodAt c s = Stood (link_at 0 c) (link_at 1 c) (link_at 2 c) (low_of c) s

-- how it ends at a node with the label a and the string p, by how the key meets p: not where it goes on below
abbrev pub EndedBy : Meeting → Context ℕ → ℕ → Bits → Bits → Walk → Met → Type 0
EndedBy Equal c a p k s e = Stood a (link_at 0 c) (link_at 1 c) (length p + 1) s × (e ≡ Matching a)
EndedBy (Below x) c a p k s e = ⊥
EndedBy (Above x) c a p k s e = StoodAt c s × (e ≡ Mismatching a (length (lcp p k)))
EndedBy (Apart x) c a p k s e = StoodAt c s × (e ≡ Mismatching a (length (lcp p k)))

abbrev pub Ended : Context ℕ → Tree ℕ → Bits → Walk → Met → Type 0
Ended c tip k s e = StoodAt c s × (e ≡ Matching (link_at 0 c))
Ended c (node a p v l r) k s e = EndedBy (meet p k) c a p k s e

abbrev EndedIn : Focus ℕ → Bits → Walk → Met → Type 0
EndedIn f k s e = Ended f.above f.below k s e

-- ---- walk_on: if it comes to a path, it ends at the focus

-- a step that is refused comes to no path
past-bad : (n : ℕ) (ts : List ℕ) (s : Walk) (go : ℕ → Walk → Survey) (j : ℕ) (d : Walk) (e : Met) (b : Bool) (x : Result Step Refusal)
    → (after_on (cond b (Err Damaged) x) n ts s go).out ≡ path_of j d e → (after_on x n ts s go).out ≡ path_of j d e
unfolding after_on
past-bad n ts s go j d e true x h = cc
past-bad n ts s go j d e false x h = h

path_same : (n j : ℕ) (s d : Walk) (x e : Met) → path_of n s x ≡ path_of j d e → (s ≡ d) × (x ≡ e)
path_same n j s d x e h =
    let q : ◌≡◌ {A = Path} (record { nodes = n; walk = s; met = x }) (record { nodes = j; walk = d; met = e }) = cc in
    (ap (λ (p : Path). p.walk) q, ap (λ (p : Path). p.met) q)

module _ (ws : List ℕ) (k : Prefix) (valid : Valid k) (j : ℕ) (d : Walk) (e : Met) where
  abbrev Comes : ℕ → ℕ → List ℕ → Walk → Type 0
  Comes f n ts s = (walk_on f ws k n ts s).out ≡ path_of j d e

  comes_zero : (n : ℕ) (ts : List ℕ) (s : Walk) → Comes zero n ts s → ⊥
  unfolding walk_on
  comes_zero n ts s h =
      let z : ◌≡◌ {A = ℕ} 0 1 = cc in
      omega arith

  comes_end : (f n : ℕ) (ts : List ℕ) (s : Walk) → s.next ≡ 0 → Comes f n ts s → (d ≡ s) × (e ≡ Matching s.at)
  unfolding walk_on after_on
  comes_end zero n ts s i h = absurd (comes_zero n ts s h)
  comes_end (suc f) n ts s i h =
      let q : path_of n s (Matching s.at) ≡ path_of j d e = rw (step_on_end ws k s i) at h in
      let p = path_same n j s d (Matching s.at) e q in
      (sym p.0, sym p.1)

  -- from a link that is linked as t is, t standing below c
  abbrev Ends : Tree ℕ → Type 0
  Ends t =
      (c : Context ℕ) (f n : ℕ) (ts : List ℕ) (s : Walk) → Linked (record_at ws) s.next t → Rooms ws t → StoodAt c s
      → Comes f n ts s → EndedIn (focus c t (string_of k)) (string_of k) d e

  -- at a node, by how the key meets its string
  module _ (a : ℕ) (z : Bits) (v : Option ℕ) (l r : Tree ℕ) (c : Context ℕ) (f n : ℕ) (ts : List ℕ) (s : Walk)
      (linked : Linked (record_at ws) s.next (node a z v l r)) (st : StoodAt c s) where
    -- its record, and what is left of the step there
    abbrev here : Record
    here = record_at ws a

    abbrev Goes : Result Step Refusal → Type 0
    Goes x = (after_on x n ts s (λ w t. walk_on f ws k (n + 1) (set ts n w) t)).out ≡ path_of j d e

    abbrev unrefused : Result Step Refusal
    unrefused =
        cond (ltb (shared_on here k) (here.tag / 2)) (Ok (Last (here.tag / 2) (shared_on here k))) (Ok (Down (here.tag / 2) (down_on here k s)))

    goes-unrefused : Goes (seen_on here k s) → Goes unrefused
    unfolding seen_on
    goes-unrefused h =
        let go : ℕ → Walk → Survey = λ w t. walk_on f ws k (n + 1) (set ts n w) t in
        past-bad n ts s go j d e (ltb (shared_on here k) s.low) unrefused (past-bad n ts s go j d e (ltb 128 (here.tag / 2)) _ h)

    ended_off : shared_on here k < here.tag / 2 → Goes unrefused
        → StoodAt c d × (e ≡ Mismatching a (length (lcp z (string_of k))))
    unfolding after_on
    ended_off i h =
        let q : path_of (n + 1) s (Mismatching s.next (shared_on here k)) ≡ path_of j d e =
        rw (lt-ltb (shared_on here k) (here.tag / 2) i) at h in
        let p = path_same (n + 1) j s d (Mismatching s.next (shared_on here k)) e q in
        (rw p.0 at st, sym p.1 ∙ rw (linked.0, shared_on-bears here z v linked.1 k))

    -- where the node is a prefix of the key, the walk goes on
    goes_on : shared_on here k ≡ here.tag / 2 → Goes unrefused → Comes f (n + 1) (set ts n (here.tag / 2)) (down_on here k s)
    unfolding after_on
    goes_on i h = rw (le-ltb (shared_on here k) (here.tag / 2) (omega arith)) at h

    stood_down : Stood a (link_at 0 c) (link_at 1 c) (length z + 1) (down_on here k s)
    unfolding down_on
    stood_down =
        record {
          at = linked.0;
          up = st.at;
          over = st.up;
          low = ap (λ (w : ℕ). w + 1) (width-bears here z v linked.1);
        }

    ended-equal : Says Equal z (string_of k) → Goes unrefused
        → Stood a (link_at 0 c) (link_at 1 c) (length z + 1) d × (e ≡ Matching a)
    unfolding down_on
    ended-equal y h =
        let i : T (is_prefix z (string_of k)) = subst (λ (q : Bits). T (is_prefix z q)) y (is_prefix_refl z) in
        let q = comes_end f (n + 1) (set ts n (here.tag / 2)) (down_on here k s) (side_on-equal here z v linked.1 k valid y)
        (goes_on (shared_on-prefix here z v linked.1 k i) h) in
        (rw q.0 stood_down, q.1 ∙ ap Matching linked.0)

    ended_below : (x : Bool) (t o : Tree ℕ) → Ends t → Linked (record_at ws) (cond x here.right here.left) t → Rooms ws t
        → Says (Below x) z (string_of k) → Goes unrefused → EndedIn (focus (into a z v x o c) t (string_of k)) (string_of k) d e
    unfolding down_on
    ended_below x t o ends side rooms y h =
        let next = subst (λ (i : ℕ). Linked (record_at ws) i t) (sym (side_on_below here z v linked.1 k valid x y)) side in
        let i = is_prefix_trans z (z ++ (x ∷ [])) (string_of k) (is_prefix-append z (x ∷ [])) y in
        ends (into a z v x o c) f (n + 1) (set ts n (here.tag / 2)) (down_on here k s) next rooms stood_down
        (goes_on (shared_on-prefix here z v linked.1 k i) h)

    ended_at : Ends l → Ends r → Rooms ws (node a z v l r) → Goes unrefused → (m : Meeting) → meet z (string_of k) ≡ m
        → Says m z (string_of k)
        → EndedIn (onward m (record { above = c; below = node a z v l r }) (record { above = c; below = node a z v l r })
        (focus (into a z v false r c) l (string_of k)) (focus (into a z v true l c) r (string_of k))) (string_of k) d e
    ended_at el er rooms h Equal q y = rw q (ended-equal y h)
    ended_at el er rooms h (Below false) q y =
        ended_below false l r el linked.2 (λ b i. rooms b (Memᴰ.tail (Memᴰ.append_left (labels r) i))) y h
    ended_at el er rooms h (Below true) q y =
        ended_below true r l er linked.3 (λ b i. rooms b (Memᴰ.tail (Memᴰ.append_right (labels l) i))) y h
    ended_at el er rooms h (Above x) q y = rw q (ended_off (shared_on_above here z v linked.1 k x y) h)
    ended_at el er rooms h (Apart x) q y = rw q (ended_off (shared_on_apart here z v linked.1 k x y) h)

  walk_on-ends : (t : Tree ℕ) → Ends t
  unfolding walk_on
  walk_on-ends tip c f n ts s i rooms st h =
      let q = comes_end f n ts s i h in
      (rw q.0 st, q.1 ∙ ap Matching st.at)
  walk_on-ends (node a z v l r) c zero n ts s i rooms st h = absurd (comes_zero n ts s h)
  walk_on-ends (node a z v l r) c (suc f) n ts s i rooms st h =
      let g = rw (step_on_node ws k s a i.0 (rooms a (Memᴰ.head refl))) at h in
      ended_at a z v l r c f n ts s i st (walk_on-ends l) (walk_on-ends r) rooms (goes-unrefused a z v l r c f n ts s i st g)
      (meet z (string_of k)) refl (meet-says z (string_of k))

-- ---- survey_on

-- x is what a survey for k leaves, over ts, on words that hold m
pub record EndsAt (ws : List ℕ) (m : Map) (h : Holds ws m) (k : Bits) (ts : List ℕ) (x : Survey) : Type 0 where
  pub number : ℕ
  pub last : Walk
  pub met : Met
  pub out : x.out ≡ path_of number last met
  pub number_is : number ≡ length (path (keys m) k)
  pub widths : x.widths ≡ sets ts 0 (map length (path (keys m) k))
  pub noted : Noted (best none h.tree k) last
  pub ended : Ended (focus top h.tree k).above (focus top h.tree k).below k last met

module _ (ws : List ℕ) (m : Map) (k : Prefix) (room : ℕ) (ts : List ℕ) (h : Holds ws m) (v : Valid k) (i : 129 ≤ room) where
  survey_on-walk_from : survey_on ws k room ts ≡ walk_from ws k ts
  unfolding survey_on refuse_on
  survey_on-walk_from = rw (is_table_holds h, valid-is_valid k v, le-ltb room 129 i)

  survey_on-ended : (n : ℕ) (d : Walk) (e : Met) → (survey_on ws k room ts).out ≡ path_of n d e
      → EndedIn (focus top h.tree (string_of k)) (string_of k) d e
  unfolding walk_from start_on
  survey_on-ended n d e q =
      walk_on-ends ws k v n d e h.tree top 130 0 ts (start_on ws) h.linked (rooms_holds ws m h)
      (record { at = refl; up = refl; over = refl; low = refl }) (rw survey_on-walk_from at q)

  -- the survey of a key ends where the tree's focus is
  pub survey_on-ends : EndsAt ws m h (string_of k) ts (survey_on ws k room ts)
  survey_on-ends =
      let w = survey_on_holds ws m h k v room ts i in
      let p : path (keys m) (string_of k) ≡ walk h.tree (string_of k) = path_holds ws m h (string_of k) in
      record {
        number = 0 + length (walk h.tree (string_of k));
        last = w.ends;
        met = w.met;
        out = w.out;
        number_is = rw p (zero-add (length (walk h.tree (string_of k))));
        widths = rw p w.widths;
        noted = w.noted;
        ended = survey_on-ended (0 + length (walk h.tree (string_of k))) w.ends w.met w.out;
      }
