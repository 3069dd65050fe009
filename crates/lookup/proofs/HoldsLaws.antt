-- The laws of what fetch and longest match say of a table: on words that hold a map, the map's answers and
-- the path's widths. No contract cites this file.
-- Assumes nothing.
use Prim.Native.Nat.{ℕ, ◌+◌, ◌≤◌, ◌<◌}
use native.Mathlib.Nat.{zero-add}
use native.Mathlib.Omega.{arith}
use mathlib.Core.Path.{◌≡◌, refl, sym, ap, ◌∙◌}
use mathlib.Core.Bool.{Bool, true, false, cond}
use mathlib.Core.List.{List, [], ◌∷◌, ◌++◌, map}
use mathlib.Core.Option.{Option, none, some}
use lib.Dec.{eqb}
use lib.ListN.{length, take, drop, replicate, length-append, length-map}
use lib.Seq.{take_at, sets, sets-eq}
use borrow.Author.Tests.{le-ltb, eq-eqb, ne_eqb}
use Rattle.bits.specs.Bits.{Bits}
use Rattle.bits.specs.Meet.{meet}
use Rattle.bits.specs.declared.Meeting.{Meeting}
use Rattle.bits.specs.declared.Meeting.TheVariants.{Equal, Below, Above, Apart}
use Rattle.bits.proofs.BitsLaws.{is_prefix_length}
use Rattle.bits.proofs.MeetLaws.{Says, meet-says}
use Rattle.prefix.specs.Keys.{string_of, Valid}
use Rattle.prefix.specs.declared.Prefix.{Prefix}
use Rattle.prefix.proofs.KeysLaws.{length-string_of, valid-is_valid}
use Rattle.zones.specs.Maps.{Entry, Map, keys, get, longest_match}
use Rattle.zones.specs.Nodes.{path, trail}
use Rattle.zones.specs.Tree.{Tree, tip, node}
use Rattle.zones.specs.Searching.{onward, walk, find, better, best}
use Rattle.zones.proofs.PathLaws.{length-path}
use Rattle.zones.proofs.WalkLaws.{path-entries}
use Rattle.zones.proofs.FindLaws.{get-entries, longest_match-entries}
use Rattle.records.specs.Holds.{Holds}
use Rattle.records.proofs.HoldsLaws.{is_table_holds, labels-room}
use Rattle.lookup.specs.Walking.{Survey, start_on, walk_from, refuse_on, survey_on, leave_on, stored_in}
use Rattle.lookup.specs.Fetching as fetching
use Rattle.lookup.specs.Fetching.{found_by, found_of, fetched_of, fetch_on, given}
use Rattle.lookup.specs.Matching as matching
use Rattle.lookup.specs.Matching.{match_of, matched_of, longest_on}
use Rattle.lookup.specs.declared.Walk.{Walk}
use Rattle.std.specs.Prelude.{Some, None}
use Rattle.lookup.proofs.PathsLaws.{Rooms, Noted, Walked, walk_on-linked}

-- ---- Holds: the refusals do not apply, and the walk is the tree's

module _ (ws : List ℕ) (m : Map) (h : Holds ws m) where
  pub rooms_holds : Rooms ws h.tree
  rooms_holds = labels-room h

  pub path_holds : (k : Bits) → path (keys m) k ≡ walk h.tree k
  path_holds k = rw h.map_is at (path-entries [] h.tree h.good k)

  module _ (k : Prefix) (v : Valid k) where
    walk_from_holds : (ts : List ℕ) → Walked ts 0 (walk h.tree (string_of k)) (best none h.tree (string_of k)) (walk_from ws k ts)
    unfolding walk_from start_on
    walk_from_holds ts =
        walk_on-linked ws k v h.tree [] none 130 0 ts (start_on ws) h.good h.linked rooms_holds
        (record { prefix = tt; low = refl; noted = refl; fuel = omega arith })

    pub survey_on_holds : (room : ℕ) (ts : List ℕ) → 129 ≤ room
        → Walked ts 0 (walk h.tree (string_of k)) (best none h.tree (string_of k)) (survey_on ws k room ts)
    unfolding survey_on refuse_on
    survey_on_holds room ts i =
        rw (
          is_table_holds h,
          valid-is_valid k v,
          le-ltb room 129 i,
        )
        (walk_from_holds ts)

-- ---- leave_on: the widths of the path, and then what was there

-- the path of a valid key fits the trail
pub length-path-valid : (m : Map) (k : Prefix) → Valid k → length (path (keys m) (string_of k)) ≤ 129
length-path-valid m k v = omega (arith, length-path (keys m) (string_of k), length-string_of k v.narrow, v.narrow)

take-sets : (ts vs : List ℕ) → length vs ≤ length ts → take (length vs) (sets ts 0 vs) ≡ vs
take-sets ts vs h = rw (sets-eq vs ts 0 (omega arith)) (take_at vs (drop (0 + length vs) ts) (length vs) refl)

leave_on-walked : (bs ts : List ℕ) (ps : List Bits) (o : Option Entry) (x : Survey) → length ps ≤ length ts → Walked ts 0 ps o x
    → leave_on bs x.widths x.out ≡ map length ps ++ drop (length ps) bs
leave_on-walked bs ts ps o x i w =
    let e : length (map length ps) ≡ length ps = length-map ps length in
    let t : take (length ps) (sets ts 0 (map length ps)) ≡ map length ps = rw (← e) (take-sets ts (map length ps) (omega arith)) in
    rw (w.out, w.widths) (simp (zero-add, t))

-- ---- find: the best entry, where it is the key's own

-- the number of the entry o if its key is as wide as k
abbrev exactly : Option Entry → Bits → Option ℕ
exactly none k = none
exactly (some e) k = cond (eqb (length e.key) (length k)) (some e.zone) none

exactly-own : (s k : Bits) (v : Option ℕ) (o : Option Entry) → s ≡ k → exactly o k ≡ none → exactly (better s v o) k ≡ v
exactly-own s k none o e h = h
exactly-own s k (some z) o e h = rw (eq-eqb (length s) (length k) (ap length e))

exactly_below : (s k : Bits) (v : Option ℕ) (o : Option Entry) (x : Bool) → Says (Below x) s k → exactly o k ≡ none
    → exactly (better s v o) k ≡ none
exactly_below s k none o x y h = h
exactly_below s k (some z) o x y h =
    let l : length s < length k = omega (arith, is_prefix_length (s ++ (x ∷ [])) k y, length-append s (x ∷ [])) in
    rw (ne_eqb (length s) (length k) (omega arith))

module _ {A : Type 0} (k : Bits) where
  find-best_at : (s : Bits) (v : Option ℕ) (l r : Tree A) (o : Option Entry) (m : Meeting) → Says m s k → exactly o k ≡ none
      → ((u : Option Entry) → exactly u k ≡ none → exactly (best u l k) k ≡ find l k)
      → ((u : Option Entry) → exactly u k ≡ none → exactly (best u r k) k ≡ find r k)
      → exactly (onward m (better s v o) o (best (better s v o) l k) (best (better s v o) r k)) k ≡ onward m v none (find l k) (find r k)
  find-best_at s v l r o Equal y h hl hr = exactly-own s k v o y h
  find-best_at s v l r o (Below false) y h hl hr = hl (better s v o) (exactly_below s k v o false y h)
  find-best_at s v l r o (Below true) y h hl hr = hr (better s v o) (exactly_below s k v o true y h)
  find-best_at s v l r o (Above x) y h hl hr = h
  find-best_at s v l r o (Apart x) y h hl hr = h

  find-best : (t : Tree A) (o : Option Entry) → exactly o k ≡ none → exactly (best o t k) k ≡ find t k
  find-best tip o h = h
  find-best (node a s v l r) o h = find-best_at s v l r o (meet s k) (meet-says s k) h (find-best l) (find-best r)

-- ---- stored_in and found_of: what a walk has noted, as the answer

stored_in-exactly : (w : ℕ) (k : Bits) (o : Option Entry) → length k ≡ w → stored_in w (match_of o) ≡ given (exactly o k)
stored_in-exactly w k none e = refl
stored_in-exactly w k (some u) e = rw e (at (eqb (length u.key) w))
  where
    at : (b : Bool) → cond b (Some u.zone) None ≡ given (cond b (some u.zone) none)
    at true = refl
    at false = refl

-- the number that a walk has noted for the key itself is the one that is stored
pub get-noted : (ws : List ℕ) (m : Map) (h : Holds ws m) (k : Prefix) (s : Walk) → Valid k
    → Noted (best none h.tree (string_of k)) s → stored_in k.width s.longest ≡ given (get (string_of k) m)
get-noted ws m h k s v i =
    rw i (stored_in-exactly k.width (string_of k) (best none h.tree (string_of k)) (length-string_of k v.narrow))
    ∙ ap given (find-best (string_of k) h.tree none refl ∙ (rw h.map_is at (sym (get-entries [] h.tree h.good (string_of k)))))

found_by-given : (n : ℕ) (o : Option ℕ) → found_by n (given o) ≡ fetching.gives n o
found_by-given n (some z) = refl
found_by-given n none = refl

pub found_of_holds : (ws : List ℕ) (k : Prefix) (m : Map) (h : Holds ws m) → Valid k → (n : ℕ) (s : Walk)
    → Noted (best none h.tree (string_of k)) s → found_of k n s ≡ fetching.gives n (get (string_of k) m)
unfolding found_of
found_of_holds ws k m h v n s i = ap (found_by n) (get-noted ws m h k s v i) ∙ found_by-given n (get (string_of k) m)

-- ---- fetch_on and longest_on

module _ (ws : List ℕ) (k : Prefix) (bs ts : List ℕ) (m : Map) (h : Holds ws m) (v : Valid k) (room : 129 ≤ length bs) where
  abbrev left : Survey
  left = survey_on ws k (length bs) ts

  abbrev number : ℕ
  number = length (path (keys m) (string_of k))

  walked_holds : Walked ts 0 (path (keys m) (string_of k)) (best none h.tree (string_of k)) left
  walked_holds = rw (path_holds ws m h (string_of k)) (survey_on_holds ws m h k v (length bs) ts room)

  pub leave_on_holds : length ts ≡ 129 → leave_on bs left.widths left.out ≡ trail (keys m) (string_of k) ++ drop number bs
  unfolding trail
  leave_on_holds e =
      leave_on-walked bs ts (path (keys m) (string_of k)) (best none h.tree (string_of k)) left
      (omega (arith, length-path-valid m k v)) walked_holds

  fetched_of_holds : fetched_of k left.out ≡ fetching.gives number (get (string_of k) m)
  fetched_of_holds = rw (walked_holds.out, zero-add) (found_of_holds ws k m h v number walked_holds.ends walked_holds.noted)

  matched_of_holds : matched_of left.out ≡ matching.gives number (longest_match (string_of k) m)
  matched_of_holds =
      let f : longest_match (string_of k) m ≡ best none h.tree (string_of k) =
      rw h.map_is at (longest_match-entries [] h.tree h.good (string_of k)) in
      rw (walked_holds.out, zero-add, f, walked_holds.noted)

pub fetch_on_holds : (ws : List ℕ) (k : Prefix) (bs : List ℕ) (m : Map) → Holds ws m → Valid k → 129 ≤ length bs
    → fetch_on ws k bs
    ≡ record {
      answer = fetching.gives (length (path (keys m) (string_of k))) (get (string_of k) m);
      bytes = trail (keys m) (string_of k) ++ drop (length (path (keys m) (string_of k))) bs;
    }
unfolding fetch_on
fetch_on_holds ws k bs m h v i =
    let ts : List ℕ = replicate 129 0 in
    λ j. record { answer = fetched_of_holds ws k bs ts m h v i j; bytes = leave_on_holds ws k bs ts m h v i refl j }

pub longest_on_holds : (ws : List ℕ) (k : Prefix) (bs : List ℕ) (m : Map) → Holds ws m → Valid k → 129 ≤ length bs
    → longest_on ws k bs
    ≡ record {
      answer = matching.gives (length (path (keys m) (string_of k))) (longest_match (string_of k) m);
      bytes = trail (keys m) (string_of k) ++ drop (length (path (keys m) (string_of k))) bs;
    }
unfolding longest_on
longest_on_holds ws k bs m h v i =
    let ts : List ℕ = replicate 129 0 in
    λ j. record { answer = matched_of_holds ws k bs ts m h v i j; bytes = leave_on_holds ws k bs ts m h v i refl j }
