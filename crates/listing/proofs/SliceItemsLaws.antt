-- The laws of a tree's items against the paper's slice: of the items after a resume, what the first b stored
-- ones are, whether any remain, and how many come up to there. No contract cites this file.
-- Assumes nothing.
use Prim.Native.Nat.{ℕ, zero, suc, ◌-◌}
use native.Mathlib.Nat.{sub-zero}
use native.Mathlib.Omega.{arith}
use mathlib.Core.Path.{◌≡◌, refl, sym, ap, ap₂, ◌∙◌, subst}
use mathlib.Core.Bool.{Bool, true, false, not, cond}
use mathlib.Core.List.{List, [], ◌∷◌, ◌++◌, map, append_assoc, append-nil, map-append, Memᴰ}
use mathlib.Core.Option.{Option, none, some}
use lib.Dec.{T, eqb-suc-zero, T_not, not_T}
use lib.ListN.{length, take, drop, length-map}
use lib.Seq.{drop-nil, take-nil}
use Rattle.bits.specs.Lists.{keep, any, last, last_or, is_empty}
use Rattle.bits.specs.Bits.{Bits, is_prefix, before, rising}
use Rattle.bits.proofs.ListsLaws.{any_append, any_mem, mem-any, or_left, mem-map, mem-keep, keep_append, keep-every, keep-none, keep-and, map-keep, mem-last_or}
use Rattle.bits.proofs.BitsLaws.{lcp_left}
use Rattle.bits.proofs.RisingLaws.{rising-keep, rising_left, rising_parts, not-after-last_or}
use Rattle.zones.specs.Maps.{Map, keys}
use Rattle.zones.specs.Slices.{after, left, given, remains, passes, passed}
use Rattle.zones.specs.Tree.{Tree, tip, node, Good, own, entries}
use Rattle.zones.specs.Searching.{strings}
use Rattle.zones.proofs.MapsLaws.{keys-keep}
use Rattle.zones.proofs.CountLaws.{after-prefix}
use Rattle.zones.proofs.TreeLaws.{keys-append, begin-strings, rising-strings, mem-strings, nodes-entries}
use Rattle.listing.proofs.Items.{Item, items, stored_in, counts, up_to, past}

-- ---- items

abbrev pub keys_of : List Item → List Bits
keys_of is = map (λ i. i.key) is

pub keys-items : (t : Tree ℕ) → keys_of (items t) ≡ strings t
keys-items tip = refl
keys-items (node a s v l r) =
    ap (λ (ps : List Bits). s ∷ ps) (map-append (λ (i : Item). i.key) (items l) (items r) ∙ ap₂ ◌++◌ (keys-items l) (keys-items r))

-- every item's string begins as the tree's strings do
pub begin-items : (p : Bits) (t : Tree ℕ) → Good p t → (i : Item) → Memᴰ i (items t) → T (is_prefix p i.key)
begin-items p t g i j = begin-strings p t g i.key (rw keys-items at (mem-map (λ (x : Item). x.key) j))

-- ---- stored_in

pub stored_in-append : (is js : List Item) → stored_in (is ++ js) ≡ stored_in is ++ stored_in js
stored_in-append [] js = refl
stored_in-append (i ∷ is) js = rw (stored_in-append is js) (sym (append_assoc (own i.key i.zone) (stored_in is) (stored_in js)))

pub stored_in-items : (t : Tree ℕ) → stored_in (items t) ≡ entries t
stored_in-items tip = refl
stored_in-items (node a s v l r) = rw (stored_in-append, stored_in-items l, stored_in-items r)

keep-own : (f : Bits → Bool) (s : Bits) (v : Option ℕ) → keep (λ e. f e.key) (own s v) ≡ cond (f s) (own s v) []
keep-own f s none = at (f s)
  where
    at : (b : Bool) → ◌≡◌ {A = Map} [] (cond b [] [])
    at true = refl
    at false = refl
keep-own f s (some z) = refl

pub stored_in-keep : (f : Bits → Bool) (is : List Item) → stored_in (keep (λ i. f i.key) is) ≡ keep (λ e. f e.key) (stored_in is)
stored_in-keep f [] = refl
stored_in-keep f (i ∷ is) =
    at (f i.key) (keep (λ j. f j.key) is) ∙ ap₂ ◌++◌ (sym (keep-own f i.key i.zone)) (stored_in-keep f is)
    ∙ sym (keep_append (λ e. f e.key) (own i.key i.zone) (stored_in is))
  where
    at : (b : Bool) (js : List Item) → stored_in (cond b (i ∷ js) js) ≡ cond b (own i.key i.zone) [] ++ stored_in js
    at true js = refl
    at false js = refl

-- ---- up_to and past: they part the items as take and drop part what these store

take_own : (b : ℕ) (s : Bits) (v : Option ℕ) (m : Map) → take (suc b) (own s v ++ m) ≡ own s v ++ take (suc b - counts v) m
take_own b s none m = rw sub-zero
take_own b s (some z) m = let e : suc b - 1 ≡ b = omega arith in rw e

drop_own : (b : ℕ) (s : Bits) (v : Option ℕ) (m : Map) → drop (suc b) (own s v ++ m) ≡ drop (suc b - counts v) m
drop_own b s none m = rw sub-zero
drop_own b s (some z) m = let e : suc b - 1 ≡ b = omega arith in rw e

pub take-stored_in : (b : ℕ) (is : List Item) → take b (stored_in is) ≡ stored_in (up_to b is)
take-stored_in b [] = take-nil b
take-stored_in zero (i ∷ is) = refl
take-stored_in (suc b) (i ∷ is) = rw (eqb-suc-zero b, take_own, take-stored_in (suc b - counts i.zone) is)

pub drop-stored_in : (b : ℕ) (is : List Item) → drop b (stored_in is) ≡ stored_in (past b is)
drop-stored_in b [] = drop-nil b
drop-stored_in zero (i ∷ is) = refl
drop-stored_in (suc b) (i ∷ is) = rw (eqb-suc-zero b, drop_own) (drop-stored_in (suc b - counts i.zone) is)

pub up_to_past : (b : ℕ) (is : List Item) → up_to b is ++ past b is ≡ is
up_to_past b [] = refl
up_to_past zero (i ∷ is) = refl
up_to_past (suc b) (i ∷ is) = rw (eqb-suc-zero b, up_to_past (suc b - counts i.zone) is)

-- ---- Closed: from each item on, some stored string begins with the item's

abbrev pub Closed : List Item → Type 0
Closed [] = Unit {0}
Closed (i ∷ is) = T (any (is_prefix i.key) (keys (stored_in (i ∷ is)))) × Closed is

any-stored_in : (f : Bits → Bool) (is js : List Item) → T (any f (keys (stored_in is))) → T (any f (keys (stored_in (is ++ js))))
any-stored_in f is js h =
    rw (stored_in-append is js, keys-append (stored_in is) (stored_in js), any_append f (keys (stored_in is)))
    (or_left (any f (keys (stored_in is))) (any f (keys (stored_in js))) h)

pub closed-append : (is js : List Item) → Closed is → Closed js → Closed (is ++ js)
closed-append [] js h k = k
closed-append (i ∷ is) js h k = (any-stored_in (is_prefix i.key) (i ∷ is) js h.0, closed-append is js h.1 k)

pub closed-items : (p : Bits) (t : Tree ℕ) → Good p t → Closed (items t)
closed-items p tip g = tt
closed-items p (node a s v l r) g =
    let n = mem-strings p (node a s v l r) g s (Memᴰ.head refl) in
    let j : T (is_prefix s n.one) = subst (λ (x : Bits). T (is_prefix x n.one)) (sym n.is) (lcp_left n.one n.two) in (
      subst (λ (m : Map). T (any (is_prefix s) (keys m))) (sym (stored_in-items (node a s v l r)))
          (mem-any (is_prefix s) (keys (entries (node a s v l r))) n.one n.one_in j),
      closed-append (items l) (items r) (closed-items (s ++ (false ∷ [])) l g.2) (closed-items (s ++ (true ∷ [])) r g.3),
    )

-- the items of is that come after the resume r
abbrev pub ahead : Option Bits → List Item → List Item
ahead r is = keep (λ i. after r i.key) is

-- a stored string that begins with an item's comes after the resume if the item does
any_ahead : (r : Option Bits) (p : Bits) (is : List Item) → T (after r p) → T (any (is_prefix p) (keys (stored_in is)))
    → T (any (is_prefix p) (keys (stored_in (ahead r is))))
any_ahead r p is h k =
    let w = any_mem (is_prefix p) (keys (stored_in is)) k in
    rw (stored_in-keep (after r) is, keys-keep (after r) (stored_in is))
    (mem-any (is_prefix p) (keep (after r) (keys (stored_in is))) w.0
    (mem-keep (after r) (keys (stored_in is)) w.0 w.1 (after-prefix r p w.0 h w.2)) w.2)

pub closed_ahead : (r : Option Bits) (is : List Item) → Closed is → Closed (ahead r is)
closed_ahead r [] h = tt
closed_ahead r (i ∷ is) h = at (after r i.key) refl (λ k. any_ahead r i.key (i ∷ is) k h.0) (closed_ahead r is h.1)
  where
    at : (b : Bool) → after r i.key ≡ b
        → (T (after r i.key) → T (any (is_prefix i.key) (keys (stored_in (cond (after r i.key) (i ∷ ahead r is) (ahead r is))))))
        → Closed (ahead r is) → Closed (cond b (i ∷ ahead r is) (ahead r is))
    at true e f k = (rw e at (f (rw e tt)), k)
    at false e f k = k

pub closed_past : (b : ℕ) (is : List Item) → Closed is → Closed (past b is)
closed_past b [] h = tt
closed_past zero (i ∷ is) h = h
closed_past (suc b) (i ∷ is) h = rw (eqb-suc-zero b) (closed_past (suc b - counts i.zone) is h.1)

-- so there are items exactly if some are stored
is_empty-stored_in : (is : List Item) → Closed is → is_empty is ≡ is_empty (stored_in is)
unfolding keys
is_empty-stored_in [] h = refl
is_empty-stored_in (i ∷ is) h = at (stored_in (i ∷ is)) h.0
  where
    at : (m : Map) → T (any (is_prefix i.key) (keys m)) → false ≡ is_empty m
    at (e ∷ m) h = refl
    at [] h = elim h [ ]

-- ---- last: what is stored last of the items up to the b-th stored one is the last of them

last_cons : (x : Bits) (ps qs : List Bits) → last ps ≡ last qs → last (x ∷ ps) ≡ last (x ∷ qs)
last_cons x [] [] e = refl
last_cons x [] (q ∷ qs) e = cc
last_cons x (p ∷ ps) [] e = cc
last_cons x (p ∷ ps) (q ∷ qs) e = e

last-own : (b a : ℕ) (s : Bits) (v : Option ℕ) (is : List Item) → Closed (record { link = a; key = s; zone = v } ∷ is)
    → last (keys (stored_in (up_to (suc b - counts v) is))) ≡ last (keys_of (up_to (suc b - counts v) is))
    → last (keys (own s v ++ stored_in (up_to (suc b - counts v) is))) ≡ last (s ∷ keys_of (up_to (suc b - counts v) is))
unfolding keys
last-own b a s (some z) is h e = last_cons s (keys (stored_in (up_to (suc b - 1) is))) (keys_of (up_to (suc b - 1) is)) e
last-own b a s none [] h e = absurd h.0
last-own b a s none (j ∷ is) h e = e ∙ rw (sub-zero, eqb-suc-zero b)

last-up_to : (b : ℕ) (is : List Item) → Closed is → last (keys (stored_in (up_to b is))) ≡ last (keys_of (up_to b is))
unfolding keys
last-up_to b [] h = refl
last-up_to zero (i ∷ is) h = refl
last-up_to (suc b) (i ∷ is) h =
    rw (eqb-suc-zero b) (last-own b i.link i.key i.zone is h (last-up_to (suc b - counts i.zone) is h.1))

-- ---- given, remains and passed, of a good tree's items after a resume

-- of ascending items in two parts, those that do not come after the last of the first part are that part
keep_not-after : (i : Item) (is js : List Item) → T (rising (keys_of (i ∷ is) ++ keys_of js))
    → keep (λ j. not (before (last_or i.key (keys_of is)) j.key)) (i ∷ (is ++ js)) ≡ i ∷ is
keep_not-after i is js h =
    let ks : List Bits = keys_of (i ∷ is) in
    let z : Bits = last_or i.key (keys_of is) in
    let f : Item → Bool = λ j. not (before z j.key) in
    let l = keep-every f (i ∷ is) (λ j o. not_T (before z j.key)
    (not-after-last_or i.key (keys_of is) (rising_left ks (keys_of js) h) j.key (mem-map (λ x. x.key) o))) in
    let r = keep-none f js (λ j o k. T_not (before z j.key) k
    (rising_parts ks (keys_of js) h z j.key (mem-last_or i.key (keys_of is)) (mem-map (λ x. x.key) o))) in
    keep_append f (i ∷ is) js ∙ ap₂ ◌++◌ l r ∙ append-nil (i ∷ is)

module _ (p : Bits) (t : Tree ℕ) (g : Good p t) (r : Option Bits) (b : ℕ) where
  abbrev is : List Item
  is = ahead r (items t)

  closed_is : Closed is
  closed_is = closed_ahead r (items t) (closed-items p t g)

  stored_in_left : stored_in is ≡ left (entries t) r
  unfolding left
  stored_in_left = stored_in-keep (after r) (items t) ∙ ap (keep (λ e. after r e.key)) (stored_in-items t)

  pub given-items : take b (stored_in is) ≡ given (entries t) r b
  unfolding given
  given-items = ap (take b) stored_in_left

  pub remains-items : not (is_empty (past b is)) ≡ remains (entries t) r b
  unfolding remains
  remains-items =
      ap not (is_empty-stored_in (past b is) (closed_past b is closed_is) ∙ ap is_empty (sym (drop-stored_in b is)))
      ∙ ap (λ (m : Map). not (is_empty (drop b m))) stored_in_left

  last-given : last (keys_of (up_to b is)) ≡ last (keys (given (entries t) r b))
  last-given = sym (last-up_to b is closed_is) ∙ ap (λ (m : Map). last (keys m)) (sym (take-stored_in b is) ∙ given-items)

  rising_is : T (rising (keys_of (up_to b is) ++ keys_of (past b is)))
  rising_is =
      let all : keys_of is ≡ keep (after r) (strings t) = map-keep (after r) (λ (i : Item). i.key) (items t) ∙ ap (keep (after r)) (keys-items t) in
      rw (← map-append (λ (i : Item). i.key) (up_to b is) (past b is), up_to_past b is, all)
      (rising-keep (after r) (strings t) (rising-strings p t g))

  passes-last : (js ks : List Item) → T (rising (keys_of js ++ keys_of ks)) → is ≡ js ++ ks
      → keep (λ i. passes r (last (keys_of js)) i.key) (items t) ≡ js
  passes-last [] ks h e = keep-none (λ i. false) (items t) (λ i j k. k)
  passes-last (j ∷ js) ks h e =
      keep-and (λ i. after r i.key) (λ i. not (before (last_or j.key (keys_of js)) i.key)) (items t)
      ∙ rw e (keep_not-after j js ks h)

  -- the items up to the b-th stored one are those that pass
  pub passes-items : keep (λ i. passes r (last (keys (given (entries t) r b))) i.key) (items t) ≡ up_to b is
  passes-items = rw (← last-given) (passes-last (up_to b is) (past b is) rising_is (sym (up_to_past b is)))

  pub passed-items : length (up_to b is) ≡ passed (entries t) r (last (keys (given (entries t) r b)))
  unfolding passed
  passed-items =
      let f : Bits → Bool = passes r (last (keys (given (entries t) r b))) in
      rw (nodes-entries p t g, ← keys-items t, ← map-keep f (λ (i : Item). i.key) (items t), passes-items) (sym (length-map (up_to b is) (λ (i : Item). i.key)))
