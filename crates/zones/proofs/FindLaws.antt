-- The laws of what a search finds: the number stored for a key, and the longest stored prefix of it, as the
-- map has them. No contract cites this file.
-- Assumes nothing.
use Prim.Native.Nat.{ℕ}
use mathlib.Core.Path.{◌≡◌, refl, sym, ap, ◌∙◌}
use mathlib.Core.Bool.{Bool, true, false, cond}
use mathlib.Core.List.{[], ◌∷◌, ◌++◌, append-nil}
use mathlib.Core.Option.{Option, none, some}
use lib.Dec.{T}
use Rattle.bits.specs.Lists.{keep, last, last_or}
use Rattle.bits.specs.Bits.{Bits, is_prefix, equal}
use Rattle.bits.specs.Meet.{meet}
use Rattle.bits.specs.declared.Meeting.{Meeting}
use Rattle.bits.specs.declared.Meeting.TheVariants.{Equal, Below, Above, Apart}
use Rattle.bits.proofs.ListsLaws.{keep-none, keep-every}
use Rattle.bits.proofs.BitsLaws.{is_prefix_refl, is_prefix_trans, is_prefix-append, equal_true, order_refl, longer_irrefl, one_side}
use Rattle.bits.proofs.MeetLaws.{Says, meet-says}
use Rattle.zones.specs.Maps.{Entry, Map, get, longest_match}
use Rattle.zones.specs.Tree.{Tree, tip, node, Good, own, entries}
use Rattle.zones.specs.Searching.{onward, find, better, best}
use Rattle.zones.proofs.MatchLaws.{longest_match-last}
use Rattle.zones.proofs.TreeLaws.{keep_node, KeysBegin, mem-own, begin-entries, begin_top, ascending-entries}
use Rattle.zones.proofs.WalkLaws.{equal_off, above_off, apart_off}

-- ---- a test that only prefixes of the key pass: what it keeps lies on the walk

-- what is kept by its key
abbrev kept : (Bits → Bool) → Map → Map
kept f m = keep (λ e. f e.key) m

module _ (k : Bits) (f : Bits → Bool) (h : (a : Bits) → T (f a) → T (is_prefix a k)) where
  kept_off : (q : Bits) (m : Map) → KeysBegin q m → (T (is_prefix q k) → ⊥) → kept f m ≡ []
  kept_off q m b n = keep-none (λ e. f e.key) m (λ e i j. n (is_prefix_trans q e.key k (b e i) (h e.key j)))

module _ {A : Type 0} (k : Bits) (f : Bits → Bool) (h : (a : Bits) → T (f a) → T (is_prefix a k))
    (p : Bits) (c : A) (s : Bits) (v : Option ℕ) (l r : Tree A) (g : Good p (node c s v l r)) where
  kept_left : (T (is_prefix (s ++ (false ∷ [])) k) → ⊥) → kept f (entries l) ≡ []
  kept_left = kept_off k f h (s ++ (false ∷ [])) (entries l) (begin-entries (s ++ (false ∷ [])) l g.2)

  kept_right : (T (is_prefix (s ++ (true ∷ [])) k) → ⊥) → kept f (entries r) ≡ []
  kept_right = kept_off k f h (s ++ (true ∷ [])) (entries r) (begin-entries (s ++ (true ∷ [])) r g.3)

  kept-all : (T (is_prefix s k) → ⊥) → kept f (entries (node c s v l r)) ≡ []
  kept-all = kept_off k f h s (entries (node c s v l r)) (begin_top p c s v l r g)

  kept_node : kept f (entries (node c s v l r)) ≡ kept f (own s v) ++ (kept f (entries l) ++ kept f (entries r))
  kept_node = keep_node (λ e. f e.key) (own s v) (entries l) (entries r)

  kept-onward : (o : Meeting) → Says o s k
      → kept f (entries (node c s v l r)) ≡ onward o (kept f (own s v)) [] (kept f (own s v) ++ kept f (entries l)) (kept f (own s v) ++ kept f (entries r))
  kept-onward Equal y = rw (kept_node, kept_left (equal_off s k false y), kept_right (equal_off s k true y), append-nil)
  kept-onward (Below false) y = rw (kept_node, kept_right (one_side s k false y), append-nil (kept f (entries l)))
  kept-onward (Below true) y = rw (kept_node, kept_left (one_side s k true y))
  kept-onward (Above x) y = kept-all (above_off s k x y)
  kept-onward (Apart x) y = kept-all (apart_off s k x y)

-- ---- get

abbrev first_zone : Map → Option ℕ
first_zone [] = none
first_zone (e ∷ m) = some e.zone

get_kept : (k : Bits) (m : Map) → get k m ≡ first_zone (kept (equal k) m)
get_kept k [] = refl
get_kept k (e ∷ m) = at (equal k e.key) (get_kept k m)
  where
    at : (b : Bool) → get k m ≡ first_zone (kept (equal k) m)
        → cond b (some e.zone) (get k m) ≡ first_zone (cond b (e ∷ kept (equal k) m) (kept (equal k) m))
    at true ih = refl
    at false ih = ih

first_zone-own : (k : Bits) (v : Option ℕ) → first_zone (kept (equal k) (own k v)) ≡ v
first_zone-own k none = refl
first_zone-own k (some z) = rw order_refl

kept-own-none : (k s : Bits) (v : Option ℕ) (x : Bool) → T (is_prefix (s ++ (x ∷ [])) k) → kept (equal k) (own s v) ≡ []
kept-own-none k s v x y =
    keep-none (λ e. equal k e.key) (own s v) (λ e i j. longer_irrefl s x (rw (equal_true k e.key j, mem-own s v e i) at y))

first_zone-onward : (o : Meeting) (k s : Bits) (v : Option ℕ) (ls rs : Map) → Says o s k
    → first_zone (onward o (kept (equal k) (own s v)) [] (kept (equal k) (own s v) ++ ls) (kept (equal k) (own s v) ++ rs))
    ≡ onward o v none (first_zone ls) (first_zone rs)
first_zone-onward Equal k s v ls rs y = rw y (first_zone-own k v)
first_zone-onward (Below false) k s v ls rs y = rw (kept-own-none k s v false y)
first_zone-onward (Below true) k s v ls rs y = rw (kept-own-none k s v true y)
first_zone-onward (Above x) k s v ls rs y = refl
first_zone-onward (Apart x) k s v ls rs y = refl

equal-prefix : (k a : Bits) → T (equal k a) → T (is_prefix a k)
equal-prefix k a h = rw (equal_true k a h) (is_prefix_refl a)

module _ {A : Type 0} where
  find_kept : (p : Bits) (t : Tree A) → Good p t → (k : Bits) → first_zone (kept (equal k) (entries t)) ≡ find t k
  find_kept p tip g k = refl
  find_kept p (node c s v l r) g k =
      ap first_zone (kept-onward k (equal k) (equal-prefix k) p c s v l r g (meet s k) (meet-says s k))
      ∙ first_zone-onward (meet s k) k s v (kept (equal k) (entries l)) (kept (equal k) (entries r)) (meet-says s k)
      ∙ rw (find_kept (s ++ (false ∷ [])) l g.2 k, find_kept (s ++ (true ∷ [])) r g.3 k)

  -- what a search finds for a key is what the map answers
  pub get-entries : (p : Bits) (t : Tree A) → Good p t → (k : Bits) → get k (entries t) ≡ find t k
  get-entries p t g k = get_kept k (entries t) ∙ find_kept p t g k

-- ---- longest_match

-- the last entry of a map, or o
abbrev last_from : Option Entry → Map → Option Entry
last_from o [] = o
last_from o (e ∷ m) = last_from (some e) m

last_from_some : (e : Entry) (m : Map) → last_from (some e) m ≡ some (last_or e m)
last_from_some e [] = refl
last_from_some e (f ∷ m) = last_from_some f m

last-last_from : (m : Map) → last m ≡ last_from none m
last-last_from [] = refl
last-last_from (e ∷ m) = sym (last_from_some e m)

last_from-own : (o : Option Entry) (s : Bits) (v : Option ℕ) (m : Map) → last_from o (own s v ++ m) ≡ last_from (better s v o) m
last_from-own o s none m = refl
last_from-own o s (some z) m = refl

kept-own : (k s : Bits) (v : Option ℕ) → T (is_prefix s k) → kept (λ a. is_prefix a k) (own s v) ≡ own s v
kept-own k s v h = keep-every (λ e. is_prefix e.key k) (own s v) (λ e i. rw (mem-own s v e i) h)

last_from-onward : (q : Meeting) (o : Option Entry) (k s : Bits) (v : Option ℕ) (ls rs : Map) → Says q s k
    → last_from o (onward q (kept (λ a. is_prefix a k) (own s v)) [] (kept (λ a. is_prefix a k) (own s v) ++ ls) (kept (λ a. is_prefix a k) (own s v) ++ rs))
    ≡ onward q (better s v o) o (last_from (better s v o) ls) (last_from (better s v o) rs)
last_from-onward Equal o k s v ls rs y = rw (kept-own k s v (rw y (is_prefix_refl k)), ← append-nil (own s v)) (last_from-own o s v [])
last_from-onward (Below false) o k s v ls rs y =
    rw (kept-own k s v (is_prefix_trans s (s ++ (false ∷ [])) k (is_prefix-append s (false ∷ [])) y)) (last_from-own o s v ls)
last_from-onward (Below true) o k s v ls rs y =
    rw (kept-own k s v (is_prefix_trans s (s ++ (true ∷ [])) k (is_prefix-append s (true ∷ [])) y)) (last_from-own o s v rs)
last_from-onward (Above x) o k s v ls rs y = refl
last_from-onward (Apart x) o k s v ls rs y = refl

module _ {A : Type 0} where
  best_kept : (p : Bits) (t : Tree A) → Good p t → (k : Bits) (o : Option Entry)
      → last_from o (kept (λ a. is_prefix a k) (entries t)) ≡ best o t k
  best_kept p tip g k o = refl
  best_kept p (node c s v l r) g k o =
      ap (last_from o) (kept-onward k (λ a. is_prefix a k) (λ a i. i) p c s v l r g (meet s k) (meet-says s k))
      ∙ last_from-onward (meet s k) o k s v (kept (λ a. is_prefix a k) (entries l)) (kept (λ a. is_prefix a k) (entries r)) (meet-says s k)
      ∙ rw (best_kept (s ++ (false ∷ [])) l g.2 k (better s v o), best_kept (s ++ (true ∷ [])) r g.3 k (better s v o))

  -- the last entry that a search passes is the longest match
  pub longest_match-entries : (p : Bits) (t : Tree A) → Good p t → (k : Bits) → longest_match k (entries t) ≡ best none t k
  longest_match-entries p t g k =
      longest_match-last k (entries t) (ascending-entries p t g)
      ∙ last-last_from (kept (λ a. is_prefix a k) (entries t)) ∙ best_kept p t g k none
