-- The laws of a map: what a store and a remove do to every key, and that a map is what it answers. No
-- contract cites this file.
-- Assumes nothing.
use Prim.Native.Nat.{ℕ}
use mathlib.Core.Path.{◌≡◌, refl, sym, ap, ◌∙◌, subst}
use mathlib.Core.Bool.{Bool, true, false, not, cond, ◌||◌, true≢false}
use mathlib.Core.List.{List, [], ◌∷◌, Memᴰ}
use mathlib.Core.Option.{none, some, some-injective, some-ne-none, none-ne-some}
use lib.Dec.{T, ltb}
use lib.ListN.{length}
use Rattle.std.specs.declared.cmp.Ordering.{Ordering}
use Rattle.std.specs.declared.cmp.Ordering.TheVariants.{Less, Equal, Greater}
use Rattle.std.specs.Ordering.{is_lt, is_eq, ordering_reverse}
use Rattle.bits.specs.Lists.{any, all, keep}
use Rattle.bits.specs.Bits.{Bits, order, before, equal, rising, member}
use Rattle.bits.proofs.ListsLaws.{and_left, and_right, all_mem, mem-map, map-keep}
use Rattle.bits.proofs.BitsLaws.{equal_true, order_refl, order_flip}
use Rattle.bits.proofs.RisingLaws.{rising-keep, before-rising, before_not-equal}
use Rattle.zones.specs.Maps.{Entry, Map, keys, ascending, get, put, put_at, without}
use Rattle.zones.specs.Nodes.{join, join_at, nodes, overflows}
use Rattle.zones.proofs.NodesLaws.{rising-join, join-member}

-- ---- keys

keys-put_at : (o : Ordering) (e f : Entry) (m : Map) → order e.key f.key ≡ o → keys (put e m) ≡ join e.key (keys m)
    → keys (put_at o e f m (put e m)) ≡ join_at o e.key f.key (keys m) (join e.key (keys m))
unfolding keys
keys-put_at Less e f m c ih = refl
keys-put_at Equal e f m c ih = ap (λ (p : Bits). p ∷ keys m) (equal_true e.key f.key (rw c tt))
keys-put_at Greater e f m c ih = ap (λ (l : List Bits). f.key ∷ l) ih

pub keys-put : (e : Entry) (m : Map) → keys (put e m) ≡ join e.key (keys m)
unfolding keys
keys-put e [] = refl
keys-put e (f ∷ m) = keys-put_at (order e.key f.key) e f m refl (keys-put e m)

-- what is kept by its key
pub keys-keep : (f : Bits → Bool) (m : Map) → keys (keep (λ x. f x.key) m) ≡ keep f (keys m)
unfolding keys
keys-keep f m = map-keep f (λ (x : Entry). x.key) m

pub keys-without : (k : Bits) (m : Map) → keys (without k m) ≡ keep (λ p. not (equal k p)) (keys m)
unfolding without
keys-without k m = keys-keep (λ p. not (equal k p)) m

-- ---- ascending

pub ascending-put : (e : Entry) (m : Map) → T (ascending m) → T (ascending (put e m))
unfolding ascending
ascending-put e m h = rw keys-put (rising-join e.key (keys m) h)

pub ascending-without : (k : Bits) (m : Map) → T (ascending m) → T (ascending (without k m))
unfolding ascending
ascending-without k m h = rw keys-without (rising-keep (λ p. not (equal k p)) (keys m) h)

-- ---- get

module _ {A : Type 0} where
  cond-swap : (a b : Bool) (x y z : A) → (T a → T b → ⊥) → cond a x (cond b y z) ≡ cond b y (cond a x z)
  cond-swap true true x y z h = absurd (h tt tt)
  cond-swap true false x y z h = refl
  cond-swap false b x y z h = refl

  cond_again : (a : Bool) (x y z : A) → cond a x z ≡ cond a x (cond a y z)
  cond_again true x y z = refl
  cond_again false x y z = refl

  cond-const : (a : Bool) (x : A) → x ≡ cond a x x
  cond-const true x = refl
  cond-const false x = refl

not_both : (k a b : Bits) → equal a b ≡ false → T (equal k a) → T (equal k b) → ⊥
not_both k a b c i j =
    let e : a ≡ b = sym (equal_true k a i) ∙ equal_true k b j in
    let w : equal a b ≡ true = rw (e, order_refl) in
    true≢false (sym w ∙ c)

get-put_at : (o : Ordering) (k : Bits) (e f : Entry) (m : Map) → order e.key f.key ≡ o
    → get k (put e m) ≡ cond (equal k e.key) (some e.zone) (get k m)
    → get k (put_at o e f m (put e m)) ≡ cond (equal k e.key) (some e.zone) (get k (f ∷ m))
get-put_at Less k e f m c ih = refl
get-put_at Equal k e f m c ih =
    rw (← equal_true e.key f.key (rw c tt)) (cond_again (equal k e.key) (some e.zone) (some f.zone) (get k m))
get-put_at Greater k e f m c ih =
    rw ih (cond-swap (equal k f.key) (equal k e.key) (some f.zone) (some e.zone) (get k m) (λ i j. not_both k e.key f.key (ap is_eq c) j i))

pub get-put : (k : Bits) (e : Entry) (m : Map) → get k (put e m) ≡ cond (equal k e.key) (some e.zone) (get k m)
get-put k e [] = refl
get-put k e (f ∷ m) = get-put_at (order e.key f.key) k e f m refl (get-put k e m)

get-without_at : (b : Bool) (k j : Bits) (f : Entry) (m : Map) → equal j f.key ≡ b
    → get k (keep (λ e. not (equal j e.key)) m) ≡ cond (equal k j) none (get k m)
    → get k (cond (not b) (f ∷ keep (λ e. not (equal j e.key)) m) (keep (λ e. not (equal j e.key)) m)) ≡ cond (equal k j) none (get k (f ∷ m))
get-without_at true k j f m c ih =
    ih ∙ rw (← equal_true j f.key (rw c tt)) (cond_again (equal k j) none (some f.zone) (get k m))
get-without_at false k j f m c ih =
    rw ih (cond-swap (equal k f.key) (equal k j) (some f.zone) none (get k m) (λ i h. not_both k j f.key c h i))

pub get-without : (k j : Bits) (m : Map) → get k (without j m) ≡ cond (equal k j) none (get k m)
unfolding without
get-without k j [] = cond-const (equal k j) none
get-without k j (f ∷ m) = get-without_at (equal j f.key) k j f m refl (get-without k j m)

-- ---- without

-- a remove of a key that is not stored leaves the map
pub without-none : (k : Bits) (m : Map) → get k m ≡ none → without k m ≡ m
unfolding without
without-none k [] h = refl
without-none k (e ∷ m) h = at (equal k e.key) h (without-none k m)
  where
    at : (b : Bool) → cond b (some e.zone) (get k m) ≡ none → (get k m ≡ none → keep (λ x. not (equal k x.key)) m ≡ m)
        → cond (not b) (e ∷ keep (λ x. not (equal k x.key)) m) (keep (λ x. not (equal k x.key)) m) ≡ e ∷ m
    at true h ih = absurd (some-ne-none e.zone h)
    at false h ih = ap (λ (n : Map). e ∷ n) (ih h)

-- ---- two ascending maps that answer alike are one

get_none : (k : Bits) (m : Map) → T (all (before k) (keys m)) → get k m ≡ none
unfolding keys
get_none k [] h = refl
get_none k (f ∷ m) h =
    rw (before_not-equal (order k f.key) (and_left (before k f.key) (all (before k) (keys m)) h))
    (get_none k m (and_right (before k f.key) (all (before k) (keys m)) h))

get-head : (e : Entry) (m : Map) → get e.key (e ∷ m) ≡ some e.zone
get-head e m = rw order_refl

no_less : (e f : Entry) (m n : Map) → T (before e.key f.key) → T (rising (keys (f ∷ n))) → get e.key (e ∷ m) ≡ get e.key (f ∷ n) → ⊥
unfolding keys
no_less e f m n b h g =
    some-ne-none e.zone (sym (get-head e m) ∙ g ∙ get_none e.key (f ∷ n) (before-rising e.key f.key (keys n) b h))

tails_at : (b : Bool) (k : Bits) (e f : Entry) (m n : Map) → e.key ≡ f.key → equal k e.key ≡ b
    → T (all (before e.key) (keys m)) → T (all (before f.key) (keys n)) → get k (e ∷ m) ≡ get k (f ∷ n) → get k m ≡ get k n
tails_at true k e f m n d c h i g =
    let q : k ≡ e.key = equal_true k e.key (rw c tt) in
    rw q (get_none e.key m h ∙ sym (get_none e.key n (rw d i)))
tails_at false k e f m n d c h i g = rw (← d, c) at g

heads_at : (o : Ordering) (e f : Entry) (m n : Map) → order e.key f.key ≡ o → T (rising (keys (e ∷ m))) → T (rising (keys (f ∷ n)))
    → ((k : Bits) → get k (e ∷ m) ≡ get k (f ∷ n)) → (((k : Bits) → get k m ≡ get k n) → m ≡ n) → e ∷ m ≡ f ∷ n
unfolding keys
heads_at Less e f m n c h i g ih = absurd (no_less e f m n (rw c tt) i (g e.key))
heads_at Greater e f m n c h i g ih = absurd (no_less f e n m (rw (order_flip e.key f.key, c) tt) h (sym (g f.key)))
heads_at Equal e f m n c h i g ih =
    let d : e.key ≡ f.key = equal_true e.key f.key (rw c tt) in
    let z : e.zone ≡ f.zone = some-injective e.zone f.zone (sym (get-head e m) ∙ g e.key ∙ subst (λ (p : Bits). get p (f ∷ n) ≡ some f.zone) (sym d) (get-head f n)) in
    let t : m ≡ n = ih (λ k. tails_at (equal k e.key) k e f m n d refl (and_left (all (before e.key) (keys m)) (rising (keys m)) h)
    (and_left (all (before f.key) (keys n)) (rising (keys n)) i) (g k)) in
    λ j. record { key = d j; zone = z j } ∷ t j

map_ext_at : (m n : Map) → T (rising (keys m)) → T (rising (keys n)) → ((k : Bits) → get k m ≡ get k n) → m ≡ n
unfolding keys
map_ext_at [] [] h i g = refl
map_ext_at [] (f ∷ n) h i g = absurd (none-ne-some f.zone (g f.key ∙ get-head f n))
map_ext_at (e ∷ m) [] h i g = absurd (some-ne-none e.zone (sym (get-head e m) ∙ g e.key))
map_ext_at (e ∷ m) (f ∷ n) h i g =
    heads_at (order e.key f.key) e f m n refl h i g
    (map_ext_at m n (and_right (all (before e.key) (keys m)) (rising (keys m)) h) (and_right (all (before f.key) (keys n)) (rising (keys n)) i))

-- a map is what it answers
pub map_ext : (m n : Map) → T (ascending m) → T (ascending n) → ((k : Bits) → get k m ≡ get k n) → m ≡ n
unfolding ascending
map_ext m n h i g = map_ext_at m n h i g

-- what is stored is got
pub get_mem : (e : Entry) (m : Map) → T (ascending m) → Memᴰ e m → get e.key m ≡ some e.zone
unfolding ascending keys
get_mem e (f ∷ m) h (Memᴰ.head q) = subst (λ (x : Entry). get x.key (f ∷ m) ≡ some x.zone) (sym q) (get-head f m)
get_mem e (f ∷ m) h (Memᴰ.tail i) =
    let b : T (before f.key e.key) =
    all_mem (before f.key) (keys m) (and_left (all (before f.key) (keys m)) (rising (keys m)) h) e.key (mem-map (λ x. x.key) i) in
    let o : order e.key f.key ≡ Greater = order_flip f.key e.key ∙ ap ordering_reverse (before-order (order f.key e.key) b) in
    rw o (get_mem e m (and_right (all (before f.key) (keys m)) (rising (keys m)) h) i)
  where
    before-order : (o : Ordering) → T (is_lt o) → o ≡ Less
    before-order Less h = refl
    before-order Equal h = elim h [ ]
    before-order Greater h = elim h [ ]
get_mem e [] h absent = elim absent [ ]

-- two stores on different keys, in either order
pub put-put : (e f : Entry) (m : Map) → T (ascending m) → equal e.key f.key ≡ false → put e (put f m) ≡ put f (put e m)
put-put e f m h c =
    map_ext (put e (put f m)) (put f (put e m)) (ascending-put e (put f m) (ascending-put f m h)) (ascending-put f (put e m) (ascending-put e m h))
    (λ k. rw (get-put k e (put f m), get-put k f m, get-put k f (put e m), get-put k e m)
    (cond-swap (equal k e.key) (equal k f.key) (some e.zone) (some f.zone) (get k m) (not_both k e.key f.key c)))

-- ---- overflows

get-member : (k : Bits) (m : Map) (z : ℕ) → get k m ≡ some z → T (member k (keys m))
unfolding member keys
get-member k [] z h = absurd (none-ne-some z h)
get-member k (e ∷ m) z h = at (equal k e.key) h (get-member k m z)
  where
    at : (b : Bool) → cond b (some e.zone) (get k m) ≡ some z → (get k m ≡ some z → T (any (equal k) (keys m)))
        → T (b || any (equal k) (keys m))
    at true h ih = tt
    at false h ih = ih h

-- "replaces its zone number": no key comes or goes
pub keys-put_stored : (e : Entry) (m : Map) (z : ℕ) → T (ascending m) → get e.key m ≡ some z → keys (put e m) ≡ keys m
unfolding ascending
keys-put_stored e m z h s = keys-put e m ∙ join-member e.key (keys m) h (get-member e.key m z s)

-- so a replacement changes no node
pub overflows_stored : (c : ℕ) (e : Entry) (m : Map) (z : ℕ) → T (ascending m) → get e.key m ≡ some z
    → overflows c e m ≡ ltb c (length (nodes (keys m)))
unfolding overflows
overflows_stored c e m z h s = ap (λ (ks : List Bits). ltb c (length (nodes ks))) (keys-put_stored e m z h s)
