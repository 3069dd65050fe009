-- The laws of strictly ascending lists of strings: such a list is the set of its members. No contract cites
-- this file.
-- Assumes nothing.
use mathlib.Core.Path.{◌≡◌, refl, sym, ap, ◌∙◌, sym, subst}
use mathlib.Core.Bool.{Bool, true, false, cond, true≢false, false≢true}
use mathlib.Core.List.Memᴰ
use mathlib.Core.List.{List, [], ◌∷◌, ◌++◌, Memᴰ}
use mathlib.Core.Logic.{inl, inr}
use lib.Dec.{T}
use lib.ListN.{length}
use Rattle.std.specs.declared.cmp.Ordering.{Ordering}
use Rattle.std.specs.declared.cmp.Ordering.TheVariants.{Less, Equal, Greater}
use Rattle.std.specs.Ordering.{is_lt, is_eq, ordering_reverse}
use Rattle.bits.specs.Lists.{any, all, keep, last_or}
use Rattle.bits.specs.Bits.{Bits, order, before, equal, rising, member}
use Rattle.bits.proofs.ListsLaws.{and_left, and_right, and_both, any_mem, all_imp, all_keep, all-last_or, keep-none, mem-all, all_mem, T_true}
use Rattle.bits.proofs.BitsLaws.{equal_true, equal_refl, before_irrefl, before_trans, order_flip}

-- ---- rising

rising-keep_at : (f : Bits → Bool) (b : Bool) (x : Bits) (xs : List Bits) → T (all (before x) (keep f xs)) → T (rising (keep f xs))
    → T (rising (cond b (x ∷ keep f xs) (keep f xs)))
rising-keep_at f true x xs h k = and_both (all (before x) (keep f xs)) (rising (keep f xs)) h k
rising-keep_at f false x xs h k = k

pub rising-keep : (f : Bits → Bool) (xs : List Bits) → T (rising xs) → T (rising (keep f xs))
rising-keep f [] h = tt
rising-keep f (x ∷ xs) h =
    rising-keep_at f (f x) x xs (all_keep f (before x) xs (and_left (all (before x) xs) (rising xs) h))
    (rising-keep f xs (and_right (all (before x) xs) (rising xs) h))

pub rising-append : (xs ys : List Bits) → T (rising xs) → T (rising ys)
    → ((a b : Bits) → Memᴰ a xs → Memᴰ b ys → T (before a b)) → T (rising (xs ++ ys))
rising-append [] ys h k f = k
rising-append (x ∷ xs) ys h k f =
    and_both (all (before x) (xs ++ ys)) (rising (xs ++ ys))
    (mem-all (before x) (xs ++ ys) (λ a i. elim (Memᴰ.append_cases xs i) [
      | inl j ↦ all_mem (before x) xs (and_left (all (before x) xs) (rising xs) h) a j
      | inr j ↦ f x a (Memᴰ.head refl) j
    ]))
    (rising-append xs ys (and_right (all (before x) xs) (rising xs) h) k (λ a b i j. f a b (Memᴰ.tail i) j))

-- what comes before a list's head comes before all of a rising list
pub before-rising : (p q : Bits) (qs : List Bits) → T (before p q) → T (rising (q ∷ qs)) → T (all (before p) (q ∷ qs))
before-rising p q qs b h =
    and_both (before p q) (all (before p) qs) b
    (all_imp (before q) (before p) (λ x k. before_trans p q x b k) qs (and_left (all (before q) qs) (rising qs) h))

-- ---- members

pub before_not-equal : (o : Ordering) → T (is_lt o) → is_eq o ≡ false
before_not-equal Less h = refl
before_not-equal Equal h = elim h [ ]
before_not-equal Greater h = elim h [ ]

-- what comes before all of a list is not in it
pub any-equal-none : (p : Bits) (qs : List Bits) → T (all (before p) qs) → any (equal p) qs ≡ false
any-equal-none p [] h = refl
any-equal-none p (q ∷ qs) h =
    rw (before_not-equal (order p q) (and_left (before p q) (all (before p) qs) h))
    (any-equal-none p qs (and_right (before p q) (all (before p) qs) h))

pub any-equal-head : (p : Bits) (ps : List Bits) → any (equal p) (p ∷ ps) ≡ true
any-equal-head p ps = rw (T_true (equal p p) (equal_refl p))

no_less : (p q : Bits) (ps qs : List Bits) → T (before p q) → T (rising (q ∷ qs)) → any (equal p) (p ∷ ps) ≡ any (equal p) (q ∷ qs) → ⊥
no_less p q ps qs b k e = true≢false (sym (any-equal-head p ps) ∙ e ∙ any-equal-none p (q ∷ qs) (before-rising p q qs b k))

-- equal heads leave equal members behind
tails_at : (b : Bool) (r p : Bits) (ps qs : List Bits) → equal r p ≡ b → T (all (before p) ps) → T (all (before p) qs)
    → any (equal r) (p ∷ ps) ≡ any (equal r) (p ∷ qs) → any (equal r) ps ≡ any (equal r) qs
tails_at true r p ps qs c h k e = rw (equal_true r p (rw c tt)) (any-equal-none p ps h ∙ sym (any-equal-none p qs k))
tails_at false r p ps qs c h k e = rw c at e

heads_at : (o : Ordering) (p q : Bits) (ps qs : List Bits) → order p q ≡ o → T (rising (p ∷ ps)) → T (rising (q ∷ qs))
    → ((r : Bits) → any (equal r) (p ∷ ps) ≡ any (equal r) (q ∷ qs))
    → (((r : Bits) → any (equal r) ps ≡ any (equal r) qs) → ps ≡ qs) → p ∷ ps ≡ q ∷ qs
heads_at Less p q ps qs c h k e ih = absurd (no_less p q ps qs (rw c tt) k (e p))
heads_at Greater p q ps qs c h k e ih = absurd (no_less q p qs ps (rw (order_flip p q, c) tt) h (sym (e q)))
heads_at Equal p q ps qs c h k e ih =
    let g : q ≡ p = sym (equal_true p q (rw c tt)) in
    let k' : T (rising (p ∷ qs)) = rw g at k in
    let e' : (r : Bits) → any (equal r) (p ∷ ps) ≡ any (equal r) (p ∷ qs) = rw g at e in
    rw g (ap (λ (l : List Bits). p ∷ l)
    (ih (λ r. tails_at (equal r p) r p ps qs refl (and_left (all (before p) ps) (rising ps) h) (and_left (all (before p) qs) (rising qs) k') (e' r))))

-- two ascending lists with the same members are the same list
pub rising_ext : (ps qs : List Bits) → T (rising ps) → T (rising qs) → ((r : Bits) → any (equal r) ps ≡ any (equal r) qs) → ps ≡ qs
rising_ext [] [] h k e = refl
rising_ext [] (q ∷ qs) h k e = absurd (false≢true (e q ∙ any-equal-head q qs))
rising_ext (p ∷ ps) [] h k e = absurd (true≢false (sym (any-equal-head p ps) ∙ e p))
rising_ext (p ∷ ps) (q ∷ qs) h k e =
    heads_at (order p q) p q ps qs refl h k e
    (rising_ext ps qs (and_right (all (before p) ps) (rising ps) h) (and_right (all (before q) qs) (rising qs) k))

pub member_mem : (p : Bits) (ps : List Bits) → T (member p ps) → Memᴰ p ps
unfolding member
member_mem p ps h = let w = any_mem (equal p) ps h in Memᴰ.cast (equal_true p w.0 w.2) w.1

-- ---- what comes after a string, and after the first part of a list

not-after_at : (o : Ordering) (z a b : Bits) → order z a ≡ o → (T (is_lt o) → ⊥) → T (before z b) → T (before a b)
not-after_at Less z a b c h k = absurd (h tt)
not-after_at Equal z a b c h k = rw (equal_true z a (rw c tt)) at k
not-after_at Greater z a b c h k = before_trans a z b (rw (order_flip z a, c) tt) k

-- what does not come after z comes before all that does
pub not-after-before : (z a b : Bits) → (T (before z a) → ⊥) → T (before z b) → T (before a b)
not-after-before z a b h k = not-after_at (order z a) z a b refl h k

-- no member of a rising list comes after its last
pub not-after-last_or : (x : Bits) (xs : List Bits) → T (rising (x ∷ xs)) → (a : Bits) → Memᴰ a (x ∷ xs) → T (before (last_or x xs) a) → ⊥
not-after-last_or x [] h a (Memᴰ.head e) b = before_irrefl x (rw e at b)
not-after-last_or x (y ∷ ys) h a (Memᴰ.head e) b =
    let l : T (before x (last_or y ys)) = all-last_or (before x) y ys (and_left (all (before x) (y ∷ ys)) (rising (y ∷ ys)) h) in
    before_irrefl x (before_trans x (last_or y ys) x l (rw e at b))
not-after-last_or x (y ∷ ys) h a (Memᴰ.tail i) b =
    not-after-last_or y ys (and_right (all (before x) (y ∷ ys)) (rising (y ∷ ys)) h) a i b
not-after-last_or x [] h a (Memᴰ.tail i) b = elim i [ ]

-- of a rising list in two parts, the first is rising, and all of it comes before all of the second
pub rising_left : (xs ys : List Bits) → T (rising (xs ++ ys)) → T (rising xs)
rising_left [] ys h = tt
rising_left (x ∷ xs) ys h =
    and_both (all (before x) xs) (rising xs)
    (mem-all (before x) xs (λ a i. all_mem (before x) (xs ++ ys) (and_left (all (before x) (xs ++ ys)) (rising (xs ++ ys)) h) a (Memᴰ.append_left ys i)))
    (rising_left xs ys (and_right (all (before x) (xs ++ ys)) (rising (xs ++ ys)) h))

pub rising_parts : (xs ys : List Bits) → T (rising (xs ++ ys)) → (a b : Bits) → Memᴰ a xs → Memᴰ b ys → T (before a b)
rising_parts (x ∷ xs) ys h a b (Memᴰ.head e) j =
    rw e (all_mem (before x) (xs ++ ys) (and_left (all (before x) (xs ++ ys)) (rising (xs ++ ys)) h) b (Memᴰ.append_right xs j))
rising_parts (x ∷ xs) ys h a b (Memᴰ.tail i) j =
    rising_parts xs ys (and_right (all (before x) (xs ++ ys)) (rising (xs ++ ys)) h) a b i j
rising_parts [] ys h a b x3 j = elim x3 [ ]

-- ---- keep

before_other : (p q : Bits) → T (before p q) → equal q p ≡ false
before_other p q h = rw order_flip (at (order p q) h)
  where
    at : (o : Ordering) → T (is_lt o) → is_eq (ordering_reverse o) ≡ false
    at Less h = refl
    at Equal h = elim h [ ]
    at Greater h = elim h [ ]

-- a member of a rising list stands there once
pub length-keep-equal : (p : Bits) (ps : List Bits) → T (rising ps) → Memᴰ p ps → length (keep (equal p) ps) ≡ 1
length-keep-equal p (q ∷ qs) h (Memᴰ.head e) =
    let n : keep (equal q) qs ≡ [] = keep-none (equal q) qs (λ a i k. before_irrefl q
    (rw (← equal_true q a k) at (all_mem (before q) qs (and_left (all (before q) qs) (rising qs) h) a i))) in
    subst (λ (b : Bits). length (keep (equal b) (q ∷ qs)) ≡ 1) (sym e) (rw (T_true (equal q q) (equal_refl q), n))
length-keep-equal p (q ∷ qs) h (Memᴰ.tail i) =
    rw (before_other q p (all_mem (before q) qs (and_left (all (before q) qs) (rising qs) h) p i))
    (length-keep-equal p qs (and_right (all (before q) qs) (rising qs) h) i)
length-keep-equal p [] h absent = elim absent [ ]
