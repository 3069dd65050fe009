-- The laws of tests and of lists with tests, which every crate above cites. No contract cites this file.
-- Assumes nothing.
use Prim.Native.Nat.{ℕ, ◌+◌, ◌≤◌, zero-le}
use native.Mathlib.Omega.{arith}
use mathlib.Core.Path.{◌≡◌, refl, sym, ap, ◌∙◌}
use mathlib.Core.Logic.{◌⊎◌, inl, inr}
use mathlib.Core.Bool.{Bool, true, false, not, ◌&&◌, ◌||◌, cond}
use mathlib.Core.List.{List, [], ◌∷◌, ◌++◌, map, Memᴰ}
use lib.Dec.{T}
use lib.ListN.{length}
use Rattle.bits.specs.Lists.{keep, any, all, each, last_or}

-- ---- tests

pub T_true : (a : Bool) → T a → a ≡ true
T_true true h = refl
T_true false h = elim h [ ]

pub true-T : (a : Bool) → a ≡ true → T a
true-T true e = tt
true-T false e = absurd_false e
  where
    absurd_false : false ≡ true → ⊥
    absurd_false e = let z : ◌≡◌ {A = ℕ} 0 1 = cc in omega arith

pub and_left : (a b : Bool) → T (a && b) → T a
and_left true b h = tt
and_left false b h = elim h [ ]

pub and_right : (a b : Bool) → T (a && b) → T b
and_right true b h = h
and_right false b h = elim h [ ]

pub and_both : (a b : Bool) → T a → T b → T (a && b)
and_both true true h k = tt
and_both false b h k = elim h [ ]
and_both true false h k = elim k [ ]

pub or_left : (a b : Bool) → T a → T (a || b)
or_left true b h = tt
or_left false b h = elim h [ ]

pub or_right : (a b : Bool) → T b → T (a || b)
or_right true b h = tt
or_right false b h = h

pub or_cases : (a b : Bool) → T (a || b) → T a ⊎ T b
or_cases true b h = inl tt
or_cases false b h = inr h

pub or_assoc : (a b c : Bool) → (a || b || c) ≡ (a || (b || c))
or_assoc true b c = refl
or_assoc false b c = refl

pub or_swap : (a b c : Bool) → (a || (b || c)) ≡ (b || (a || c))
or_swap true true c = refl
or_swap true false c = refl
or_swap false b c = refl

-- two tests that imply each other are one
pub test_ext : (a b : Bool) → (T a → T b) → (T b → T a) → a ≡ b
test_ext true true f g = refl
test_ext true false f g = absurd (f tt)
test_ext false true f g = absurd (g tt)
test_ext false false f g = refl

module _ {A : Type 0} where
  -- ---- any

  pub any_append : (f : A → Bool) (xs ys : List A) → any f (xs ++ ys) ≡ (any f xs || any f ys)
  any_append f [] ys = refl
  any_append f (x ∷ xs) ys = ap (λ (b : Bool). f x || b) (any_append f xs ys) ∙ sym (or_assoc (f x) (any f xs) (any f ys))

  pub mem-any : (f : A → Bool) (xs : List A) (a : A) → Memᴰ a xs → T (f a) → T (any f xs)
  mem-any f (x ∷ xs) a (Memᴰ.head e) h = or_left (f x) (any f xs) (rw e at h)
  mem-any f (x ∷ xs) a (Memᴰ.tail i) h = or_right (f x) (any f xs) (mem-any f xs a i h)
  mem-any f [] a absent h = elim absent [ ]

  any_mem_at : (f : A → Bool) (b : Bool) (x : A) (xs : List A) → f x ≡ b → (T (any f xs) → (a : A) × Memᴰ a xs × T (f a))
      → T (b || any f xs) → (a : A) × Memᴰ a (x ∷ xs) × T (f a)
  any_mem_at f true x xs e ih h = (x, Memᴰ.head refl, rw e tt)
  any_mem_at f false x xs e ih h = let w = ih h in (w.0, Memᴰ.tail w.1, w.2)

  pub any_mem : (f : A → Bool) (xs : List A) → T (any f xs) → (a : A) × Memᴰ a xs × T (f a)
  any_mem f (x ∷ xs) h = any_mem_at f (f x) x xs refl (any_mem f xs) h
  any_mem f [] h = elim h [ ]

  -- ---- all

  pub all_imp : (f g : A → Bool) → ((x : A) → T (f x) → T (g x)) → (xs : List A) → T (all f xs) → T (all g xs)
  all_imp f g i [] h = tt
  all_imp f g i (x ∷ xs) h =
      and_both (g x) (all g xs) (i x (and_left (f x) (all f xs) h)) (all_imp f g i xs (and_right (f x) (all f xs) h))

  pub mem-all : (f : A → Bool) (xs : List A) → ((a : A) → Memᴰ a xs → T (f a)) → T (all f xs)
  mem-all f [] h = tt
  mem-all f (x ∷ xs) h = and_both (f x) (all f xs) (h x (Memᴰ.head refl)) (mem-all f xs (λ a i. h a (Memᴰ.tail i)))

  pub all_mem : (f : A → Bool) (xs : List A) → T (all f xs) → (a : A) → Memᴰ a xs → T (f a)
  all_mem f (x ∷ xs) h a (Memᴰ.head e) = rw e (and_left (f x) (all f xs) h)
  all_mem f (x ∷ xs) h a (Memᴰ.tail i) = all_mem f xs (and_right (f x) (all f xs) h) a i
  all_mem f [] h a absent = elim absent [ ]

  pub all-last_or : (f : A → Bool) (x : A) (xs : List A) → T (all f (x ∷ xs)) → T (f (last_or x xs))
  all-last_or f x [] h = and_left (f x) true h
  all-last_or f x (y ∷ xs) h = all-last_or f y xs (and_right (f x) (all f (y ∷ xs)) h)

  pub mem-last_or : (x : A) (xs : List A) → Memᴰ (last_or x xs) (x ∷ xs)
  mem-last_or x [] = Memᴰ.head refl
  mem-last_or x (y ∷ xs) = Memᴰ.tail (mem-last_or y xs)

  -- ---- keep

  all-keep_at : (f g : A → Bool) (b : Bool) (x : A) (xs : List A) → T (all g (x ∷ xs)) → T (all g (keep f xs))
      → T (all g (cond b (x ∷ keep f xs) (keep f xs)))
  all-keep_at f g true x xs h k = and_both (g x) (all g (keep f xs)) (and_left (g x) (all g xs) h) k
  all-keep_at f g false x xs h k = k

  pub all_keep : (f g : A → Bool) (xs : List A) → T (all g xs) → T (all g (keep f xs))
  all_keep f g [] h = tt
  all_keep f g (x ∷ xs) h = all-keep_at f g (f x) x xs h (all_keep f g xs (and_right (g x) (all g xs) h))

  module _ (f : A → Bool) where
    all-keep_same_at : (b : Bool) (x : A) (xs : List A) → f x ≡ b → T (all f (keep f xs)) → T (all f (cond b (x ∷ keep f xs) (keep f xs)))
    all-keep_same_at true x xs e h = and_both (f x) (all f (keep f xs)) (rw e tt) h
    all-keep_same_at false x xs e h = h

    pub all-keep_same : (xs : List A) → T (all f (keep f xs))
    all-keep_same [] = tt
    all-keep_same (x ∷ xs) = all-keep_same_at (f x) x xs refl (all-keep_same xs)

    keep-none_at : (b : Bool) (x : A) (xs : List A) → f x ≡ b → (T (f x) → ⊥) → keep f xs ≡ [] → cond b (x ∷ keep f xs) (keep f xs) ≡ []
    keep-none_at true x xs e h i = absurd (h (rw e tt))
    keep-none_at false x xs e h i = i

    pub keep-none : (xs : List A) → ((a : A) → Memᴰ a xs → T (f a) → ⊥) → keep f xs ≡ []
    keep-none [] h = refl
    keep-none (x ∷ xs) h = keep-none_at (f x) x xs refl (h x (Memᴰ.head refl)) (keep-none xs (λ a i. h a (Memᴰ.tail i)))

    keep-every_at : (b : Bool) (x : A) (xs : List A) → f x ≡ b → T (f x) → keep f xs ≡ xs → cond b (x ∷ keep f xs) (keep f xs) ≡ x ∷ xs
    keep-every_at true x xs e h i = ap (λ (l : List A). x ∷ l) i
    keep-every_at false x xs e h i = absurd (rw e at h)

    pub keep-every : (xs : List A) → ((a : A) → Memᴰ a xs → T (f a)) → keep f xs ≡ xs
    keep-every [] h = refl
    keep-every (x ∷ xs) h = keep-every_at (f x) x xs refl (h x (Memᴰ.head refl)) (keep-every xs (λ a i. h a (Memᴰ.tail i)))

    keep-append_at : (b : Bool) (x : A) (xs ys : List A) → keep f (xs ++ ys) ≡ keep f xs ++ keep f ys
        → cond b (x ∷ keep f (xs ++ ys)) (keep f (xs ++ ys)) ≡ cond b (x ∷ keep f xs) (keep f xs) ++ keep f ys
    keep-append_at true x xs ys i = ap (λ (l : List A). x ∷ l) i
    keep-append_at false x xs ys i = i

    pub keep_append : (xs ys : List A) → keep f (xs ++ ys) ≡ keep f xs ++ keep f ys
    keep_append [] ys = refl
    keep_append (x ∷ xs) ys = keep-append_at (f x) x xs ys (keep_append xs ys)

    mem-keep_at : (b : Bool) (x a : A) (xs : List A) → f x ≡ b → T (f a) → Memᴰ a (x ∷ xs) → (Memᴰ a xs → Memᴰ a (keep f xs))
        → Memᴰ a (cond b (x ∷ keep f xs) (keep f xs))
    mem-keep_at true x a xs e h (Memᴰ.head q) ih = Memᴰ.head q
    mem-keep_at true x a xs e h (Memᴰ.tail i) ih = Memᴰ.tail (ih i)
    mem-keep_at false x a xs e h (Memᴰ.head q) ih = absurd (rw (q, e) at h)
    mem-keep_at false x a xs e h (Memᴰ.tail i) ih = ih i

    -- what passes the test is kept
    pub mem-keep : (xs : List A) (a : A) → Memᴰ a xs → T (f a) → Memᴰ a (keep f xs)
    mem-keep (x ∷ xs) a i h = mem-keep_at (f x) x a xs refl h i (λ j. mem-keep xs a j h)
    mem-keep [] a i h = elim i [ ]

    keep_mem_at : (b : Bool) (x a : A) (xs : List A) → f x ≡ b → Memᴰ a (cond b (x ∷ keep f xs) (keep f xs))
        → (Memᴰ a (keep f xs) → Memᴰ a xs × T (f a)) → Memᴰ a (x ∷ xs) × T (f a)
    keep_mem_at true x a xs e (Memᴰ.head q) ih = (Memᴰ.head q, rw (q, e) tt)
    keep_mem_at true x a xs e (Memᴰ.tail i) ih = let w = ih i in (Memᴰ.tail w.0, w.1)
    keep_mem_at false x a xs e i ih = let w = ih i in (Memᴰ.tail w.0, w.1)

    -- what is kept was there, and passes the test
    pub keep_mem : (xs : List A) (a : A) → Memᴰ a (keep f xs) → Memᴰ a xs × T (f a)
    keep_mem (x ∷ xs) a i = keep_mem_at (f x) x a xs refl i (keep_mem xs a)
    keep_mem [] a i = elim i [ ]

  keep-and_at : (b c : Bool) (g : A → Bool) (x : A) (xs : List A) → g x ≡ c
      → cond (b && c) (x ∷ keep g xs) (keep g xs) ≡ keep g (cond b (x ∷ xs) xs)
  keep-and_at true c g x xs e = rw e
  keep-and_at false c g x xs e = refl

  -- those that pass two tests
  pub keep-and : (f g : A → Bool) (xs : List A) → keep (λ x. f x && g x) xs ≡ keep g (keep f xs)
  keep-and f g [] = refl
  keep-and f g (x ∷ xs) = rw (keep-and f g xs) (keep-and_at (f x) (g x) g x (keep f xs) refl)

-- ---- how many are kept

module _ {A : Type 0} where
  or_at : (a b : Bool) (x : A) (us vs ws : List A) → length us ≤ length vs + length ws
      → length (cond (a || b) (x ∷ us) us) ≤ length (cond a (x ∷ vs) vs) + length (cond b (x ∷ ws) ws)
  or_at true true x us vs ws h = omega arith
  or_at true false x us vs ws h = omega arith
  or_at false true x us vs ws h = omega arith
  or_at false false x us vs ws h = h

  pub length-keep-or : (f g : A → Bool) (xs : List A) → length (keep (λ x. f x || g x) xs) ≤ length (keep f xs) + length (keep g xs)
  length-keep-or f g [] = omega arith
  length-keep-or f g (x ∷ xs) = or_at (f x) (g x) x (keep (λ y. f y || g y) xs) (keep f xs) (keep g xs) (length-keep-or f g xs)

  imp_at : (a b : Bool) (x : A) (us vs : List A) → (T a → T b) → length us ≤ length vs → length (cond a (x ∷ us) us) ≤ length (cond b (x ∷ vs) vs)
  imp_at true true x us vs i h = omega arith
  imp_at true false x us vs i h = absurd (i tt)
  imp_at false true x us vs i h = omega arith
  imp_at false false x us vs i h = h

  pub length-keep_imp : (f g : A → Bool) (xs : List A) → ((x : A) → Memᴰ x xs → T (f x) → T (g x)) → length (keep f xs) ≤ length (keep g xs)
  length-keep_imp f g [] i = zero-le
  length-keep_imp f g (x ∷ xs) i =
      imp_at (f x) (g x) x (keep f xs) (keep g xs) (i x (Memᴰ.head refl)) (length-keep_imp f g xs (λ y j. i y (Memᴰ.tail j)))

  split_at : (a b : Bool) (x : A) (us vs ws : List A) → (T b → T a) → length us + length vs ≡ length ws
      → length (cond (a && not b) (x ∷ us) us) + length (cond b (x ∷ vs) vs) ≡ length (cond a (x ∷ ws) ws)
  split_at true true x us vs ws i h = omega arith
  split_at true false x us vs ws i h = omega arith
  split_at false true x us vs ws i h = absurd (i tt)
  split_at false false x us vs ws i h = h

  -- those that pass the wider of two tests pass the narrower one, or only the wider
  pub length-keep_split : (f g : A → Bool) (xs : List A) → ((x : A) → T (g x) → T (f x))
      → length (keep (λ x. f x && not (g x)) xs) + length (keep g xs) ≡ length (keep f xs)
  length-keep_split f g [] i = omega arith
  length-keep_split f g (x ∷ xs) i =
      split_at (f x) (g x) x (keep (λ y. f y && not (g y)) xs) (keep g xs) (keep f xs) (i x) (length-keep_split f g xs i)

module _ {A B : Type 0} where
  pub mem-map : (g : A → B) {a : A} {xs : List A} → Memᴰ a xs → Memᴰ (g a) (map g xs)
  mem-map g (Memᴰ.head e) = Memᴰ.head (ap g e)
  mem-map g (Memᴰ.tail i) = Memᴰ.tail (mem-map g i)

  pub any-map : (f : B → Bool) (g : A → B) (xs : List A) → any f (map g xs) ≡ any (λ x. f (g x)) xs
  any-map f g [] = refl
  any-map f g (x ∷ xs) = ap (λ (b : Bool). f (g x) || b) (any-map f g xs)

  pub any-each : (f : B → Bool) (g : A → List B) (xs : List A) → any f (each g xs) ≡ any (λ x. any f (g x)) xs
  any-each f g [] = refl
  any-each f g (x ∷ xs) = any_append f (g x) (each g xs) ∙ ap (λ (b : Bool). any f (g x) || b) (any-each f g xs)

  map-keep_at : (b : Bool) (g : A → B) (x : A) (xs : List A) → map g (cond b (x ∷ xs) xs) ≡ cond b (g x ∷ map g xs) (map g xs)
  map-keep_at true g x xs = refl
  map-keep_at false g x xs = refl

  -- what is kept by its image
  pub map-keep : (f : B → Bool) (g : A → B) (xs : List A) → map g (keep (λ x. f (g x)) xs) ≡ keep f (map g xs)
  map-keep f g [] = refl
  map-keep f g (x ∷ xs) = rw (← map-keep f g xs) (map-keep_at (f (g x)) g x (keep (λ y. f (g y)) xs))
