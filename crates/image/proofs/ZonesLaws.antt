-- The laws of the data section: the zone numbers ascend and are those that some side uses, and the entry of
-- each starts at its offset. No contract cites this file.
--   uses z s, used_by z f  the side s, or a side of the fork f, is the zone number z
-- Assumes nothing.
use Prim.Native.Nat.{ℕ, ◌+◌, ◌<◌, ◌≤◌}
use native.Mathlib.Nat.{zero-add, add_assoc}
use native.Mathlib.Omega.{arith}
use mathlib.Core.Path.{◌≡◌, refl, sym, ap, ◌∙◌}
use mathlib.Core.Bool.{Bool, true, false, cond, ◌||◌, or_self_left}
use mathlib.Core.List.{List, [], ◌∷◌, ◌++◌, Memᴰ}
use lib.Dec.{T, ltb, eqb, ltb→lt, lt→ltb, eqb→eq, eqb_refl}
use lib.ListN.{length, take, drop, length-append, length-drop}
use lib.Seq.{drop-append-add, drop-append_seam, take-append_seam}
use borrow.Author.Tests.{ltb-false, eqb-false, eqb-true}
use Rattle.bits.specs.Lists.{any, all}
use Rattle.bits.proofs.ListsLaws.{and_left, and_right, and_both, all_imp, any_mem, mem-any, or_assoc, or_swap, T_true, true-T}
use Rattle.image.specs.Bytes.{uint32}
use Rattle.image.specs.Image.{Side, to_node, no_data, to_zone, Fork, add, add_at, add_side, zones_of, data_of, offset}
use Rattle.image.specs.Ascending.{ascending_numbers}

abbrev pub uses : ℕ → Side → Bool
uses z (to_node i) = false
uses z no_data = false
uses z (to_zone y) = eqb z y

abbrev pub used_by : ℕ → Fork → Bool
used_by z f = uses z f.left || uses z f.right

-- ---- add

all-add_at : (a b : Bool) (x z y : ℕ) (ys : List ℕ) → T (ltb x z) → T (all (ltb x) (y ∷ ys)) → T (all (ltb x) (add z ys))
    → T (all (ltb x) (add_at a b z y ys (add z ys)))
all-add_at true b x z y ys h k i = and_both (ltb x z) (all (ltb x) (y ∷ ys)) h k
all-add_at false true x z y ys h k i = k
all-add_at false false x z y ys h k i = and_both (ltb x y) (all (ltb x) (add z ys)) (and_left (ltb x y) (all (ltb x) ys) k) i

all-add : (x z : ℕ) (ys : List ℕ) → T (ltb x z) → T (all (ltb x) ys) → T (all (ltb x) (add z ys))
all-add x z [] h k = and_both (ltb x z) true h tt
all-add x z (y ∷ ys) h k =
    all-add_at (ltb z y) (eqb z y) x z y ys h k (all-add x z ys h (and_right (ltb x y) (all (ltb x) ys) k))

pub below_all : (z y : ℕ) (ys : List ℕ) → z < y → T (all (ltb y) ys) → T (all (ltb z) (y ∷ ys))
below_all z y ys l h =
    and_both (ltb z y) (all (ltb z) ys) (lt→ltb z y l) (all_imp (ltb y) (ltb z) (λ x i. lt→ltb z x (omega (arith, ltb→lt y x i))) ys h)

ascending-add_at : (a b : Bool) (z y : ℕ) (ys : List ℕ) → ltb z y ≡ a → eqb z y ≡ b → T (ascending_numbers (y ∷ ys))
    → T (ascending_numbers (add z ys)) → T (ascending_numbers (add_at a b z y ys (add z ys)))
ascending-add_at true b z y ys c d h i =
    and_both (all (ltb z) (y ∷ ys)) (ascending_numbers (y ∷ ys))
    (below_all z y ys (ltb→lt z y (rw c tt)) (and_left (all (ltb y) ys) (ascending_numbers ys) h)) h
ascending-add_at false true z y ys c d h i = h
ascending-add_at false false z y ys c d h i =
    let n : z ≡ y → ⊥ = eqb-false z y d in
    let l : y < z = omega (arith, ltb-false z y c) in
    and_both (all (ltb y) (add z ys)) (ascending_numbers (add z ys))
    (all-add y z ys (lt→ltb y z l) (and_left (all (ltb y) ys) (ascending_numbers ys) h)) i

pub ascending-add : (z : ℕ) (zs : List ℕ) → T (ascending_numbers zs) → T (ascending_numbers (add z zs))
ascending-add z [] h = tt
ascending-add z (y ∷ ys) h =
    ascending-add_at (ltb z y) (eqb z y) z y ys refl refl h (ascending-add z ys (and_right (all (ltb y) ys) (ascending_numbers ys) h))

any-add_at : (a b : Bool) (x z y : ℕ) (ys : List ℕ) → eqb z y ≡ b → any (eqb x) (add z ys) ≡ (eqb x z || any (eqb x) ys)
    → any (eqb x) (add_at a b z y ys (add z ys)) ≡ (eqb x z || (eqb x y || any (eqb x) ys))
any-add_at true b x z y ys c ih = refl
any-add_at false true x z y ys c ih = rw (eqb-true z y c) (sym (or_self_left (eqb x y) (any (eqb x) ys)))
any-add_at false false x z y ys c ih = rw ih (or_swap (eqb x y) (eqb x z) (any (eqb x) ys))

pub any-add : (x z : ℕ) (zs : List ℕ) → any (eqb x) (add z zs) ≡ (eqb x z || any (eqb x) zs)
any-add x z [] = refl
any-add x z (y ∷ ys) = any-add_at (ltb z y) (eqb z y) x z y ys refl (any-add x z ys)

-- ---- zones_of

ascending-add_side : (s : Side) (zs : List ℕ) → T (ascending_numbers zs) → T (ascending_numbers (add_side s zs))
ascending-add_side (to_node i) zs h = h
ascending-add_side no_data zs h = h
ascending-add_side (to_zone z) zs h = ascending-add z zs h

-- "ascending, each once"
pub ascending-zones_of : (fs : List Fork) → T (ascending_numbers (zones_of fs))
ascending-zones_of [] = tt
ascending-zones_of (f ∷ fs) =
    ascending-add_side f.left (add_side f.right (zones_of fs)) (ascending-add_side f.right (zones_of fs) (ascending-zones_of fs))

any-add_side : (x : ℕ) (s : Side) (zs : List ℕ) → any (eqb x) (add_side s zs) ≡ (uses x s || any (eqb x) zs)
any-add_side x (to_node i) zs = refl
any-add_side x no_data zs = refl
any-add_side x (to_zone z) zs = any-add x z zs

-- "the different zone numbers that some record uses"
pub any-zones_of : (z : ℕ) (fs : List Fork) → any (eqb z) (zones_of fs) ≡ any (used_by z) fs
any-zones_of z [] = refl
any-zones_of z (f ∷ fs) =
    any-add_side z f.left (add_side f.right (zones_of fs))
    ∙ ap (λ (b : Bool). uses z f.left || b) (any-add_side z f.right (zones_of fs) ∙ ap (λ (b : Bool). uses z f.right || b) (any-zones_of z fs))
    ∙ sym (or_assoc (uses z f.left) (uses z f.right) (any (used_by z) fs))

-- the same of the list itself
pub mem-zones_of : (z : ℕ) (fs : List Fork) → Memᴰ z (zones_of fs) → (f : Fork) × Memᴰ f fs × T (used_by z f)
mem-zones_of z fs i =
    any_mem (used_by z) fs (true-T (any (used_by z) fs) (sym (any-zones_of z fs) ∙ T_true (any (eqb z) (zones_of fs)) (mem-any (eqb z) (zones_of fs) z i (eqb_refl z))))

pub zones_of_mem : (z : ℕ) (fs : List Fork) (f : Fork) → Memᴰ f fs → T (used_by z f) → Memᴰ z (zones_of fs)
zones_of_mem z fs f i h =
    let w = any_mem (eqb z) (zones_of fs) (true-T (any (eqb z) (zones_of fs)) (any-zones_of z fs ∙ T_true (any (used_by z) fs) (mem-any (used_by z) fs f i h))) in
    rw (eqb→eq z w.0 w.2) w.1

-- ---- offset

drop-offset_at : (b : Bool) (y z : ℕ) (ys : List ℕ) → eqb y z ≡ b → Memᴰ z (y ∷ ys)
    → (Memᴰ z ys → drop (offset ys z) (data_of ys) ≡ uint32 z ++ drop (offset ys z + length (uint32 z)) (data_of ys))
    → drop (cond b 0 (length (uint32 y) + offset ys z)) (uint32 y ++ data_of ys)
    ≡ uint32 z ++ drop (cond b 0 (length (uint32 y) + offset ys z) + length (uint32 z)) (uint32 y ++ data_of ys)
drop-offset_at true y z ys c i ih = rw (eqb-true y z c, zero-add, drop-append_seam)
drop-offset_at false y z ys c (Memᴰ.head e) ih = absurd (eqb-false y z c (sym e))
drop-offset_at false y z ys c (Memᴰ.tail i) ih = simp (add_assoc, drop-append-add) (ih i)

-- the entry of a number starts at its offset
pub drop-offset : (z : ℕ) (zs : List ℕ) → Memᴰ z zs
    → drop (offset zs z) (data_of zs) ≡ uint32 z ++ drop (offset zs z + length (uint32 z)) (data_of zs)
unfolding data_of
drop-offset z (y ∷ ys) i = drop-offset_at (eqb y z) y z ys refl i (drop-offset z ys)
drop-offset z [] i = elim i [ ]

pub take-offset : (z : ℕ) (zs : List ℕ) → Memᴰ z zs → take (length (uint32 z)) (drop (offset zs z) (data_of zs)) ≡ uint32 z
take-offset z zs i = rw (drop-offset z zs i) (take-append_seam (uint32 z) (drop (offset zs z + length (uint32 z)) (data_of zs)))

pub one_byte : (z : ℕ) → 1 ≤ length (uint32 z)
unfolding uint32
one_byte z = omega arith

-- the whole entry is inside
pub offset-le : (z : ℕ) (zs : List ℕ) → Memᴰ z zs → offset zs z + length (uint32 z) ≤ length (data_of zs)
offset-le z zs i = omega (arith, one_byte z, simp (length-append, length-drop) at (ap length (drop-offset z zs i)))

pub offset-lt : (z : ℕ) (zs : List ℕ) → Memᴰ z zs → offset zs z < length (data_of zs)
offset-lt z zs i = omega (arith, one_byte z, offset-le z zs i)
