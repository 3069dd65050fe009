-- The laws of the zone numbers that a table's tree uses in an image: they are those of the leaves of the trie
-- that it grows into, which are had node by node. No contract cites this file.
-- Assumes nothing.
use Prim.Native.Nat.{ℕ, suc, ◌+◌, ◌/◌, ◌%◌, ◌<◌, ◌≤◌}
use native.Mathlib.Omega.{arith}
use mathlib.Core.Path.{◌≡◌, refl, sym, ap, ◌∙◌}
use mathlib.Core.Bool.{Bool, true, false, ◌&&◌, ◌||◌}
use mathlib.Core.List.{List, [], ◌∷◌, ◌++◌}
use mathlib.Core.Option.{Option, none, some}
use lib.Dec.{T, eqb, eqb→eq}
use lib.ListN.{length, drop, length-drop}
use borrow.Author.Tests.{lt-ltb, le-ltb, eq-eqb, ne_eqb}
use Rattle.bits.specs.Lists.{any}
use Rattle.bits.specs.Bits.{Bits}
use Rattle.bits.proofs.ListsLaws.{true-T, and_left, and_right, any_append}
use Rattle.zones.specs.Tree.{Tree, tip, node}
use Rattle.records.specs.Layout.{record_at, zone_of}
use Rattle.records.specs.Hanging.{Hangs, HangsNode}
use Rattle.records.specs.declared.Record.{Record}
use Rattle.records.proofs.HangingLaws.{hangs-tip}
use Rattle.image.specs.Image.{zones_of}
use Rattle.image.specs.Tries.{Trie, leaf, fork, size, ref, refs, stalk, nearer, topped, crown, grow}
use Rattle.image.proofs.ZonesLaws.{uses, used_by, any-zones_of}
use Rattle.marks.proofs.MarksLaws.{or_false}
use Rattle.image_blocks.specs.Blocks.{Keeps}
use Rattle.image_blocks.specs.declared.Window.{Window}
use Rattle.image_blocks.specs.declared.kept.Kept.{Kept}
use Rattle.image_blocks.proofs.SortedLaws.{SameNumbers}
use Rattle.image_blocks.proofs.BlocksLaws.{keeps_ext}
use Rattle.image_zones.specs.Used.{used_in, beside, both_end}

-- ---- tests

or-last : (a b : Bool) → (a || b || b) ≡ (a || b)
or-last true b = refl
or-last false true = refl
or-last false false = refl

or_comm : (a b : Bool) → (a || b) ≡ (b || a)
or_comm true true = refl
or_comm true false = refl
or_comm false true = refl
or_comm false false = refl

-- ---- beside

beside_way : (a n : ℕ) (o : Option ℕ) → a < n → beside a n o ≡ used_in (leaf o)
unfolding beside
beside_way a n o l = rw (lt-ltb a n l)

beside_none : (a n : ℕ) (o : Option ℕ) → n ≤ a → beside a n o ≡ []
unfolding beside
beside_none a n o l = rw (le-ltb a n l)

module _ {w : Window} {k : Kept} (ys : List ℕ) (a n : ℕ) (o : Option ℕ) where
  pub keeps_way : a < n → Keeps w k (used_in (leaf o) ++ ys) → Keeps w k (beside a n o ++ ys)
  keeps_way l h = rw (beside_way a n o l) h

  pub keeps_no_way : n ≤ a → Keeps w k ys → Keeps w k (beside a n o ++ ys)
  keeps_no_way l h = rw (beside_none a n o l) h

-- ---- used_in

module _ (z : ℕ) where
  abbrev used : Trie → Bool
  used t = any (eqb z) (used_in t)

  used-fork : (l r : Trie) → used (fork l r) ≡ (used l || used r)
  used-fork l r = any_append (eqb z) (used_in l) (used_in r)

  -- a way of at least one step has leaves beside it
  used-stalk : (x : Bool) (xs : Bits) (o : Option ℕ) (t : Trie) → used (stalk (x ∷ xs) o t) ≡ (used t || used (leaf o))
  used-stalk false [] o t = used-fork t (leaf o)
  used-stalk true [] o t = used-fork (leaf o) t ∙ or_comm (used (leaf o)) (used t)
  used-stalk false (y ∷ ys) o t =
      used-fork (stalk (y ∷ ys) o t) (leaf o) ∙ rw (used-stalk y ys o t) (or-last (used t) (used (leaf o)))
  used-stalk true (y ∷ ys) o t =
      used-fork (leaf o) (stalk (y ∷ ys) o t) ∙ or_comm (used (leaf o)) (used (stalk (y ∷ ys) o t))
      ∙ rw (used-stalk y ys o t) (or-last (used t) (used (leaf o)))

  used_way_at : (s : Bits) (a : ℕ) (o : Option ℕ) (t : Trie) (d : Bits) → drop a s ≡ d
      → used (stalk d o t) ≡ (used t || any (eqb z) (beside a (length s) o))
  used_way_at s a o t [] e =
      let l : length s ≤ a = omega (arith, length-drop a s, ap length e) in
      rw (beside_none a (length s) o l) (sym (or_false (used t)))
  used_way_at s a o t (x ∷ xs) e =
      let l : a < length s = omega (arith, length-drop a s, ap length e) in
      rw (beside_way a (length s) o l) (used-stalk x xs o t)

  used-crown : (o : Option ℕ) (a : ℕ) (l r : Tree ℕ) → used (crown o l r (grow o a l) (grow o a r)) ≡ (used (grow o a l) || used (grow o a r))
  used-crown o a tip tip = sym (or-last false (used (leaf o)))
  used-crown o a tip (node b s v l r) = used-fork (grow {A = ℕ} o a tip) (grow o a (node b s v l r))
  used-crown o a (node b s v l r) t = used-fork (grow o a (node b s v l r)) (grow o a t)

-- a node's zone numbers, from those of its two sides and of the leaves beside the way to it
or_node : (l r b y : Bool) → (r || (l || (b || y))) ≡ (l || r || b || y)
or_node true true b y = refl
or_node true false b y = refl
or_node false true b y = refl
or_node false false b y = refl

any-appends : (z : ℕ) (xs ys zs ws : List ℕ) → any (eqb z) (xs ++ (ys ++ (zs ++ ws))) ≡ (any (eqb z) xs || (any (eqb z) ys || (any (eqb z) zs || any (eqb z) ws)))
any-appends z xs ys zs ws = rw (any_append (eqb z) xs, any_append (eqb z) ys, any_append (eqb z) zs)

used_node : (o : Option ℕ) (a b : ℕ) (s : Bits) (v : Option ℕ) (l r : Tree ℕ) (ys : List ℕ) →
    SameNumbers
    (used_in (grow (nearer v o) (length s + 1) r) ++ (used_in (grow (nearer v o) (length s + 1) l) ++ (beside a (length s) o ++ ys)))
    (used_in (grow o a (node b s v l r)) ++ ys)
used_node o a b s v l r ys z =
    any-appends z (used_in (grow (nearer v o) (length s + 1) r)) (used_in (grow (nearer v o) (length s + 1) l)) (beside a (length s) o) ys
    ∙ or_node (used z (grow (nearer v o) (length s + 1) l)) (used z (grow (nearer v o) (length s + 1) r)) (any (eqb z) (beside a (length s) o)) (any (eqb z) ys)
    ∙ sym (any_append (eqb z) (used_in (grow o a (node b s v l r))) ys
    ∙ rw (
      used_way_at z s a o (crown (nearer v o) l r (grow (nearer v o) (length s + 1) l) (grow (nearer v o) (length s + 1) r)) (drop a s) refl,
      used-crown z (nearer v o) (length s + 1) l r,
    ))

-- a leaf's number twice
used_twice : (o : Option ℕ) (zs : List ℕ) → SameNumbers (used_in (leaf o) ++ zs) (used_in (leaf o) ++ (used_in (leaf o) ++ zs))
used_twice none zs z = refl
used_twice (some y) zs z = or_first (eqb z y) (any (eqb z) zs)
  where
    or_first : (a b : Bool) → (a || b) ≡ (a || (a || b))
    or_first true b = refl
    or_first false b = refl

-- ---- zones_of

or-cross : (a b c d : Bool) → (a || b || (c || d)) ≡ (a || c || (b || d))
or-cross true b c d = refl
or-cross false true c d = sym (or_true c d)
  where
    or_true : (c d : Bool) → (c || (true || d)) ≡ true
    or_true true d = refl
    or_true false d = refl
or-cross false false c d = refl

-- what the side where a trie hangs says, and its own sides
any-refs : (z n : ℕ) (t : Trie) → (uses z (ref n t) || any (used_by z) (refs n t)) ≡ any (eqb z) (used_in t)
any-refs z n (leaf none) = refl
any-refs z n (leaf (some y)) = refl
any-refs z n (fork l r) =
    ap (λ (b : Bool). used_by z (record { left = ref (suc n) l; right = ref (suc n + size l) r }) || b)
    (any_append (used_by z) (refs (suc n) l) (refs (suc n + size l) r))
    ∙ or-cross (uses z (ref (suc n) l)) (uses z (ref (suc n + size l) r)) (any (used_by z) (refs (suc n) l)) (any (used_by z) (refs (suc n + size l) r))
    ∙ rw (any-refs z (suc n) l, any-refs z (suc n + size l) r) (sym (used-fork z l r))

pub used_in-zones_of : (n : ℕ) (l r : Trie) → SameNumbers (used_in (fork l r)) (zones_of (refs n (fork l r)))
used_in-zones_of n l r z = sym (any-zones_of z (refs n (fork l r)) ∙ any-refs z n (fork l r))

-- the whole trie, whose top is a fork
pub used_in-topped : (t : Trie) → SameNumbers (used_in t) (zones_of (refs 0 (topped t)))
used_in-topped (leaf o) z = sym (used-fork z (leaf o) (leaf o) ∙ or-last false (used z (leaf o))) ∙ used_in-zones_of 0 (leaf o) (leaf o) z
used_in-topped (fork l r) z = used_in-zones_of 0 l r z

-- ---- nearer

pub nearer-own : (x : Record) (o : Option ℕ) → x.tag % 2 ≡ 1 → some x.zone ≡ nearer (zone_of x) o
unfolding zone_of
nearer-own x o e = rw (eq-eqb (x.tag % 2) 1 e)

pub nearer_above : (x : Record) (o : Option ℕ) → (x.tag % 2 ≡ 1 → ⊥) → o ≡ nearer (zone_of x) o
unfolding zone_of
nearer_above x o n = rw (ne_eqb (x.tag % 2) 1 n)

-- ---- a part of a table

pub keeps-tip : {w : Window} {k : Kept} (ys : List ℕ) (o : Option ℕ) (a : ℕ) (t : Tree ℕ) → t ≡ tip
    → Keeps w k (used_in (leaf o) ++ ys) → Keeps w k (used_in (grow o a t) ++ ys)
keeps-tip ys o a t e h = rw e h

module _ {ws : List ℕ} {l a : ℕ} {t : Tree ℕ} (h : HangsNode ws l a t) (x : Record) (e : x ≡ record_at ws l) where
  width_is : x.tag / 2 ≡ length h.string
  width_is = rw e h.width

  -- each side starts below the width from which the node's part started
  pub deeper : (a ≤ x.tag / 2) × (x.tag / 2 ≤ 128)
  deeper = rw width_is (h.low, h.high)

  pub hangs_left : Hangs ws x.left (x.tag / 2 + 1) h.left
  hangs_left = rw (width_is, e) h.hangs_left

  pub hangs_right : Hangs ws x.right (x.tag / 2 + 1) h.right
  hangs_right = rw (width_is, e) h.hangs_right

  pub keeps_node : {w : Window} {k : Kept} (ys : List ℕ) (o own : Option ℕ) → own ≡ nearer (zone_of x) o
      → Keeps w k (used_in (grow own (x.tag / 2 + 1) h.right)
      ++ (used_in (grow own (x.tag / 2 + 1) h.left) ++ (beside a (x.tag / 2) o ++ ys)))
      → Keeps w k (used_in (grow o a t) ++ ys)
  keeps_node {w} {k} ys o own f q =
      let d : ℕ = length h.string + 1 in
      let own_is : own ≡ nearer h.zone o = f ∙ ap (λ (v : Option ℕ). nearer v o) (ap zone_of e ∙ h.bears.zone) in
      let sides : Keeps w k (used_in (grow (nearer h.zone o) d h.right) ++ (used_in (grow (nearer h.zone o) d h.left)
      ++ (beside a (length h.string) o ++ ys))) = rw (own_is, width_is) at q in
      rw h.is_node (keeps_ext sides _ (used_node o a l h.string h.zone h.left h.right ys))

  -- nothing is stored below the node: its two sides are leaves that hold its own zone or the one above it
  pub keeps_end : {w : Window} {k : Kept} (ys : List ℕ) (o own : Option ℕ) (b : Bool) → own ≡ nearer (zone_of x) o → b ≡ both_end x → b ≡ true
      → Keeps w k (used_in (leaf own) ++ (beside a (x.tag / 2) o ++ ys)) → Keeps w k (used_in (grow o a t) ++ ys)
  unfolding both_end
  keeps_end ys o own b f q e s =
      let none : T (eqb x.left 0 && eqb x.right 0) = true-T (eqb x.left 0 && eqb x.right 0) (sym q ∙ e) in
      let left = eqb→eq x.left 0 (and_left (eqb x.left 0) (eqb x.right 0) none) in
      let right = eqb→eq x.right 0 (and_right (eqb x.left 0) (eqb x.right 0) none) in
      keeps_node ys o own f
      (rw (hangs-tip _ _ _ _ hangs_left left, hangs-tip _ _ _ _ hangs_right right) (keeps_ext s _ (used_twice own (beside a (x.tag / 2) o ++ ys))))
