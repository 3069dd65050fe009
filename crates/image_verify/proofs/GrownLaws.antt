-- Where the checker's walk of a part of the tree comes to an end, the records there are those of a trie.
-- No contract cites this file.
--   Spelled    a record, and the nodes that hang at it, are a trie
--   Grown      a node and what hangs at its two records are a trie
--   Tree       all nodes are
--   Known      a record that means data means the entry of a known number
-- Assumes nothing.
use Prim.Native.Nat.{ℕ, zero, suc, ◌+◌, ◌*◌, ◌≤◌, ◌<◌}
use native.Mathlib.Numerals.{add-one}
use native.Mathlib.Omega.{arith}
use mathlib.Core.Path.{ap, ◌∙◌, ◌≡◌, refl, sym, subst}
use mathlib.Core.Bool.{Bool, true, false, ◌&&◌, ◌||◌, cond}
use mathlib.Core.List.{List, Memᴰ}
use mathlib.Core.Option.{none, some}
use lib.Dec.{T, leb, ltb, eqb, eqb→eq}
use borrow.Author.Tests.{leb-true, ltb-true, eqb-true}
use Rattle.std.specs.Prelude.{Option, Some, None}
use Rattle.bits.proofs.ListsLaws.{true-T}
use Rattle.image.specs.Image.{offset, record_of}
use Rattle.image.specs.Tries.{Trie, leaf, fork, size, ref}
use Rattle.image.proofs.WholeLaws.{live, Solid, Whole, depth}
use Rattle.image_verify.specs.Verifying.{record_no, alive, side_on, then_on, below_on, whole, tree_on}
use Rattle.image_verify.specs.declared.Numbered.{Numbered}
use Rattle.image_verify.proofs.StandsLaws.{Stands, Zoned}
use Rattle.image_verify.proofs.Forms.{To, to_same}

-- the record r, with the nodes from the number i to before j below it; b says whether some data hangs there
record Spelled (bs : List ℕ) (n : ℕ) (zs : List ℕ) (f i r j : ℕ) (b : Bool) : Type 0 where
  trie : Trie
  says : r ≡ record_of n zs (ref i trie)
  stands : Stands bs n zs i trie
  solid : Solid trie
  zoned : Zoned zs trie
  lives : live trie ≡ b
  shallow : depth trie ≤ f
  counts : i + size trie ≡ j

-- the nodes from i to before j
record Grown (bs : List ℕ) (n : ℕ) (zs : List ℕ) (f i j : ℕ) (b : Bool) : Type 0 where
  left : Trie
  right : Trie
  stands : Stands bs n zs i (fork left right)
  solid_left : Solid left
  solid_right : Solid right
  zoned : Zoned zs (fork left right)
  lives : live (fork left right) ≡ b
  shallow : depth (fork left right) ≤ f
  counts : i + size (fork left right) ≡ j

-- all n nodes are a whole trie
pub record Tree (bs : List ℕ) (n : ℕ) (zs : List ℕ) (f : ℕ) : Type 0 where
  pub trie : Trie
  pub whole_is : Whole trie
  pub stands : Stands bs n zs 0 trie
  pub zoned : Zoned zs trie
  pub shallow : depth trie ≤ f
  pub counts : size trie ≡ n

-- the record r, if it means data, means the entry of a number of zs
abbrev pub Known : ℕ → ℕ → List ℕ → ℕ → Type 0
Known n d zs r = n + 16 ≤ r → r < n + 16 + d → (z : ℕ) × Memᴰ z zs × (r ≡ n + 16 + offset zs z)

-- ---- side_on

never : (j : ℕ) (b : Bool) → None ≡ To j b → ⊥
never j b e = let z : ◌≡◌ {A = ℕ} 0 1 = cc in omega arith

module _ (bs : List ℕ) (n d : ℕ) (zs : List ℕ) (f : ℕ) where
  -- the next node, with some data below it
  spelled_grown : (i r j : ℕ) → r ≡ i → Grown bs n zs f i j true → Spelled bs n zs f i r j true
  spelled_grown i r j q g = record {
    trie = fork g.left g.right;
    says = q;
    stands = g.stands;
    solid = (true-T (live g.left || live g.right) g.lives, g.solid_left, g.solid_right);
    zoned = g.zoned;
    lives = g.lives;
    shallow = g.shallow;
    counts = g.counts;
  }

  spelled_node : (i r j : ℕ) (b : Bool) (a : Option Numbered) → r ≡ i → ((k : ℕ) (c : Bool) → a ≡ To k c → Grown bs n zs f i k c)
      → alive a ≡ To j b → Spelled bs n zs f i r j b
  spelled_node i r j b None q g e = absurd (never j b e)
  spelled_node i r j b (Some x) q g e = at x.has_data refl e
    where
      at : (t : Bool) → x.has_data ≡ t → cond t (Some x) None ≡ To j b → Spelled bs n zs f i r j b
      at true h e =
          let w = to_same x.next j true b (ap (To x.next) (sym h) ∙ e) in
          rw (← w.0, ← w.1) (spelled_grown i r x.next q (g x.next true (ap (To x.next) h)))
      at false h e = absurd (never j b e)

  spelled_none : (i j : ℕ) (b : Bool) → To i false ≡ To j b → Spelled bs n zs f i n j b
  spelled_none i j b e =
      let w = to_same i j false b e in
      record { trie = leaf none; says = refl; stands = tt; solid = tt; zoned = tt; lives = w.1; shallow = omega arith; counts = omega arith }

  spelled-zone : (i r j : ℕ) (b : Bool) → (z : ℕ) × Memᴰ z zs × (r ≡ n + 16 + offset zs z) → To i true ≡ To j b
      → Spelled bs n zs f i r j b
  spelled-zone i r j b w e =
      let u = to_same i j true b e in
      record { trie = leaf (some w.0); says = w.2; stands = tt; solid = tt; zoned = w.1; lives = u.1; shallow = omega arith; counts = omega arith }

  -- by the test of the bounds of a data record
  spelled-data : (i r j : ℕ) (b : Bool) → Known n d zs r → (x y : Bool) → leb (n + 16) r ≡ x → ltb r (n + 16 + d) ≡ y
      → cond (x && y) (To i true) None ≡ To j b → Spelled bs n zs f i r j b
  spelled-data i r j b known true true p q e = spelled-zone i r j b (known (leb-true (n + 16) r p) (ltb-true r (n + 16 + d) q)) e
  spelled-data i r j b known true false p q e = absurd (never j b e)
  spelled-data i r j b known false y p q e = absurd (never j b e)

  side_on-spelled : (go : ℕ → Option Numbered) (i r j : ℕ) (b : Bool) → Known n d zs r
      → ((k : ℕ) (c : Bool) → i < n → go i ≡ To k c → Grown bs n zs f i k c)
      → side_on go n d i r ≡ To j b → Spelled bs n zs f i r j b
  unfolding side_on
  side_on-spelled go i r j b known g e = at (ltb r n) (eqb r i) (eqb r n) refl refl refl e
    where
      data-test : Bool
      data-test = leb (n + 16) r && ltb r (n + 16 + d)

      at : (a c x : Bool) → ltb r n ≡ a → eqb r i ≡ c → eqb r n ≡ x
          → cond a (cond c (alive (go i)) None) (cond x (To i false) (cond data-test (To i true) None)) ≡ To j b
          → Spelled bs n zs f i r j b
      at true true x p q u e = let s = eqb-true r i q in spelled_node i r j b (go i) s (λ k c. g k c (omega (arith, ltb-true r n p))) e
      at true false x p q u e = absurd (never j b e)
      at false c true p q u e = subst (λ (k : ℕ). Spelled bs n zs f i k j b) (sym (eqb-true r n u)) (spelled_none i j b e)
      at false c false p q u e = spelled-data i r j b known (leb (n + 16) r) (ltb r (n + 16 + d)) refl refl e

  -- ---- below_on

  grown_both : (i k j : ℕ) (a b : Bool) → Spelled bs n zs f (suc i) (record_no bs (2 * i)) k a → Spelled bs n zs f k (record_no bs (2 * i + 1)) j b
      → Grown bs n zs (suc f) i j (a || b)
  grown_both i k j a b p q =
      let u = subst (λ (x : ℕ). Spelled bs n zs f x (record_no bs (2 * i + 1)) j b) (sym p.counts) q in
      record {
        left = p.trie;
        right = u.trie;
        stands = (p.says, u.says, p.stands, u.stands);
        solid_left = p.solid;
        solid_right = u.solid;
        zoned = (p.zoned, u.zoned);
        lives = rw (p.lives, u.lives);
        shallow = omega (arith, p.shallow, u.shallow);
        counts = omega (arith, u.counts);
      }

-- record m as a side, whose node, if it is one, has the number k
abbrev side_from : List ℕ → ℕ → ℕ → ℕ → ℕ → ℕ → Option Numbered
side_from bs n d f k m = side_on (λ j. below_on f bs n d j) n d k (record_no bs m)

module _ (bs : List ℕ) (n d : ℕ) (zs : List ℕ) (known : (k : ℕ) → k < 2 * n → Known n d zs (record_no bs k)) where
  -- a node's two records, one after the other
  module _ (f i : ℕ) (h : i < n) (below : (k j : ℕ) (b : Bool) → k < n → below_on f bs n d k ≡ To j b → Grown bs n zs f k j b) where
    then_second : (j k : ℕ) (a b : Bool) → Spelled bs n zs f (suc i) (record_no bs (2 * i)) k a → (q : Option Numbered) → side_from bs n d f k (2 * i + 1) ≡ q
        → then_on q (λ last c. To last (a || c)) ≡ To j b → Grown bs n zs (suc f) i j b
    then_second j k a b p None u v = absurd (never j b v)
    then_second j k a b p (Some x) u v =
        let m : ℕ = x.next in
        let c : Bool = x.has_data in
        let w = to_same m j (a || c) b v in
        let q = side_on-spelled bs n d zs f (λ x. below_on f bs n d x) k (record_no bs (2 * i + 1)) m c (known (2 * i + 1) (omega arith)) (below k) u in
        rw (← w.0, ← w.1) (grown_both bs n d zs f i k m a c p q)

    then_first : (j : ℕ) (b : Bool) (p : Option Numbered) → side_from bs n d f (suc i) (2 * i) ≡ p
        → then_on p (λ next a. then_on (side_from bs n d f next (2 * i + 1)) (λ last c. To last (a || c))) ≡ To j b → Grown bs n zs (suc f) i j b
    then_first j b None u v = absurd (never j b v)
    then_first j b (Some x) u v =
        let k : ℕ = x.next in
        let a : Bool = x.has_data in
        let p = side_on-spelled bs n d zs f (λ x. below_on f bs n d x) (suc i) (record_no bs (2 * i)) k a (known (2 * i) (omega arith)) (below (suc i)) u in
        then_second j k a b p (side_from bs n d f k (2 * i + 1)) refl v

  below_on_grown : (f i j : ℕ) (b : Bool) → i < n → below_on f bs n d i ≡ To j b → Grown bs n zs f i j b
  below_on_grown zero i j b h e = absurd (never j b e)
  below_on_grown (suc f) i j b h e = then_first f i h (below_on_grown f) j b (side_from bs n d f (suc i) (2 * i)) refl (rw (add-one i) at e)

  -- ---- tree_on

  whole-tree : (f : ℕ) → 0 < n → (p : Option Numbered) → below_on f bs n d 0 ≡ p → T (whole n p) → Tree bs n zs f
  whole-tree f z (Some x) e h =
      let j : ℕ = x.next in
      let b : Bool = x.has_data in
      let g = below_on_grown f 0 j b z e in
      record {
        trie = fork g.left g.right;
        whole_is = (g.solid_left, g.solid_right);
        stands = g.stands;
        zoned = g.zoned;
        shallow = g.shallow;
        counts = omega (arith, g.counts, eqb→eq j n h);
      }
  whole-tree f z None e h = elim h [ ]

  pub tree_on-tree : 0 < n → T (tree_on bs n d) → Tree bs n zs 128
  unfolding tree_on
  tree_on-tree z h = whole-tree 128 z (below_on 128 bs n d 0) refl h
