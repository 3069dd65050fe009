-- The nodes of an image stand in the bytes in the order that the checker follows: where the records of a part
-- of the tree are those of a trie, the checker's walk of it ends behind its last node.
-- No contract cites this file.
--   Stands bs n zs i t   the records from the node i on are those of the forks of t, of n nodes in all
--   Zoned zs t           the zone numbers of the leaves are in zs
--   Inner t              every fork but the top has a leaf with a number below it
-- Assumes nothing.
use Prim.Native.Nat.{ℕ, zero, suc, ◌+◌, ◌*◌, ◌≤◌, ◌<◌}
use native.Mathlib.Nat.{add-zero}
use native.Mathlib.Numerals.{add-one}
use native.Mathlib.Omega.{arith}
use mathlib.Core.Path.{◌≡◌, refl, ap}
use mathlib.Core.Bool.{true, ◌||◌}
use mathlib.Core.List.{List, Memᴰ}
use mathlib.Core.Option.{none, some}
use lib.ListN.{length}
use borrow.Author.Tests.{lt-ltb, le-ltb, le-leb, eq-eqb, ne_eqb}
use Rattle.std.specs.Prelude.{Option}
use Rattle.bits.proofs.ListsLaws.{T_true}
use Rattle.image.specs.Image.{data_of, offset, record_of}
use Rattle.image.specs.Tries.{Trie, leaf, fork, size, ref}
use Rattle.image.proofs.ZonesLaws.{offset-lt}
use Rattle.image.proofs.WholeLaws.{live, Solid, Whole, depth}
use Rattle.image_verify.specs.Verifying.{record_no, side_on, below_on, whole, tree_on}
use Rattle.image_verify.specs.declared.Numbered.{Numbered}
use Rattle.image_verify.proofs.Forms.{To}

abbrev pub Stands : List ℕ → ℕ → List ℕ → ℕ → Trie → Type 0
Stands bs n zs i (leaf o) = Unit {0}
Stands bs n zs i (fork l r) =
    (record_no bs (2 * i) ≡ record_of n zs (ref (suc i) l)) × (record_no bs (2 * i + 1) ≡ record_of n zs (ref (suc i + size l) r))
    × Stands bs n zs (suc i) l × Stands bs n zs (suc i + size l) r

abbrev pub Zoned : List ℕ → Trie → Type 0
Zoned zs (leaf none) = Unit {0}
Zoned zs (leaf (some z)) = Memᴰ z zs
Zoned zs (fork l r) = Zoned zs l × Zoned zs r

abbrev pub Inner : Trie → Type 0
Inner (leaf o) = Unit {0}
Inner (fork l r) = Solid l × Solid r

inner : (t : Trie) → Solid t → Inner t
inner (leaf o) g = tt
inner (fork l r) g = (g.1, g.2)

-- ---- side_on

-- the walk from the node i on ends behind the part t, if that is one
abbrev Goes : (ℕ → Option Numbered) → ℕ → Trie → Type 0
Goes go i (leaf o) = Unit {0}
Goes go i (fork l r) = go i ≡ To (i + size (fork l r)) (live (fork l r))

module _ (go : ℕ → Option Numbered) (n : ℕ) (zs : List ℕ) where
  side_on-ref : (next : ℕ) (u : Trie) → next + size u ≤ n → Solid u → Zoned zs u → Goes go next u
      → side_on go n (length (data_of zs)) next (record_of n zs (ref next u)) ≡ To (next + size u) (live u)
  unfolding side_on
  side_on-ref next (leaf none) h g k e = rw (le-ltb n n (omega arith), eq-eqb n n refl, add-zero)
  side_on-ref next (leaf (some z)) h g k e =
      let p : n + 16 + offset zs z < n + 16 + length (data_of zs) = omega (arith, offset-lt z zs k) in
      rw (
        le-ltb (n + 16 + offset zs z) n (omega arith),
        ne_eqb (n + 16 + offset zs z) n (λ q. omega arith),
        le-leb (n + 16) (n + 16 + offset zs z) (omega arith),
        lt-ltb (n + 16 + offset zs z) (n + 16 + length (data_of zs)) p,
        add-zero,
      )
  side_on-ref next (fork l r) h g k e =
      rw (lt-ltb next n (omega arith), eq-eqb next next refl, e, T_true (live l || live r) g.0)

-- ---- below_on

module _ (bs : List ℕ) (n : ℕ) (zs : List ℕ) where
  below-stands : (f i : ℕ) (t : Trie) → depth t ≤ f → i + size t ≤ n → Inner t → Zoned zs t → Stands bs n zs i t
      → Goes (λ j. below_on f bs n (length (data_of zs)) j) i t
  below-stands f i (leaf o) d h g z s = tt
  below-stands zero i (fork l r) d h g z s = absurd (omega arith)
  below-stands (suc f) i (fork l r) d h g z s =
      let go : ℕ → Option Numbered = λ j. below_on f bs n (length (data_of zs)) j in
      rw (
        add-one i,
        s.0,
        side_on-ref go n zs (suc i) l (omega arith) g.0 z.0 (below-stands f (suc i) l (omega arith) (omega arith) (inner l g.0) z.0 s.2),
        s.1,
        side_on-ref go n zs (suc i + size l) r (omega arith) g.1 z.1
            (below-stands f (suc i + size l) r (omega arith) (omega arith) (inner r g.1) z.1 s.3),
      )
      (ap (λ (j : ℕ). To j (live l || live r)) (omega arith))

-- ---- tree_on

-- (for every fuel: 128 is never written out)
whole-stands : (bs : List ℕ) (n : ℕ) (zs : List ℕ) (f : ℕ) (t : Trie) → Whole t → depth t ≤ f → size t ≡ n → Zoned zs t → Stands bs n zs 0 t
    → whole n (below_on f bs n (length (data_of zs)) 0) ≡ true
whole-stands bs n zs f (fork l r) g d e z s =
    rw (below-stands bs n zs f 0 (fork l r) d (omega arith) g z s) (eq-eqb (0 + suc (size l + size r)) n (omega arith))
whole-stands bs n zs f (leaf _) g d e z s = elim g [ ]

pub tree_on-stands : (bs : List ℕ) (n : ℕ) (zs : List ℕ) (t : Trie) → Whole t → depth t ≤ 128 → size t ≡ n → Zoned zs t → Stands bs n zs 0 t
    → tree_on bs n (length (data_of zs)) ≡ true
unfolding tree_on
tree_on-stands bs n zs t = whole-stands bs n zs 128 t
