-- The laws of the search tree's bytes: those of a stalk and of a fork, and what they mean to the records that
-- the writer has in hand. No contract cites this file.
-- Assumes nothing.
use Prim.Native.Nat.{ℕ, suc, ◌+◌, ◌*◌}
use native.Mathlib.Numerals.{add-one}
use native.Mathlib.Omega.{arith}
use mathlib.Core.Path.{◌≡◌, refl, sym, ap, ◌∙◌}
use mathlib.Core.Bool.{true, false}
use mathlib.Core.List.Memᴰ
use mathlib.Core.List.{List, [], ◌∷◌, ◌++◌, append_assoc, append-nil}
use mathlib.Core.Option.{Option, none, some}
use lib.ListN.{length}
use lib.Seq.{sets}
use Rattle.bits.specs.Bits.{Bits}
use Rattle.image.specs.Image.{size24, Fork, record_of, node_bytes, tree_bytes}
use Rattle.image.specs.Tries.{Trie, leaf, fork, size, side_of, ref, refs, stalk}
use Rattle.image.proofs.LengthLaws.{length-tree_bytes}
use Rattle.image.proofs.PreorderLaws.{length-refs}
use Rattle.image.proofs.SetsLaws.{sets-before, sets-after}
use Rattle.image_zones.specs.Used.{used_in}
use Rattle.image_write.specs.Stalks.{way_in, stalk_bytes}
use Rattle.image_write.specs.Parts.{Reaches, Uses}

-- ---- Uses

pub uses_left : (zs : List ℕ) (l r : Trie) → Uses zs (fork l r) → Uses zs l
uses_left zs l r u z i = u z (Memᴰ.append_left (used_in r) i)

pub uses_right : (zs : List ℕ) (l r : Trie) → Uses zs (fork l r) → Uses zs r
uses_right zs l r u z i = u z (Memᴰ.append_right (used_in l) i)

pub uses-stalk : (zs : List ℕ) (xs : Bits) (o : Option ℕ) (t : Trie) → Uses zs (stalk xs o t) → Uses zs t
uses-stalk zs [] o t u = u
uses-stalk zs (false ∷ xs) o t u = uses-stalk zs xs o t (uses_left zs (stalk xs o t) (leaf o) u)
uses-stalk zs (true ∷ xs) o t u = uses-stalk zs xs o t (uses_right zs (leaf o) (stalk xs o t) u)

-- the record in hand is the leaf's
pub reaches-leaf : (n : ℕ) (zs : List ℕ) (o : Option ℕ) (r : ℕ) → Reaches n zs o r → Uses zs (leaf o) → r ≡ record_of n zs (side_of o)
reaches-leaf n zs none r h u = h
reaches-leaf n zs (some z) r h u = h (u z (Memᴰ.head refl))

-- ---- tree_bytes

module _ (n : ℕ) (zs : List ℕ) where
  -- the bytes of a trie whose top has the number m
  abbrev pub bytes_from : ℕ → Trie → List ℕ
  bytes_from m t = tree_bytes size24 n zs (refs m t)

  abbrev pub record_to : ℕ → Trie → ℕ
  record_to m t = record_of n zs (ref m t)

  pub length-bytes_from : (m : ℕ) (t : Trie) → length (bytes_from m t) ≡ 6 * size t
  length-bytes_from m t = length-tree_bytes size24 n zs (refs m t) ∙ rw (length-refs m t)

  tree_bytes-append : (xs ys : List Fork) → tree_bytes size24 n zs (xs ++ ys) ≡ tree_bytes size24 n zs xs ++ tree_bytes size24 n zs ys
  unfolding tree_bytes
  tree_bytes-append [] ys = refl
  tree_bytes-append (f ∷ xs) ys =
      let fb : List ℕ = node_bytes size24 (record_of n zs f.left) (record_of n zs f.right) in
      ap (λ (l : List ℕ). fb ++ l) (tree_bytes-append xs ys)
      ∙ sym (append_assoc fb (tree_bytes size24 n zs xs) (tree_bytes size24 n zs ys))

  tree_bytes-nil : tree_bytes size24 n zs [] ≡ []
  unfolding tree_bytes
  tree_bytes-nil = refl

  tree_bytes_cons : (f : Fork) (fs : List Fork)
      → tree_bytes size24 n zs (f ∷ fs) ≡ node_bytes size24 (record_of n zs f.left) (record_of n zs f.right) ++ tree_bytes size24 n zs fs
  unfolding tree_bytes
  tree_bytes_cons f fs = refl

  pub bytes_from-leaf : (m : ℕ) (o : Option ℕ) → bytes_from m (leaf o) ≡ []
  bytes_from-leaf m o = tree_bytes-nil

  pub bytes_from-fork : (m : ℕ) (l r : Trie) → bytes_from m (fork l r)
      ≡ node_bytes size24 (record_to (suc m) l) (record_to (suc m + size l) r) ++ (bytes_from (suc m) l ++ bytes_from (suc m + size l) r)
  bytes_from-fork m l r =
      tree_bytes_cons (record { left = ref (suc m) l; right = ref (suc m + size l) r }) (refs (suc m) l ++ refs (suc m + size l) r)
      ∙ ap (λ (b : List ℕ). node_bytes size24 (record_to (suc m) l) (record_to (suc m + size l) r) ++ b)
      (tree_bytes-append (refs (suc m) l) (refs (suc m + size l) r))

  -- ---- stalk

  module _ (o : Option ℕ) (above : ℕ) (h : Reaches n zs o above) (t : Trie) (tip : ℕ) where
    pub record_to-stalk : (xs : Bits) (m : ℕ) → tip ≡ record_to (m + length xs) t → way_in xs m tip ≡ record_to m (stalk xs o t)
    record_to-stalk [] m e = let z : m + 0 ≡ m = omega arith in e ∙ ap (λ (k : ℕ). record_to k t) z
    record_to-stalk (false ∷ xs) m e = refl
    record_to-stalk (true ∷ xs) m e = refl

    pub bytes_from-stalk : (xs : Bits) (m : ℕ) → tip ≡ record_to (m + length xs) t → Uses zs (stalk xs o t)
        → bytes_from m (stalk xs o t) ≡ stalk_bytes xs m above tip ++ bytes_from (m + length xs) t
    bytes_from-stalk [] m e u = let z : m ≡ m + 0 = omega arith in ap (λ (k : ℕ). bytes_from k t) z
    bytes_from-stalk (false ∷ xs) m e u =
        let z : m + suc (length xs) ≡ suc m + length xs = omega arith in
        let d : tip ≡ record_to (suc m + length xs) t = e ∙ ap (λ (k : ℕ). record_to k t) z in
        bytes_from-fork m (stalk xs o t) (leaf o)
        ∙ rw (
          bytes_from-leaf,
          append-nil,
          bytes_from-stalk xs (suc m) d (uses_left zs (stalk xs o t) (leaf o) u),
          ← record_to-stalk xs (suc m) d,
          ← reaches-leaf n zs o above h (uses_right zs (stalk xs o t) (leaf o) u),
          z,
        )
    bytes_from-stalk (true ∷ xs) m e u =
        let z : m + suc (length xs) ≡ suc m + length xs = omega arith in
        let y : suc m + 0 ≡ suc m = omega arith in
        let d : tip ≡ record_to (suc m + length xs) t = e ∙ ap (λ (k : ℕ). record_to k t) z in
        bytes_from-fork m (leaf o) (stalk xs o t)
        ∙ rw (
          bytes_from-leaf,
          y,
          bytes_from-stalk xs (suc m) d (uses_right zs (leaf o) (stalk xs o t) u),
          ← record_to-stalk xs (suc m) d,
          ← reaches-leaf n zs o above h (uses_left zs (leaf o) (stalk xs o t) u),
          z,
        )

  -- ---- a fork's two parts first, then its own node, then the way to it

  module _ (out out1 out2 out3 : List ℕ) (own x y : ℕ) (l r : Trie) (e1 : out1 ≡ sets out (6 * (own + 1)) (bytes_from (own + 1) l))
      (e2 : out2 ≡ sets out1 (6 * (own + 1 + size l)) (bytes_from (own + 1 + size l) r)) (ex : x ≡ record_to (own + 1) l)
      (ey : y ≡ record_to (own + 1 + size l) r) (e3 : out3 ≡ sets out2 (6 * own) (node_bytes size24 x y)) where
    both : out2 ≡ sets out (6 * (own + 1)) (bytes_from (own + 1) l ++ bytes_from (own + 1 + size l) r)
    both =
        e2 ∙ rw e1 (sets-after out (6 * (own + 1)) (bytes_from (own + 1) l) (6 * (own + 1 + size l)) (bytes_from (own + 1 + size l) r)
        (omega (arith, length-bytes_from (own + 1) l)))

    pub sets-forked : out3 ≡ sets out (6 * own) (bytes_from own (fork l r))
    sets-forked =
        e3
        ∙ rw (both, ex, ey, bytes_from-fork own l r, add-one own)
        (sets-before out (6 * own) (node_bytes size24 (record_to (suc own) l) (record_to (suc own + size l) r)) (6 * suc own)
        (bytes_from (suc own) l ++ bytes_from (suc own + size l) r) (omega arith))
