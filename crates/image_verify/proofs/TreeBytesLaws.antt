-- The bytes of the search tree: those of a trie's forks stand there exactly if its records do.
-- No contract cites this file.
-- Assumes nothing.
use Prim.Native.Nat.{ℕ, suc, ◌+◌, ◌*◌, ◌^◌, ◌≤◌, ◌<◌}
use native.Mathlib.Nat.{add-zero}
use native.Mathlib.Omega.{arith}
use mathlib.Core.Path.{◌≡◌, refl, sym, ap, ◌∙◌}
use mathlib.Core.Bool.{Bool, ◌&&◌}
use mathlib.Core.List.{List, [], ◌∷◌, ◌++◌, append_assoc}
use lib.Dec.{T, ltb, ltb→lt, lt→ltb}
use lib.ListN.{length, take, drop, length-take, length-drop, take-append-drop}
use lib.Seq.{take_at, drop_at, drop-drop}
use Rattle.bits.specs.Lists.{all}
use Rattle.bits.proofs.ListsLaws.{and_left, and_right, and_both}
use Rattle.image.specs.Bytes.{bytes_of}
use Rattle.image.specs.Image.{size24, Fork, record_of, tree_bytes, fits_in}
use Rattle.image.specs.Tries.{Trie, leaf, fork, size, ref, refs}
use Rattle.image.proofs.LengthLaws.{length-tree_bytes}
use Rattle.image.proofs.PreorderLaws.{length-refs}
use Rattle.metadata.specs.Frames.{value_of, number_at}
use Rattle.metadata.proofs.ValueLaws.{value_of-bytes_of, bytes_of-value_of, all-take-drop, number_at-lt}
use Rattle.image_verify.specs.Verifying.{record_no}
use Rattle.image_verify.proofs.StandsLaws.{Stands}

-- ---- lists

pub drop_past : (bs : List ℕ) (a b : ℕ) (xs ys : List ℕ) → drop a bs ≡ xs ++ ys → a + length xs ≡ b → drop b bs ≡ ys
drop_past bs a b xs ys d e = ap (λ (k : ℕ). drop k bs) (sym e) ∙ sym (drop-drop (length xs) a bs) ∙ ap (drop (length xs)) d ∙ drop_at xs ys (length xs) refl

all_both : (f : Fork → Bool) (xs ys : List Fork) → T (all f xs) → T (all f ys) → T (all f (xs ++ ys))
all_both f [] ys h k = k
all_both f (x ∷ xs) ys h k = and_both (f x) (all f (xs ++ ys)) (and_left (f x) (all f xs) h) (all_both f xs ys (and_right (f x) (all f xs) h) k)

all_first : (f : Fork → Bool) (xs ys : List Fork) → T (all f (xs ++ ys)) → T (all f xs)
all_first f [] ys h = tt
all_first f (x ∷ xs) ys h = and_both (f x) (all f xs) (and_left (f x) (all f (xs ++ ys)) h) (all_first f xs ys (and_right (f x) (all f (xs ++ ys)) h))

all_second : (f : Fork → Bool) (xs ys : List Fork) → T (all f (xs ++ ys)) → T (all f ys)
all_second f [] ys h = h
all_second f (x ∷ xs) ys h = all_second f xs ys (and_right (f x) (all f (xs ++ ys)) h)

-- ---- records

-- the byte where record j starts
module _ (bs : List ℕ) (j at : ℕ) (start : at ≡ 3 * j) where
  -- three bytes are the record that they spell
  record_no_bytes : (v : ℕ) (rest : List ℕ) → v < 2 ^ 24 → drop at bs ≡ bytes_of 3 v ++ rest → record_no bs j ≡ v
  unfolding record_no number_at
  record_no_bytes v rest h d =
      ap (λ (k : ℕ). value_of (take 3 (drop k bs))) (sym start) ∙ ap (λ (l : List ℕ). value_of (take 3 l)) d
      ∙ ap value_of (take_at (bytes_of 3 v) rest 3 refl) ∙ value_of-bytes_of 3 v h

  bytes-record_no : (next : ℕ) → T (all (λ b. ltb b 256) bs) → at + 3 ≡ next → next ≤ length bs → drop at bs ≡ bytes_of 3 (record_no bs j) ++ drop next bs
  unfolding record_no number_at
  bytes-record_no next h e l =
      let cs : List ℕ = take 3 (drop at bs) in
      let len : length cs ≡ 3 = simp (length-take, length-drop) (omega arith) in
      let same : bytes_of 3 (value_of cs) ≡ cs =
      ap (λ (k : ℕ). bytes_of k (value_of cs)) (sym len) ∙ bytes_of-value_of cs (all-take-drop (λ b. ltb b 256) 3 at bs h) in
      sym (take-append-drop 3 (drop at bs)) ∙ cc (drop-drop 3 at bs)

record_no-lt : (bs : List ℕ) (j : ℕ) → T (all (λ b. ltb b 256) bs) → record_no bs j < 2 ^ 24
unfolding record_no
record_no-lt bs j h = number_at-lt bs (3 * j) 3 h

-- ---- tree_bytes

tree_bytes-append : (n : ℕ) (zs : List ℕ) (xs ys : List Fork) → tree_bytes size24 n zs (xs ++ ys) ≡ tree_bytes size24 n zs xs ++ tree_bytes size24 n zs ys
unfolding tree_bytes
tree_bytes-append n zs [] ys = refl
tree_bytes-append n zs (x ∷ xs) ys = rw (tree_bytes-append n zs xs ys)

module _ (bs : List ℕ) (n : ℕ) (zs : List ℕ) where
  -- the bytes of a part that starts with the node i
  abbrev part : ℕ → Trie → List ℕ
  part i t = tree_bytes size24 n zs (refs i t)

  length_part : (i : ℕ) (t : Trie) → length (part i t) ≡ 6 * size t
  length_part i t = length-tree_bytes size24 n zs (refs i t) ∙ rw (length-refs i t)

  -- a node's two records, then the part on its left, then that on its right
  part-fork : (i : ℕ) (l r : Trie) (rest : List ℕ) → part i (fork l r) ++ rest
      ≡ bytes_of 3 (record_of n zs (ref (suc i) l)) ++ (bytes_of 3 (record_of n zs (ref (suc i + size l) r)) ++ (part (suc i) l ++ (part (suc i + size l) r ++ rest)))
  unfolding tree_bytes
  part-fork i l r rest = rw (tree_bytes-append n zs (refs (suc i) l) (refs (suc i + size l) r), append_assoc (part (suc i) l) (part (suc i + size l) r) rest)

  -- where the two records and the two parts below a node stand
  record Node (i : ℕ) (l r : Trie) (rest : List ℕ) : Type 0 where
    first : drop (6 * i) bs ≡ bytes_of 3 (record_of n zs (ref (suc i) l)) ++ drop (6 * i + 3) bs
    second : drop (6 * i + 3) bs ≡ bytes_of 3 (record_of n zs (ref (suc i + size l) r)) ++ drop (6 * suc i) bs
    left : drop (6 * suc i) bs ≡ part (suc i) l ++ drop (6 * (suc i + size l)) bs
    right : drop (6 * (suc i + size l)) bs ≡ part (suc i + size l) r ++ rest

  part_node : (i : ℕ) (l r : Trie) (rest : List ℕ) → drop (6 * i) bs ≡ part i (fork l r) ++ rest → Node i l r rest
  part_node i l r rest d =
      let p : List ℕ = part (suc i) l ++ (part (suc i + size l) r ++ rest) in
      let b : List ℕ = bytes_of 3 (record_of n zs (ref (suc i + size l) r)) in
      let d0 = d ∙ part-fork i l r rest in
      let d1 = drop_past bs (6 * i) (6 * i + 3) (bytes_of 3 (record_of n zs (ref (suc i) l))) (b ++ p) d0 refl in
      let d2 = drop_past bs (6 * i + 3) (6 * suc i) b p d1 (omega arith) in
      let d3 =
      drop_past bs (6 * suc i) (6 * (suc i + size l)) (part (suc i) l) (part (suc i + size l) r ++ rest) d2 (omega (arith, length_part (suc i) l)) in
      record { first = cc; second = cc; left = cc; right = d3 }

  node_part : (i : ℕ) (l r : Trie) (rest : List ℕ) → Node i l r rest → drop (6 * i) bs ≡ part i (fork l r) ++ rest
  node_part i l r rest d = rw (part-fork i l r rest, d.first, d.second, d.left, d.right)

  pub tree_bytes-stands : (i : ℕ) (t : Trie) (rest : List ℕ) → T (all (fits_in size24 n zs) (refs i t)) → drop (6 * i) bs ≡ part i t ++ rest → Stands bs n zs i t
  unfolding fits_in
  tree_bytes-stands i (leaf o) rest h d = tt
  tree_bytes-stands i (fork l r) rest h d =
      let a : ℕ = record_of n zs (ref (suc i) l) in
      let b : ℕ = record_of n zs (ref (suc i + size l) r) in
      let xs : List Fork = refs (suc i) l in
      let ys : List Fork = refs (suc i + size l) r in
      let here = and_left (ltb a (2 ^ 24) && ltb b (2 ^ 24)) (all (fits_in size24 n zs) (xs ++ ys)) h in
      let below = and_right (ltb a (2 ^ 24) && ltb b (2 ^ 24)) (all (fits_in size24 n zs) (xs ++ ys)) h in
      let w = part_node i l r rest d in (
        record_no_bytes bs (2 * i) (6 * i) (omega arith) a (drop (6 * i + 3) bs) (ltb→lt a (2 ^ 24) (and_left (ltb a (2 ^ 24)) (ltb b (2 ^ 24)) here)) w.first,
        record_no_bytes bs (2 * i + 1) (6 * i + 3) (omega arith) b (drop (6 * suc i) bs) (ltb→lt b (2 ^ 24) (and_right (ltb a (2 ^ 24)) (ltb b (2 ^ 24)) here)) w.second,
        tree_bytes-stands (suc i) l (drop (6 * (suc i + size l)) bs) (all_first (fits_in size24 n zs) xs ys below) w.left,
        tree_bytes-stands (suc i + size l) r rest (all_second (fits_in size24 n zs) xs ys below) w.right,
      )

  module _ (small : T (all (λ b. ltb b 256) bs)) where
    pub stands-tree_bytes : (i : ℕ) (t : Trie) (next : ℕ) → 6 * (i + size t) ≡ next → next ≤ length bs → Stands bs n zs i t → drop (6 * i) bs ≡ part i t ++ drop next bs
    unfolding tree_bytes
    stands-tree_bytes i (leaf o) next e h s = ap (λ (k : ℕ). drop k bs) (rw add-zero at e)
    stands-tree_bytes i (fork l r) next e h s = node_part i l r (drop next bs) (record {
      first = rw (← s.0) (bytes-record_no bs (2 * i) (6 * i) (omega arith) (6 * i + 3) small refl (omega arith));
      second = rw (← s.1) (bytes-record_no bs (2 * i + 1) (6 * i + 3) (omega arith) (6 * suc i) small (omega arith) (omega arith));
      left = stands-tree_bytes (suc i) l (6 * (suc i + size l)) refl (omega arith) s.2;
      right = stands-tree_bytes (suc i + size l) r next (omega arith) h s.3;
    })

    -- a record of three bytes fits them
    fits-record : (j v : ℕ) → record_no bs j ≡ v → T (ltb v (2 ^ 24))
    fits-record j v e = lt→ltb v (2 ^ 24) (rw e at (record_no-lt bs j small))

    pub stands-fits : (i : ℕ) (t : Trie) → Stands bs n zs i t → T (all (fits_in size24 n zs) (refs i t))
    unfolding fits_in
    stands-fits i (leaf o) s = tt
    stands-fits i (fork l r) s =
        let a : ℕ = record_of n zs (ref (suc i) l) in
        let b : ℕ = record_of n zs (ref (suc i + size l) r) in
        and_both (ltb a (2 ^ 24) && ltb b (2 ^ 24)) (all (fits_in size24 n zs) (refs (suc i) l ++ refs (suc i + size l) r))
        (and_both (ltb a (2 ^ 24)) (ltb b (2 ^ 24)) (fits-record (2 * i) a s.0) (fits-record (2 * i + 1) b s.1))
        (all_both (fits_in size24 n zs) (refs (suc i) l) (refs (suc i + size l) r) (stands-fits (suc i) l s.2) (stands-fits (suc i + size l) r s.3))
