-- The law of the search tree's bytes: at each node stand the bytes of its two records. No contract cites this
-- file.
-- Assumes nothing.
use Prim.Native.Nat.{ℕ, zero, suc, ◌*◌, ◌<◌}
use native.Mathlib.Nat.{mul-zero, mul-suc, add_comm}
use native.Mathlib.Omega.{arith}
use mathlib.Core.Path.{◌≡◌}
use mathlib.Core.List.{List, [], ◌∷◌, ◌++◌, append_assoc}
use lib.ListN.{length, drop, get_or}
use lib.Seq.{drop-append-add}
use Rattle.bits.specs.Lists.{each}
use Rattle.image.specs.Image.{Size, no_data, Fork, record_of, node_bytes, node_length, tree_bytes}
use Rattle.image.proofs.LengthLaws.{length-node_bytes}
use Rattle.image.proofs.LookupLaws.{fork_no}

-- of pieces that are all w bytes long, the one at i starts at w * i
module _ {A : Type 0} (g : A → List ℕ) (w : ℕ) (wide : (a : A) → length (g a) ≡ w) (d : A) where
  drop-each : (xs : List A) (rest : List ℕ) (i : ℕ) → i < length xs → (after : List ℕ) × (drop (w * i) (each g xs ++ rest) ≡ g (get_or xs i d) ++ after)
  drop-each [] rest i h = absurd (omega arith)
  drop-each (x ∷ xs) rest zero h = (each g xs ++ rest, rw (mul-zero w) (append_assoc (g x) (each g xs) rest))
  drop-each (x ∷ xs) rest (suc i) h =
      let u = drop-each xs rest i (omega arith) in
      (u.0, rw (mul-suc w i, add_comm (w * i) w, ← wide x, append_assoc (g x) (each g xs) rest, drop-append-add (g x)) (rw (wide x) u.1))

pub drop-tree_bytes : (s : Size) (n : ℕ) (zs : List ℕ) (fs : List Fork) (rest : List ℕ) (i : ℕ) → i < length fs
    → (after : List ℕ)
    × (drop (node_length s * i) (tree_bytes s n zs fs ++ rest) ≡ node_bytes s (record_of n zs (fork_no fs i).left) (record_of n zs (fork_no fs i).right) ++ after)
unfolding tree_bytes
drop-tree_bytes s n zs fs rest i h =
    drop-each (λ f. node_bytes s (record_of n zs f.left) (record_of n zs f.right)) (node_length s)
    (λ f. length-node_bytes s (record_of n zs f.left) (record_of n zs f.right)) (record { left = no_data; right = no_data }) fs rest i h
