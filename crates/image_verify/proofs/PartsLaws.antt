-- The parts of an image before its end, as the checker finds them. No contract cites this file.
--   Parts bs n end zs t   the n nodes are those of the trie t, 16 zero bytes follow, and then, to before the
--                         byte end, the entries of the numbers zs, which are those that the trie uses
-- Assumes nothing.
use Prim.Native.Nat.{ℕ, zero, suc, ◌+◌, ◌*◌, ◌≤◌}
use native.Mathlib.Nat.{add-zero}
use native.Mathlib.Numerals.{add-one}
use native.Mathlib.Omega.{arith}
use mathlib.Core.Path.{◌≡◌, refl, ap, ◌∙◌}
use mathlib.Core.Bool.{true}
use mathlib.Core.List.{List, [], ◌∷◌, ◌++◌}
use lib.Dec.{T, eqb, eqb→eq}
use lib.ListN.{length, drop, replicate, get_or}
use lib.Seq.{drop-cons}
use borrow.Author.Tests.{eq-eqb}
use Rattle.bits.proofs.ListsLaws.{and_left, and_right}
use Rattle.image.specs.Image.{zones_of}
use Rattle.image.specs.Tries.{Trie, size, refs}
use Rattle.image.proofs.WholeLaws.{Whole, depth}
use Rattle.image_verify.specs.Verifying.{zeros_on}
use Rattle.image_verify.proofs.StandsLaws.{Stands, Zoned}
use Rattle.image_verify.proofs.ReadLaws.{get_or_first}
use Rattle.image_verify.proofs.EntriesLaws.{Entries}
use Rattle.image_verify.proofs.TreeBytesLaws.{drop_past}

pub record Parts (bs : List ℕ) (n end : ℕ) (zs : List ℕ) (t : Trie) : Type 0 where
  pub stands : Stands bs n zs 0 t
  pub whole_is : Whole t
  pub shallow : depth t ≤ 128
  pub counts : size t ≡ n
  pub zeros : zeros_on 16 bs (6 * n) ≡ true
  pub entries : Entries bs (6 * n + 16) end zs
  pub numbers : zones_of (refs 0 t) ≡ zs
  pub zoned : Zoned zs t

-- ---- zeros_on

pub zeros_on-zeros : (bs : List ℕ) (k at : ℕ) (rest : List ℕ) → drop at bs ≡ replicate k 0 ++ rest → zeros_on k bs at ≡ true
zeros_on-zeros bs zero at rest d = refl
zeros_on-zeros bs (suc k) at rest d =
    rw (eq-eqb (get_or bs at 0) 0 (get_or_first bs at (0 ∷ (replicate k 0 ++ rest)) d))
    (zeros_on-zeros bs k (at + 1) rest (drop_past bs at (at + 1) (0 ∷ []) (replicate k 0 ++ rest) d refl))

pub zeros-zeros_on : (bs : List ℕ) (k at : ℕ) → at + k ≤ length bs → T (zeros_on k bs at) → drop at bs ≡ replicate k 0 ++ drop (at + k) bs
zeros-zeros_on bs zero at l h = rw add-zero
zeros-zeros_on bs (suc k) at l h =
    let e : get_or bs at 0 ≡ 0 = eqb→eq (get_or bs at 0) 0 (and_left (eqb (get_or bs at 0) 0) (zeros_on k bs (at + 1)) h) in
    let t = zeros-zeros_on bs k (at + 1) (omega arith) (and_right (eqb (get_or bs at 0) 0) (zeros_on k bs (at + 1)) h) in
    let s : drop (at + 1 + k) bs ≡ drop (at + suc k) bs = ap (λ (j : ℕ). drop j bs) {x = at + 1 + k} {y = at + suc k} (omega arith) in
    drop-cons bs at 0 (omega arith) ∙ cc (add-one at)
