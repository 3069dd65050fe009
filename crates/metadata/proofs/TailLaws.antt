-- The laws of the bytes of the marker and the metadata: two numbers between fixed bytes, and where a reader
-- that goes back from the last byte finds each. No contract cites this file.
-- Assumes nothing.
use Prim.Native.Nat.{ℕ, zero, suc, ◌+◌, ◌-◌, ◌^◌, ◌≤◌, ◌<◌}
use native.Mathlib.Omega.{arith}
use mathlib.Core.Path.{◌≡◌, refl, ap, ◌∙◌}
use mathlib.Core.Bool.{Bool, false, not}
use mathlib.Core.List.{List, [], ◌∷◌, ◌++◌, append_assoc, append-nil}
use lib.Dec.{T, eqb}
use lib.ListN.{length, get_or, length-append, get_or-append}
use lib.Seq.{get_or-append-add}
use borrow.Author.Tests.{eq-eqb}
use Rattle.bits.specs.Lists.{all}
use Rattle.bits.proofs.ListsLaws.{and_left, and_right}
use Rattle.image.specs.Bytes.{short, ascii, text, uint16, uint32, uint64}
use Rattle.image.specs.Image.{marker, metadata}
use Rattle.image.proofs.LengthLaws.{length_short, length-metadata}
use Rattle.metadata.specs.Frames.{number_at, tail_of, steps_back, epoch_bytes, nodes_bytes}
use Rattle.metadata.specs.Writing.{between}
use Rattle.metadata.proofs.ValueLaws.{value_of_short, number_at-append}

-- ---- tail_of: two numbers between fixed bytes

-- the marker, the first byte of the metadata
unfoldable pub opening : List ℕ
opening = marker ++ (0xE7 ∷ [])

pub length-opening : length opening ≡ 15
unfolding opening marker
length-opening = refl

pub length_between : length between ≡ 113
unfolding between text uint16 short
length_between = refl

pub tail_of_parts : (n epoch : ℕ) → tail_of n epoch
    ≡ opening ++ (text (ascii "node_count") ++ (uint32 n ++ (between ++ (text (ascii "build_epoch") ++ uint64 epoch))))
unfolding tail_of metadata opening between
tail_of_parts n epoch = simp append_assoc

pub length-tail_of : (n epoch : ℕ) → length (tail_of n epoch) ≡ 154 + length (short n) + length (short epoch)
unfolding tail_of marker
length-tail_of n epoch = simp (length-metadata) (omega arith)

-- ---- steps_back

pub all_get_d : (f : ℕ → Bool) (xs : List ℕ) (i : ℕ) → T (all f xs) → i < length xs → T (f (get_or xs i 0))
all_get_d f [] i h l = absurd (omega arith)
all_get_d f (x ∷ xs) zero h l = and_left (f x) (all f xs) h
all_get_d f (x ∷ xs) (suc i) h l = all_get_d f xs i (and_right (f x) (all f xs) h) (omega arith)

not-T_false : (b : Bool) → T (not b) → b ≡ false
not-T_false false h = refl
not-T_false mathlib.Core.Bool.true h = elim h [ ]

-- from a place inside a key back to its first byte, which is in no other place of it
steps_back_key : (pre ks rest : List ℕ) (b d f at : ℕ) → T (all (λ x. not (eqb x b)) ks) → d ≤ length ks → d < f → at ≡ length pre + d
    → steps_back (pre ++ ((b ∷ ks) ++ rest)) at b f ≡ d
steps_back_key pre ks rest b d zero at h l k e = absurd (omega arith)
steps_back_key pre ks rest b zero (suc f) at h l k e =
    rw (e, get_or-append-add pre ((b ∷ ks) ++ rest) 0 0, eq-eqb b b refl)
steps_back_key pre ks rest b (suc d) (suc f) at h l k e =
    let i : d < length ks = omega arith in
    let q : eqb (get_or ks d 0) b ≡ false = not-T_false (eqb (get_or ks d 0) b) (all_get_d (λ x. not (eqb x b)) ks d h i) in
    let g : get_or (pre ++ ((b ∷ ks) ++ rest)) at 0 ≡ get_or ks d 0 =
    ap (λ (j : ℕ). get_or (pre ++ ((b ∷ ks) ++ rest)) j 0) e ∙ get_or-append-add pre ((b ∷ ks) ++ rest) (suc d) 0 ∙ get_or-append ks rest 0 d i in
    rw (g, q) (ap suc (steps_back_key pre ks rest b d f (at - 1) h (omega arith) (omega arith) (omega arith)))

-- ---- the two numbers

uint64_parts : (v : ℕ) → uint64 v ≡ (length (short v) ∷ 2 ∷ []) ++ short v
unfolding uint64
uint64_parts v = refl

module _ (front : List ℕ) (n epoch : ℕ) where
  pub length_whole : length (front ++ tail_of n epoch) ≡ length front + (154 + length (short n) + length (short epoch))
  length_whole = simp (length-append, length-tail_of)

  -- no letter of build_epoch is 4B
  pub epoch_bytes-tail : epoch_bytes (front ++ tail_of n epoch) ≡ length (short epoch)
  unfolding epoch_bytes text uint32
  epoch_bytes-tail =
      let pre : List ℕ = front ++ (opening ++ (text (ascii "node_count") ++ (uint32 n ++ between))) in
      let split : front ++ tail_of n epoch ≡ pre ++ (text (ascii "build_epoch") ++ uint64 epoch) = rw (tail_of_parts n epoch) (simp append_assoc) in
      let l : length pre ≡ length front + (140 + length (short n)) = simp (length-append, length-opening, length_between) (omega arith) in
      ap (λ (bs : List ℕ). steps_back bs (length (front ++ tail_of n epoch) - 14) 0x4B 9) split
      ∙ steps_back_key pre (ascii "build_epoch") (uint64 epoch) 0x4B (length (short epoch)) 9 (length (front ++ tail_of n epoch) - 14) tt
      (omega (arith, length_short epoch)) (omega (arith, length_short epoch)) (omega (arith, length_whole))

  -- no letter of node_count is 4A
  pub nodes_bytes-tail : 1 ≤ length (short n) → length (short n) ≤ 3 → nodes_bytes (front ++ tail_of n epoch) (length (short epoch)) ≡ length (short n)
  unfolding nodes_bytes text
  nodes_bytes-tail h k =
      let pre : List ℕ = front ++ opening in
      let rest : List ℕ = uint32 n ++ (between ++ (text (ascii "build_epoch") ++ uint64 epoch)) in
      let split : front ++ tail_of n epoch ≡ pre ++ (text (ascii "node_count") ++ rest) = rw (tail_of_parts n epoch) (simp append_assoc) in
      let at : ℕ = length (front ++ tail_of n epoch) - length (short epoch) - 140 in
      let l : length pre ≡ length front + 15 = simp (length-append, length-opening) in
      let e : steps_back (front ++ tail_of n epoch) at 0x4A 3 ≡ length (short n) - 1 =
      ap (λ (bs : List ℕ). steps_back bs at 0x4A 3) split
      ∙ steps_back_key pre (ascii "node_count") rest 0x4A (length (short n) - 1) 3 at tt (omega arith) (omega arith) (omega (arith, length_whole)) in
      omega arith

  pub number_at-nodes : n < 2 ^ 64
      → number_at (front ++ tail_of n epoch) (length (front ++ tail_of n epoch) - length (short epoch) - 127 - length (short n)) (length (short n)) ≡ n
  unfolding text uint32
  number_at-nodes h =
      let pre : List ℕ = front ++ (opening ++ (text (ascii "node_count") ++ ((0xC0 + length (short n)) ∷ []))) in
      let rest : List ℕ = between ++ (text (ascii "build_epoch") ++ uint64 epoch) in
      let split : front ++ tail_of n epoch ≡ pre ++ (short n ++ rest) = rw (tail_of_parts n epoch) (simp append_assoc) in
      let l : length pre ≡ length front + 27 = simp (length-append, length-opening) in
      let at : ℕ = length (front ++ tail_of n epoch) - length (short epoch) - 127 - length (short n) in
      ap (λ (bs : List ℕ). number_at bs at (length (short n))) split
      ∙ number_at-append pre (short n) rest at (length (short n)) (omega (arith, length_whole)) refl ∙ value_of_short n h

  pub number_at-epoch : epoch < 2 ^ 64
      → number_at (front ++ tail_of n epoch) (length (front ++ tail_of n epoch) - length (short epoch)) (length (short epoch)) ≡ epoch
  number_at-epoch h =
      let parts : List ℕ = opening ++ (text (ascii "node_count") ++ (uint32 n ++ (between ++ text (ascii "build_epoch")))) in
      let pre : List ℕ = front ++ (parts ++ (length (short epoch) ∷ 2 ∷ [])) in
      let split : front ++ tail_of n epoch ≡ pre ++ (short epoch ++ []) =
      rw (tail_of_parts n epoch, uint64_parts epoch) (simp (append_assoc, append-nil)) in
      let l : length (front ++ tail_of n epoch) ≡ length pre + length (short epoch) = rw split (simp (length-append, append-nil)) in
      let at : ℕ = length (front ++ tail_of n epoch) - length (short epoch) in
      ap (λ (bs : List ℕ). number_at bs at (length (short epoch))) split
      ∙ number_at-append pre (short epoch) [] at (length (short epoch)) (omega arith) refl ∙ value_of_short epoch h
