-- The laws of the search tree as the checker goes through it: one for each way out of its functions. No
-- contract cites this file.
-- Assumes nothing.
use Prim.Native.Nat.{ℕ, suc, ◌+◌, ◌-◌, ◌*◌}
use native.Mathlib.Omega.{arith}
use mathlib.Core.Path.{◌≡◌, sym, ◌∙◌}
use mathlib.Core.Bool.{Bool, ◌||◌}
use mathlib.Core.List.{List}
use Rattle.std.specs.Prelude.{Option, None}
use Rattle.metadata.specs.Frames.{number_at}
use Rattle.image_verify.specs.Verifying.{record_no, side_on, then_on, below_on}
use Rattle.image_verify.specs.declared.Numbered.{Numbered}
use Rattle.image_verify.proofs.Forms.{To}

-- ---- below_on

-- one law for each way out, where x and y are what the sides come to
module _ (bs : List ℕ) (n d i left : ℕ) where
  abbrev Side : ℕ → ℕ → Option Numbered → Type 0
  Side next r x = x ≡ side_on (λ j. below_on (left - 1) bs n d j) n d next r

  below_on-suc : (m : ℕ) → left ≡ suc m → below_on left bs n d i ≡ then_on (side_on (λ j. below_on m bs n d j) n d (i + 1) (record_no bs (2 * i)))
      (λ next s. then_on (side_on (λ j. below_on m bs n d j) n d next (record_no bs (2 * i + 1))) (λ last t. To last (s || t)))
  below_on-suc m l = rw l

  module _ (more : left ≡ 0 → ⊥) (a : ℕ) (p : a ≡ number_at bs (6 * i) 3) (x : Option Numbered) (e : Side (i + 1) a x) where
    below_on_sides : below_on left bs n d i ≡ then_on x
        (λ next s. then_on (side_on (λ j. below_on (left - 1) bs n d j) n d next (record_no bs (2 * i + 1))) (λ last t. To last (s || t)))
    unfolding record_no
    below_on_sides =
        let k : 3 * (2 * i) ≡ 6 * i = omega arith in
        below_on-suc (left - 1) (omega arith) ∙ rw (k, ← p, ← e)

    module _ (next : ℕ) (s : Bool) (q : x ≡ To next s) (b : ℕ) (g : b ≡ number_at bs (6 * i + 3) 3) (y : Option Numbered) (u : Side next b y) where
      below_on_right : below_on left bs n d i ≡ then_on y (λ last t. To last (s || t))
      unfolding record_no
      below_on_right =
          let k : 3 * (2 * i + 1) ≡ 6 * i + 3 = omega arith in
          below_on_sides ∙ rw (q, k, ← g, ← u)

      pub below_on_right-bad : y ≡ None → None ≡ below_on left bs n d i
      below_on_right-bad v = sym (below_on_right ∙ rw v)

      pub below_on_both : (last : ℕ) (t : Bool) → y ≡ To last t → To last (s || t) ≡ below_on left bs n d i
      below_on_both last t v = sym (below_on_right ∙ rw v)
