-- The laws of the whole check: one for each way out of its functions. No contract cites this file.
-- Assumes nothing.
use Prim.Native.Nat.{ℕ, zero, suc, ◌+◌, ◌-◌, ◌*◌, ◌≤◌}
use native.Mathlib.Numerals.{add-one}
use native.Mathlib.Omega.{arith}
use mathlib.Core.Path.{◌≡◌, refl, sym, ap, subst, ◌∙◌}
use mathlib.Core.Logic.{◌⊎◌, inl, inr}
use mathlib.Core.Bool.{Bool, true, false, ◌&&◌, ◌||◌, cond}
use mathlib.Core.List.{List}
use lib.Dec.{leb, ltb, eqb}
use lib.ListN.{length, take, drop, get_or}
use lib.Seq.{drop-cons}
use borrow.Author.Tests.{le-ltb}
use Rattle.std.specs.Prelude.{Option, Some, None, bytes_eq}
use Rattle.metadata.specs.Frames.{number_at, tail_of, count_on, frame_of, frame_on}
use Rattle.metadata.specs.declared.Nodes.{Nodes}
use Rattle.metadata.specs.declared.Tail.{Tail}
use Rattle.std.specs.List.{list_all}
use Rattle.image_verify.specs.Verifying.{record_no, side_on, below_on, then_on, whole, tree_on, exact_on, entries_on, zeros_on, verify_frame, verify_on}
use Rattle.image_verify.specs.declared.Numbered.{Numbered}
use Rattle.image_verify.proofs.Forms.{To, Ends}

-- ---- tree_on

-- one law for each way out, where x is what the nodes from the top down come to
module _ (bs : List ℕ) (n d : ℕ) (x : Option Numbered) (q : (f : ℕ) → f ≡ 128 → x ≡ below_on f bs n d 0) where
  tree_on_is : (f : ℕ) → f ≡ 128 → whole n x ≡ tree_on bs n d
  unfolding tree_on
  tree_on_is f e = ap (whole n) (q f e) ∙ ap (λ (m : ℕ). whole n (below_on m bs n d 0)) e

  pub tree_on-bad : x ≡ None → false ≡ tree_on bs n d
  tree_on-bad z = ap (whole n) (sym z) ∙ tree_on_is 128 refl

  pub tree_on_to : (last : ℕ) (b : Bool) → x ≡ To last b → eqb last n ≡ tree_on bs n d
  tree_on_to last b z = ap (whole n) (sym z) ∙ tree_on_is 128 refl

-- where there is no node a side is no node, so that the numbers do not come to 0
side_on-still : (go : ℕ → Option Numbered) (d next r : ℕ) → (side_on go 0 d next r ≡ None) ⊎ ((b : Bool) × (side_on go 0 d next r ≡ To next b))
unfolding side_on
side_on-still go d next r = rw (le-ltb r 0 (omega arith)) (by (eqb r 0) (leb (0 + 16) r && ltb r (0 + 16 + d)))
  where
    by : (p q : Bool) → (cond p (To next false) (cond q (To next true) None) ≡ None) ⊎ ((b : Bool) × (cond p (To next false) (cond q (To next true) None) ≡ To next b))
    by true q = inr (false, refl)
    by false true = inr (true, refl)
    by false false = inl refl

still_then : (x : Option Numbered) (k : ℕ → Bool → Option Numbered) → (x ≡ None) ⊎ ((b : Bool) × (x ≡ To 1 b)) → ((b : Bool) → whole 0 (k 1 b) ≡ false)
    → whole 0 (then_on x k) ≡ false
still_then x k (inl e) h = rw e
still_then x k (inr w) h = rw w.1 (h w.0)

whole-none : (bs : List ℕ) (d m : ℕ) → whole 0 (below_on (suc m) bs 0 d 0) ≡ false
whole-none bs d m =
    still_then _ _ (side_on-still (λ j. below_on m bs 0 d j) d 1 (record_no bs (2 * 0)))
    (λ a. still_then _ (λ last b. To last (a || b)) (side_on-still (λ j. below_on m bs 0 d j) d 1 (record_no bs (2 * 0 + 1))) (λ b. refl))

pub tree_on-none : (bs : List ℕ) (n d : ℕ) → n ≡ 0 → false ≡ tree_on bs n d
unfolding tree_on
tree_on-none bs n d e = subst (λ (m : ℕ). false ≡ tree_on bs m d) (sym e) (sym (whole-none bs d 127))

-- ---- verify_frame

pub and_yes : {u v : Bool} (b : Bool) → u ≡ true → v ≡ b → v ≡ (u && b)
and_yes b e q = rw e q

pub and_no : {u v : Bool} (b : Bool) → u ≡ false → v ≡ u → v ≡ (u && b)
and_no b e q = rw e (q ∙ e)

and_four : (a b c d x : Bool) → ((((a && b) && c) && d) && x) ≡ (a && (b && (c && (d && x))))
and_four true true true d x = refl
and_four true true false d x = refl
and_four true false c d x = refl
and_four false b c d x = refl

-- the five tests, each with those before it
pub verify_frame-tests : (bs : List ℕ) (tail : Tail) (z e t x : Bool) → z ≡ (leb (6 * tail.nodes + 16) tail.start && zeros_on 16 bs (6 * tail.nodes))
    → e ≡ (z && entries_on (length bs) bs (6 * tail.nodes + 16) tail.start 0) → t ≡ (e && tree_on bs tail.nodes (tail.start - (6 * tail.nodes + 16)))
    → x ≡ (t && exact_on bs tail.nodes tail.start) → x ≡ verify_frame bs (Some tail)
verify_frame-tests bs tail z e t x hz he ht hx =
    hx ∙ rw (ht, he, hz)
    (and_four (leb (6 * tail.nodes + 16) tail.start) (zeros_on 16 bs (6 * tail.nodes)) (entries_on (length bs) bs (6 * tail.nodes + 16) tail.start 0)
    (tree_on bs tail.nodes (tail.start - (6 * tail.nodes + 16))) (exact_on bs tail.nodes tail.start))

zeros_on_all : (bs : List ℕ) (k at : ℕ) → at + k ≤ length bs → list_all (λ b. eqb b 0) (take k (drop at bs)) ≡ zeros_on k bs at
zeros_on_all bs zero at h = refl
zeros_on_all bs (suc k) at h = rw (drop-cons bs at 0 (omega arith), add-one at) (ap (λ (b : Bool). eqb (get_or bs at 0) 0 && b) (rw (add-one at) at (zeros_on_all bs k (at + 1) (omega arith))))

-- the 16 bytes after the tree
pub zeros_part : (bs : List ℕ) (at : ℕ) (z : Bool) → at + 16 ≤ length bs → z ≡ list_all (λ b. eqb b 0) (take (at + 16 - at) (drop at bs)) → z ≡ zeros_on 16 bs at
zeros_part bs at z h e =
    let k : at + 16 - at ≡ 16 = omega arith in
    e ∙ ap (λ (n : ℕ). list_all (λ b. eqb b 0) (take n (drop at bs))) k ∙ zeros_on_all bs 16 at h

-- ---- verify_on

frame_of-inside : (bs : List ℕ) (c : Option Nodes) (t : Tail) → frame_of bs c ≡ Some t → t.start ≤ length bs
frame_of-inside bs None t e = cc
frame_of-inside bs (Some x) t e = at (bytes_eq (drop start bs) (tail_of x.count epoch)) e
  where
    start : ℕ
    start = length bs - (154 + x.width + x.epoch_width)

    epoch : ℕ
    epoch = number_at bs (length bs - x.epoch_width) x.epoch_width

    at : (b : Bool) → cond b (Ends x.count start epoch) None ≡ Some t → t.start ≤ length bs
    at true e = let q : start ≡ t.start = cc in omega arith
    at false e = cc

pub frame-inside : (bs : List ℕ) (t : Tail) → frame_on bs ≡ Some t → t.start ≤ length bs
unfolding frame_on
frame-inside bs t = frame_of-inside bs (count_on bs) t

pub verify_on-bad : (bs : List ℕ) → frame_on bs ≡ None → verify_on bs ≡ false
unfolding verify_on
verify_on-bad bs e = rw e

pub verify_on_tail : (bs : List ℕ) (t : Tail) → frame_on bs ≡ Some t → verify_on bs ≡ verify_frame bs (Some t)
unfolding verify_on
verify_on_tail bs t e = rw e
