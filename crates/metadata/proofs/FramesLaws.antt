-- The laws of the marker and the metadata: in bytes that end as an image does the node count and the epoch are
-- found, and where they are found the bytes end so. No contract cites this file.
-- Assumes nothing.
use Prim.Native.Nat.{ℕ, ◌+◌, ◌-◌, ◌^◌, ◌≤◌, ◌<◌}
use native.Mathlib.Nat.{lt_of_lt_of_le, pow-le-pow_right}
use native.Mathlib.Omega.{arith}
use mathlib.Core.Path.{◌≡◌, refl, sym, ap, ◌∙◌}
use mathlib.Core.Bool.{Bool, true, false, cond}
use mathlib.Core.List.{List, ◌++◌}
use lib.Dec.{T, ltb, lit<}
use lib.ListN.{length, take, drop, length-drop, take-append-drop}
use lib.Seq.{drop-append_seam}
use borrow.Author.Tests.{ne_eqb, le-ltb}
use Rattle.std.specs.Prelude.{Option, Some, None, bytes_eq}
use Rattle.std.proofs.lemmas.Slice.Eq.{bytes_eq-Decides}
use Rattle.bits.specs.Lists.{all}
use Rattle.image.specs.Bytes.{short}
use Rattle.image.proofs.LengthLaws.{length_short, length_short_below}
use Rattle.image.proofs.BytesLaws.{length_short_pos, length_short_some}
use Rattle.metadata.specs.Frames.{number_at, tail_of, count_on, frame_of, frame_on}
use Rattle.metadata.specs.Writing.{Counts}
use Rattle.metadata.specs.declared.Nodes.{Nodes}
use Rattle.metadata.specs.declared.Tail.{Tail}
use Rattle.metadata.proofs.ReadingLaws.{count_on-nodes}
use Rattle.metadata.proofs.TailLaws.{length-tail_of, length_whole, epoch_bytes-tail, nodes_bytes-tail, number_at-nodes, number_at-epoch}
use Rattle.metadata.proofs.ValueLaws.{number_at-lt}

-- ---- count_on, frame_on on bytes that end so

module _ (front : List ℕ) (n epoch : ℕ) where
  pub count_on-tail : 22 ≤ length front → 1 ≤ n → n < 2 ^ 24 → epoch < 2 ^ 64
      → count_on (front ++ tail_of n epoch) ≡ Some (record { count = n; width = length (short n); epoch_width = length (short epoch) })
  unfolding count_on
  count_on-tail f p l m =
      let few : length (short n) ≤ 3 = length_short_below 3 n (omega arith) l in
      let some : 1 ≤ length (short n) = length_short_pos n p (omega arith) in
      simp (
        le-ltb (length (front ++ tail_of n epoch)) 177 (omega (arith, length_whole front n epoch)),
        epoch_bytes-tail front n epoch,
        ne_eqb (length (short epoch)) 9 (λ e. omega (arith, length_short epoch)),
        nodes_bytes-tail front n epoch some few,
        ne_eqb (length (short n)) 4 (λ e. omega arith),
        number_at-nodes front n epoch (omega arith),
      )

  pub frame_on-tail : 22 ≤ length front → 1 ≤ n → n < 2 ^ 24 → epoch < 2 ^ 64
      → frame_on (front ++ tail_of n epoch) ≡ Some (record { nodes = n; start = length front; epoch = epoch })
  unfolding frame_on
  frame_on-tail f p l m =
      let at : length (front ++ tail_of n epoch) - (154 + length (short n) + length (short epoch)) ≡ length front = omega (arith, length_whole front n epoch) in
      rw (count_on-tail f p l m, number_at-epoch front n epoch m, at, drop-append_seam front (tail_of n epoch), (bytes_eq-Decides (tail_of n epoch) (tail_of n epoch)).1 refl)

-- ---- what they say of the bytes

-- the bytes end as an image of n nodes does, from `at` on
pub record EndsAs (bs : List ℕ) (n at epoch : ℕ) : Type 0 where
  pub within : at ≤ length bs
  pub bytes_are : bs ≡ take at bs ++ tail_of n epoch
  pub some_node : 1 ≤ n
  pub nodes_fit : n < 2 ^ 24
  pub epoch_fits : epoch < 2 ^ 64

-- the two numbers have as many bytes as were counted
same_ends : (bs : List ℕ) (x : Nodes) (epoch : ℕ) → T (all (λ b. ltb b 256) bs) → Counts bs x → epoch ≡ number_at bs (length bs - x.epoch_width) x.epoch_width
    → drop (length bs - (154 + x.width + x.epoch_width)) bs ≡ tail_of x.count epoch → EndsAs bs x.count (length bs - (154 + x.width + x.epoch_width)) epoch
same_ends bs x epoch h c q d =
    let n : ℕ = x.count in
    let at : ℕ = length bs - (154 + x.width + x.epoch_width) in
    let nb : n < 256 ^ x.width = rw c.number (number_at-lt bs (length bs - x.epoch_width - 127 - x.width) x.width h) in
    let eb : epoch < 256 ^ x.epoch_width = rw q (number_at-lt bs (length bs - x.epoch_width) x.epoch_width h) in
    let l : length bs - at ≡ 154 + length (short n) + length (short epoch) = sym (length-drop at bs) ∙ ap length d ∙ length-tail_of n epoch in
    let some : 1 ≤ length (short n) =
    omega (arith, length_short_below x.width n (omega arith) nb, length_short_below x.epoch_width epoch (omega arith) eb) in
    record {
      within = omega arith;
      bytes_are = sym (take-append-drop at bs) ∙ ap (λ (r : List ℕ). take at bs ++ r) d;
      some_node = length_short_some n some;
      nodes_fit = lt_of_lt_of_le nb (pow-le-pow_right (lit< tt) c.fits);
      epoch_fits = lt_of_lt_of_le eb (pow-le-pow_right (lit< tt) c.few);
    }

frame_of-frame : (bs : List ℕ) (x : Nodes) (t : Tail) → T (all (λ b. ltb b 256) bs) → Counts bs x
    → frame_of bs (Some x) ≡ Some t → EndsAs bs t.nodes t.start t.epoch
frame_of-frame bs x t h c f = go (bytes_eq (drop at bs) (tail_of x.count v)) refl f
  where
    at : ℕ
    at = length bs - (154 + x.width + x.epoch_width)

    v : ℕ
    v = number_at bs (length bs - x.epoch_width) x.epoch_width

    tail : Tail
    tail = record { nodes = x.count; start = at; epoch = v }

    go : (b : Bool) → bytes_eq (drop at bs) (tail_of x.count v) ≡ b → cond b (Some tail) None ≡ Some t → EndsAs bs t.nodes t.start t.epoch
    go false s f = cc
    go true s f =
        let e : tail ≡ t = cc in
        rw (← e) (same_ends bs x v h c refl ((bytes_eq-Decides (drop at bs) (tail_of x.count v)).0 s))

pub frame_on-frame : (bs : List ℕ) (n at epoch : ℕ) → T (all (λ b. ltb b 256) bs) → frame_on bs ≡ Some (record { nodes = n; start = at; epoch = epoch }) → EndsAs bs n at epoch
unfolding frame_on
frame_on-frame bs n at epoch h f = go (count_on bs) refl f
  where
    t : Tail
    t = record { nodes = n; start = at; epoch = epoch }

    go : (c : Option Nodes) → count_on bs ≡ c → frame_of bs c ≡ Some t → EndsAs bs n at epoch
    go None q f = cc
    go (Some x) q f = frame_of-frame bs x t h (count_on-nodes bs x q) f
