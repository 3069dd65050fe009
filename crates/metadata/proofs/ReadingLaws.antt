-- The laws of reading the end of an image: of going back to a key, and of the ways out of `count` and `frame`. No
-- contract cites this file.
-- Assumes nothing.
use Prim.Native.Nat.{ℕ, zero, suc, ◌+◌, ◌-◌, ◌^◌, ◌≤◌, ◌<◌}
use native.Mathlib.Nat.{sub-zero, lt_of_lt_of_le, pow-le-pow_right}
use native.Mathlib.Omega.{arith}
use mathlib.Core.Path.{◌≡◌, refl, ap, ◌∙◌}
use mathlib.Core.Bool.{Bool, true, false, cond}
use mathlib.Core.List.{List, ◌++◌}
use lib.Dec.{ltb, eqb, lit<}
use lib.ListN.{length, take, drop, get_or}
use lib.Seq.{take-append_seam, sets-eq}
use borrow.Author.Tests.{lt-ltb, le-ltb, eq-eqb, ne_eqb, ltb-true, ltb-false, eqb-true, eqb-false}
use Rattle.std.specs.Prelude.{Some, None, bytes_eq}
use Rattle.image.specs.Bytes.{short}
use Rattle.image.proofs.LengthLaws.{length_short, length_short_below}
use Rattle.metadata.specs.Frames.{number_at, tail_of, steps_back, epoch_bytes, nodes_bytes, nodes_of, count_on, frame_on}
use Rattle.metadata.specs.Writing.{Put, Counts}
use Rattle.metadata.specs.declared.Nodes.{Nodes}
use Rattle.metadata.specs.declared.Tail.{Tail}
use Rattle.metadata.proofs.TailLaws.{length-tail_of}

-- ---- steps_back

sub-suc : (at j : ℕ) → at - 1 - j ≡ at - suc j
sub-suc at j = omega arith

module _ (bs : List ℕ) (b : ℕ) where
  pub steps_back_at : (at f i : ℕ) → i < f → ((j : ℕ) → j < i → get_or bs (at - j) 0 ≡ b → ⊥) → get_or bs (at - i) 0 ≡ b → steps_back bs at b f ≡ i
  steps_back_at at zero i l h e = absurd (omega arith)
  steps_back_at at (suc f) zero l h e = rw (eq-eqb (get_or bs at 0) b (rw sub-zero at e))
  steps_back_at at (suc f) (suc i) l h e =
      rw (ne_eqb (get_or bs at 0) b (rw sub-zero at (h 0 (omega arith))))
      (ap suc (steps_back_at (at - 1) f i (omega arith) (λ j k. rw (sub-suc at j) (h (suc j) (omega arith))) (rw (sub-suc at i) e)))

  pub steps_back_never : (at f : ℕ) → ((j : ℕ) → j < f → get_or bs (at - j) 0 ≡ b → ⊥) → steps_back bs at b f ≡ f
  steps_back_never at zero h = refl
  steps_back_never at (suc f) h =
      rw (ne_eqb (get_or bs at 0) b (rw sub-zero at (h 0 (omega arith))))
      (ap suc (steps_back_never (at - 1) f (λ j k. rw (sub-suc at j) (h (suc j) (omega arith)))))

-- ---- count_on

pub count_on_short : (bs : List ℕ) → length bs < 177 → None ≡ count_on bs
unfolding count_on
count_on_short bs h = simp (lt-ltb (length bs) 177 h)

module _ (bs : List ℕ) (e : ℕ) (long : 177 ≤ length bs) (at : e ≡ epoch_bytes bs) where
  pub count_on_no-epoch : e ≡ 9 → None ≡ count_on bs
  unfolding count_on
  count_on_no-epoch h = simp (le-ltb (length bs) 177 long, ← at, eq-eqb e 9 h)

  module _ (some : e ≡ 9 → ⊥) (a : ℕ) (nodes : a ≡ nodes_bytes bs e) where
    pub count_on_no-count : a ≡ 4 → None ≡ count_on bs
    unfolding count_on
    count_on_no-count h = simp (le-ltb (length bs) 177 long, ← at, ne_eqb e 9 some, ← nodes, eq-eqb a 4 h)

    pub count_on_both : (a ≡ 4 → ⊥) → Some (nodes_of bs a e) ≡ count_on bs
    unfolding count_on
    count_on_both h = simp (le-ltb (length bs) 177 long, ← at, ne_eqb e 9 some, ← nodes, ne_eqb a 4 h)

steps_back-le : (bs : List ℕ) (at b f : ℕ) → steps_back bs at b f ≤ f
steps_back-le bs at b zero = omega arith
steps_back-le bs at b (suc f) = here (eqb (get_or bs at 0) b) (steps_back-le bs (at - 1) b f)
  where
    here : (t : Bool) → steps_back bs (at - 1) b f ≤ f → cond t 0 (suc (steps_back bs (at - 1) b f)) ≤ suc f
    here true h = omega arith
    here false h = omega arith

epoch_bytes-le : (bs : List ℕ) → epoch_bytes bs ≤ 9
unfolding epoch_bytes
epoch_bytes-le bs = steps_back-le bs (length bs - 14) 0x4B 9

nodes_bytes-between : (bs : List ℕ) (e : ℕ) → (1 ≤ nodes_bytes bs e) × (nodes_bytes bs e ≤ 4)
unfolding nodes_bytes
nodes_bytes-between bs e = (omega arith, omega (arith, steps_back-le bs (length bs - e - 140) 0x4A 3))

counts-found : (bs : List ℕ) (x : Nodes) → 177 ≤ length bs → (epoch_bytes bs ≡ 9 → ⊥) → (nodes_bytes bs (epoch_bytes bs) ≡ 4 → ⊥)
    → count_on bs ≡ Some x → Counts bs x
counts-found bs x l p q h =
    let found = count_on_both bs (epoch_bytes bs) l refl p (nodes_bytes bs (epoch_bytes bs)) refl q ∙ h in
    let e : nodes_of bs (nodes_bytes bs (epoch_bytes bs)) (epoch_bytes bs) ≡ x = cc in
    let w = nodes_bytes-between bs (epoch_bytes bs) in
    rw (← e) (record { long = l; few = omega (arith, epoch_bytes-le bs, p); some = omega arith; fits = omega (arith, q); number = refl })

pub count_on-nodes : (bs : List ℕ) (x : Nodes) → count_on bs ≡ Some x → Counts bs x
count_on-nodes bs x h = go (ltb (length bs) 177) (eqb (epoch_bytes bs) 9) (eqb (nodes_bytes bs (epoch_bytes bs)) 4) refl refl refl
  where
    none : None ≡ count_on bs → ⊥
    none q = cc

    go : (p q r : Bool) → ltb (length bs) 177 ≡ p → eqb (epoch_bytes bs) 9 ≡ q → eqb (nodes_bytes bs (epoch_bytes bs)) 4 ≡ r → Counts bs x
    go true q r hp hq hr = absurd (none (count_on_short bs (ltb-true _ _ hp)))
    go false true r hp hq hr = absurd (none (count_on_no-epoch bs _ (ltb-false _ _ hp) refl (eqb-true _ _ hq)))
    go false false true hp hq hr = absurd (none (count_on_no-count bs _ (ltb-false _ _ hp) refl (eqb-false _ _ hq) _ refl (eqb-true _ _ hr)))
    go false false false hp hq hr = counts-found bs x (ltb-false _ _ hp) (eqb-false _ _ hq) (eqb-false _ _ hr) h

-- a number of at most three bytes
pub three_bytes : (a v : ℕ) → a ≤ 3 → v < 256 ^ a → v < 2 ^ 24
three_bytes a v h l = lt_of_lt_of_le l (pow-le-pow_right {n = 256} (lit< tt) {i = a} {j = 3} h)

-- ---- frame_on

-- every tail fits the room for it
pub tail-room : (n epoch : ℕ) → n < 2 ^ 32 → 154 + length (short n) + length (short epoch) ≤ 166
tail-room n epoch h = omega (arith, length_short_below 4 n (omega arith) h, length_short epoch)

pub tail_fits : {old new : List ℕ} {r : ℕ} (n epoch : ℕ) → Put old 0 (tail_of n epoch) new r → n < 2 ^ 32 → r ≤ 166
tail_fits n epoch h l = omega (arith, h.end, length-tail_of n epoch, tail-room n epoch l)

-- what was put at the start
take_put : {old new vs : List ℕ} {r : ℕ} → Put old 0 vs new r → length vs ≤ length old → take r new ≡ vs
take_put {old} {new} {vs} {r} h l =
    let e : r ≡ length vs = omega (arith, h.end) in
    let w : new ≡ vs ++ drop (0 + length vs) old = h.bytes ∙ sets-eq vs old 0 (omega arith) in
    rw (e, w) (take-append_seam vs (drop (0 + length vs) old))

module _ (bs : List ℕ) (x : Nodes) (count : count_on bs ≡ Some x) {old wanted : List ℕ} {epoch end : ℕ} (is : epoch ≡ number_at bs (length bs - x.epoch_width) x.epoch_width)
    (put : Put old 0 (tail_of x.count epoch) wanted end) (room : 166 ≤ length old) (small : x.count < 2 ^ 32) where
  -- where the marker is to start
  abbrev start : ℕ
  start = length bs - (154 + x.width + x.epoch_width)

  abbrev tail : Tail
  tail = record { nodes = x.count; start = start; epoch = epoch }

  -- xs, which are compared, are the end of the bytes
  module _ {xs : List ℕ} (end_is : xs ≡ drop start bs) where
    found : frame_on bs ≡ cond (bytes_eq xs (take end wanted)) (Some tail) None
    unfolding frame_on
    found =
        let same : take end wanted ≡ tail_of x.count epoch =
        take_put put (omega (arith, length-tail_of x.count epoch, tail-room x.count epoch small)) in
        rw (count, end_is, same, is)

    pub frame_on_same : bytes_eq xs (take end wanted) ≡ true → Some tail ≡ frame_on bs
    frame_on_same h = rw (found, h)

    pub frame_on-differ : bytes_eq xs (take end wanted) ≡ false → None ≡ frame_on bs
    frame_on-differ h = rw (found, h)

pub frame_on-none : (bs : List ℕ) → count_on bs ≡ None → None ≡ frame_on bs
unfolding frame_on
frame_on-none bs h = rw h
