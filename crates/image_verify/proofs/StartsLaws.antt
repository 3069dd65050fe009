-- The laws of the entries one after the other: how many bytes there may be does not matter once they are
-- enough, and one law for each way out of the functions that go through them. No contract cites this file.
-- Assumes nothing.
use Prim.Native.Nat.{ℕ, zero, suc, ◌+◌, ◌-◌, ◌≤◌, ◌<◌}
use native.Mathlib.Decide.{dec_lt}
use native.Mathlib.Omega.{arith}
use mathlib.Core.Path.{◌≡◌, refl, sym, ap, ◌∙◌}
use mathlib.Core.Bool.{Bool, true, false, ◌&&◌, ◌||◌, cond}
use mathlib.Core.List.{List}
use lib.Dec.{leb, ltb, eqb, ltb→lt}
use lib.ListN.{length, get_or}
use borrow.Author.Tests.{le-leb, lt-leb, eq-eqb, ne_eqb}
use Rattle.std.specs.Prelude.{Option, Some, None}
use Rattle.bits.proofs.ListsLaws.{true-T, and_left, and_right}
use Rattle.metadata.specs.Frames.{number_at}
use Rattle.image_verify.specs.Verifying.{read_on, entries_from, entries_on, starts_from, starts_at}
use Rattle.image_verify.specs.Starts.{next_of}
use Rattle.image_verify.specs.declared.Entry.{Entry}
use Rattle.image_verify.proofs.Forms.{Reads, reads_same}

-- ---- the next entry's start

-- an entry is at least a byte long, and ends in the section
pub record Nearer (at end next : ℕ) : Type 0 where
  pub above : at < next
  pub inside : next ≤ end

reads-when : (b : Bool) (n z next y : ℕ) → cond b (Reads n z) None ≡ Reads next y → (b ≡ true) × (n ≡ next)
reads-when true n z next y e = (refl, (reads_same n z next y e).0)
reads-when false n z next y e = let q : ◌≡◌ {A = ℕ} 0 1 = cc in absurd (omega arith)

pub read_on-nearer : (bs : List ℕ) (at end next z : ℕ) → read_on bs at end ≡ Reads next z → Nearer at end next
unfolding read_on
read_on-nearer bs at end next z e =
    let b = get_or bs at 0 in
    let fit = ltb (at + (b - 192)) end && (eqb b 192 || ltb 0 (get_or bs (at + 1) 0)) in
    let w = reads-when (leb 192 b && (leb b 196 && fit)) (at + 1 + (b - 192)) (number_at bs (at + 1) (b - 192)) next z e in
    let k = and_right (leb b 196) fit (and_right (leb 192 b) (leb b 196 && fit) (true-T (leb 192 b && (leb b 196 && fit)) w.0)) in
    let l = ltb→lt (at + (b - 192)) end (and_left (ltb (at + (b - 192)) end) (eqb b 192 || ltb 0 (get_or bs (at + 1) 0)) k) in
    let n : at + 1 + (b - 192) ≡ next = w.1 in
    record { above = omega arith; inside = omega arith }

module _ (bs : List ℕ) (at end : ℕ) (h : at < end) where
  next_of-nearer_at : (x : Option Entry) → read_on bs at end ≡ x → Nearer at end (next_of end x)
  next_of-nearer_at None e = record { above = h; inside = omega arith }
  next_of-nearer_at (Some x) e = read_on-nearer bs at end x.next x.zone e

  pub next_of-nearer : Nearer at end (next_of end (read_on bs at end))
  next_of-nearer = next_of-nearer_at (read_on bs at end) refl

pub next-nearer : (bs : List ℕ) (at end next : ℕ) → at < end → next ≡ next_of end (read_on bs at end) → Nearer at end next
next-nearer bs at end next h e = rw e (next_of-nearer bs at end h)

-- ---- entries_on

module _ (bs : List ℕ) (end : ℕ) where
  entries_on-fuel_at : (f g at low : ℕ) (x : Option Entry) → read_on bs at end ≡ x
      → ((next least : ℕ) → at < next → next ≤ end → entries_on f bs next end least ≡ entries_on g bs next end least)
      → entries_from (λ next least. entries_on f bs next end least) low x ≡ entries_from (λ next least. entries_on g bs next end least) low x
  entries_on-fuel_at f g at low None e ih = refl
  entries_on-fuel_at f g at low (Some x) e ih =
      let w = read_on-nearer bs at end x.next x.zone e in
      ap (λ (b : Bool). leb low x.zone && b) (ih x.next (x.zone + 1) w.above w.inside)

  -- enough bytes are enough
  entries_on-fuel : (f g at low : ℕ) → at ≤ end → end ≤ at + f → end ≤ at + g → entries_on f bs at end low ≡ entries_on g bs at end low
  entries_on-fuel zero zero at low h k l = refl
  entries_on-fuel zero (suc g) at low h k l = let e : at ≡ end = omega arith in rw (eq-eqb at end e)
  entries_on-fuel (suc f) zero at low h k l = let e : at ≡ end = omega arith in rw (eq-eqb at end e)
  entries_on-fuel (suc f) (suc g) at low h k l =
      ap (λ (b : Bool). cond (eqb at end) true b)
      (entries_on-fuel_at f g at low (read_on bs at end) refl (λ next least a i. entries_on-fuel f g next least i (omega arith) (omega arith)))

  -- one law for each way out, where b is what the entries from `at` on come to
  module _ (most : end ≤ length bs) (at low : ℕ) (b : Bool) (h : entries_on (length bs) bs at end low ≡ b) where
    entries_on_first : at < end → (x : Option Entry) → x ≡ read_on bs at end → entries_from (λ next least. entries_on (length bs) bs next end least) low x ≡ b
    entries_on_first l x e =
        let f = length bs in
        let g : entries_on (suc f) bs at end low ≡ b = entries_on-fuel (suc f) f at low (omega arith) (omega arith) (omega arith) ∙ h in
        let d : at ≡ end → ⊥ = λ q. omega arith in
        rw e (rw (ne_eqb at end d) at g)

    module _ (l : at < end) (x : Option Entry) (e : x ≡ read_on bs at end) where
      module _ (next z : ℕ) (q : x ≡ Reads next z) where
        pub entries_on_low : z < low → false ≡ b
        entries_on_low k = rw (q, lt-leb low z k) at (entries_on_first l x e)

        pub entries_on_next : low ≤ z → entries_on (length bs) bs next end (z + 1) ≡ b
        entries_on_next k = rw (q, le-leb low z k) at (entries_on_first l x e)

-- ---- starts_at

module _ (bs : List ℕ) (end p : ℕ) where
  starts_at-fuel_at : (f g at : ℕ) (x : Option Entry) → read_on bs at end ≡ x
      → ((next : ℕ) → at < next → next ≤ end → starts_at f bs next end p ≡ starts_at g bs next end p)
      → starts_from (λ next. starts_at f bs next end p) x ≡ starts_from (λ next. starts_at g bs next end p) x
  starts_at-fuel_at f g at None e ih = refl
  starts_at-fuel_at f g at (Some x) e ih = let w = read_on-nearer bs at end x.next x.zone e in ih x.next w.above w.inside

  starts_at_past : (f at : ℕ) → end ≤ at → starts_at f bs at end p ≡ false
  starts_at_past zero at h = refl
  starts_at_past (suc f) at h = rw (le-leb end at h)

  starts_at-fuel : (f g at : ℕ) → end ≤ at + f → end ≤ at + g → starts_at f bs at end p ≡ starts_at g bs at end p
  starts_at-fuel zero g at k l = sym (starts_at_past g at (omega arith))
  starts_at-fuel (suc f) zero at k l = starts_at_past (suc f) at (omega arith)
  starts_at-fuel (suc f) (suc g) at k l =
      ap (λ (b : Bool). cond (leb end at) false (cond (leb p at) (eqb p at) b))
      (starts_at-fuel_at f g at (read_on bs at end) refl (λ next a i. starts_at-fuel f g next (omega arith) (omega arith)))

  module _ (most : end ≤ length bs) (at : ℕ) where
    starts_at_first : at < end → starts_at (length bs) bs at end p
        ≡ cond (leb p at) (eqb p at) (starts_from (λ next. starts_at (length bs) bs next end p) (read_on bs at end))
    starts_at_first h =
        starts_at-fuel (length bs) (suc (length bs)) at (omega arith) (omega arith) ∙ rw (lt-leb end at h)

    pub starts_at-before : p < at → starts_at (length bs) bs at end p ≡ false
    starts_at-before h = at_first (dec_lt at end)
      where
        at_first : Dec (at < end) → starts_at (length bs) bs at end p ≡ false
        at_first (yes l) = starts_at_first l ∙ rw (le-leb p at (omega arith), ne_eqb p at (λ e. omega arith))
        at_first (no l) = starts_at_past (length bs) at (omega arith)

    pub starts_at-here : at < end → p ≡ at → starts_at (length bs) bs at end p ≡ true
    starts_at-here h e = starts_at_first h ∙ rw (le-leb p at (omega arith), eq-eqb p at e)

    pub starts_at_next : at < end → at < p → starts_at (length bs) bs at end p ≡ starts_at (length bs) bs (next_of end (read_on bs at end)) end p
    starts_at_next h l = starts_at_first h ∙ rw (lt-leb p at l) (from (read_on bs at end))
      where
        from : (x : Option Entry) → starts_from (λ next. starts_at (length bs) bs next end p) x ≡ starts_at (length bs) bs (next_of end x) end p
        from None = sym (starts_at_past (length bs) end (omega arith))
        from (Some x) = refl
