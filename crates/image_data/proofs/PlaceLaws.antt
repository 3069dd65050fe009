-- The laws of halving a run: between which entries a number stands as the loop goes, and the offset that its
-- place gives. No contract cites this file.
--   Between   where the number is in the run, it stands from `low` on and not after `high`
-- Assumes nothing.
use Prim.Native.Nat.{ℕ, ◌+◌, ◌*◌, ◌≤◌, ◌<◌}
use native.Mathlib.Nat.{mul-le-mul_left}
use native.Mathlib.Decide.{dec_lt}
use native.Mathlib.Omega.{arith}
use mathlib.Core.Path.{◌≡◌, sym, ap, ◌∙◌}
use mathlib.Core.List.{List, Memᴰ}
use lib.Dec.{T, eqb, eqb_refl}
use lib.ListN.{length, get_or}
use Rattle.bits.proofs.ListsLaws.{mem-keep}
use Rattle.image.specs.Bytes.{short}
use Rattle.image.specs.Image.{offset}
use Rattle.image.specs.Ascending.{ascending_numbers}
use Rattle.metadata.specs.Frames.{number_at}
use Rattle.image_data.specs.Runs.{run_of, count_of, runs_of, start_of, share_of, DataAt, RunAt, Placed, Offset}
use Rattle.image_data.specs.declared.Runs.{Runs}
use Rattle.image_data.proofs.RunsLaws.{share_of-runs, run-le}
use Rattle.image_data.proofs.OffsetLaws.{mem-get_or, get_or-ascending, offset-runs, run_at-data}

-- ---- the loop

-- of ascending numbers the smaller stands before
get_d_le : (ys : List ℕ) (i j : ℕ) → T (ascending_numbers ys) → i < length ys → get_or ys i 0 ≤ get_or ys j 0 → i ≤ j
get_d_le ys i j h l k = at (dec_lt j i)
  where
    at : Dec (j < i) → i ≤ j
    at (yes m) = absurd (omega (arith, get_or-ascending ys j i h m l))
    at (no m) = omega arith

pub record Between (bs : List ℕ) (at s count z low high : ℕ) : Type 0 where
  pub stands : (ys : List ℕ) → RunAt bs at s ys → length ys ≡ count → (i : ℕ) → i < count → get_or ys i 0 ≡ z
      → (low ≤ i) × (i ≤ high)

module _ (bs : List ℕ) (at s count z : ℕ) where
  pub between-all : Between bs at s count z 0 count
  between-all = record { stands = λ ys run l i h e. (omega arith, omega arith) }

  module _ (low high m v : ℕ) (inside : m < count) (entry : v ≡ number_at bs (at + (s + 1) * m + 1) s) (b : Between bs at s count z low high) where
    -- a smaller entry stands before the number
    pub between-after : v < z → Between bs at s count z (m + 1) high
    between-after l = record {
      stands = λ ys run n i j q.
          let p : v ≡ get_or ys m 0 = entry ∙ run.spells m (omega arith) in
          let k : m ≤ i = get_d_le ys m i run.ascends (omega arith) (omega arith) in
          let differ : m ≡ i → ⊥ = λ f. omega (arith, ap (λ (x : ℕ). get_or ys x 0) f) in
          (omega arith, (b.stands ys run n i j q).1);
    }

    -- any other does not
    pub between-before : z ≤ v → Between bs at s count z low m
    between-before l = record {
      stands = λ ys run n i j q.
          let p : v ≡ get_or ys m 0 = entry ∙ run.spells m (omega arith) in
          ((b.stands ys run n i j q).0, get_d_le ys i m run.ascends (omega arith) (omega arith));
    }

  pub placed-between : (r : ℕ) → r ≤ count → Between bs at s count z r r → Placed bs at s count z r
  placed-between r h b = record {
    within = h;
    right = λ ys run n i j q. omega (arith, b.stands ys run n i j q);
  }

-- ---- bounds

-- the whole of an entry is in its run
pub entry-le : (s m count : ℕ) → m < count → (s + 1) * m + 1 + s ≤ (s + 1) * count
entry-le s m count h = omega (arith, mul-le-mul_left (s + 1) h)

-- ---- the offset

-- the place of a number in its run gives its offset
offset-placed_at : (bs : List ℕ) (base : ℕ) (runs : Runs) (s z i : ℕ) → s ≡ length (short z) → s ≤ 4
    → Placed bs (base + start_of runs s) s (share_of runs s) z i → (zs : List ℕ) → DataAt bs base zs → runs ≡ runs_of zs → Memᴰ z zs
    → start_of runs s + (s + 1) * i ≡ offset zs z
unfolding count_of
offset-placed_at bs base runs s z i size few p zs d e m =
    let j = mem-get_or z (run_of s zs) (mem-keep (λ y. eqb (length (short y)) s) zs z m (rw size (eqb_refl (length (short z))))) in
    let share : share_of runs s ≡ length (run_of s zs) = ap (λ (r : Runs). share_of r s) e ∙ share_of-runs s zs few in
    let place : i ≡ j.0 = p.right (run_of s zs) (rw e (run_at-data bs base s zs few d)) (sym share) j.0 (omega arith) j.2 in
    ap (λ (r : Runs). start_of r s + (s + 1) * i) e
    ∙ ap (λ (n : ℕ). start_of (runs_of zs) s + (s + 1) * n) place
    ∙ sym (offset-runs s zs few d.ascends d.zones_fit j.0 z j.1 j.2)

pub offset-placed : (bs : List ℕ) (base : ℕ) (runs : Runs) (s start z i : ℕ) → s ≡ length (short z) → s ≤ 4 → start ≡ start_of runs s
    → Placed bs (base + start) s (share_of runs s) z i → Offset bs base runs z (start + (s + 1) * i)
offset-placed bs base runs s start z i size few e p = record {
  within = rw e (omega (arith, run-le runs s few, mul-le-mul_left (s + 1) p.within));
  right = rw e (offset-placed_at bs base runs s z i size few (rw e at p));
}
