-- The laws of an output that already has its data section: what is written before it leaves it alone, and the
-- record of a zone is found there. No contract cites this file.
-- Assumes nothing.
use Prim.Native.Nat.{ℕ, ◌+◌, ◌*◌, ◌%◌, ◌^◌, ◌≤◌}
use native.Mathlib.Omega.{arith}
use mathlib.Core.Path.{◌≡◌, sym, ap, ◌∙◌}
use mathlib.Core.List.{List}
use lib.ListN.{length}
use lib.Seq.{sets, length-sets}
use Rattle.records.specs.Layout.{zone_of}
use Rattle.records.specs.declared.Record.{Record}
use Rattle.image.specs.Image.{data_of}
use Rattle.image.proofs.SetsLaws.{drop-sets}
use Rattle.image_data.specs.Runs.{length_of, DataAt}
use Rattle.image_data.specs.declared.Runs.{Runs}
use Rattle.image_data.proofs.RunsLaws.{length-data_of-runs}
use Rattle.image_write.specs.Planting.{Stocked, Here}
use borrow.Author.Tests.{eq-eqb, ne_eqb}
use Rattle.image_data.specs.Runs.{Offset}

-- ---- Stocked: what is written among the nodes leaves the data section alone

data_at-sets : (out : List ℕ) (base : ℕ) (zs : List ℕ) (i : ℕ) (xs : List ℕ) → i + length xs ≤ base → DataAt out base zs → DataAt (sets out i xs) base zs
data_at-sets out base zs i xs h d =
    record {
      ascends = d.ascends;
      zones_fit = d.zones_fit;
      inside = rw (length-sets out i xs) d.inside;
      stands = rw (drop-sets base out i xs h) d.stands;
    }

pub stocked-sets : (out : List ℕ) (n : ℕ) (runs : Runs) (zs : List ℕ) (i : ℕ) (xs : List ℕ) → i + length xs ≤ 6 * n + 16 → Stocked out n runs zs
    → Stocked (sets out i xs) n runs zs
stocked-sets out n runs zs i xs h s =
    record { section = data_at-sets out (6 * n + 16) zs i xs h s.section; runs_are = s.runs_are; fits = s.fits }

-- ---- Stocked: what an output has room for

pub stocked_length : (out : List ℕ) (n : ℕ) (runs : Runs) (zs : List ℕ) → Stocked out n runs zs
    → (6 * n + 16 + length_of runs ≤ length out) × (n + 16 + length_of runs ≤ 2 ^ 24)
stocked_length out n runs zs s =
    let e : length (data_of zs) ≡ length_of runs = length-data_of-runs zs s.section.zones_fit ∙ ap length_of (sym s.runs_are) in
    (omega (arith, s.section.inside), omega (arith, s.fits))

-- ---- Here

pub here_above : (out : List ℕ) (n : ℕ) (runs : Runs) (r : Record) (above : ℕ) → r.tag % 2 ≡ 0 → Here out n runs r above above
unfolding zone_of
here_above out n runs r above e zs o s h = rw (ne_eqb (r.tag % 2) 1 (omega arith)) h

pub here-own : (out : List ℕ) (n : ℕ) (runs : Runs) (r : Record) (above d : ℕ) → (r.tag % 2 ≡ 0 → ⊥)
    → Offset out (6 * n + 16) runs r.zone d → Here out n runs r above (n + 16 + d)
unfolding zone_of
here-own out n runs r above d e f zs o s h =
    rw (eq-eqb (r.tag % 2) 1 (omega arith)) (λ i. ap (λ (k : ℕ). n + 16 + k) (f.right zs s.section s.runs_are i))
