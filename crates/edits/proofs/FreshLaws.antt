-- The law of a fresh table that is made: what makes its contract.
-- No contract cites this file.
-- Assumes nothing.
use Prim.Native.Nat.{ℕ, ◌-◌, ◌/◌}
use mathlib.Core.Path.{◌≡◌, refl, sym, subst, ◌∙◌}
use mathlib.Core.Bool.{Bool, true, false, not}
use mathlib.Core.List.{List, []}
use lib.ListN.{length}
use borrow.Author.Tests.{not-false}
use Rattle.std.specs.Prelude.{Ok}
use Rattle.records.specs.Layout.{is_table, capacity, with_record, with_header}
use Rattle.records.specs.Holds.{Holds}
use Rattle.records.specs.declared.Record.{Record}
use Rattle.plans.specs.Planning.{freed_of}
use Rattle.edits.specs.Fresh.{chained_on, fresh_on, Fresh}
use Rattle.edits.proofs.FreshTableLaws.{fresh_on_holds}

-- ---- the contract, where b is what the test of the length says

module _ (ws : List ℕ) (b : Bool) (e : b ≡ is_table (length ws)) where
  pub fresh_done : (y : Record) (t u v : List ℕ) → not b ≡ false → y ≡ freed_of 0 → t ≡ with_record ws 0 y
      → u ≡ chained_on t (length ws / 8 - 1) (length ws / 8 - 1) → v ≡ with_header u (record { root = 0; spare = 1 }) → Fresh ws (Ok tt) v
  unfolding fresh_on capacity
  fresh_done y t u v n p q r s =
      let f : is_table (length ws) ≡ true = sym e ∙ not-false b n in
      let w : v ≡ fresh_on ws = simp (s, r, q, p) in
      record { answer = simp f; number = simp f; values = refl; words = simp f w; meaning = λ h. subst (λ (x : List ℕ). Holds x []) (sym w) (fresh_on_holds ws h) }
