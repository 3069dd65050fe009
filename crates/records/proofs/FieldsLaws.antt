-- The laws of a record's fields, one for each function that reads one of them by where the record starts.
-- No contract cites this file.
-- Assumes nothing.
use Prim.Native.Nat.{ℕ, ◌+◌}
use mathlib.Core.Path.{◌≡◌}
use mathlib.Core.List.{List, ◌++◌}
use lib.ListN.{get_or}
use Rattle.bits.specs.Numbers.{bits_of}
use Rattle.prefix.specs.Calls.{High}
use Rattle.prefix.proofs.HalvesLaws.{high_pair}
use Rattle.records.specs.Layout.{place, record_at, key_of}

module _ (ws : List ℕ) (at l : ℕ) (e : at ≡ place l) where
  pub tag_at : get_or ws (at + 7) 0 ≡ (record_at ws l).tag
  unfolding record_at
  tag_at = rw e

  pub zone-at : get_or ws (at + 4) 0 ≡ (record_at ws l).zone
  unfolding record_at
  zone-at = rw e

  pub high_at : (r : ℕ) → bits_of 64 r ≡ bits_of 32 (get_or ws (at + 1) 0) ++ bits_of 32 (get_or ws at 0) → High (key_of (record_at ws l)) r
  unfolding record_at key_of
  high_at r h = high_pair (key_of (record_at ws l)) r (rw (← e) h)

  pub left_at : get_or ws (at + 5) 0 ≡ (record_at ws l).left
  unfolding record_at
  left_at = rw e

  pub right_at : get_or ws (at + 6) 0 ≡ (record_at ws l).right
  unfolding record_at
  right_at = rw e
