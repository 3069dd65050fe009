-- Marks on the bytes of a stretch of the data section, turned over where an entry starts.
-- Paper 01, "The image": "the different zone numbers that some record uses" (no entry but those, so that each mark
-- of a record is met by one of a start).
-- Internal: what the checker's own functions are held to; no public contract cites it.
--   next_of end x    where the next entry starts, `end` where there is none
--   Flipped          the contract of `flip_starts`
-- Assumes nothing.
use Rattle.std.specs.Prelude.{ℕ, ◌+◌, ◌≤◌, ◌≡◌, ◌&&◌, List, ltb, length, Option, Some, None}
use Rattle.marks.specs.Marks.{has, Marks, differ}
use Rattle.image_verify.specs.Verifying.{starts_at}
use Rattle.image_verify.specs.declared.Entry.{Entry}

abbrev pub next_of : ℕ → Option Entry → ℕ
next_of end None = end
next_of end (Some x) = x.next

-- each start from `first` on is turned over, as far as the stretch goes, and r is the first start after it
pub record Flipped (bs : List ℕ) (first end base stop : ℕ) (ws : List ℕ) (r : ℕ) (ws' : List ℕ) : Type 0 where
  pub marks : Marks ws' (λ e. differ (has ws e) (ltb (base + e) stop && starts_at (length bs) bs first end (base + e)))
  pub after : stop ≤ r
  pub inside : r ≤ end
  pub rest : (p : ℕ) → stop ≤ p → starts_at (length bs) bs first end p ≡ starts_at (length bs) bs r end p
