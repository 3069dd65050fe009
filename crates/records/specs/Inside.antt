-- Where a record may be read or written.
-- Internal: what the functions on a record are called with; no public contract cites it.
--   Inside ws l    the words ws have a record l
-- Assumes nothing.
use Rattle.std.specs.Prelude.{ℕ, ◌+◌, ◌≤◌, List, length}
use Rattle.records.specs.Layout.{place}

pub record Inside (ws : List ℕ) (l : ℕ) : Type 0 where
  pub fits : place l + 8 ≤ length ws
