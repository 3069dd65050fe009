-- Bounds on what the check's parts hand to each other.
-- Internal: what this crate's own functions are held to; no public contract cites it.
--   low_of at   how long the string is that a node at a place begins with
-- Assumes nothing.
use Rattle.std.specs.Prelude.{ℕ, ◌+◌, Option, None, Some}
use Rattle.audit.specs.declared.Under.{Under}

abbrev pub low_of : Option Under → ℕ
low_of None = 0
low_of (Some u) = u.key.width + 1
