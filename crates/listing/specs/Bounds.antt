-- Bounds on what a slice's parts hand to each other.
-- Internal: what this crate's own functions are held to; no public contract cites it.
--   Narrow r    what the code needs of a resume that is sound
-- Assumes nothing.
use Rattle.std.specs.Prelude.{◌≤◌, Option, None, Some}
use Rattle.prefix.specs.declared.Prefix.{Prefix}

abbrev pub Narrow : Option Prefix → Type 0
Narrow None = Unit {0}
Narrow (Some k) = k.width ≤ 128
