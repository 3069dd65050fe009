-- How a key stands to a string: what a walk decides at a node.
-- Internal: what a walk and an edit are held to; no public contract cites it.
-- Paper 01, "The tree of a set".
--   meet s k    how the key k stands to the string s
-- Assumes nothing.
use Rattle.std.specs.Prelude.{true, false, [], ◌∷◌}
use Rattle.bits.specs.Bits.{Bits}
use Rattle.bits.specs.declared.Meeting.{Meeting}
use Rattle.bits.specs.declared.Meeting.TheVariants.{Equal, Below, Above, Apart}

-- (a walk goes on at a node below which the key lies, and stops at any other)
abbrev pub meet : Bits → Bits → Meeting
meet [] [] = Equal
meet [] (x ∷ k) = Below x
meet (x ∷ s) [] = Above x
meet (false ∷ s) (false ∷ k) = meet s k
meet (false ∷ s) (true ∷ k) = Apart true
meet (true ∷ s) (false ∷ k) = Apart false
meet (true ∷ s) (true ∷ k) = meet s k
