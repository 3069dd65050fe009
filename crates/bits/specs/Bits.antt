-- Bit strings. A bit is a Bool, and 1 is true; the first bit of a string stands first.
-- Paper 01, "Keys and their order" and "The tree of a set".
--   is_prefix p k   p is a prefix of k: k begins with p
--   lcp p k         the longest common prefix of p and k
--   order p k       which of the two comes first
--   before p k      p comes strictly before k
--   equal p k       p and k are the same string
--   rising ps       each string comes strictly before all that follow it
--   member p ps     p is one of the strings ps
-- Assumes nothing.
use Rattle.std.specs.Prelude.{Bool, true, false, ◌&&◌, List, [], ◌∷◌}
use Rattle.std.specs.declared.cmp.Ordering.{Ordering}
use Rattle.std.specs.declared.cmp.Ordering.TheVariants.{Less, Equal, Greater}
use Rattle.std.specs.Ordering.{is_lt, is_eq}
use Rattle.bits.specs.Lists.{all, any}

abbrev pub Bits : Type 0
Bits = List Bool

-- "The empty prefix (width 0) .. is a prefix of every key."
abbrev pub is_prefix : Bits → Bits → Bool
is_prefix [] k = true
is_prefix (x ∷ p) [] = false
is_prefix (false ∷ p) (false ∷ k) = is_prefix p k
is_prefix (false ∷ p) (true ∷ k) = false
is_prefix (true ∷ p) (false ∷ k) = false
is_prefix (true ∷ p) (true ∷ k) = is_prefix p k

-- "the longest common prefix"
abbrev pub lcp : Bits → Bits → Bits
lcp [] k = []
lcp (x ∷ p) [] = []
lcp (false ∷ p) (false ∷ k) = false ∷ lcp p k
lcp (false ∷ p) (true ∷ k) = []
lcp (true ∷ p) (false ∷ k) = []
lcp (true ∷ p) (true ∷ k) = true ∷ lcp p k

-- "at the first differing bit, 0 comes before 1; a prefix comes before everything that extends it"
abbrev pub order : Bits → Bits → Ordering
order [] [] = Equal
order [] (y ∷ k) = Less
order (x ∷ p) [] = Greater
order (false ∷ p) (false ∷ k) = order p k
order (false ∷ p) (true ∷ k) = Less
order (true ∷ p) (false ∷ k) = Greater
order (true ∷ p) (true ∷ k) = order p k

abbrev pub before : Bits → Bits → Bool
before p k = is_lt (order p k)

abbrev pub equal : Bits → Bits → Bool
equal p k = is_eq (order p k)

abbrev pub rising : List Bits → Bool
rising [] = true
rising (p ∷ ps) = all (before p) ps && rising ps

unfoldable pub member : Bits → List Bits → Bool
member p ps = any (equal p) ps
