-- The zone numbers that a part of an image uses.
-- Paper 01, "The image": "the different zone numbers that some record uses".
-- Internal: what the writer's own functions are held to; no public contract cites it.
--   zone_in above       the zone above a place, as what a leaf holds
--   used_in t           the zone numbers of the leaves of a trie
--   beside a n o        those of the leaves beside a way from a bits to n
--   both_end r          a record has no side
-- Assumes nothing.
use Rattle.std.specs.Prelude.{ℕ, Bool, cond, ◌&&◌, List, [], ◌∷◌, ◌++◌, ltb, eqb}
use Rattle.std.specs.Prelude.{None, Some, Option as Maybe}
use Rattle.std.proofs.Math.Option.{Option, none, some}
use Rattle.records.specs.declared.Record.{Record}
use Rattle.image.specs.Tries.{Trie, leaf, fork}

abbrev pub zone_in : Maybe ℕ → Option ℕ
zone_in (Some z) = some z
zone_in None = none

abbrev pub used_in : Trie → List ℕ
used_in (leaf none) = []
used_in (leaf (some z)) = z ∷ []
used_in (fork l r) = used_in l ++ used_in r

unfoldable pub beside : ℕ → ℕ → Option ℕ → List ℕ
beside a n o = cond (ltb a n) (used_in (leaf o)) []

unfoldable pub both_end : Record → Bool
both_end r = eqb r.left 0 && eqb r.right 0
