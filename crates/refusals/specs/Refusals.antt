-- The numbered refusals, and how they are given.
-- Paper 01, "Numbered refusals".
--   number e                    the paper's number of a refusal
--   number_of r                 the number of an answer, 0 where it is accepted
--   nodes_in e                  how many nodes' widths the trail holds where a call is refused
--   needed_in e                 the length needed, where the output is too short
--   OneOf ns n                  the number n is one of ns
--   GivenExactly first rest n   n is what a call gives, where `first` is the first refusal of its arguments
-- Assumes nothing.
use Rattle.std.specs.Prelude.{ℕ, zero, suc, ◌≡◌, List, Result, Ok, Err, T, eqb}
use Rattle.bits.specs.Lists.{any}
use Rattle.refusals.specs.declared.Refusal.{Refusal}
use Rattle.refusals.specs.declared.Refusal.TheVariants.{BadLength, BadPrefix, BadPosition, BadSize, ShortOut, Damaged, Absent, Full, BadImage}

-- Nos. 1 to 9
abbrev pub number : Refusal → ℕ
number BadLength = 1
number BadPrefix = 2
number BadPosition = 3
number BadSize = 4
number (ShortOut n) = 5
number Damaged = 6
number (Absent n) = 7
number (Full n) = 8
number BadImage = 9

abbrev pub number_of : {A : Type 0} → Result A Refusal → ℕ
number_of (Ok x) = 0
number_of (Err e) = number e

-- "Absent and Full write the trail and return its number; all others return zero counts"
abbrev pub nodes_in : Refusal → ℕ
nodes_in BadLength = 0
nodes_in BadPrefix = 0
nodes_in BadPosition = 0
nodes_in BadSize = 0
nodes_in (ShortOut n) = 0
nodes_in Damaged = 0
nodes_in (Absent n) = n
nodes_in (Full n) = n
nodes_in BadImage = 0

-- "an image refusal also gives the length needed"
abbrev pub needed_in : Refusal → ℕ
needed_in BadLength = 0
needed_in BadPrefix = 0
needed_in BadPosition = 0
needed_in BadSize = 0
needed_in (ShortOut n) = n
needed_in Damaged = 0
needed_in (Absent n) = 0
needed_in (Full n) = 0
needed_in BadImage = 0

abbrev pub OneOf : List ℕ → ℕ → Type 0
OneOf ns n = T (any (eqb n) ns)

-- "Given exactly when"; "The first that applies, in this order, is given" (`first` is its number, 0 where no
-- refusal of the arguments applies: then n is one of the rest, which has none of theirs)
abbrev pub GivenExactly : ℕ → List ℕ → ℕ → Type 0
GivenExactly zero rest n = OneOf rest n
GivenExactly (suc first) rest n = n ≡ suc first
