-- `listing::way::sought_by` meets its contract: what `prefix::shared` gives are the bits that the definition
-- counts.
-- Assumes nothing.
use borrow.Author.Rules.{rules}
use Rattle.listing.proofs.TouringLaws.{passed_of_right, passed_of_left, passed_of_end, sought_of_wide, sought_of_low, sought_of-parted, sought_of-passed}
use Rattle.listing.proofs.way.sought_by.Goals as goal

pub returns-then-w-gt128 : goal.returns-then-w-gt128
returns-then-w-gt128 c = sought_of_wide _ _ _ _ (search rules)

pub returns-then-b-low : goal.returns-then-b-low
returns-then-b-low c =
    sought_of_low _ _ _ _ _ _ c.shared-b.ensures (search rules) (search rules) (search rules)

pub returns-then-b-w : goal.returns-then-b-w
returns-then-b-w c =
    sought_of-parted _ _ _ _ _ _ c.shared-b.ensures (search rules) (search rules) _ (search rules) (search rules) c.parted.ensures

pub returns-then-bit : goal.returns-then-bit
returns-then-bit c =
    sought_of-passed _ _ _ _ _ _ c.shared-b.ensures (search rules) (search rules) _ (search rules) (search rules)
    (passed_of_right _ _ _ _ c.bit.ensures (search rules) (search rules))

pub returns-then-w-k : goal.returns-then-w-k
returns-then-w-k c =
    sought_of-passed _ _ _ _ _ _ c.shared-b.ensures (search rules) (search rules) _ (search rules) (search rules)
    (passed_of_left _ _ _ _ c.bit.ensures (search rules) (search rules))

pub returns : goal.returns
returns c =
    sought_of-passed _ _ _ _ _ _ c.shared-b.ensures (search rules) (search rules) _ (search rules) (search rules)
    (passed_of_end _ _ _ (search rules))
