-- `prefix::meet` meets its contract: by whether the common bits are all of s, and all of k.
-- Assumes nothing.
use borrow.Author.Rules.{rules}
use Rattle.prefix.proofs.KeysLaws.{meet-string_of_apart, meet-string_of_above, meet-string_of_below, meet-string_of-equal}
use Rattle.prefix.proofs.meet.Goals as goal

pub returns-in-true-true : goal.returns-in-true-true
returns-in-true-true c =
    meet-string_of_apart _ _ c.shared-n.result (search rules) (search rules) (search rules) _ (search rules) (search rules) (search rules)

pub returns-in-true-false : goal.returns-in-true-false
returns-in-true-false c =
    meet-string_of_above _ _ c.shared-n.result (search rules) (search rules) (search rules) _ (search rules) (search rules) (search rules)

pub returns-in-false-true : goal.returns-in-false-true
returns-in-false-true c =
    meet-string_of_below _ _ c.shared-n.result (search rules) (search rules) (search rules) _ (search rules) (search rules) (search rules)

pub returns-in-false-false : goal.returns-in-false-false
returns-in-false-false c =
    meet-string_of-equal _ _ c.shared-n.result (search rules) (search rules) (search rules) (search rules) (search rules)
