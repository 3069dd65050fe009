-- `prefix::compare` meets its contract: the derived order goes word by word, and then by the widths.
-- Assumes nothing.
use borrow.Author.Rules.{rules}
use mathlib.Core.Path.{sym, ◌∙◌}
use Rattle.prefix.proofs.KeysLaws.{order-string_of}
use Rattle.prefix.proofs.compare.Goals as goal

pub returns : goal.returns
returns c =
    c.cmp.ensures
    ∙ sym (order-string_of c.args.a c.args.b (search rules) (search rules) (search rules) (search rules))
