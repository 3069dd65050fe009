-- `prefix::begins` meets its contract: a prefix is what is common in its whole length.
-- Assumes nothing.
use borrow.Author.Rules.{rules}
use Rattle.prefix.proofs.KeysLaws.{is_prefix-string_of}
use Rattle.prefix.proofs.begins.Goals as goal

pub returns : goal.returns
returns c =
    is_prefix-string_of c.args.k c.args.p _ (search rules) (search rules)
