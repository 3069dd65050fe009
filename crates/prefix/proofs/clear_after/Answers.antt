-- `prefix::clear_after` meets its contract: a shift by n leaves what stands after the first n bits.
-- Assumes nothing.
use borrow.Author.Rules.{rules}
use Rattle.prefix.proofs.HalvesLaws.{clear-shifted}
use Rattle.prefix.proofs.clear_after.Goals as goal

pub returns : goal.returns
returns c = clear-shifted c.args.n c.args.x (search rules)
