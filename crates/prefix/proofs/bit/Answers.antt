-- `prefix::bit` meets its contract: the bit stands in the half to which its place belongs.
-- Assumes nothing.
use mathlib.Core.Path.{sym, ◌∙◌}
use borrow.Author.Rules.{rules}
use Rattle.prefix.proofs.HalvesLaws.{get_or_high, get_or_low}
use Rattle.prefix.proofs.KeysLaws.{get_or-string_of}
use Rattle.prefix.proofs.bit.Goals as goal

pub returns-then-i-lt64 : goal.returns-then-i-lt64
returns-then-i-lt64 c = c.half_bit.ensures ∙ get_or_high _ _ _ c.high.ensures (search rules) ∙ sym (get_or-string_of _ _ (search rules))

pub returns : goal.returns
returns c = c.half_bit-2.ensures ∙ get_or_low _ _ _ c.low.ensures (search rules) ∙ sym (get_or-string_of _ _ (search rules))
