-- `prefix::keep` meets its contract: the shift down and up again blanks what stands after the first n bits.
-- Assumes nothing.
use native.Mathlib.Omega.{arith}
use mathlib.Core.Path.{sym}
use borrow.Author.Rules.{rules}
use Rattle.bits.specs.Numbers.{bits_of}
use Rattle.bits.proofs.BlankLaws.{blank-all}
use Rattle.bits.proofs.NumbersLaws.{length-bits_of, bits_of_zero, bits_of-blank}
use Rattle.prefix.proofs.keep.Goals as goal

pub returns-then-n-ge64 : goal.returns-then-n-ge64
returns-then-n-ge64 c = sym (blank-all _ (bits_of 64 c.args.x) (omega (arith, length-bits_of 64 c.args.x)))

pub returns-then-n-eq0 : goal.returns-then-n-eq0
returns-then-n-eq0 c = rw c.if-n-eq0.true (bits_of_zero 64 _)

pub returns : goal.returns
returns c = bits_of-blank 64 c.args.n _ (search rules) (search rules)
