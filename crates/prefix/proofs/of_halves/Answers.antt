-- `prefix::of_halves` meets its contract: each half is its two words.
-- Assumes nothing.
use mathlib.Core.Path.{refl}
use Rattle.prefix.proofs.HalvesLaws.{bits_of_words, high_pair, low_pair}
use Rattle.prefix.proofs.of_halves.Goals as goal

pub returns : goal.returns
returns c =
    record {
      width = refl;
      high = high_pair _ _ (rw (c.top.ensures, c.bottom.ensures) (bits_of_words c.args.x));
      low = low_pair _ _ (rw (c.top-2.ensures, c.bottom-2.ensures) (bits_of_words c.args.y));
    }
