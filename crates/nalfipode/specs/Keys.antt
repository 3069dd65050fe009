-- A key as C lends it: a width, and an array of four words.
--   key_of w ks  the prefix of the width w and the words ks, valid or not
-- Assumes nothing.
use Rattle.std.specs.Prelude.{ℕ, List, get_or}
use Rattle.prefix.specs.declared.Prefix.{Prefix}

abbrev pub key_of : ℕ → List ℕ → Prefix
key_of w ks = record { width = w; w0 = get_or ks 0 0; w1 = get_or ks 1 0; w2 = get_or ks 2 0; w3 = get_or ks 3 0 }
