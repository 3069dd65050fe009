-- `nalfipode::keyed` meets its contract: each word is read from its place.
-- Assumes nothing.
use mathlib.Core.Path.{refl}
use Rattle.nalfipode.proofs.keyed.Goals as goal

pub returns : goal.returns
returns c = refl
