-- What a walk that carries no link comes to, as a read asks for none and an edit alone does.
-- Internal: what this crate's own functions are held to; no public contract cites it.
-- Paper 01, "The lent table" and "Numbered refusals".
--   Walked noted v r after  the contract of `walk_path`, where the walk from the top leaves v
-- Assumes nothing.
use Rattle.std.specs.Prelude.{◌≡◌, ℕ, Bool, true, List, Result}
use Rattle.refusals.specs.declared.Refusal.{Refusal}
use Rattle.lookup.specs.Walking.{Survey}
use Rattle.lookup.specs.Matching.{matched_of}
use Rattle.lookup.specs.declared.Path.{Path}

-- (a read has of the answer the same, whatever links it carries)
pub record Walked (noted : Bool) (v : Survey) (r : Result Path Refusal) (after : List ℕ) : Type 0 where
  pub widths : after ≡ v.widths
  pub read : matched_of r ≡ matched_of v.out
  pub path : noted ≡ true → r ≡ v.out
