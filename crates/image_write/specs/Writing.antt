-- The image writer's promise.
-- Paper 01, "The image" and "Numbered refusals".
--   values_of      an answer's values
--   refusal_of x   the first refusal of the table's words, where the whole-table check says x of them
--   WriteImage     the contract of `write`
-- Assumes nothing.
use Rattle.std.specs.Prelude.{ℕ, suc, ◌≤◌, ◌<◌, ◌≡◌, Bool, true, false, List, [], ◌∷◌, ◌++◌, Result, Ok, Err, length, drop}
use Rattle.refusals.specs.Refusals.{number, number_of, needed_in, GivenExactly}
use Rattle.refusals.specs.declared.Refusal.{Refusal}
use Rattle.zones.specs.Maps.{Map}
use Rattle.records.specs.Holds.{Holds}
use Rattle.audit.specs.Checking.{audit_on}
use Rattle.image.specs.Image.{size24, image, image_length, IsImage}

-- the length written, or the length needed
abbrev pub values_of : Result ℕ Refusal → List ℕ
values_of (Ok n) = n ∷ []
values_of (Err e) = needed_in e ∷ []

-- No. 1, BadLength: "the table memory has another length than those above"; No. 6, Damaged: "words that no
-- table has" (in their order; 0 where the words are a table)
abbrev pub refusal_of : Result Bool Refusal → ℕ
refusal_of (Ok true) = 0
refusal_of (Ok false) = 6
refusal_of (Err e) = number e

-- ---- what `write` promises

pub record WriteImage (ws : List ℕ) (epoch : ℕ) (out : List ℕ) (r : Result ℕ Refusal) (after : List ℕ) : Type 0 where
  -- "The first that applies, in this order, is given; the image's ShortOut .. comes after Damaged"
  pub refusal : GivenExactly (refusal_of (audit_on ws)) (0 ∷ 5 ∷ []) (number_of r)
  -- BadLength and Damaged "return zero counts"
  pub counts : (n : ℕ) → refusal_of (audit_on ws) ≡ suc n → values_of r ≡ 0 ∷ []
  -- every refusal leaves the output (Damaged too: the paper's freedom is not used)
  pub kept : (n : ℕ) → number_of r ≡ suc n → after ≡ out
  -- No. 5, ShortOut: "image output too short; an image refusal also gives the length needed"
  pub short : (m : Map) → Holds ws m → length out < image_length size24 m epoch
      → (number_of r ≡ 5) × (values_of r ≡ image_length size24 m epoch ∷ [])
  -- the image of the map, byte for byte; "The writer returns it; output bytes past it stay."
  pub written : (m : Map) → Holds ws m → image_length size24 m epoch ≤ length out
      → (number_of r ≡ 0) × (values_of r ≡ image_length size24 m epoch ∷ []) × (after ≡ image size24 m epoch ++ drop (image_length size24 m epoch) out)
  -- "every table's list does" have an image, of these bytes
  pub image_is : (m : Map) → Holds ws m → IsImage size24 (image size24 m epoch) m epoch
