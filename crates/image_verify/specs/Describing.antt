-- What an image says of itself: how many nodes and data entries it has, and its epoch.
-- Paper 01, "The image".
--   entry_count f bs at end  the data entries from `at` on, up to `end` (f is how many bytes there may be)
--   describe_on bs           what `describe` answers
--   values_of                the values of an answer
--   Describe                 the contract of `describe`
-- Assumes nothing.
use Rattle.std.specs.Prelude.{ℕ, zero, suc, ◌+◌, ◌*◌, ◌≡◌, cond, List, [], ◌∷◌, leb, length, Option, Some, None, Result, Ok, Err}
use Rattle.refusals.specs.Refusals.{number_of, OneOf}
use Rattle.zones.specs.Maps.{Map}
use Rattle.image.specs.Image.{size24, forks_of, zones_of, IsImage}
use Rattle.metadata.specs.Frames.{frame_on}
use Rattle.metadata.specs.declared.Tail.{Tail}
use Rattle.refusals.specs.declared.Refusal.{Refusal}
use Rattle.refusals.specs.declared.Refusal.TheVariants.{BadImage}
use Rattle.image_verify.specs.Verifying.{read_on}
use Rattle.image_verify.specs.declared.Description.{Description}
use Rattle.image_verify.specs.declared.Entry.{Entry}

abbrev pub count_from : (ℕ → ℕ) → Option Entry → ℕ
count_from go None = 0
count_from go (Some x) = 1 + go x.next

abbrev pub entry_count : ℕ → List ℕ → ℕ → ℕ → ℕ
entry_count zero bs at end = 0
entry_count (suc f) bs at end = cond (leb end at) 0 (count_from (λ next. entry_count f bs next end) (read_on bs at end))

abbrev pub describe_frame : List ℕ → Option Tail → Result Description Refusal
describe_frame bs None = Err BadImage
describe_frame bs (Some t) =
    let start = 6 * t.nodes + 16 in
    cond (leb start t.start) (Ok (record { nodes = t.nodes; entries = entry_count (length bs) bs start t.start; epoch = t.epoch })) (Err BadImage)

unfoldable pub describe_on : List ℕ → Result Description Refusal
describe_on bs = describe_frame bs (frame_on bs)

abbrev pub values_of : Result Description Refusal → List ℕ
values_of (Ok x) = x.nodes ∷ x.entries ∷ x.epoch ∷ []
values_of (Err e) = 0 ∷ 0 ∷ 0 ∷ []

-- ---- what `describe` promises

pub record Describe (bs : List ℕ) (r : Result Description Refusal) : Type 0 where
  -- one value on any bytes
  pub answer : r ≡ describe_on bs
  -- No. 9, BadImage
  pub refusal : OneOf (0 ∷ 9 ∷ []) (number_of r)
  -- "return zero counts"
  pub kept : number_of r ≡ 9 → values_of r ≡ 0 ∷ 0 ∷ 0 ∷ []
  -- on an image: its nodes, "the different zone numbers that some record uses", and its epoch
  pub meaning : (m : Map) (epoch : ℕ) → IsImage size24 bs m epoch
      → (number_of r ≡ 0) × (values_of r ≡ length (forks_of m) ∷ length (zones_of (forks_of m)) ∷ epoch ∷ [])
