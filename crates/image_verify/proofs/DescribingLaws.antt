-- The laws of what an image says of itself: one for each way out of its functions, and what is counted in an
-- image. No contract cites this file.
-- Assumes nothing.
use Prim.Native.Nat.{ℕ, zero, suc, ◌+◌, ◌*◌, ◌≤◌, ◌<◌}
use native.Mathlib.Omega.{arith}
use mathlib.Core.Path.{◌≡◌, refl, sym, ap, ◌∙◌}
use mathlib.Core.Bool.{Bool, true, false, cond}
use mathlib.Core.List.{List, [], ◌∷◌}
use lib.Dec.{leb}
use lib.ListN.{length}
use borrow.Author.Tests.{le-leb, lt-leb}
use Rattle.std.specs.Prelude.{Option, Some, None, Result, Ok, Err}
use Rattle.refusals.specs.Refusals.{number_of, OneOf}
use Rattle.refusals.specs.declared.Refusal.{Refusal}
use Rattle.refusals.specs.declared.Refusal.TheVariants.{BadImage}
use Rattle.zones.specs.Maps.{Map}
use Rattle.image.specs.Bytes.{uint32}
use Rattle.image.specs.Image.{size24, forks_of, zones_of, data_of, IsImage}
use Rattle.metadata.specs.Frames.{frame_on}
use Rattle.metadata.specs.declared.Tail.{Tail}
use Rattle.image_verify.specs.Verifying.{read_on}
use Rattle.image_verify.specs.Describing.{count_from, entry_count, describe_frame, describe_on, values_of, Describe}
use Rattle.image_verify.specs.declared.Description.{Description}
use Rattle.image_verify.specs.declared.Entry.{Entry}
use Rattle.image_verify.proofs.StartsLaws.{read_on-nearer}
use Rattle.image_verify.proofs.EntriesLaws.{Entries, length-data_of-le, read_on-entries, entries-tail, entries-lt}
use Rattle.image_verify.proofs.ImageLaws.{parts-image, frame-image}
use Rattle.image_verify.proofs.CheckLaws.{frame-inside}
use Rattle.image_verify.proofs.Forms.{Reads}

-- ---- entry_count

module _ (bs : List ℕ) (end : ℕ) where
  entry_count_past : (f at : ℕ) → end ≤ at → entry_count f bs at end ≡ 0
  entry_count_past zero at h = refl
  entry_count_past (suc f) at h = rw (le-leb end at h)

  entry_count-fuel_at : (f g at : ℕ) (x : Option Entry) → read_on bs at end ≡ x
      → ((next : ℕ) → at < next → entry_count f bs next end ≡ entry_count g bs next end)
      → count_from (λ next. entry_count f bs next end) x ≡ count_from (λ next. entry_count g bs next end) x
  entry_count-fuel_at f g at None e ih = refl
  entry_count-fuel_at f g at (Some x) e ih = ap (λ (n : ℕ). 1 + n) (ih x.next (read_on-nearer bs at end x.next x.zone e).above)

  -- enough bytes are enough
  entry_count-fuel : (f g at : ℕ) → end ≤ at + f → end ≤ at + g → entry_count f bs at end ≡ entry_count g bs at end
  entry_count-fuel zero g at k l = sym (entry_count_past g at (omega arith))
  entry_count-fuel (suc f) zero at k l = entry_count_past (suc f) at (omega arith)
  entry_count-fuel (suc f) (suc g) at k l =
      ap (λ (n : ℕ). cond (leb end at) 0 n)
      (entry_count-fuel_at f g at (read_on bs at end) refl (λ next a. entry_count-fuel f g next (omega arith) (omega arith)))

  -- one law for each way out, where k entries are counted and c is what all come to
  module _ (most : end ≤ length bs) (at k c : ℕ) (h : k + entry_count (length bs) bs at end ≡ c) where
    module _ (l : at < end) (x : Option Entry) (e : x ≡ read_on bs at end) where
      entry_count_first : k + count_from (λ next. entry_count (length bs) bs next end) x ≡ c
      entry_count_first =
          let f = length bs in
          let g = entry_count-fuel (suc f) f at (omega arith) (omega arith) in
          let s : entry_count (suc f) bs at end ≡ count_from (λ next. entry_count f bs next end) (read_on bs at end) = rw (lt-leb end at l) in
          rw e (ap (λ (n : ℕ). k + n) (sym s ∙ g) ∙ h)

      module _ (next z : ℕ) (q : x ≡ Reads next z) where
        pub entry_count_next : k + 1 + entry_count (length bs) bs next end ≡ c
        entry_count_next = let w : k + (1 + entry_count (length bs) bs next end) ≡ c = rw q at entry_count_first in omega (arith, w)

  -- the entries that stand there are counted
  entry_count-entries : (f at : ℕ) (zs : List ℕ) → length zs ≤ f → Entries bs at end zs → entry_count f bs at end ≡ length zs
  unfolding data_of
  entry_count-entries f at [] l h = entry_count_past f at (omega (arith, h.ends))
  entry_count-entries zero at (z ∷ zs) l h = absurd (omega arith)
  entry_count-entries (suc f) at (z ∷ zs) l h =
      rw (lt-leb end at (entries-lt bs end at z zs h), read_on-entries bs end at z zs h)
      (omega (arith, entry_count-entries f (at + length (uint32 z)) zs (omega arith) (entries-tail bs end at z zs h)))

-- ---- describe_on

pub describe_on-bad : (bs : List ℕ) → frame_on bs ≡ None → Err BadImage ≡ describe_on bs
unfolding describe_on
describe_on-bad bs e = rw e

module _ (bs : List ℕ) (t : Tail) (e : frame_on bs ≡ Some t) where
  pub describe_on_short : t.start < 6 * t.nodes + 16 → Err BadImage ≡ describe_on bs
  unfolding describe_on
  describe_on_short h = rw (e, lt-leb (6 * t.nodes + 16) t.start h)

  pub describe_on-room : 6 * t.nodes + 16 ≤ t.start → (k : ℕ) → k ≡ entry_count (length bs) bs (6 * t.nodes + 16) t.start
      → Ok (record { nodes = t.nodes; entries = k; epoch = t.epoch }) ≡ describe_on bs
  unfolding describe_on
  describe_on-room h k c = rw (e, le-leb (6 * t.nodes + 16) t.start h, c)

  describe_on-entries : (zs : List ℕ) → Entries bs (6 * t.nodes + 16) t.start zs
      → describe_on bs ≡ Ok (record { nodes = t.nodes; entries = length zs; epoch = t.epoch })
  describe_on-entries zs h =
      let inside = frame-inside bs t e in
      let few : length zs ≤ length bs = omega (arith, h.ends, length-data_of-le zs) in
      let count = entry_count-entries bs t.start (length bs) (6 * t.nodes + 16) zs few h in
      sym (describe_on-room (omega (arith, h.ends)) (length zs) (sym count))

describe_on-image : (bs : List ℕ) (m : Map) (epoch : ℕ) → IsImage size24 bs m epoch
    → describe_on bs ≡ Ok (record { nodes = length (forks_of m); entries = length (zones_of (forks_of m)); epoch = epoch })
describe_on-image bs m epoch is = describe_on-entries bs _ (frame-image bs m epoch is) (zones_of (forks_of m)) (parts-image bs m epoch is).entries

-- ---- the promise

describe_frame-refuses : (bs : List ℕ) (x : Option Tail) → OneOf (0 ∷ 9 ∷ []) (number_of (describe_frame bs x))
describe_frame-refuses bs None = tt
describe_frame-refuses bs (Some t) = at (leb (6 * t.nodes + 16) t.start) _
  where
    at : (b : Bool) (d : Description) → OneOf (0 ∷ 9 ∷ []) (number_of (cond b (Ok d) (Err BadImage)))
    at true d = tt
    at false d = tt

describe_on-refuses : (bs : List ℕ) → OneOf (0 ∷ 9 ∷ []) (number_of (describe_on bs))
unfolding describe_on
describe_on-refuses bs = describe_frame-refuses bs (frame_on bs)

values_of-refused : (r : Result Description Refusal) → number_of r ≡ 9 → values_of r ≡ 0 ∷ 0 ∷ 0 ∷ []
values_of-refused (Ok x) h = absurd (omega arith)
values_of-refused (Err e) h = refl

pub describe-promise : (bs : List ℕ) (r : Result Description Refusal) → r ≡ describe_on bs → Describe bs r
describe-promise bs r e =
    record {
      answer = e;
      refusal = rw e (describe_on-refuses bs);
      kept = values_of-refused r;
      meaning = λ m epoch is. let d = e ∙ describe_on-image bs m epoch is in (ap number_of d, ap values_of d);
    }
