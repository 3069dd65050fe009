-- What every call on a table of a map answers and leaves.
-- Paper 01, "Numbered refusals": "On memory it accepts, every call answers as it does for that set."
--   nodes_for, trail_for  how many nodes a call for k reports, and the trail that it leaves
--   Answers ws m          every call on the words ws answers as the map m does
-- Assumes nothing.
use Rattle.std.specs.Prelude.{ℕ, ◌*◌, ◌≤◌, ◌<◌, ◌≡◌, List, [], ◌∷◌, ◌++◌, Option, length, drop}
use Rattle.std.proofs.Math.Option.{some}
use Rattle.refusals.specs.Refusals.{number_of}
use Rattle.prefix.specs.Keys.{string_of}
use Rattle.prefix.specs.declared.Prefix.{Prefix}
use Rattle.zones.specs.Maps.{Map, keys, get, put, without, longest_match}
use Rattle.zones.specs.Nodes.{path, trail, overflows}
use Rattle.zones.specs.Slices.{given, remains, count}
use Rattle.records.specs.Layout.{capacity}
use Rattle.records.specs.Holds.{Holds}
use Rattle.lookup.specs.Fetching as fetching
use Rattle.lookup.specs.Matching as matching
use Rattle.plans.specs.Planning.{entry_of}
use Rattle.edits.specs.Storing as storing
use Rattle.edits.specs.Removing as removing
use Rattle.listing.specs.Slicing as slicing
use Rattle.listing.specs.Slicing.{refused_of, resume_of, words_of}
use Rattle.listing.specs.Touring.{gives}
use Rattle.image.specs.Image.{size24, image, image_length}
use Rattle.nalfipode.specs.Changes.{StoreOut, RemoveOut}
use Rattle.nalfipode.specs.Reads.{FetchOut, LongestMatchOut}
use Rattle.nalfipode.specs.Slices.{SliceOut}
use Rattle.nalfipode.specs.Checks.{AuditOut}
use Rattle.nalfipode.specs.Images.{WriteOut}
use Rattle.answers.specs.Made.{edited, Ready, Tells}

abbrev pub nodes_for : Map → Prefix → ℕ
nodes_for m k = length (path (keys m) (string_of k))

abbrev pub trail_for : Map → Prefix → List ℕ → List ℕ
trail_for m k bs = trail (keys m) (string_of k) ++ drop (nodes_for m k) bs

pub record Answers (ws : List ℕ) (m : Map) : Type 0 where
  -- ---- keyed calls, for a valid key with room for its trail
  pub fetch : {k : Prefix} {bs after values : List ℕ} {r : ℕ} → FetchOut ws k bs r after values → Ready k bs
      → Tells number_of fetching.values_of (fetching.gives (nodes_for m k) (get (string_of k) m)) r values × (after ≡ trail_for m k bs)
  pub longest : {k : Prefix} {bs after values : List ℕ} {r : ℕ} → LongestMatchOut ws k bs r after values → Ready k bs
      → Tells number_of matching.values_of (matching.gives (nodes_for m k) (longest_match (string_of k) m)) r values × (after ≡ trail_for m k bs)
  pub store : {k : Prefix} {z r : ℕ} {bs us after values : List ℕ} → StoreOut ws k z bs r us after values → Ready k bs
      → Tells number_of storing.values_of
      (storing.gives (overflows (capacity (length ws)) (entry_of k z) m) (nodes_for m k) (get (string_of k) m)) r values
      × (after ≡ trail_for m k bs) × Holds us (edited r (put (entry_of k z) m) m)
  -- "Replacing is never Full."
  pub replace : {k : Prefix} {z r old : ℕ} {bs us after values : List ℕ} → StoreOut ws k z bs r us after values → Ready k bs
      → get (string_of k) m ≡ some old → r ≡ 0
  pub remove : {k : Prefix} {r : ℕ} {bs us after values : List ℕ} → RemoveOut ws k bs r us after values → Ready k bs
      → Tells number_of removing.values_of (removing.gives (nodes_for m k) (get (string_of k) m)) r values
      × (after ≡ trail_for m k bs) × Holds us (without (string_of k) m)
  -- ---- a slice, where no refusal applies
  pub slice : {from : Option Prefix} {b r : ℕ} {us after values : List ℕ} → SliceOut ws from b us r after values
      → number_of (refused_of (length ws) from b (length us)) ≡ 0
      → Tells number_of slicing.values_of
      (gives (length (given m (resume_of from) b)) (remains m (resume_of from) b) (count m (resume_of from) b)) r values
      × (after ≡ words_of (given m (resume_of from) b) ++ drop (6 * length (given m (resume_of from) b)) us)
  -- ---- the image writer
  pub image : {epoch r : ℕ} {out after values : List ℕ} → WriteOut ws epoch out r after values → image_length size24 m epoch ≤ length out
      → (r ≡ 0) × (values ≡ image_length size24 m epoch ∷ []) × (after ≡ image size24 m epoch ++ drop (image_length size24 m epoch) out)
  pub image_short : {epoch r : ℕ} {out after values : List ℕ} → WriteOut ws epoch out r after values → length out < image_length size24 m epoch
      → (r ≡ 5) × (values ≡ image_length size24 m epoch ∷ []) × (after ≡ out)
  -- ---- the whole-table check: yes
  pub check : {r : ℕ} {values : List ℕ} → AuditOut ws r values → values ≡ 1 ∷ []
