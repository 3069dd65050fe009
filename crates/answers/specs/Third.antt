-- The third answer: how much table work one holder of the lock can do, and that it does not grow with age.
-- Paper 00, demand 3, and paper 01, "A call rests on no more than it reports."
--   Reports ..          a call reports the path of the set and the key: its length, its widths, at most width
--                       + 1 of them
--   Changes ws us r     an edit that returned r changes at most three node records, a refused one none
--   WorkIsBounded       the third answer
-- Assumes nothing.
use Rattle.std.specs.Prelude.{ℕ, suc, ◌+◌, ◌*◌, ◌≤◌, ◌≡◌, Option, length, get_or, take}
use mathlib.Core.List.{List, [], ◌∷◌, Memᴰ}
use Rattle.std.proofs.Math.Option.{none}
use Rattle.prefix.specs.Keys.{string_of}
use Rattle.prefix.specs.declared.Prefix.{Prefix}
use Rattle.zones.specs.Maps.{Map, keys}
use Rattle.zones.specs.Nodes.{nodes}
use Rattle.zones.specs.Listings.{pathed}
use Rattle.records.specs.Holds.{Holds}
use Rattle.lookup.specs.Paths.{Agree, path_links}
use Rattle.plans.specs.Limits.{ThreeRecords}
use Rattle.edits.specs.Resting.{SameEdit, edit_links}
use Rattle.listing.specs.Resting.{slice_links}
use Rattle.nalfipode.specs.Changes.{StoreOut, RemoveOut}
use Rattle.nalfipode.specs.Reads.{FetchOut, LongestMatchOut}
use Rattle.nalfipode.specs.Slices.{SliceOut}
use Rattle.answers.specs.Made.{Made, Ready}
use Rattle.answers.specs.Answers.{nodes_for, trail_for}
use Rattle.answers.specs.Listings.{Page, Follows, Ended, turns_of, counts}

-- "the nodes reported .. are those that the set stored before it, and the key alone, give": values, whose first
-- is the number of nodes, and the trail's bytes before and after
pub record Reports (m : Map) (k : Prefix) (bs values after : List ℕ) : Type 0 where
  pub number : take 1 values ≡ nodes_for m k ∷ []
  pub widths : after ≡ trail_for m k bs
  -- "They number at most the key's bits plus one."
  pub most : nodes_for m k ≤ k.width + 1

-- "An accepted edit changes at most three node records besides the header; a refused edit changes none."
pub record Changes (ws us : List ℕ) (r : ℕ) : Type 0 where
  pub three : ThreeRecords ws us
  pub refused : (n : ℕ) → r ≡ suc n → us ≡ ws

pub record WorkIsBounded : Type 0 where
  -- ---- a keyed call on a table that calls have made
  pub fetch : {ws bs after values : List ℕ} {m : Map} {k : Prefix} {r : ℕ} → Made ws m → Ready k bs → FetchOut ws k bs r after values
      → Reports m k bs values after
  pub longest : {ws bs after values : List ℕ} {m : Map} {k : Prefix} {r : ℕ} → Made ws m → Ready k bs → LongestMatchOut ws k bs r after values
      → Reports m k bs values after
  pub store : {ws bs us after values : List ℕ} {m : Map} {k : Prefix} {z r : ℕ} → Made ws m → Ready k bs → StoreOut ws k z bs r us after values
      → Reports m k bs values after × Changes ws us r
  pub remove : {ws bs us after values : List ℕ} {m : Map} {k : Prefix} {r : ℕ} → Made ws m → Ready k bs → RemoveOut ws k bs r us after values
      → Reports m k bs values after × Changes ws us r
  -- "history adds nothing": what is reported for one set and one key is one thing, whatever the table and the call
  pub ageless : {m : Map} {k : Prefix} {bs values told after later : List ℕ} → Reports m k bs values after → Reports m k bs told later
      → (take 1 values ≡ take 1 told) × (after ≡ later)
  -- ---- a slice, and "A whole listing of an unchanged table": "each node once plus the search path of each resume"
  pub slice : {ws us after values : List ℕ} {m : Map} {from : Option Prefix} {b : ℕ} → Holds ws m → SliceOut ws from b us 0 after values
      → get_or values 2 0 ≤ 129 + 129 * b
  pub listing : (m : Map) (ps : List Page) → Follows none ps → Ended ps → ((p : Page) → Memᴰ p ps → p.stored ≡ m)
      → counts ps ≡ length (nodes (keys m)) + pathed none (turns_of ps)
  -- ---- "A call rests on no more than it reports.": two memories that agree there, ws and us
  pub fetch_rests : {ws us bs after later values told : List ℕ} {m : Map} {k : Prefix} {r q : ℕ} (h : Holds ws m)
      → Agree us ws (path_links h.tree (string_of k)) → FetchOut ws k bs r after values → FetchOut us k bs q later told
      → (r ≡ q) × (values ≡ told) × (after ≡ later)
  pub longest_rests : {ws us bs after later values told : List ℕ} {m : Map} {k : Prefix} {r q : ℕ} (h : Holds ws m)
      → Agree us ws (path_links h.tree (string_of k)) → LongestMatchOut ws k bs r after values → LongestMatchOut us k bs q later told
      → (r ≡ q) × (values ≡ told) × (after ≡ later)
  pub store_rests : {ws us bs wt ut after later values told : List ℕ} {m : Map} {k : Prefix} {z r q : ℕ} (h : Holds ws m)
      → Agree us ws (edit_links h (string_of k)) → StoreOut ws k z bs r wt after values → StoreOut us k z bs q ut later told
      → (values ≡ told) × SameEdit us ws (record { answer = q; bytes = later; words = ut }) (record { answer = r; bytes = after; words = wt })
  pub remove_rests : {ws us bs wt ut after later values told : List ℕ} {m : Map} {k : Prefix} {r q : ℕ} (h : Holds ws m)
      → Agree us ws (path_links h.tree (string_of k)) → RemoveOut ws k bs r wt after values → RemoveOut us k bs q ut later told
      → (values ≡ told) × SameEdit us ws (record { answer = q; bytes = later; words = ut }) (record { answer = r; bytes = after; words = wt })
  pub slice_rests : {ws us vs after later values told : List ℕ} {m : Map} {from : Option Prefix} {b r q : ℕ} (h : Holds ws m)
      → Agree us ws (slice_links h.tree from b) → SliceOut ws from b vs r after values → SliceOut us from b vs q later told
      → (r ≡ q) × (values ≡ told) × (after ≡ later)
