-- The laws of where a slice starts on words that hold a map, at the top or after its resume prefix: what is
-- next and what is on the stack lead to all the nodes that it is to pass, and the nodes met are the path's.
-- No contract cites this file.
-- Assumes nothing.
use Prim.Native.Nat.{ℕ, ◌+◌, ◌≤◌}
use native.Mathlib.Nat.{zero-add}
use native.Mathlib.Omega.{arith}
use mathlib.Core.Path.{◌≡◌, refl, sym, ap, ◌∙◌}
use mathlib.Core.Bool.{true}
use mathlib.Core.List.{List, [], ◌++◌, append-nil}
use Rattle.std.specs.Prelude.{Option, None, Some}
use lib.ListN.{length}
use Rattle.bits.specs.Lists.{keep}
use Rattle.bits.proofs.ListsLaws.{keep-every}
use Rattle.prefix.specs.Keys.{string_of, Valid}
use Rattle.prefix.specs.declared.Prefix.{Prefix}
use Rattle.zones.specs.Maps.{Map}
use Rattle.zones.specs.Tree.{Tree}
use Rattle.zones.specs.Searching.{walk}
use Rattle.zones.specs.Slices.{after, found}
use Rattle.records.specs.Layout.{record_at, header_at}
use Rattle.records.specs.Holds.{Holds}
use Rattle.records.proofs.HoldsLaws.{labels-room}
use Rattle.lookup.proofs.HoldsLaws.{path_holds}
use Rattle.listing.specs.Touring.{starts, seek_from, start_on}
use Rattle.listing.specs.Slicing.{resume_of}
use Rattle.listing.proofs.Items.{items, all_items, height, Pending}
use Rattle.listing.proofs.PushLaws.{height-linked}
use Rattle.listing.proofs.SoughtLaws.{rest}
use Rattle.listing.proofs.SeekLaws.{seek_on-leads}

-- ---- start_on

-- what is needed of a resume: that its prefix is valid, if there is one
abbrev pub Resumes : Option Prefix → Type 0
Resumes None = Unit {0}
Resumes (Some k) = Valid k

pub record Sought (ws : List ℕ) (m : Map) (h : Holds ws m) (r : Option Prefix) (ls : List ℕ) : Type 0 where
  pub next : ℕ
  pub number : ℕ
  pub t : Tree ℕ
  pub ts : List (Tree ℕ)
  pub found_is : (start_on ws r ls).out ≡ starts next number
  pub pending : Pending ws next (start_on ws r ls).links (start_on ws r ls).depth t ts
  pub items_is : items t ++ all_items ts ≡ keep (λ i. after (resume_of r) i.key) (items h.tree)
  pub number_is : number ≡ found m (resume_of r)

module _ (ws : List ℕ) (m : Map) (h : Holds ws m) (ls : List ℕ) (n : length ls ≡ 129) where
  -- the whole tree is next
  pending_holds : Pending ws (header_at ws).root ls 0 h.tree []
  pending_holds =
      let room : 0 + height h.tree ≤ 129 =
      height-linked (record_at ws) (header_at ws).root [] h.tree (omega arith) h.good h.linked in
      record { linked = h.linked; sound = labels-room h; room = room; stacked = refl; length_is = n }

  start_on_start : Sought ws m h None ls
  unfolding found
  start_on_start =
      record {
        next = (header_at ws).root;
        number = 0;
        t = h.tree;
        ts = [];
        found_is = refl;
        pending = pending_holds;
        items_is = append-nil (items h.tree) ∙ sym (keep-every (λ i. true) (items h.tree) (λ i j. tt));
        number_is = refl;
      }

  start_on-after : (k : Prefix) → Valid k → Sought ws m h (Some k) ls
  unfolding seek_from found
  start_on-after k v =
      let c = seek_on-leads ws k v h.tree [] 130 0 0 ls 0 (header_at ws).root [] h.good (record { linked = h.linked; sound = labels-room h })
      (record { prefix = tt; low_is = refl; fuel = omega arith; shallow = omega arith; stacked = refl; length_is = n }) in
      record {
        next = c.next;
        number = length (walk h.tree (string_of k));
        t = c.tree;
        ts = c.trees;
        found_is = c.out ∙ ap (starts c.next) (zero-add (length (walk h.tree (string_of k))));
        pending = c.pending;
        items_is = c.items_is ∙ append-nil (rest (string_of k) h.tree);
        number_is = ap length (sym (path_holds ws m h (string_of k)));
      }

  pub start_on_holds : (r : Option Prefix) → Resumes r → Sought ws m h r ls
  start_on_holds None v = start_on_start
  start_on_holds (Some k) v = start_on-after k v
