-- The laws of what a remove does to a table: on words that hold a map it gives the number that the map has
-- for the key, writes the path's widths, and leaves words that hold the map without the key.
-- No contract cites this file.
--   RemoveHolds       what an edit gives and leaves that removes the key k from words that hold the map m
-- Assumes nothing.
use Prim.Native.Nat.{ℕ, ◌+◌, ◌≤◌}
use mathlib.Core.Path.{◌≡◌, refl, sym, ap, ◌∙◌}
use mathlib.Core.List.{List, [], ◌++◌}
use mathlib.Core.Option.{Option, none, some, none-ne-some}
use lib.ListN.{length, drop, replicate}
use lib.Seq.{paste}
use Rattle.std.specs.Prelude.{Ok, Err}
use Rattle.refusals.specs.declared.Refusal.TheVariants.{Absent}
use Rattle.bits.specs.Bits.{Bits}
use Rattle.bits.specs.Meet.{meet}
use Rattle.bits.specs.declared.Meeting.{Meeting}
use Rattle.bits.specs.declared.Meeting.TheVariants.{Equal, Above, Apart}
use Rattle.bits.proofs.MeetLaws.{Says, meet-says}
use Rattle.prefix.specs.Keys.{string_of, Valid}
use Rattle.prefix.specs.declared.Prefix.{Prefix}
use Rattle.zones.specs.Maps.{Map, keys, get, without}
use Rattle.zones.specs.Nodes.{path, trail}
use Rattle.zones.specs.Tree.{Tree, tip, node}
use Rattle.zones.specs.Searching.{onward, find}
use Rattle.zones.specs.TreeEdits.{remove_here, remove_tree}
use Rattle.zones.specs.Focus.{Context, top, plug, pull, focus}
use Rattle.zones.proofs.MapsLaws.{without-none}
use Rattle.zones.proofs.FindLaws.{get-entries}
use Rattle.zones.proofs.FocusLaws.{find-focus, plug-focus, pull-remove_tree}
use Rattle.records.specs.Holds.{Holds}
use Rattle.lookup.specs.Walking.{survey_on, stored_in}
use Rattle.lookup.specs.Fetching.{given}
use Rattle.lookup.specs.declared.Path.{Path}
use Rattle.lookup.specs.declared.Walk.{Walk}
use Rattle.lookup.specs.declared.Met.{Met}
use Rattle.lookup.proofs.HoldsLaws.{leave_on_holds, get-noted}
use Rattle.lookup.proofs.EndsLaws.{EndedBy, Ended, EndsAt, survey_on-ends}
use Rattle.lookup.proofs.FramesLaws.{Frames, focus_at}
use Rattle.edits.specs.Storing.{Edit}
use Rattle.edits.specs.Removing.{Removal, gives, removed_of, remove_on}
use Rattle.grafts.proofs.RemoveCasesLaws.{Goes, goes-here}

-- ---- where the key is stored, the walk ended at its node

module _ {ws : List ℕ} {m : Map} (h : Holds ws m) (k : Prefix) (valid : Valid k) (z : ℕ) (s : Walk) (d : Met) where
  goes_met : (o : Meeting) (c : Context ℕ) (a : ℕ) (p : Bits) (v : Option ℕ) (l r t u : Tree ℕ) → Says o p (string_of k)
      → onward o v none (find l (string_of k)) (find r (string_of k)) ≡ some z → EndedBy o c a p (string_of k) s d → Frames ws k c
      → h.tree ≡ plug c (node a p v l r) → remove_tree (string_of k) h.tree ≡ pull c (remove_here o a p v l r t u) → Goes ws k m s
  goes_met Equal c a p v l r t u y i (st, q) f e removed =
      goes-here h k valid a z (length p + 1) s c l r f st (rw (y, i) at e) (rw y at removed)
  goes_met (Above x) c a p v l r t u y i w f e removed = absurd (none-ne-some z i)
  goes_met (Apart x) c a p v l r t u y i w f e removed = absurd (none-ne-some z i)
  goes_met (Rattle.bits.specs.declared.Meeting.TheVariants.Below _) c a p v l r t u y i w f e removed = elim w [ ]

  goes-ended : (c : Context ℕ) (t : Tree ℕ) → find t (string_of k) ≡ some z → Ended c t (string_of k) s d → Frames ws k c
      → h.tree ≡ plug c t → remove_tree (string_of k) h.tree ≡ pull c (remove_tree (string_of k) t) → Goes ws k m s
  goes-ended c tip i w f e removed = absurd (none-ne-some z i)
  goes-ended c (node a p v l r) i w f e removed =
      goes_met (meet p (string_of k)) c a p v l r (remove_tree (string_of k) l) (remove_tree (string_of k) r) (meet-says p (string_of k)) i w f e
      removed

  goes_stored : get (string_of k) m ≡ some z
      → Ended (focus top h.tree (string_of k)).above (focus top h.tree (string_of k)).below (string_of k) s d → Goes ws k m s
  goes_stored g w =
      let i : find h.tree (string_of k) ≡ some z =
      sym (get-entries [] h.tree h.good (string_of k)) ∙ ap (get (string_of k)) h.map_is ∙ g in
      goes-ended (focus top h.tree (string_of k)).above (focus top h.tree (string_of k)).below
      (find-focus top h.tree (string_of k) ∙ i) w (focus_at ws k valid m h).frames (sym (plug-focus top h.tree (string_of k)))
      (sym (pull-remove_tree (string_of k) top h.tree))

-- ---- remove_on

pub record RemoveHolds (ws : List ℕ) (k : Prefix) (bs : List ℕ) (m : Map) (x : Edit Removal) : Type 0 where
  pub answer : x.answer ≡ gives (length (path (keys m) (string_of k))) (get (string_of k) m)
  pub bytes : x.bytes ≡ trail (keys m) (string_of k) ++ drop (length (path (keys m) (string_of k))) bs
  pub holds : Holds x.words (without (string_of k) m)

module _ (ws : List ℕ) (k : Prefix) (bs : List ℕ) (m : Map) (h : Holds ws m) (valid : Valid k) (room : 129 ≤ length bs) where
  abbrev ts : List ℕ
  ts = replicate 129 0

  abbrev widths : List ℕ
  widths = (survey_on ws k (length bs) ts).widths

  ends : EndsAt ws m h (string_of k) ts (survey_on ws k (length bs) ts)
  ends = survey_on-ends ws m k (length bs) ts h valid room

  bytes_left : paste bs 0 widths ends.number ≡ trail (keys m) (string_of k) ++ drop (length (path (keys m) (string_of k))) bs
  bytes_left = rw ends.out at (leave_on_holds ws k bs ts m h valid room refl)

  abbrev ended : Path
  ended = record { nodes = ends.number; walk = ends.last; met = ends.met }

  stored : stored_in k.width ends.last.longest ≡ given (get (string_of k) m)
  stored = get-noted ws m h k ends.last valid ends.noted

  removed_of_holds : (o : Option ℕ) → get (string_of k) m ≡ o → RemoveHolds ws k bs m (removed_of ws k bs widths (Ok ended))
  removed_of_holds none g =
      rw (stored, g)
      (record {
        answer = rw g (ap (λ (n : ℕ). Err (Absent n)) ends.number_is);
        bytes = bytes_left;
        holds = rw (without-none (string_of k) m g) h;
      })
  removed_of_holds (some z) g =
      let p = goes_stored h k valid z ends.last ends.met g ends.ended in
      rw (stored, g, p.planned_is)
      (record {
        answer = rw g (ap (λ (n : ℕ). Ok (record { nodes = n; value = z })) ends.number_is);
        bytes = bytes_left;
        holds = p.holds;
      })

pub remove_on_holds : (ws : List ℕ) (k : Prefix) (bs : List ℕ) (m : Map) → Holds ws m → Valid k → 129 ≤ length bs
    → RemoveHolds ws k bs m (remove_on ws k bs)
unfolding remove_on
remove_on_holds ws k bs m h valid room =
    rw (ends ws k bs m h valid room).out (removed_of_holds ws k bs m h valid room (get (string_of k) m) refl)
