-- The laws of what store says of a table: on words that hold a map, the map's answer and the path's widths,
-- and words that hold the map with the entry put in, or as they were where that has too many nodes.
-- No contract cites this file.
-- Assumes nothing.
use Prim.Native.Nat.{ℕ, ◌≤◌}
use mathlib.Core.Path.{◌≡◌, refl, sym}
use mathlib.Core.Bool.{false, cond}
use mathlib.Core.List.{List, ◌++◌}
use lib.ListN.{length, drop, replicate}
use lib.Seq.{paste}
use Rattle.std.specs.Prelude.{Result}
use Rattle.prefix.specs.Keys.{string_of, Valid}
use Rattle.prefix.specs.declared.Prefix.{Prefix}
use Rattle.zones.specs.Maps.{Map, keys, get, put}
use Rattle.zones.specs.Nodes.{path, trail, overflows}
use Rattle.zones.specs.Tree.{Tree, tip, node}
use Rattle.zones.specs.Focus.{Context, top, focus}
use Rattle.zones.proofs.FocusLaws.{stop_equal, stop_above, stop_apart, Ends, focus-ends, plug-focus, plug-put_tree}
use Rattle.records.specs.Layout.{capacity}
use Rattle.records.specs.Holds.{Holds}
use Rattle.lookup.specs.Walking.{survey_on, stored_in}
use Rattle.lookup.specs.Fetching.{given}
use Rattle.lookup.specs.declared.Path.{Path}
use Rattle.lookup.specs.declared.Walk.{Walk}
use Rattle.lookup.specs.declared.Met.{Met}
use Rattle.lookup.proofs.HoldsLaws.{leave_on_holds, get-noted}
use Rattle.lookup.proofs.FramesLaws.{focus_at}
use Rattle.lookup.proofs.EndsLaws.{Ended, survey_on-ends}
use Rattle.plans.specs.Planning.{entry_of, plan_store_on}
use Rattle.plans.specs.Plans.{Plan}
use Rattle.plans.specs.declared.Unmade.{Unmade}
use Rattle.plans.proofs.AppliedLaws.{length-applied}
use Rattle.edits.specs.Storing.{Edit, Stored, stored_by, store_on, gives}
use Rattle.grafts.proofs.PutHoldsLaws.{overflows_holds, Spot}
use Rattle.grafts.proofs.StoreCasesLaws.{Plans, goes, short, plans-tip, plans-here, plans_above, plans_apart}

-- ---- plan_store_on

-- by what lies below
plans-ended : {ws : List ℕ} {m : Map} {h : Holds ws m} {k : Prefix} {z : ℕ} {c : Context ℕ} (u : Tree ℕ) → Spot h k z c u
    → (s : Walk) (e : Met) → Ends u (string_of k) → Ended c u (string_of k) s e → Plans ws k z m (plan_store_on ws k z s e)
plans-ended tip spot s e ends i = plans-tip spot s e i.1 i.0
plans-ended (node d p v l r) spot s e (stop_equal q) i = plans-here spot s e q (rw q at i).0
plans-ended (node d p v l r) spot s e (stop_above x q) i = let j = rw q at i in plans_above spot s e x q j.0 j.1
plans-ended (node d p v l r) spot s e (stop_apart x q) i = let j = rw q at i in plans_apart spot s e x q j.0 j.1

-- where the key's search ends
spot-focus : {ws : List ℕ} {m : Map} (h : Holds ws m) (k : Prefix) (z : ℕ) → Valid k
    → Spot h k z (focus top h.tree (string_of k)).above (focus top h.tree (string_of k)).below
spot-focus {ws} {m} h k z valid =
    record {
      valid = valid;
      is = sym (plug-focus top h.tree (string_of k));
      frames = (focus_at ws k valid m h).frames;
      whole = λ a b. plug-put_tree a b (entry_of k z) top h.tree;
    }

-- ---- store_on

pub record StoreHolds (ws : List ℕ) (k : Prefix) (z : ℕ) (bs : List ℕ) (m : Map) (x : Edit Stored) : Type 0 where
  pub answer : x.answer
      ≡ gives (overflows (capacity (length ws)) (entry_of k z) m) (length (path (keys m) (string_of k))) (get (string_of k) m)
  pub bytes : x.bytes ≡ trail (keys m) (string_of k) ++ drop (length (path (keys m) (string_of k))) bs
  pub holds : Holds x.words (cond (overflows (capacity (length ws)) (entry_of k z) m) m (put (entry_of k z) m))

module _ (ws : List ℕ) (k : Prefix) (z : ℕ) (bs : List ℕ) (m : Map) (h : Holds ws m) (ts : List ℕ) (p : Path)
    (number : p.nodes ≡ length (path (keys m) (string_of k))) (old : stored_in k.width p.walk.longest ≡ given (get (string_of k) m))
    (written : paste bs 0 ts p.nodes ≡ trail (keys m) (string_of k) ++ drop (length (path (keys m) (string_of k))) bs) where
  stored_by_holds : (r : Result Plan Unmade) → Plans ws k z m r → StoreHolds ws k z bs m (stored_by ws k bs ts p r)
  stored_by_holds r (goes q e g) =
      let o : overflows (capacity (length ws)) (entry_of k z) m ≡ false = overflows_holds ws _ k z m g (length-applied ws q) in
      rw e (record { answer = rw (o, ← number, ← old); bytes = written; holds = rw o g })
  stored_by_holds r (short e o) = rw e (record { answer = rw (o, ← number); bytes = written; holds = rw o h })

pub store_on_holds : (ws : List ℕ) (k : Prefix) (z : ℕ) (bs : List ℕ) (m : Map) → Holds ws m → Valid k → 129 ≤ length bs
    → StoreHolds ws k z bs m (store_on ws k z bs)
unfolding store_on
store_on_holds ws k z bs m h valid room =
    let ts : List ℕ = replicate 129 0 in
    let w = survey_on-ends ws m k (length bs) ts h valid room in
    let plans = plans-ended (focus top h.tree (string_of k)).below (spot-focus h k z valid) w.last w.met
    (focus-ends top h.tree (string_of k)) w.ended in
    rw w.out
    (stored_by_holds ws k z bs m h (survey_on ws k (length bs) ts).widths (record { nodes = w.number; walk = w.last; met = w.met })
    w.number_is (get-noted ws m h k w.last valid w.noted)
    (rw w.out at (leave_on_holds ws k bs ts m h valid room refl)) (plan_store_on ws k z w.last w.met) plans)
