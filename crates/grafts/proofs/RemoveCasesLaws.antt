-- The laws of a remove that finds its key, by what stands around the key's node: a plan is made, and the
-- words once it is written hold the map without the key. No contract cites this file.
--   Goes              a remove is planned from where the walk s ended, and gives the map without the key
-- Assumes nothing.
use Prim.Native.Nat.{ℕ, ◌≤◌, ◌<◌}
use native.Mathlib.Omega.{arith}
use mathlib.Core.Path.{◌≡◌, refl, sym, ap, ◌∙◌}
use mathlib.Core.Bool.{Bool, true, not, ◌||◌}
use mathlib.Core.List.Memᴰ
use mathlib.Core.List.{List, [], ◌++◌}
use mathlib.Core.Option.{none, some}
use lib.Dec.{T}
use lib.ListN.{length}
use Rattle.std.specs.Prelude.{Ok}
use Rattle.bits.specs.Bits.{Bits}
use Rattle.prefix.specs.Keys.{string_of, Valid}
use Rattle.prefix.specs.declared.Prefix.{Prefix}
use Rattle.zones.specs.Maps.{Map, without}
use Rattle.zones.specs.Tree.{Tree, tip, node, full, Good, entries}
use Rattle.zones.specs.TreeEdits.{collapse, remove_tree}
use Rattle.zones.specs.Focus.{Context, top, into, joined, plug, pull, link_at}
use Rattle.zones.proofs.FocusLaws.{GoodAbove, good-plug, pull_full, pull_stored, pull_branch}
use Rattle.zones.proofs.RemoveLaws.{good-remove_tree, entries-remove_tree}
use Rattle.records.specs.Layout.{room_of, record_at, header_at, side_of}
use Rattle.records.specs.Holds.{labels, Linked, times, Holds}
use Rattle.records.proofs.LayoutLaws.{room-room_of}
use Rattle.records.proofs.OnceLaws.{times-append, mem-times}
use Rattle.records.proofs.GraftLaws.{times-joined, linked-plug}
use Rattle.lookup.specs.declared.Walk.{Walk}
use Rattle.lookup.proofs.EndsLaws.{Stood}
use Rattle.lookup.proofs.FramesLaws.{Frames}
use Rattle.plans.specs.Planning.{applied, plan_remove_on}
use Rattle.plans.specs.Plans.{Plan}
use Rattle.grafts.proofs.OpenedLaws.{times_in, opened-bounds}
use Rattle.grafts.proofs.PlanRemoveLaws.{empty_plan, pass_plan, twin_plan, Stays, plan_remove_on_both, plan_remove_on_low, plan_remove_on_high, plan_remove_on-stays, plan_remove_on-twin}
use Rattle.grafts.proofs.RemoveWordsLaws.{holds_empty, holds-pass, holds-twin}

pub record Goes (ws : List ℕ) (k : Prefix) (m : Map) (s : Walk) : Type 0 where
  pub plan : Plan
  pub planned_is : plan_remove_on ws k s ≡ Ok plan
  pub holds : Holds (applied ws plan) (without (string_of k) m)

-- words that hold the tree after a remove hold the map after it
holds-removed : {ws : List ℕ} {m : Map} (h : Holds ws m) (k : Bits) (t : Tree ℕ) (us : List ℕ) → remove_tree k h.tree ≡ t
    → (Good [] t → Holds us (entries t)) → Holds us (without k m)
holds-removed {m = m} h k t us e f =
    let map : entries t ≡ without k m = ap entries (sym e) ∙ entries-remove_tree [] k h.tree h.good ∙ ap (without k) h.map_is in
    rw map at (f (rw e at (good-remove_tree [] k h.tree h.good)))

-- with nothing left in the open place, what is above stays
pull-stays : (c : Context ℕ) → GoodAbove c → Stays c → pull c tip ≡ plug c tip
pull-stays top g w = refl
pull-stays (into a p (some z) x o c) g w = pull_stored a p z x o c g.3
pull-stays (into a p none x o c) g w = elim w [ ]

-- ---- the key's node a, with the sides l and r, in the open place of c

module _ {ws : List ℕ} {m : Map} (h : Holds ws m) (k : Prefix) (valid : Valid k) (c : Context ℕ) (a z n : ℕ) (s : Walk)
    (frames : Frames ws k c) (st : Stood a (link_at 0 c) (link_at 1 c) n s) where
  abbrev here : Tree ℕ → Tree ℕ → Tree ℕ
  here l r = node a (string_of k) (some z) l r

  module _ (l r : Tree ℕ) (e : h.tree ≡ plug c (here l r))
      (removed : remove_tree (string_of k) h.tree ≡ pull c (collapse a (string_of k) none l r)) where
    stands : 1 ≤ times_in h c (here l r) e a
    stands = omega (arith, mem-times a (labels (here l r)) (Memᴰ.head refl))

    room : room_of (length ws) a ≡ true
    room = room-room_of (length ws) a (opened-bounds h c (here l r) e a stands).0 (opened-bounds h c (here l r) e a stands).1

    above : GoodAbove c
    above = (good-plug c (here l r) (rw e at h.good)).1

    linked_low : Linked (record_at ws) (record_at ws a).left l
    linked_low = (linked-plug (record_at ws) (header_at ws).root c (here l r) (rw e at h.linked)).linked.2

    linked_high : Linked (record_at ws) (record_at ws a).right r
    linked_high = (linked-plug (record_at ws) (header_at ws).root c (here l r) (rw e at h.linked)).linked.3

    -- the link of a side that there is
    positive-side : (t : Tree ℕ) (b : ℕ) → T (full t) → Linked (record_at ws) b t
        → ((d : ℕ) → times d (labels t) ≤ times d (labels l ++ labels r)) → 0 < b
    positive-side (node d p v x y) b f i w =
        let j = mem-times d (labels (node d p v x y)) (Memᴰ.head refl) in
        rw i.0 (opened-bounds h c (here l r) e d (omega (arith, w d))).0
    positive-side tip b f i w = elim f [ ]

    positive_low : T (full l) → 0 < (record_at ws a).left
    positive_low f = positive-side l (record_at ws a).left f linked_low (λ d. omega (arith, times-append d (labels l) (labels r)))

    positive_high : T (full r) → 0 < (record_at ws a).right
    positive_high f = positive-side r (record_at ws a).right f linked_high (λ d. omega (arith, times-append d (labels l) (labels r)))

    -- a tree t has its place, where t has all labels of the sides
    goes-pass : (t : Tree ℕ) (b : ℕ) → plan_remove_on ws k s ≡ Ok (pass_plan ws c a b)
        → remove_tree (string_of k) h.tree ≡ plug c t → Linked (record_at ws) b t
        → ((d : ℕ) → times d (labels l ++ labels r) ≡ times d (labels t)) → Goes ws k m s
    goes-pass t b q i j w =
        record {
          plan = pass_plan ws c a b;
          planned_is = q;
          holds =
              holds-removed h (string_of k) (plug c t) (applied ws (pass_plan ws c a b)) i
              (holds-pass h c (here l r) e a b t (λ d. omega (arith, w d)) j);
        }

    goes_both : T (full l) → T (full r) → collapse a (string_of k) none l r ≡ node a (string_of k) none l r → Goes ws k m s
    goes_both f g i =
        record {
          plan = empty_plan ws k a;
          planned_is = plan_remove_on_both ws k c a n s room frames st (positive_low f) (positive_high g);
          holds =
              holds-removed h (string_of k) (plug c (node a (string_of k) none l r)) (applied ws (empty_plan ws k a))
              (removed ∙ ap (pull c) i ∙ pull_full c (node a (string_of k) none l r) above tt)
              (holds_empty h k valid c a (some z) l r e);
        }

  -- with a side at least, whatever is above
  goes-side : (l r : Tree ℕ) (e : h.tree ≡ plug c (here l r))
      → remove_tree (string_of k) h.tree ≡ pull c (collapse a (string_of k) none l r) → T (full l || full r) → Goes ws k m s
  goes-side tip (node d p v x y) e removed w =
      let r : Tree ℕ = node d p v x y in
      goes-pass tip r e removed r (record_at ws a).right
      (plan_remove_on_high ws k c a n s (room tip r e removed) frames st (linked_low tip r e removed) (positive_high tip r e removed tt))
      (removed ∙ pull_full c r (above tip r e removed) tt) (linked_high tip r e removed) (λ d. refl)
  goes-side (node d p v x y) tip e removed w =
      let l : Tree ℕ = node d p v x y in
      goes-pass l tip e removed l (record_at ws a).left
      (plan_remove_on_low ws k c a n s (room l tip e removed) frames st (positive_low l tip e removed tt) (linked_high l tip e removed))
      (removed ∙ pull_full c l (above l tip e removed) tt) (linked_low l tip e removed) (λ b. omega (arith, times-append b (labels l) []))
  goes-side (node d p v x y) (node b q u o t) e removed w = goes_both (node d p v x y) (node b q u o t) e removed tt tt refl
  goes-side tip tip e removed w = elim w [ ]

  goes-stays : (e : h.tree ≡ plug c (here tip tip)) → remove_tree (string_of k) h.tree ≡ pull c tip → Stays c → Goes ws k m s
  goes-stays e removed w =
      goes-pass tip tip e removed tip 0
      (plan_remove_on-stays ws k a n s (room tip tip e removed) (linked_low tip tip e removed) (linked_high tip tip e removed) c frames st w)
      (removed ∙ pull-stays c (above tip tip e removed) w) refl (λ d. refl)

-- ---- with no side, below a branch node: its other side has its place

module _ {ws : List ℕ} {m : Map} (h : Holds ws m) (k : Prefix) (valid : Valid k) (a z n : ℕ) (s : Walk) where
  module _ (b : ℕ) (p : Bits) (x : Bool) (o : Tree ℕ) (c : Context ℕ) (f : Frames ws k (into b p none x o c))
      (st : Stood a b (link_at 0 c) n s) (e : h.tree ≡ plug (into b p none x o c) (node a (string_of k) (some z) tip tip))
      (removed : remove_tree (string_of k) h.tree ≡ pull (into b p none x o c) tip) where
    abbrev below : Tree ℕ
    below = node a (string_of k) (some z) tip tip

    abbrev beside : ℕ
    beside = side_of (record_at ws b) (not x)

    linked-beside : Linked (record_at ws) beside o
    linked-beside = (linked-plug (record_at ws) (header_at ws).root (into b p none x o c) below (rw e at h.linked)).framed.2

    holds-beside : Holds (applied ws (twin_plan ws c a b beside)) (without (string_of k) m)
    holds-beside =
        holds-removed h (string_of k) (plug c o) (applied ws (twin_plan ws c a b beside))
        (removed ∙ pull_branch b p x o c (above h k valid (into b p none x o c) a z n s f st tip tip e removed))
        (holds-twin h c (joined b p none x below o) e a b beside o (λ d. omega (arith, times-joined d b p none x below o)) linked-beside)

    goes-twin : Goes ws k m s
    goes-twin =
        let i = room h k valid (into b p none x o c) a z n s f st tip tip e removed in
        let low = linked_low h k valid (into b p none x o c) a z n s f st tip tip e removed in
        let high = linked_high h k valid (into b p none x o c) a z n s f st tip tip e removed in
        record {
          plan = twin_plan ws c a b beside;
          planned_is = plan_remove_on-twin ws k a n s i low high b p x o c f st;
          holds = holds-beside;
        }

  goes_alone : (c : Context ℕ) → Frames ws k c → Stood a (link_at 0 c) (link_at 1 c) n s
      → h.tree ≡ plug c (node a (string_of k) (some z) tip tip) → remove_tree (string_of k) h.tree ≡ pull c tip → Goes ws k m s
  goes_alone top f st e removed = goes-stays h k valid top a z n s f st e removed tt
  goes_alone (into b p (some y) x o c) f st e removed = goes-stays h k valid (into b p (some y) x o c) a z n s f st e removed tt
  goes_alone (into b p none x o c) f st e removed = goes-twin b p x o c f st e removed

  -- ---- in every case

  pub goes-here : (c : Context ℕ) (l r : Tree ℕ) → Frames ws k c → Stood a (link_at 0 c) (link_at 1 c) n s
      → h.tree ≡ plug c (node a (string_of k) (some z) l r)
      → remove_tree (string_of k) h.tree ≡ pull c (collapse a (string_of k) none l r) → Goes ws k m s
  goes-here c tip tip f st e removed = goes_alone c f st e removed
  goes-here c tip (node d p v x y) f st e removed = goes-side h k valid c a z n s f st tip (node d p v x y) e removed tt
  goes-here c (node d p v x y) r f st e removed = goes-side h k valid c a z n s f st (node d p v x y) r e removed tt
