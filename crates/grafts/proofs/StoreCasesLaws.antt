-- The laws of the plan of a store on words that hold a map, by what lies below the open place where the
-- key's search ended: its words hold the map with the entry put in, or the table has too few records.
-- No contract cites this file.
--   Plans               what a plan of a store comes to
-- Assumes nothing.
use Prim.Native.Nat.{ℕ, ◌+◌, ◌<◌}
use native.Mathlib.Omega.{arith}
use mathlib.Core.Path.{◌≡◌, refl, ap, ◌∙◌}
use mathlib.Core.Bool.{Bool, true, false}
use mathlib.Core.List.Memᴰ
use mathlib.Core.List.{List, [], ◌∷◌, ◌++◌}
use mathlib.Core.Option.{Option, none, some}
use lib.ListN.{length, length-append}
use borrow.Author.Tests.{eq-eqb}
use Rattle.std.specs.Prelude.{Result, Ok, Err}
use Rattle.bits.specs.Bits.{Bits, lcp}
use Rattle.bits.specs.Meet.{meet}
use Rattle.bits.specs.declared.Meeting.TheVariants.{Equal, Above, Apart}
use Rattle.bits.proofs.BitsLaws.{is_prefix_length, is_prefix_trans, is_prefix-append, lcp_comm, lcp-prefix}
use Rattle.bits.proofs.MeetLaws.{Says, meet-says}
use Rattle.prefix.specs.Keys.{string_of}
use Rattle.prefix.specs.declared.Prefix.{Prefix}
use Rattle.prefix.proofs.KeysLaws.{length-string_of}
use Rattle.zones.specs.Maps.{Map, put}
use Rattle.zones.specs.Nodes.{overflows}
use Rattle.zones.specs.Tree.{Tree, tip, node}
use Rattle.zones.specs.TreeEdits.{put_tree}
use Rattle.zones.specs.Focus.{Context, joined, link_at}
use Rattle.records.specs.Layout.{capacity, room_of, record_at, header_at}
use Rattle.records.specs.Holds.{labels, Bears, Linked, Holds}
use Rattle.records.proofs.LayoutLaws.{room-room_of}
use Rattle.records.proofs.HoldsLaws.{chain-room}
use Rattle.records.proofs.GraftLaws.{length-joined}
use Rattle.lookup.specs.declared.Walk.{Walk}
use Rattle.lookup.specs.declared.Met.{Met}
use Rattle.lookup.specs.declared.Met.TheVariants.{Matching, Mismatching}
use Rattle.lookup.proofs.StepsLaws.{get_or_next, width-bears, narrow-bears}
use Rattle.lookup.proofs.EndsLaws.{Stood, StoodAt}
use Rattle.plans.specs.Planning.{nowhere_of, node_of, applied, new_on, plan_store_on}
use Rattle.plans.specs.Plans.{Plan}
use Rattle.plans.specs.declared.Unmade.{Unmade}
use Rattle.plans.specs.declared.Unmade.TheVariants.{Full}
use Rattle.plans.specs.Planning.{entry_of}
use Rattle.grafts.proofs.PlanHoldsLaws.{here_plan, plan_store_on-here, hang_plan, above_write, leaf_write, fork_write, plan_store_on_new, new_on-tip, new_on_above, new_on_full, new_on-fork}
use Rattle.grafts.proofs.OpenedLaws.{chained_as, opened_at, opened-bounds}
use Rattle.grafts.proofs.PutHoldsLaws.{Spot, overflows_short}
use Rattle.grafts.proofs.HereLaws.{holds-here}
use Rattle.grafts.proofs.NewNodesLaws.{holds_above, holds-fork}

-- a plan that stores the entry, or the refusal of a table that is too small
pub data Plans (ws : List ℕ) (k : Prefix) (z : ℕ) (m : Map) (r : Result Plan Unmade) : Type 0 where
  goes : (p : Plan) → r ≡ Ok p → Holds (applied ws p) (put (entry_of k z) m) → Plans ws k z m r
  short : r ≡ Err Full → overflows (capacity (length ws)) (entry_of k z) m ≡ true → Plans ws k z m r

-- ---- a new node is needed

module _ {ws : List ℕ} {m : Map} {h : Holds ws m} {k : Prefix} {z : ℕ} {c : Context ℕ} {u : Tree ℕ} (spot : Spot h k z c u)
    (s : Walk) (e : Met) where
  -- and there is no spare record
  plans-none : StoodAt c s → h.chain ≡ [] → (t : Tree ℕ) → put_tree 0 0 (entry_of k z) u ≡ t → length (labels u) < length (labels t)
      → Plans ws k z m (plan_store_on ws k z s e)
  plans-none st chain-is t q more =
      short (plan_store_on_new ws k z c spot.frames m h s e st ∙ rw chain-is)
      (overflows_short spot t q (rw chain-is (omega arith)))

  -- and there is one
  plan_some : StoodAt c s → (a : ℕ) (ls : List ℕ) → h.chain ≡ a ∷ ls → (d : Met) → e ≡ d
      → plan_store_on ws k z s e ≡ new_on ws (header_at ws) k z (link_at 0 c) d a (record_at ws a).left
  plan_some st a ls chain-is d q = plan_store_on_new ws k z c spot.frames m h s e st ∙ rw (chain-is, q)

-- ---- nothing lies there

module _ {ws : List ℕ} {m : Map} {h : Holds ws m} {k : Prefix} {z : ℕ} {c : Context ℕ} (spot : Spot h k z c tip) (s : Walk) (e : Met) where
  pub plans-tip : {q : ℕ} → e ≡ Matching q → StoodAt c s → Plans ws k z m (plan_store_on ws k z s e)
  unfolding node_of
  plans-tip {q} i st = at h.chain refl
    where
      at : (ls : List ℕ) → h.chain ≡ ls → Plans ws k z m (plan_store_on ws k z s e)
      at [] chain-is = plans-none spot s e st chain-is (node 0 (string_of k) (some z) tip tip) refl (omega arith)
      at (a ∷ ls) chain-is =
          goes (hang_plan ws c a (record_at ws a).left (leaf_write k z a) nowhere_of)
          (plan_some spot s e st a ls chain-is (Matching q) i ∙ new_on-tip ws k z c spot.frames q a (record_at ws a).left)
          (holds_above spot a ls chain-is false 0 refl refl)

-- ---- a node lies there

module _ {ws : List ℕ} {m : Map} {h : Holds ws m} {k : Prefix} {z : ℕ} {c : Context ℕ} {d : ℕ} {p : Bits} {v : Option ℕ} {l r : Tree ℕ}
    (spot : Spot h k z c (node d p v l r)) (s : Walk) (e : Met) where
  abbrev below : Tree ℕ
  below = node d p v l r

  room_below : room_of (length ws) d ≡ true
  room_below =
      let b = opened-bounds h c below spot.is d (rw (eq-eqb d d refl) (omega arith)) in
      room-room_of (length ws) d b.0 b.1

  linked_below : Linked (record_at ws) d below
  linked_below = let o = (opened_at h c below spot.is).linked in (refl, o.1, o.2, o.3)

  -- ---- the key's own

  pub plans-here : meet p (string_of k) ≡ Equal → {o j : ℕ} → Stood d o j (length p + 1) s → Plans ws k z m (plan_store_on ws k z s e)
  plans-here q st =
      let y : p ≡ string_of k = rw q at (meet-says p (string_of k)) in
      let w : length p ≡ k.width = ap length y ∙ length-string_of k spot.valid.narrow in
      goes (here_plan ws k z d) (plan_store_on-here ws k z s e d (st.low ∙ ap (λ (n : ℕ). n + 1) w) st.at room_below)
      (holds-here spot y (rw q))

  -- ---- one that the key lies above

  put_tree_above : (x : Bool) → meet p (string_of k) ≡ Above x → (a b : ℕ)
      → put_tree a b (entry_of k z) below ≡ joined a (string_of k) (some z) x below tip
  put_tree_above false q a b = rw q
  put_tree_above true q a b = rw q

  plan_above : (x : Bool) → Says (Above x) p (string_of k) → (a next : ℕ)
      → new_on ws (header_at ws) k z (link_at 0 c) (Mismatching d (length (lcp p (string_of k)))) a next
      ≡ Ok (hang_plan ws c a next (above_write k z a x d) nowhere_of)
  plan_above x y a next =
      let b : Bears (record_at ws d) p v = linked_below.1 in
      let w = length-string_of k spot.valid.narrow in
      let i = is_prefix_trans (string_of k) (string_of k ++ (x ∷ [])) p (is_prefix-append (string_of k) (x ∷ [])) y in
      let all : length (lcp p (string_of k)) ≡ k.width = rw (lcp_comm p (string_of k), lcp-prefix (string_of k) p i) w in
      let wide = is_prefix_length (string_of k ++ (x ∷ [])) p y in
      new_on_above ws k z c spot.frames d (length (lcp p (string_of k))) a next x room_below (omega arith)
      (narrow-bears (record_at ws d) p v b)
      (omega (arith, width-bears (record_at ws d) p v b, length-append (string_of k) (x ∷ [])))
      (rw (b.string, ← w) (get_or_next (string_of k) p x y))

  pub plans_above : (x : Bool) → meet p (string_of k) ≡ Above x → StoodAt c s → e ≡ Mismatching d (length (lcp p (string_of k)))
      → Plans ws k z m (plan_store_on ws k z s e)
  plans_above x q st i = at h.chain refl
    where
      at : (ls : List ℕ) → h.chain ≡ ls → Plans ws k z m (plan_store_on ws k z s e)
      at [] chain-is =
          plans-none spot s e st chain-is (joined 0 (string_of k) (some z) x below tip)
          (put_tree_above x q 0 0) (omega (arith, length-joined 0 (string_of k) (some z) x below tip))
      at (a ∷ ls) chain-is =
          goes (hang_plan ws c a (record_at ws a).left (above_write k z a x d) nowhere_of)
          (plan_some spot s e st a ls chain-is _ i
          ∙ plan_above x (rw q at (meet-says p (string_of k))) a (record_at ws a).left)
          (holds_above spot a ls chain-is x d linked_below (put_tree_above x q a 0))

  -- ---- one that parts from the key

  -- the branch b over a leaf a for the key, on the side x, and the node
  abbrev forked : ℕ → ℕ → Bool → Tree ℕ
  forked a b x = joined b (lcp p (string_of k)) none x (node a (string_of k) (some z) tip tip) below

  put_tree_apart : (x : Bool) → meet p (string_of k) ≡ Apart x → (a b : ℕ) → put_tree a b (entry_of k z) below ≡ forked a b x
  put_tree_apart false q a b = rw q
  put_tree_apart true q a b = rw q

  length-forked : (a b : ℕ) (x : Bool) → length (labels (forked a b x)) ≡ 2 + length (labels below)
  length-forked a b x = omega (arith, length-joined b (lcp p (string_of k)) none x (node a (string_of k) (some z) tip tip) below)

  module _ (x : Bool) (q : meet p (string_of k) ≡ Apart x) (st : StoodAt c s) (i : e ≡ Mismatching d (length (lcp p (string_of k)))) where
    says_apart : Says (Apart x) p (string_of k)
    says_apart = rw q at (meet-says p (string_of k))

    some_left : length (lcp p (string_of k)) < k.width
    some_left =
        omega (
          arith,
          is_prefix_length (lcp p (string_of k) ++ (x ∷ [])) (string_of k) says_apart.0,
          length-append (lcp p (string_of k)) (x ∷ []),
          length-string_of k spot.valid.narrow,
        )

    -- with one spare record, which is not enough
    plans_one : (a : ℕ) → h.chain ≡ a ∷ [] → Plans ws k z m (plan_store_on ws k z s e)
    plans_one a chain-is =
        let rest = chained_as h (a ∷ []) chain-is in
        short (plan_some spot s e st a [] chain-is _ i
        ∙ new_on_full ws k z c spot.frames d (length (lcp p (string_of k))) a (record_at ws a).left some_left rest.2)
        (overflows_short spot (forked 0 0 x) (put_tree_apart x q 0 0) (rw chain-is (omega (arith, length-forked 0 0 x))))

    plans_two : (a b : ℕ) (ls : List ℕ) → h.chain ≡ a ∷ b ∷ ls → Plans ws k z m (plan_store_on ws k z s e)
    plans_two a b ls chain-is =
        let n = length (lcp p (string_of k)) in
        let rest = chained_as h (a ∷ b ∷ ls) chain-is in
        goes (hang_plan ws c b (record_at ws b).left (leaf_write k z a) (fork_write k n b x a d))
        (plan_some spot s e st a (b ∷ ls) chain-is _ i
        ∙ new_on-fork ws k z c spot.frames d n a (record_at ws a).left some_left x b ls
        (get_or_next (lcp p (string_of k)) (string_of k) x says_apart.0)
        (λ j f. chain-room h j (rw chain-is (Memᴰ.tail f))) rest.2)
        (holds-fork spot a b ls chain-is x p d linked_below (put_tree_apart x q a b))

    pub plans_apart : Plans ws k z m (plan_store_on ws k z s e)
    plans_apart = at h.chain refl
      where
        at : (ls : List ℕ) → h.chain ≡ ls → Plans ws k z m (plan_store_on ws k z s e)
        at [] chain-is =
            plans-none spot s e st chain-is (forked 0 0 x) (put_tree_apart x q 0 0) (omega (arith, length-forked 0 0 x))
        at (a ∷ []) chain-is = plans_one a chain-is
        at (a ∷ b ∷ ls) chain-is = plans_two a b ls chain-is
