-- The laws of a link put on the stack: it leads to its tree, and there is room, since a good tree of valid
-- keys is no higher than their bits. No contract cites this file.
-- Assumes nothing.
use Prim.Native.Nat.{ℕ, ◌+◌, ◌-◌, ◌≤◌, min}
use native.Mathlib.Omega.{arith}
use mathlib.Core.Path.{◌≡◌, refl, ◌∙◌}
use mathlib.Core.Bool.{true, false}
use mathlib.Core.List.Memᴰ
use mathlib.Core.List.{List, [], ◌∷◌, ◌++◌}
use mathlib.Core.Option.{Option}
use lib.Dec.{T}
use lib.ListN.{length, get_or, set, length-append, length-set}
use lib.Seq.{get_or-set_same}
use borrow.Author.Tests.{lt-leb, eq-eqb, ne_eqb}
use Rattle.bits.specs.Bits.{Bits}
use Rattle.bits.proofs.BitsLaws.{is_prefix_length}
use Rattle.zones.specs.Tree.{Tree, tip, node, full, Good}
use Rattle.records.specs.Layout.{record_at}
use Rattle.records.specs.Holds.{Memory, labels, Linked}
use Rattle.records.proofs.LayoutLaws.{room_of_zero}
use Rattle.lookup.proofs.StepsLaws.{width-bears, narrow-bears}
use Rattle.listing.specs.Touring.{Stack, push_on}
use Rattle.listing.proofs.Items.{items, all_items, height, Sound, Stacked}
use Rattle.listing.proofs.PendingLaws.{stacked-set}

-- ---- height: a good tree of valid keys is no higher than the bits that its stem leaves

pub height-linked : (mem : Memory) (l : ℕ) (p : Bits) (t : Tree ℕ) → length p ≤ 129 → Good p t → Linked mem l t → length p + height t ≤ 129
height-linked mem l p tip h g e = omega arith
height-linked mem l p (node a z v x y) h g e =
    let w : length z ≤ 128 = omega (arith, width-bears (mem a) z v e.1, narrow-bears (mem a) z v e.1) in
    let n : length (z ++ (false ∷ [])) ≡ length z + 1 = length-append z (false ∷ []) in
    let m : length (z ++ (true ∷ [])) ≡ length z + 1 = length-append z (true ∷ []) in
    omega (
      arith,
      is_prefix_length p z g.0,
      height-linked mem (mem a).left (z ++ (false ∷ [])) x (omega arith) g.2 e.2,
      height-linked mem (mem a).right (z ++ (true ∷ [])) y (omega arith) g.3 e.3,
    )

-- ---- push_on

-- the link l leads to the tree t, all of whose labels are records of the table
pub record Leads (ws : List ℕ) (l : ℕ) (t : Tree ℕ) : Type 0 where
  pub linked : Linked (record_at ws) l t
  pub sound : Sound ws t

pub leads-tip : (ws : List ℕ) → Leads ws 0 tip
leads-tip ws = record { linked = refl; sound = λ a i. absurd (Memᴰ.not-nil i) }

module _ {ws : List ℕ} {c a : ℕ} {z : Bits} {v : Option ℕ} {l r : Tree ℕ} (e : Leads ws c (node a z v l r)) where
  pub leads_left : Leads ws (record_at ws a).left l
  leads_left = record { linked = e.linked.2; sound = λ d i. e.sound d (Memᴰ.tail (Memᴰ.append_left (labels r) i)) }

  pub leads_right : Leads ws (record_at ws a).right r
  leads_right = record { linked = e.linked.3; sound = λ d i. e.sound d (Memᴰ.tail (Memᴰ.append_right (labels l) i)) }

module _ (ws : List ℕ) where
  -- s is a stack of t and then of the trees ts, of which o links are open
  pub record Pushed (o : ℕ) (t : Tree ℕ) (ts : List (Tree ℕ)) (s : Stack) : Type 0 where
    pub trees : List (Tree ℕ)
    pub stacked : Stacked ws s.links s.depth trees
    pub length_is : length s.links ≡ 129
    pub items_is : all_items trees ≡ items t ++ all_items ts
    pub depth_le : s.depth ≤ o + min 1 (height t)

  module _ (ls : List ℕ) (o : ℕ) (ts : List (Tree ℕ)) (st : Stacked ws ls o ts) (n : length ls ≡ 129) where
    push_on_full : (a : ℕ) (t : Tree ℕ) → (a ≡ 0 → ⊥) → T (full t) → 1 ≤ height t → Leads ws a t → o + height t ≤ 129 → Pushed o t ts (push_on ls o a)
    unfolding push_on
    push_on_full a t z f one e h =
        let i : o + 1 - 1 ≡ o = omega arith in
        let same : get_or (set ls o a) o 0 ≡ a = get_or-set_same ls o a 0 (omega arith) in
        let top : Linked (record_at ws) (get_or (set ls o a) (o + 1 - 1) 0) t = rw (i, same) e.linked in
        let stack : Stacked ws (set ls o a) (o + 1 - 1) ts = rw i (stacked-set ws ls o a o ts (omega arith) st) in
        rw (ne_eqb a 0 z, lt-leb 129 o (omega arith))
        (record {
          trees = t ∷ ts;
          stacked = (omega arith, f, top, e.sound, rw i h, stack);
          length_is = length-set ls o a ∙ n;
          items_is = refl;
          depth_le = omega arith;
        })

    pub push_on-leads : (l : ℕ) (t : Tree ℕ) → Leads ws l t → o + height t ≤ 129 → Pushed o t ts (push_on ls o l)
    unfolding push_on
    push_on-leads l tip e h =
        rw (eq-eqb l 0 e.linked) (record { trees = ts; stacked = st; length_is = n; items_is = refl; depth_le = omega arith })
    push_on-leads l (node a z v x y) e h =
        let c : l ≡ 0 → ⊥ = rw e.linked.0 (room_of_zero (length ws) a (e.sound a (Memᴰ.head refl))) in
        push_on_full l (node a z v x y) c tt (omega arith) e h
