-- The laws of the check of a tree: what it passes through is a good tree that is linked so, and it passes
-- through any such tree. No contract cites this file.
--   Below ws l p left n          from the link l a good tree is linked whose strings begin with p, and of
--                                left records it leaves n
--   Passes ws t f l at left      all that the check takes to pass through the tree t
-- Assumes nothing.
use Prim.Native.Nat.{ℕ, zero, suc, ◌+◌, ◌-◌, ◌≤◌, ◌<◌}
use native.Mathlib.Omega.{arith}
use mathlib.Core.Path.{◌≡◌, refl, ap, ◌∙◌}
use mathlib.Core.Bool.{Bool, true, false, cond}
use mathlib.Core.List.Memᴰ
use mathlib.Core.List.{List, [], ◌∷◌, ◌++◌}
use mathlib.Core.Option as maps
use Rattle.std.specs.Prelude.{Option, None, Some}
use lib.Dec.{eqb}
use lib.ListN.{length, length-append}
use borrow.Author.Tests.{eqb-true, eqb-false, eq-eqb, ne_eqb}
use Rattle.bits.specs.Bits.{Bits}
use Rattle.bits.proofs.BitsLaws.{is_prefix_length}
use Rattle.prefix.specs.Keys.{string_of}
use Rattle.prefix.proofs.KeysLaws.{length-string_of}
use Rattle.zones.specs.Tree.{Tree, tip, node, Good}
use Rattle.records.specs.Layout.{room_of, record_at, key_of, zone_of}
use Rattle.records.specs.Holds.{labels, Bears, Linked}
use Rattle.records.specs.declared.Record.{Record}
use Rattle.records.proofs.LayoutLaws.{room_of_true}
use Rattle.audit.specs.Checking.{Place, under, stem, is_node, then_on, below_on}
use Rattle.audit.proofs.NodeLaws.{Rooms, rooms_cons, rooms-append, linked_full, branches_true, is_node_true, linked-is_node}

-- ---- Below

pub record Below (ws : List ℕ) (l : ℕ) (p : Bits) (left n : ℕ) : Type 0 where
  pub tree : Tree ℕ
  pub good : Good p tree
  pub linked : Linked (record_at ws) l tree
  pub rooms : Rooms ws (labels tree)
  pub count : length (labels tree) + n ≡ left

below-tip : (ws : List ℕ) (l : ℕ) (p : Bits) (left n : ℕ) → l ≡ 0 → Some left ≡ Some n → Below ws l p left n
below-tip ws l p left n e h =
    let q : left ≡ n = cc in
    record { tree = tip; good = tt; linked = e; rooms = λ a i. absurd (Memᴰ.not-nil i); count = omega arith }

module _ (ws : List ℕ) (l : ℕ) (at : Place) (left m n : ℕ) where
  abbrev here : Record
  here = record_at ws l

  abbrev stem_of : Bool → Bits
  stem_of x = stem (under here x)

  below_node : is_node here at ≡ true → room_of (length ws) l ≡ true → 0 < left
      → Below ws here.left (stem_of false) (left - 1) m → Below ws here.right (stem_of true) m n → Below ws l (stem at) left n
  below_node h room more x y =
      let i = is_node_true here at h in
      let f = linked_full (record_at ws) here.left x.tree x.linked in
      let g = linked_full (record_at ws) here.right y.tree y.linked in
      let ls = labels x.tree in
      let rs = labels y.tree in
      record {
        tree = node l (string_of (key_of here)) (zone_of here) x.tree y.tree;
        good = (i.1, branches_true here x.tree y.tree f g i.2, x.good, y.good);
        linked = (refl, record { valid = i.0; string = refl; zone = refl }, x.linked, y.linked);
        rooms = rooms_cons ws l (ls ++ rs) room (rooms-append ws ls rs x.rooms y.rooms);
        count = omega (arith, length-append ls rs, x.count, y.count);
      }

-- ---- below_on, where it is Some

when_left : (b : Bool) (c : Option ℕ) (n : ℕ) → cond b c None ≡ Some n → (b ≡ true) × (c ≡ Some n)
when_left true c n h = (refl, h)
when_left false c n h = cc

unless_left : (b : Bool) (c : Option ℕ) (n : ℕ) → cond b None c ≡ Some n → (b ≡ false) × (c ≡ Some n)
unless_left true c n h = cc
unless_left false c n h = (refl, h)

then_on_left : (c : Option ℕ) (go : ℕ → Option ℕ) (n : ℕ) → then_on c go ≡ Some n → (m : ℕ) × (c ≡ Some m) × (go m ≡ Some n)
then_on_left None go n h = cc
then_on_left (Some m) go n h = (m, refl, h)

below_on_left_at : (ws : List ℕ) (l : ℕ) (p : Bits) (left n : ℕ) (c : Option ℕ) (b : Bool) → eqb l 0 ≡ b → cond b (Some left) c ≡ Some n
    → (c ≡ Some n → Below ws l p left n) → Below ws l p left n
below_on_left_at ws l p left n c true e h go = below-tip ws l p left n (eqb-true l 0 e) h
below_on_left_at ws l p left n c false e h go = go h

pub below_on_left : (f : ℕ) (ws : List ℕ) (l : ℕ) (at : Place) (left n : ℕ) → below_on f ws l at left ≡ Some n → Below ws l (stem at) left n
unfolding below_on
below_on_left zero ws l at left n h =
    below_on_left_at ws l (stem at) left n None (eqb l 0) refl h (λ i. cc)
below_on_left (suc f) ws l at left n h =
    below_on_left_at ws l (stem at) left n _ (eqb l 0) refl h
    (λ i. let more = unless_left (eqb left 0) _ n i in
    let room = when_left (room_of (length ws) l) _ n more.1 in
    let is = when_left (is_node (record_at ws l) at) _ n room.1 in
    let sides = then_on_left _ _ n is.1 in
    let above = eqb-false left 0 more.0 in
    below_node ws l at left sides.0 n is.0 room.0 (omega arith)
    (below_on_left f ws _ _ _ _ sides.1) (below_on_left f ws _ _ _ _ sides.2))

-- ---- below_on, on a tree that is linked

pub record Passes (ws : List ℕ) (t : Tree ℕ) (f l : ℕ) (at : Place) (left : ℕ) : Type 0 where
  pub good : Good (stem at) t
  pub linked : Linked (record_at ws) l t
  pub rooms : Rooms ws (labels t)
  -- (a node's string is at least as long as its place's stem, and at most 128 long)
  pub fuel : 130 ≤ length (stem at) + f
  pub enough : length (labels t) ≤ left

length-bears : (r : Record) (s : Bits) (v : maps.Option ℕ) → Bears r s v → length s ≤ 128
length-bears r s v b = omega (arith, b.valid.narrow, length-string_of (key_of r) b.valid.narrow, ap length b.string)

below_on_end : (f : ℕ) (ws : List ℕ) (l : ℕ) (at : Place) (left : ℕ) → l ≡ 0 → below_on f ws l at left ≡ Some left
unfolding below_on
below_on_end zero ws l at left e = rw (eq-eqb l 0 e)
below_on_end (suc f) ws l at left e = rw (eq-eqb l 0 e)

module _ {ws : List ℕ} {a f : ℕ} {s : Bits} {v : maps.Option ℕ} {x y : Tree ℕ} {l : ℕ} {at : Place} {left : ℕ}
    (h : Passes ws (node a s v x y) (suc f) l at left) where
  abbrev side : Bool → Place
  side = under (record_at ws a)

  rooms_left : Rooms ws (labels x)
  rooms_left b i = h.rooms b (Memᴰ.tail (Memᴰ.append_left (labels y) i))

  rooms_right : Rooms ws (labels y)
  rooms_right b i = h.rooms b (Memᴰ.tail (Memᴰ.append_right (labels x) i))

  below_on_node : below_on (suc f) ws l at left
      ≡ then_on (below_on f ws (record_at ws a).left (side false) (left - 1)) (λ n. below_on f ws (record_at ws a).right (side true) n)
  unfolding below_on
  below_on_node =
      let room = h.rooms a (Memᴰ.head refl) in
      let above = room_of_true (length ws) a room in
      let enough = h.enough in
      let is = linked-is_node ws (record_at ws) a s v x y l at h.linked rooms_left rooms_right h.good.0 h.good.1 in
      rw (h.linked.0, ne_eqb a 0 (omega arith), ne_eqb left 0 (omega arith), room, is)

  passes-side : (c : Bool) (t : Tree ℕ) (j n : ℕ) → Good (s ++ (c ∷ [])) t → Linked (record_at ws) j t → Rooms ws (labels t)
      → length (labels t) ≤ n → Passes ws t f j (side c) n
  passes-side c t j n g e rooms enough =
      record {
        good = rw h.linked.1.string g;
        linked = e;
        rooms = rooms;
        fuel = rw (h.linked.1.string, length-append) (omega (arith, h.fuel, is_prefix_length (stem at) s h.good.0));
        enough = enough;
      }

  passes_left : Passes ws x f (record_at ws a).left (side false) (left - 1)
  passes_left =
      passes-side false x (record_at ws a).left (left - 1) h.good.2 h.linked.2 rooms_left
      (omega (arith, h.enough, length-append (labels x) (labels y)))

  passes_right : Passes ws y f (record_at ws a).right (side true) (left - 1 - length (labels x))
  passes_right =
      passes-side true y (record_at ws a).right (left - 1 - length (labels x)) h.good.3 h.linked.3 rooms_right
      (omega (arith, h.enough, length-append (labels x) (labels y)))

pub below_on-linked : {ws : List ℕ} (t : Tree ℕ) (f : ℕ) {l : ℕ} {at : Place} {left : ℕ} → Passes ws t f l at left
    → below_on f ws l at left ≡ Some (left - length (labels t))
below_on-linked {ws} tip f {l} {at} {left} h = below_on_end f ws l at left h.linked ∙ ap Some (omega arith)
below_on-linked {ws} (node a s v x y) zero {l} {at} h =
    absurd (omega (arith, h.fuel, is_prefix_length (stem at) s h.good.0, length-bears (record_at ws a) s v h.linked.1))
below_on-linked (node a s v x y) (suc f) h =
    below_on_node h
    ∙ rw (below_on-linked x f (passes_left h))
    (below_on-linked y f (passes_right h) ∙ ap Some (omega (arith, h.enough, length-append (labels x) (labels y))))
