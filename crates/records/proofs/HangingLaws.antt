-- The laws of a part of a table's tree: a whole table hangs from its root, and a part is a node with two parts
-- or nothing. No contract cites this file.
-- Assumes nothing.
use Prim.Native.Nat.{ℕ, ◌+◌}
use native.Mathlib.Omega.{arith}
use mathlib.Core.Path.{◌≡◌, refl, sym, ap, ◌∙◌, subst}
use mathlib.Core.Bool.{Bool, true, false}
use mathlib.Core.List.Memᴰ
use mathlib.Core.List.{List, [], ◌∷◌, ◌++◌, Memᴰ}
use mathlib.Core.Option.{Option}
use lib.ListN.{length, length-append}
use Rattle.bits.specs.Bits.{Bits}
use Rattle.bits.proofs.BitsLaws.{is_prefix_length}
use Rattle.prefix.proofs.KeysLaws.{length-string_of}
use Rattle.zones.specs.Maps.{Map}
use Rattle.zones.specs.Tree.{Tree, tip, node, Good}
use Rattle.records.specs.Layout.{room_of, record_at, header_at, key_of}
use Rattle.records.specs.Holds.{labels, Linked, Holds}
use Rattle.records.specs.Hanging.{Hangs, HangsNode}
use Rattle.records.proofs.LayoutLaws.{room_of_zero, inside-room_of}
use Rattle.records.proofs.HoldsLaws.{labels-room}

-- a table's whole tree
pub hangs_holds : (ws : List ℕ) (m : Map) (h : Holds ws m) → Hangs ws (header_at ws).root 0 h.tree
hangs_holds ws m h = record { linked = h.linked; rooms = labels-room h; stem = []; stem_length = refl; good = h.good }

-- where no link is, nothing hangs
pub hangs-tip : (ws : List ℕ) (l a : ℕ) (t : Tree ℕ) → Hangs ws l a t → l ≡ 0 → t ≡ tip
hangs-tip ws l a tip h e = refl
hangs-tip ws l a (node b s v x y) h e =
    absurd (room_of_zero (length ws) b (h.rooms b (Memᴰ.head refl)) (sym h.linked.0 ∙ e))

-- on the side x of a node with the string s
hangs-side : (ws : List ℕ) (l : ℕ) (s : Bits) (x : Bool) (t : Tree ℕ) → Linked (record_at ws) l t
    → ((b : ℕ) → Memᴰ b (labels t) → room_of (length ws) b ≡ true) → Good (s ++ (x ∷ [])) t → Hangs ws l (length s + 1) t
hangs-side ws l s x t h r g =
    record { linked = h; rooms = r; stem = s ++ (x ∷ []); stem_length = length-append s (x ∷ []); good = g }

-- the node that hangs there, named by its own link
hangs-here : (ws : List ℕ) (l a b : ℕ) (s : Bits) (v : Option ℕ) (x y : Tree ℕ) → Hangs ws l a (node b s v x y)
    → HangsNode ws b a (node b s v x y)
unfolding key_of
hangs-here ws l a b s v x y h =
    let bears = h.linked.1 in
    let narrow = bears.valid.narrow in
    let width = length-string_of (key_of (record_at ws b)) narrow in
    let same = ap length bears.string in
    record {
      string = s;
      zone = v;
      left = x;
      right = y;
      is_node = refl;
      inside = inside-room_of ws b (h.rooms b (Memᴰ.head refl));
      bears = bears;
      low = omega (arith, is_prefix_length h.stem s h.good.0, h.stem_length);
      high = omega arith;
      width = sym width ∙ same;
      hangs_left =
          hangs-side ws _ s false x h.linked.2 (λ c i. h.rooms c (Memᴰ.tail (Memᴰ.append_left (labels y) i))) h.good.2;
      hangs_right =
          hangs-side ws _ s true y h.linked.3 (λ c i. h.rooms c (Memᴰ.tail (Memᴰ.append_right (labels x) i))) h.good.3;
    }

-- where a link is, a node hangs
pub hangs_node : (ws : List ℕ) (l a : ℕ) (t : Tree ℕ) → Hangs ws l a t → (l ≡ 0 → ⊥) → HangsNode ws l a t
hangs_node ws l a tip h n = absurd (n h.linked)
hangs_node ws l a (node b s v x y) h n =
    subst (λ (j : ℕ). HangsNode ws j a (node b s v x y)) (sym h.linked.0) (hangs-here ws l a b s v x y h)
