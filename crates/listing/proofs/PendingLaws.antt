-- The laws of the trees that a tour has before it: a link to a node is not 0, the stack gives its top tree,
-- and a node's sides take its place. No contract cites this file.
-- Assumes nothing.
use Prim.Native.Nat.{ℕ, ◌+◌, ◌-◌, ◌≤◌, ◌<◌}
use native.Mathlib.Omega.{arith}
use mathlib.Core.Path.{◌≡◌, refl, ◌∙◌}
use mathlib.Core.List.Memᴰ
use mathlib.Core.List.{List, [], ◌∷◌, ◌++◌}
use mathlib.Core.Option.{Option}
use lib.Dec.{T}
use lib.ListN.{length, get_or, set, length-set}
use lib.Seq.{get_or-set_same, get_or-set_other}
use borrow.Author.Tests.{lt-leb, ne_eqb}
use Rattle.bits.specs.Bits.{Bits}
use Rattle.zones.specs.Tree.{Tree, tip, node, full}
use Rattle.records.specs.Layout.{record_at}
use Rattle.records.specs.Holds.{labels, Linked}
use Rattle.records.proofs.LayoutLaws.{room_of_true}
use Rattle.listing.specs.Touring.{push_on}
use Rattle.listing.proofs.Items.{items, all_items, Sound, Stacked, Pending}

-- ---- push_on

pub push_on-none : (ls : List ℕ) (o l : ℕ) → l ≡ 0 → push_on ls o l ≡ record { links = ls; depth = o }
unfolding push_on
push_on-none ls o l h = simp h

pub push_on_some : (ls : List ℕ) (o l : ℕ) → 0 < l → o < 129 → push_on ls o l ≡ record { links = set ls o l; depth = o + 1 }
unfolding push_on
push_on_some ls o l h g = simp (ne_eqb l 0 (omega arith), lt-leb 129 o g)

-- ---- Sound

pub sound_left : (ws : List ℕ) (a : ℕ) (s : Bits) (v : Option ℕ) (x y : Tree ℕ) → Sound ws (node a s v x y) → Sound ws x
sound_left ws a s v x y h b i = h b (Memᴰ.tail (Memᴰ.append_left (labels y) i))

pub sound_right : (ws : List ℕ) (a : ℕ) (s : Bits) (v : Option ℕ) (x y : Tree ℕ) → Sound ws (node a s v x y) → Sound ws y
sound_right ws a s v x y h b i = h b (Memᴰ.tail (Memᴰ.append_right (labels x) i))

-- ---- Linked

pub linked_above : (ws : List ℕ) (l : ℕ) (t : Tree ℕ) → T (full t) → Linked (record_at ws) l t → Sound ws t → 0 < l
linked_above ws l tip f h s = absurd f
linked_above ws l (node a p v x y) f h s = rw h.0 (room_of_true (length ws) a (s a (Memᴰ.head refl))).0

-- ---- Stacked

-- the stack does not see what is written above it
pub stacked-set : (ws ls : List ℕ) (o l d : ℕ) (ts : List (Tree ℕ)) → d ≤ o → Stacked ws ls d ts → Stacked ws (set ls o l) d ts
stacked-set ws ls o l d [] h k = k
stacked-set ws ls o l d (t ∷ ts) h k =
    let e : get_or (set ls o l) (d - 1) 0 ≡ get_or ls (d - 1) 0 = get_or-set_other ls o (d - 1) l 0 (omega arith) in
    (k.0, k.1, rw e k.2, k.3, k.4, stacked-set ws ls o l (d - 1) ts (omega arith) k.5)

-- ---- pushed

-- the side of 1 is put off, if there is one
abbrev pub pushed : Tree ℕ → List (Tree ℕ) → List (Tree ℕ)
pushed tip ts = ts
pushed (node a s v x y) ts = node a s v x y ∷ ts

pub all_items-pushed : (t : Tree ℕ) (ts : List (Tree ℕ)) → all_items (pushed t ts) ≡ items t ++ all_items ts
all_items-pushed tip ts = refl
all_items-pushed (node a s v x y) ts = refl

-- ---- Pending

pub pending-pop : (ws ls : List ℕ) (l o : ℕ) (t : Tree ℕ) (ts : List (Tree ℕ)) → Pending ws l ls o tip (t ∷ ts)
    → Pending ws (get_or ls (o - 1) 0) ls (o - 1) t ts
pending-pop ws ls l o t ts p =
    record {
      linked = p.stacked.2;
      sound = p.stacked.3;
      room = p.stacked.4;
      stacked = p.stacked.5;
      length_is = p.length_is;
    }

module _ (ws ls : List ℕ) (l o a : ℕ) (s : Bits) (v : Option ℕ) (x : Tree ℕ) where
  stacked-push : (y : Tree ℕ) (ts : List (Tree ℕ)) → T (full y) → Pending ws l ls o (node a s v x y) ts
      → Stacked ws (set ls o (record_at ws a).right) (o + 1) (y ∷ ts)
  stacked-push y ts f p =
      let back : o + 1 - 1 ≡ o = omega arith in
      let top : get_or (set ls o (record_at ws a).right) o 0 ≡ (record_at ws a).right =
      get_or-set_same ls o (record_at ws a).right 0 (omega (arith, p.room, p.length_is)) in
      let kept = stacked-set ws ls o (record_at ws a).right o ts (omega arith) p.stacked in
      rw back (omega arith, f, rw top p.linked.3, sound_right ws a s v x y p.sound, omega (arith, p.room), kept)

  pub pending-push : (y : Tree ℕ) (ts : List (Tree ℕ)) → Pending ws l ls o (node a s v x y) ts
      → Pending ws (record_at ws a).left (push_on ls o (record_at ws a).right).links (push_on ls o (record_at ws a).right).depth x (pushed y ts)
  pending-push tip ts p =
      rw (push_on-none ls o (record_at ws a).right p.linked.3)
      (record {
        linked = p.linked.2;
        sound = sound_left ws a s v x tip p.sound;
        room = omega (arith, p.room);
        stacked = p.stacked;
        length_is = p.length_is;
      })
  pending-push (node b q w m k) ts p =
      let above = linked_above ws (record_at ws a).right (node b q w m k) tt p.linked.3 (sound_right ws a s v x (node b q w m k) p.sound) in
      rw (push_on_some ls o (record_at ws a).right above (omega (arith, p.room)))
      (record {
        linked = p.linked.2;
        sound = sound_left ws a s v x (node b q w m k) p.sound;
        room = omega (arith, p.room);
        stacked = stacked-push (node b q w m k) ts tt p;
        length_is = length-set ls o (record_at ws a).right ∙ p.length_is;
      })
