-- The laws of what stands above and below the place where a search for a key ends, on words that hold a map:
-- the links that an edit looks at are links of the path, have room, and their records bear the frames.
-- No contract cites this file.
--   Along P c           every link above the open place of c has P
--   AtTop P t           the link of t's top node has P
--   FrameAt             a record is the node of a frame that the key passes
--   open_link ws c      the link that stands in the open place of c
--   Frames, FocusAt     the records of all frames of a context, and of what lies below too
-- Assumes nothing.
use Prim.Native.Nat.{ℕ, zero, suc, ◌/◌, ◌<◌}
use native.Mathlib.Omega.{arith}
use mathlib.Core.Path.{◌≡◌, refl, subst}
use mathlib.Core.Bool.{Bool, true, false, cond}
use mathlib.Core.List.Memᴰ
use mathlib.Core.List.{List, [], ◌∷◌, ◌++◌, Memᴰ}
use mathlib.Core.Logic.{◌⊎◌, inl, inr}
use mathlib.Core.Option.{Option}
use lib.Dec.{T}
use lib.ListN.{length, get_or, length-append}
use Rattle.bits.specs.Bits.{Bits, is_prefix}
use Rattle.bits.specs.Meet.{meet}
use Rattle.bits.specs.declared.Meeting.{Meeting}
use Rattle.bits.specs.declared.Meeting.TheVariants.{Equal, Below, Above, Apart}
use Rattle.bits.proofs.BitsLaws.{is_prefix_length}
use Rattle.bits.proofs.MeetLaws.{Says, meet-says}
use Rattle.prefix.specs.Keys.{string_of, Valid}
use Rattle.prefix.specs.declared.Prefix.{Prefix}
use Rattle.prefix.proofs.KeysLaws.{length-string_of}
use Rattle.zones.specs.Maps.{Map}
use Rattle.zones.specs.Tree.{Tree, tip, node}
use Rattle.zones.specs.Searching.{onward}
use Rattle.zones.specs.Focus.{Context, top, into, Focus, focus, link_at}
use Rattle.records.specs.Layout.{room_of, record_at, header_at}
use Rattle.records.specs.Holds.{labels, Bears, Linked, Holds}
use Rattle.records.proofs.HoldsLaws.{labels-room}
use Rattle.lookup.proofs.StepsLaws.{get_or_next, width-bears}
use Rattle.lookup.proofs.PathsLaws.{Rooms}
use Rattle.lookup.proofs.PathLinksLaws.{walk_links, walk_links-labels}

-- ---- Along and AtTop: what all links of the path have

abbrev pub Along : (ℕ → Type 0) → Context ℕ → Type 0
Along P c = (n : ℕ) → (link_at n c ≡ 0) ⊎ P (link_at n c)

abbrev pub AtTop : (ℕ → Type 0) → Tree ℕ → Type 0
AtTop P tip = Unit {0}
AtTop P (node a s v l r) = P a

module _ (P : ℕ → Type 0) (k : Bits) where
  abbrev Has : Focus ℕ → Type 0
  Has f = Along P f.above × AtTop P f.below

  along_into : (a : ℕ) (s : Bits) (v : Option ℕ) (x : Bool) (o : Tree ℕ) (c : Context ℕ) → P a → Along P c
      → Along P (into a s v x o c)
  along_into a s v x o c h i zero = inr h
  along_into a s v x o c h i (suc n) = i n

  -- the links of the path in t, and those above, are all that the focus has
  abbrev Keeps : Tree ℕ → Type 0
  Keeps t = (c : Context ℕ) → ((a : ℕ) → Memᴰ a (walk_links t k) → P a) → Along P c → Has (focus c t k)

  focus-has_at : (a : ℕ) (s : Bits) (v : Option ℕ) (l r : Tree ℕ) (c : Context ℕ) → Keeps l → Keeps r → Along P c → (m : Meeting)
      → ((b : ℕ) → Memᴰ b (a ∷ onward m [] [] (walk_links l k) (walk_links r k)) → P b)
      → Has (onward m (record { above = c; below = node a s v l r }) (record { above = c; below = node a s v l r })
      (focus (into a s v false r c) l k) (focus (into a s v true l c) r k))
  focus-has_at a s v l r c kl kr i Equal h = (i, h a (Memᴰ.head refl))
  focus-has_at a s v l r c kl kr i (Below false) h =
      kl (into a s v false r c) (λ b j. h b (Memᴰ.tail j)) (along_into a s v false r c (h a (Memᴰ.head refl)) i)
  focus-has_at a s v l r c kl kr i (Below true) h =
      kr (into a s v true l c) (λ b j. h b (Memᴰ.tail j)) (along_into a s v true l c (h a (Memᴰ.head refl)) i)
  focus-has_at a s v l r c kl kr i (Above x) h = (i, h a (Memᴰ.head refl))
  focus-has_at a s v l r c kl kr i (Apart x) h = (i, h a (Memᴰ.head refl))

  focus-has : (t : Tree ℕ) → Keeps t
  focus-has tip c h i = (i, tt)
  focus-has (node a s v l r) c h i = focus-has_at a s v l r c (focus-has l) (focus-has r) i (meet s k) h

-- ---- walk_links

-- the links above and below the focus are links that the walk meets
module _ (t : Tree ℕ) (k : Bits) where
  pub link_at-path : Along (λ a. Memᴰ a (walk_links t k)) (focus top t k).above
  link_at-path = (focus-has (λ a. Memᴰ a (walk_links t k)) k t top (λ a i. i) (λ n. inl refl)).0

  pub below-path : AtTop (λ a. Memᴰ a (walk_links t k)) (focus top t k).below
  below-path = (focus-has (λ a. Memᴰ a (walk_links t k)) k t top (λ a i. i) (λ n. inl refl)).1

-- ---- room_of

-- the links above and below the focus have room
module _ (ws : List ℕ) (m : Map) (h : Holds ws m) (k : Bits) where
  room_path : (a : ℕ) → Memᴰ a (walk_links h.tree k) → room_of (length ws) a ≡ true
  room_path a i = labels-room h a (walk_links-labels h.tree k a i)

  pub link_at-room : Along (λ a. room_of (length ws) a ≡ true) (focus top h.tree k).above
  link_at-room = (focus-has (λ a. room_of (length ws) a ≡ true) k h.tree top room_path (λ n. inl refl)).0

  pub below-room : AtTop (λ a. room_of (length ws) a ≡ true) (focus top h.tree k).below
  below-room = (focus-has (λ a. room_of (length ws) a ≡ true) k h.tree top room_path (λ n. inl refl)).1

-- ---- FrameAt

-- the record at a is a node with the string p and the number v, and the key k goes on by its side x
pub record FrameAt (ws : List ℕ) (k : Prefix) (a : ℕ) (p : Bits) (v : Option ℕ) (x : Bool) : Type 0 where
  pub room : room_of (length ws) a ≡ true
  pub bears : Bears (record_at ws a) p v
  pub width : (record_at ws a).tag / 2 ≡ length p
  pub passed : T (is_prefix (p ++ (x ∷ [])) (string_of k))
  pub narrow : length p < k.width
  pub bit : get_or (string_of k) (length p) false ≡ x

abbrev pub open_link : List ℕ → Context ℕ → ℕ
open_link ws top = (header_at ws).root
open_link ws (into a p v x o c) = cond x (record_at ws a).right (record_at ws a).left

-- each frame has its record, hangs in the open place of what is above it, and has its other side linked
abbrev pub Frames : List ℕ → Prefix → Context ℕ → Type 0
Frames ws k top = Unit {0}
Frames ws k (into a p v x o c) =
    FrameAt ws k a p v x
    × (open_link ws c ≡ a)
    × Linked (record_at ws) (cond x (record_at ws a).left (record_at ws a).right) o
    × Frames ws k c

pub record FocusAt (ws : List ℕ) (k : Prefix) (f : Focus ℕ) : Type 0 where
  pub frames : Frames ws k f.above
  pub linked : Linked (record_at ws) (open_link ws f.above) f.below

module _ (ws : List ℕ) (k : Prefix) (valid : Valid k) where
  frame_below : (a : ℕ) (p : Bits) (v : Option ℕ) (x : Bool) → room_of (length ws) a ≡ true → Bears (record_at ws a) p v
      → Says (Below x) p (string_of k) → FrameAt ws k a p v x
  frame_below a p v x i b y =
      record {
        room = i;
        bears = b;
        width = width-bears (record_at ws a) p v b;
        passed = y;
        narrow =
            omega (arith, is_prefix_length (p ++ (x ∷ [])) (string_of k) y, length-append p (x ∷ []), length-string_of k valid.narrow);
        bit = get_or_next p (string_of k) x y;
      }

  abbrev Frame : Tree ℕ → Type 0
  Frame t =
      (c : Context ℕ) → Frames ws k c → Linked (record_at ws) (open_link ws c) t → Rooms ws t → FocusAt ws k (focus c t (string_of k))

  focus-frames_at : (a : ℕ) (s : Bits) (v : Option ℕ) (l r : Tree ℕ) (c : Context ℕ) → Frame l → Frame r → Frames ws k c
      → Linked (record_at ws) (open_link ws c) (node a s v l r) → Rooms ws (node a s v l r) → (m : Meeting) → Says m s (string_of k)
      → FocusAt ws k (onward m (record { above = c; below = node a s v l r }) (record { above = c; below = node a s v l r })
      (focus (into a s v false r c) l (string_of k)) (focus (into a s v true l c) r (string_of k)))
  focus-frames_at a s v l r c fl fr fs e rooms Equal y = record { frames = fs; linked = e }
  focus-frames_at a s v l r c fl fr fs e rooms (Below false) y =
      fl (into a s v false r c) (frame_below a s v false (rooms a (Memᴰ.head refl)) e.1 y, e.0, e.3, fs) e.2
      (λ b i. rooms b (Memᴰ.tail (Memᴰ.append_left (labels r) i)))
  focus-frames_at a s v l r c fl fr fs e rooms (Below true) y =
      fr (into a s v true l c) (frame_below a s v true (rooms a (Memᴰ.head refl)) e.1 y, e.0, e.2, fs) e.3
      (λ b i. rooms b (Memᴰ.tail (Memᴰ.append_right (labels l) i)))
  focus-frames_at a s v l r c fl fr fs e rooms (Above x) y = record { frames = fs; linked = e }
  focus-frames_at a s v l r c fl fr fs e rooms (Apart x) y = record { frames = fs; linked = e }

  focus-frames : (t : Tree ℕ) → Frame t
  focus-frames tip c fs e rooms = record { frames = fs; linked = e }
  focus-frames (node a s v l r) c fs e rooms =
      focus-frames_at a s v l r c (focus-frames l) (focus-frames r) fs e rooms (meet s (string_of k)) (meet-says s (string_of k))

  -- the records above and below the focus are the tree's
  pub focus_at : (m : Map) (h : Holds ws m) → FocusAt ws k (focus top h.tree (string_of k))
  focus_at m h = focus-frames h.tree top tt h.linked (labels-room h)

  -- the first frame's record
  pub frame_at : (m : Map) (h : Holds ws m) (a : ℕ) (p : Bits) (v : Option ℕ) (x : Bool) (o : Tree ℕ) (c : Context ℕ)
      → (focus top h.tree (string_of k)).above ≡ into a p v x o c → FrameAt ws k a p v x
  frame_at m h a p v x o c e = (subst (λ (d : Context ℕ). Frames ws k d) e (focus_at m h).frames).0
