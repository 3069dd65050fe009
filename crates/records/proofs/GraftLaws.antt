-- The laws of an edit in memory: a tree with a place left open is linked from its root down to that place,
-- another link there grafts another tree, and words so changed are a table. No contract cites this file.
-- Assumes nothing.
use Prim.Native.Nat.{ℕ, ◌+◌}
use native.Mathlib.Omega.{arith}
use mathlib.Core.Path.{◌≡◌, refl, ◌∙◌}
use mathlib.Core.Bool.{Bool, true, false, not}
use mathlib.Core.List.Memᴰ
use mathlib.Core.List.{List, [], ◌∷◌, ◌++◌, Memᴰ}
use mathlib.Core.Option.{Option}
use lib.ListN.{length, length-append}
use Rattle.bits.specs.Bits.{Bits}
use Rattle.zones.specs.Maps.{Map}
use Rattle.zones.specs.Tree.{Tree, Good, entries}
use Rattle.zones.specs.Focus.{Context, top, into, joined, plug}
use Rattle.records.specs.Layout.{record_at, header_at, key_of, zone_of, side_of, with_side}
use Rattle.records.specs.Holds.{Memory, labels, Bears, Linked, Chained, times, Holds}
use Rattle.records.specs.declared.Record.{Record}
use Rattle.records.proofs.OnceLaws.{times-append, mem-times}
use Rattle.records.proofs.HoldsLaws.{linked_ext}

-- ---- with_side

pub side_of-with_side_same : (r : Record) (x : Bool) (l : ℕ) → side_of (with_side r x l) x ≡ l
side_of-with_side_same r false l = refl
side_of-with_side_same r true l = refl

pub side_of-with_side_other : (r : Record) (x : Bool) (l : ℕ) → side_of (with_side r x l) (not x) ≡ side_of r (not x)
side_of-with_side_other r false l = refl
side_of-with_side_other r true l = refl

key_of-with_side : (r : Record) (x : Bool) (l : ℕ) → key_of (with_side r x l) ≡ key_of r
unfolding key_of
key_of-with_side r false l = refl
key_of-with_side r true l = refl

zone_of-with_side : (r : Record) (x : Bool) (l : ℕ) → zone_of (with_side r x l) ≡ zone_of r
unfolding zone_of
zone_of-with_side r false l = refl
zone_of-with_side r true l = refl

-- another link is neither another key nor another zone
pub bears-with_side : (r : Record) (x : Bool) (l : ℕ) (s : Bits) (v : Option ℕ) → Bears r s v → Bears (with_side r x l) s v
bears-with_side r x l s v b =
    record {
      valid = rw (key_of-with_side r x l) b.valid;
      string = rw (key_of-with_side r x l) b.string;
      zone = zone_of-with_side r x l ∙ b.zone;
    }

-- ---- labels_above

-- the links of the nodes above the open place and beside it
abbrev pub labels_above : Context ℕ → List ℕ
labels_above top = []
labels_above (into a s v x o c) = a ∷ (labels o ++ labels_above c)

pub times-joined : (l a : ℕ) (s : Bits) (v : Option ℕ) (x : Bool) (t o : Tree ℕ)
    → times l (labels (joined a s v x t o)) ≡ times l (labels t) + times l (a ∷ labels o)
times-joined l a s v false t o = omega (arith, times-append l (labels t) (labels o))
times-joined l a s v true t o = omega (arith, times-append l (labels o) (labels t))

pub times-plug : (l : ℕ) (c : Context ℕ) (t : Tree ℕ) → times l (labels (plug c t)) ≡ times l (labels t) + times l (labels_above c)
times-plug l top t = omega arith
times-plug l (into a s v x o c) t =
    omega (arith, times-plug l c (joined a s v x t o), times-joined l a s v x t o, times-append l (labels o) (labels_above c))

pub length-joined : (a : ℕ) (s : Bits) (v : Option ℕ) (x : Bool) (t o : Tree ℕ)
    → length (labels (joined a s v x t o)) ≡ length (labels t) + length (a ∷ labels o)
length-joined a s v false t o = omega (arith, length-append (labels t) (labels o))
length-joined a s v true t o = omega (arith, length-append (labels o) (labels t))

pub length-plug : (c : Context ℕ) (t : Tree ℕ) → length (labels (plug c t)) ≡ length (labels t) + length (labels_above c)
length-plug top t = omega arith
length-plug (into a s v x o c) t =
    omega (arith, length-plug c (joined a s v x t o), length-joined a s v x t o, length-append (labels o) (labels_above c))

-- ---- Framed

-- from the root the records are linked as the context is, and the link l stands in the open place
abbrev pub Framed : Memory → ℕ → Context ℕ → ℕ → Type 0
Framed mem root top l = root ≡ l
Framed mem root (into a s v x o c) l =
    Bears (mem a) s v × (side_of (mem a) x ≡ l) × Linked mem (side_of (mem a) (not x)) o × Framed mem root c a

-- a tree that is linked from the root, as the part above and the part below
pub record Opened (mem : Memory) (root : ℕ) (c : Context ℕ) (t : Tree ℕ) : Type 0 where
  pub link : ℕ
  pub framed : Framed mem root c link
  pub linked : Linked mem link t

opened-joined : (mem : Memory) (root a : ℕ) (s : Bits) (v : Option ℕ) (x : Bool) (o : Tree ℕ) (c : Context ℕ) (t : Tree ℕ)
    → Opened mem root c (joined a s v x t o) → Opened mem root (into a s v x o c) t
opened-joined mem root a s v false o c t h =
    let (e, b, i, j) = h.linked in
    record { link = (mem a).left; framed = (b, refl, j, rw e at h.framed); linked = i }
opened-joined mem root a s v true o c t h =
    let (e, b, i, j) = h.linked in
    record { link = (mem a).right; framed = (b, refl, i, rw e at h.framed); linked = j }

pub linked-plug : (mem : Memory) (root : ℕ) (c : Context ℕ) (t : Tree ℕ) → Linked mem root (plug c t) → Opened mem root c t
linked-plug mem root top t h = record { link = root; framed = refl; linked = h }
linked-plug mem root (into a s v x o c) t h =
    opened-joined mem root a s v x o c t (linked-plug mem root c (joined a s v x t o) h)

pub linked-joined : (mem : Memory) (a : ℕ) (s : Bits) (v : Option ℕ) (x : Bool) (t o : Tree ℕ) → Bears (mem a) s v
    → Linked mem (side_of (mem a) x) t → Linked mem (side_of (mem a) (not x)) o → Linked mem a (joined a s v x t o)
linked-joined mem a s v false t o b h i = (refl, b, h, i)
linked-joined mem a s v true t o b h i = (refl, b, i, h)

pub plug-linked : (mem : Memory) (root : ℕ) (c : Context ℕ) (t : Tree ℕ) (l : ℕ) → Framed mem root c l → Linked mem l t
    → Linked mem root (plug c t)
plug-linked mem root top t l f h = rw f h
plug-linked mem root (into a s v x o c) t l f h =
    let i = linked-joined mem a s v x t o f.0 (rw f.1 h) f.2 in
    plug-linked mem root c (joined a s v x t o) a f.3 i

-- two memories that agree at a context's labels frame it alike
pub framed_ext : (mem nem : Memory) (root : ℕ) (c : Context ℕ) (l : ℕ) → ((a : ℕ) → Memᴰ a (labels_above c) → mem a ≡ nem a)
    → Framed mem root c l → Framed nem root c l
framed_ext mem nem root top l f h = h
framed_ext mem nem root (into a s v x o c) l f h =
    let e = f a (Memᴰ.head refl) in
    let beside = linked_ext mem nem (side_of (mem a) (not x)) o (λ b i. f b (Memᴰ.tail (Memᴰ.append_left (labels_above c) i))) h.2 in
    let above = framed_ext mem nem root c a (λ b i. f b (Memᴰ.tail (Memᴰ.append_right (labels o) i))) h.3 in
    (rw e at h.0, rw e at h.1, rw e at beside, above)

-- the node above the place gets another link there, and nothing else above or beside the place changes
pub framed-set : (mem nem : Memory) (root a : ℕ) (s : Bits) (v : Option ℕ) (x : Bool) (o : Tree ℕ) (c : Context ℕ) (l l' : ℕ)
    → Framed mem root (into a s v x o c) l → nem a ≡ with_side (mem a) x l'
    → ((b : ℕ) → Memᴰ b (labels o ++ labels_above c) → (b ≡ a → ⊥) → mem b ≡ nem b) → times a (labels o ++ labels_above c) ≡ 0
    → Framed nem root (into a s v x o c) l'
framed-set mem nem root a s v x o c l l' h e f once =
    let same : (b : ℕ) → Memᴰ b (labels o ++ labels_above c) → mem b ≡ nem b =
    λ b i. f b i (λ q. let n = rw q at (mem-times b (labels o ++ labels_above c) i) in omega arith) in
    let beside = linked_ext mem nem (side_of (mem a) (not x)) o (λ b i. same b (Memᴰ.append_left (labels_above c) i)) h.2 in
    let above = framed_ext mem nem root c a (λ b i. same b (Memᴰ.append_right (labels o) i)) h.3 in
    let bears = bears-with_side (mem a) x l' s v h.0 in
    (rw e bears, rw e (side_of-with_side_same (mem a) x l'), rw (e, side_of-with_side_other (mem a) x l') beside, above)

-- ---- Holds

-- an edit below an open place: the same records, linked as a good tree and a chain of spare ones
pub holds-edit : {ws : List ℕ} {m : Map} (h : Holds ws m) (c : Context ℕ) (t t' : Tree ℕ) (us ls : List ℕ) (l' : ℕ)
    → h.tree ≡ plug c t → length us ≡ length ws → Framed (record_at us) (header_at us).root c l' → Linked (record_at us) l' t'
    → Chained (record_at us) (header_at us).spare ls → Good [] (plug c t')
    → ((l : ℕ) → times l (labels (plug c t') ++ ls) ≡ times l (labels (plug c t) ++ h.chain)) → Holds us (entries (plug c t'))
holds-edit h c t t' us ls l' e n f i j g once =
    record {
      records = h.records;
      some_records = h.some_records;
      most_records = h.most_records;
      length_is = n ∙ h.length_is;
      tree = plug c t';
      good = g;
      map_is = refl;
      linked = plug-linked (record_at us) (header_at us).root c t' l' f i;
      chain = ls;
      chained = j;
      once = λ l. once l ∙ rw (← e) (h.once l);
    }
