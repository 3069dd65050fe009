-- The laws of the image's parts: the data section and the tree are in place, and with the zeros between them
-- and the tail after them they are the image. No contract cites this file.
-- Assumes nothing.
use Prim.Native.Nat.{ℕ, ◌+◌, ◌*◌, ◌^◌, ◌≤◌}
use native.Mathlib.Nat.{zero-add}
use native.Mathlib.Omega.{arith}
use mathlib.Core.Path.{◌≡◌, refl, sym, ap, ◌∙◌, subst}
use mathlib.Core.List.{List, ◌++◌, append_assoc, Memᴰ}
use mathlib.Core.Option.{none}
use lib.Dec.{eqb, eqb→eq, eqb_refl}
use lib.ListN.{length, take, drop, replicate, length-append}
use lib.Seq.{sets, sets-eq, drop_at, take-append_seam, length-take-le}
use Rattle.bits.specs.Lists.{any}
use Rattle.bits.proofs.ListsLaws.{T_true, true-T, any_mem, mem-any}
use Rattle.zones.specs.Maps.{Map}
use Rattle.records.specs.Holds.{Holds}
use Rattle.records.proofs.HangingLaws.{hangs_holds}
use Rattle.image.specs.Bytes.{short}
use Rattle.image.specs.Image.{size24, Fork, data_of, zones_of, forks_of, tree_bytes, image, image_of, image_length}
use Rattle.image.specs.Tries.{Trie, size, refs, topped, grow}
use Rattle.image.proofs.LengthLaws.{length-image, length-tree_bytes}
use Rattle.image.proofs.SetsLaws.{drop-sets, sets-before, sets-after}
use Rattle.image.proofs.ZonesLaws.{ascending-zones_of}
use Rattle.metadata.specs.Frames.{tail_of}
use Rattle.metadata.specs.Writing.{Put}
use Rattle.image_data.specs.Runs.{length_of, DataAt}
use Rattle.image_data.proofs.RunsLaws.{length-data_of-runs}
use Rattle.image_zones.specs.Used.{used_in}
use Rattle.image_zones.proofs.UsedLaws.{used_in-topped}
use Rattle.image_write.specs.Parts.{Uses}
use Rattle.image_write.specs.Planting.{Rooted, Stands}
use Rattle.image_write.specs.Whole.{Planned, length_by, Fills, filled}
use Rattle.image_write.specs.declared.Plan.{Plan}
use Rattle.image_write.proofs.WholeLaws.{size-topped}
use Rattle.image_write.proofs.TableLaws.{Machine, forks_of_holds, length-forks_of_holds, zones_fit, records_fit}

-- ---- what stands where it is stored

take-sets : (l : List ℕ) (i : ℕ) (vs : List ℕ) → i + length vs ≤ length l → take (length vs) (drop i (sets l i vs)) ≡ vs
take-sets l i vs h =
    rw (
      sets-eq vs l i h,
      append_assoc (take i l) vs (drop (i + length vs) l),
      drop_at (take i l) (vs ++ drop (i + length vs) l) i (length-take-le i l (omega arith)),
    )
    (take-append_seam vs (drop (i + length vs) l))

-- ---- the numbers that the trie uses

uses-topped : (t : Trie) → Uses (zones_of (refs 0 (topped t))) t
uses-topped t z i =
    let zs : List ℕ = zones_of (refs 0 (topped t)) in
    let u = any_mem (eqb z) zs (true-T (any (eqb z) zs) (sym (used_in-topped t z) ∙ T_true (any (eqb z) (used_in t)) (mem-any (eqb z) (used_in t) z i (eqb_refl z)))) in
    subst (λ (x : ℕ). Memᴰ x zs) (sym (eqb→eq z u.0 u.2)) u.1

module _ (ws : List ℕ) (m : Map) (h : Holds ws m) where
  abbrev zones : List ℕ
  zones = zones_of (forks_of m)

  uses_holds : Uses zones (grow none 0 h.tree)
  uses_holds = rw (forks_of_holds ws m h) (uses-topped (grow none 0 h.tree))

  module _ (p : Plan) (q : Planned ws m p) where
    room-nodes : size (grow none 0 h.tree) ≤ p.nodes
    room-nodes = omega (arith, q.nodes_are, length-forks_of_holds ws m h, size-topped (grow none 0 h.tree))

    some-nodes : 1 ≤ p.nodes
    some-nodes = omega (arith, q.nodes_are, length-forks_of_holds ws m h, size-topped (grow none 0 h.tree))

    module _ (w : Machine ws) (epoch : ℕ) where
      length-data : length (data_of zones) ≡ length_of p.runs
      length-data = length-data_of-runs zones (zones_fit ws m h w) ∙ ap length_of (sym q.runs_are)

      pub runs_small : length_of p.runs ≤ 2 ^ 24
      runs_small = omega (arith, length-data, records_fit ws m h w)

      -- the length by what is measured is the paper's
      pub length_by-image_length : length_by p epoch ≡ image_length size24 m epoch
      unfolding length_by image_length
      length_by-image_length = rw (← length-data, q.nodes_are)

-- ---- the parts in an output with room for them

module _ {ws : List ℕ} {p : Plan} {epoch : ℕ} {out : List ℕ} (f : Fills ws p epoch out) where
  abbrev used : List ℕ
  used = zones_of (forks_of f.map)

  pub room_parts : 6 * p.nodes + 16 + length (data_of used) + (154 + length (short p.nodes) + length (short epoch)) ≤ length out
  unfolding image_length
  room_parts = let room = f.room in rw f.planned.nodes_are (omega arith)

  module _ {o1 o2 : List ℕ} {r1 r2 : ℕ} (w : Machine ws) (d : Put out (6 * p.nodes + 16) (data_of used) o1 r1)
      (z : Put o1 (6 * p.nodes) (replicate 16 0) o2 r2) where
    section-put : DataAt o2 (6 * p.nodes + 16) used
    section-put =
        let base : ℕ = 6 * p.nodes + 16 in
        record {
          ascends = ascending-zones_of (forks_of f.map);
          zones_fit = zones_fit ws f.map f.holds w;
          inside = omega (arith, room_parts, d.room, z.room);
          stands =
              rw (z.bytes, drop-sets base o1 (6 * p.nodes) (replicate 16 0) (omega arith), d.bytes)
              (take-sets out base (data_of used) (omega (arith, room_parts)));
        }

    pub rooted-put : Rooted ws p.root p.nodes p.runs o2
    rooted-put =
        let q = f.planned in
        record {
          planted =
              record {
                tree = f.holds.tree;
                hangs = rw q.root_is (hangs_holds ws f.map f.holds);
                zones = used;
                stocked = record { section = section-put; runs_are = q.runs_are; fits = rw q.nodes_are (records_fit ws f.map f.holds w) };
                over = none;
                reaches = refl;
                uses = uses_holds ws f.map f.holds;
                room = omega (arith, room-nodes ws f.map f.holds p q);
              };
          some_node = some-nodes ws f.map f.holds p q;
        }

    module _ {o3 o4 : List ℕ} {r4 : ℕ} (s : Stands ws p.root p.nodes p.runs o2 o3) (t : Put o3 r1 (tail_of p.nodes epoch) o4 r4) where
      abbrev tree : List ℕ
      tree = tree_bytes size24 p.nodes used (forks_of f.map)

      tree-put : o3 ≡ sets o2 0 tree
      unfolding rooted-put
      tree-put =
          s rooted-put.planted
          ∙ ap (λ (fs : List Fork). sets o2 0 (tree_bytes size24 p.nodes used fs)) (sym (forks_of_holds ws f.map f.holds))

      length-tree : length tree ≡ 6 * p.nodes
      length-tree = length-tree_bytes size24 p.nodes used (forks_of f.map) ∙ rw f.planned.nodes_are

      -- all parts, one after the other
      parts-put : o4 ≡ sets out 0 ((tree ++ (replicate 16 0 ++ data_of used)) ++ tail_of p.nodes epoch)
      parts-put =
          let n : ℕ = p.nodes in
          let mid : List ℕ = replicate 16 0 ++ data_of used in
          let a : o2 ≡ sets out (6 * n) mid = z.bytes ∙ rw d.bytes (sets-before out (6 * n) (replicate 16 0) (6 * n + 16) (data_of used) refl) in
          let b : o3 ≡ sets out 0 (tree ++ mid) = tree-put ∙ rw a (sets-before out 0 tree (6 * n) mid (omega (arith, length-tree))) in
          t.bytes ∙ rw b (sets-after out 0 (tree ++ mid) r1 (tail_of n epoch)
          (omega (arith, d.end, length-tree, length-append tree mid, length-append (replicate 16 0) (data_of used))))

      parts-image : (tree ++ (replicate 16 0 ++ data_of used)) ++ tail_of p.nodes epoch ≡ image size24 f.map epoch
      unfolding image image_of tail_of
      parts-image = rw f.planned.nodes_are (simp append_assoc)

      pub image-put : o4 ≡ filled f.map epoch out
      unfolding filled
      image-put =
          let e : length (image size24 f.map epoch) ≡ image_length size24 f.map epoch = length-image size24 f.map epoch in
          let room = f.room in
          parts-put ∙ rw (parts-image, sets-eq (image size24 f.map epoch) out 0 (omega arith), e, zero-add)
