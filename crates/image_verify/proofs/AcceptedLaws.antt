-- What the checker accepts is the image of a list: of the leaves of the trie that the search tree spells.
-- No contract cites this file.
-- Assumes nothing.
use Prim.Native.Nat.{ℕ, ◌+◌, ◌-◌, ◌*◌, ◌^◌, ◌≤◌}
use native.Mathlib.Omega.{arith}
use mathlib.Core.Path.{◌≡◌, refl, ap, ◌∙◌}
use mathlib.Core.Logic.{inl, inr}
use mathlib.Core.Bool.{Bool, true, false, ◌&&◌}
use mathlib.Core.List.Memᴰ
use mathlib.Core.List.{List, [], ◌∷◌, ◌++◌, append_assoc, Memᴰ}
use mathlib.Core.Option.{none, some}
use lib.Dec.{T, leb, ltb, le→leb, lt→ltb}
use lib.ListN.{length, take, drop, replicate}
use lib.Seq.{drop_at, length-take-le}
use Rattle.std.specs.Prelude.{Option, Some, None}
use Rattle.bits.specs.Lists.{all}
use Rattle.bits.specs.Bits.{Bits}
use Rattle.bits.proofs.ListsLaws.{T_true, true-T, and_left, and_right, mem-all}
use Rattle.zones.specs.Maps.{Entry, Map}
use Rattle.zones.proofs.TreeLaws.{mem-keys}
use Rattle.image.specs.Image.{size24, forks_of, data_of, tree_bytes, marker, metadata, image_of, image, fits, IsImage}
use Rattle.image.specs.Tries.{Trie, leaf, fork, refs}
use Rattle.image.proofs.PreorderLaws.{length-refs}
use Rattle.image.proofs.LeavesLaws.{leaves, forks_of-leaves, ascending-leaves, within-leaves}
use Rattle.image.proofs.WholeLaws.{depth}
use Rattle.metadata.specs.Frames.{tail_of, frame_on}
use Rattle.metadata.specs.declared.Tail.{Tail}
use Rattle.metadata.proofs.FramesLaws.{EndsAs, frame_on-frame}
use Rattle.image_verify.specs.Verifying.{zeros_on, entries_on, tree_on, exact_on, verify_frame, verify_on}
use Rattle.image_verify.proofs.StandsLaws.{Zoned}
use Rattle.image_verify.proofs.GrownLaws.{tree_on-tree}
use Rattle.image_verify.proofs.EntriesLaws.{Entries, length-entries, entries_on-found}
use Rattle.image_verify.proofs.ExactLaws.{exact_on-known, zones_of-exact_on}
use Rattle.image_verify.proofs.TreeBytesLaws.{stands-tree_bytes, stands-fits}
use Rattle.image_verify.proofs.PartsLaws.{Parts, zeros-zeros_on}

-- ---- the leaves

zoned-leaves : (zs : List ℕ) (p : Bits) (t : Trie) → Zoned zs t → (e : Entry) → Memᴰ e (leaves p t) → Memᴰ e.zone zs
zoned-leaves zs p (leaf none) h e i = absurd (Memᴰ.not-nil i)
zoned-leaves zs p (leaf (some z)) h e (Memᴰ.head q) = rw q h
zoned-leaves zs p (leaf (some z)) h e (Memᴰ.tail i) = absurd (Memᴰ.not-nil i)
zoned-leaves zs p (fork l r) h e i =
    elim (Memᴰ.append_cases (leaves (p ++ (false ∷ [])) l) i) [
      | inl j ↦ zoned-leaves zs (p ++ (false ∷ [])) l h.0 e j
      | inr j ↦ zoned-leaves zs (p ++ (true ∷ [])) r h.1 e j
    ]

narrow-leaves : (t : Trie) → depth t ≤ 128 → T (all (λ e. leb (length e.key) 128) (leaves [] t))
narrow-leaves t h =
    mem-all (λ e. leb (length e.key) 128) (leaves [] t)
    (λ e i. le→leb (length e.key) 128 (within-leaves 128 t h e.key (mem-keys (leaves [] t) e i)))

-- ---- the image of the leaves

module _ (bs : List ℕ) (small : T (all (λ b. ltb b 256) bs)) (n end epoch : ℕ) (zs : List ℕ) (t : Trie) (e : EndsAs bs n end epoch) (p : Parts bs n end zs t) where
  inside : 6 * n + 16 ≤ length bs
  inside = omega (arith, p.entries.ends, e.within)

  bytes-found : bs ≡ tree_bytes size24 n zs (refs 0 t) ++ replicate 16 0 ++ data_of zs ++ marker ++ metadata size24 n epoch
  unfolding tail_of
  bytes-found =
      let d0 = stands-tree_bytes bs n zs small 0 t (6 * n) (omega (arith, p.counts)) (omega (arith, inside)) p.stands in
      let d1 = zeros-zeros_on bs 16 (6 * n) inside (true-T (zeros_on 16 bs (6 * n)) p.zeros) in
      let d2 = p.entries.bytes in
      let d3 : drop end bs ≡ marker ++ metadata size24 n epoch =
      ap (drop end) e.bytes_are ∙ drop_at (take end bs) (tail_of n epoch) end (length-take-le end bs e.within) in
      simp append_assoc (d0 ∙ ap (λ (l : List ℕ). tree_bytes size24 n zs (refs 0 t) ++ l) (d1 ∙ ap (λ (l : List ℕ). replicate 16 0 ++ l) (d2 ∙ ap (λ (l : List ℕ). data_of zs ++ l) d3)))

  forks-are : forks_of (leaves [] t) ≡ refs 0 t
  forks-are = forks_of-leaves t p.whole_is

  count_is : length (refs 0 t) ≡ n
  count_is = length-refs 0 t ∙ p.counts

  image-found : IsImage size24 bs (leaves [] t) epoch
  unfolding fits image image_of
  image-found = record {
    ascends = ascending-leaves t;
    narrow = narrow-leaves t p.shallow;
    zones_fit = mem-all (λ e. ltb e.zone (2 ^ 32)) (leaves [] t) (λ x i. lt→ltb x.zone (2 ^ 32) (p.entries.fit x.zone (zoned-leaves zs [] t p.zoned x i)));
    records_fit = rw (forks-are, count_is, p.numbers) (stands-fits bs n zs small 0 t p.stands);
    epoch_fits = e.epoch_fits;
    bytes_are = bytes-found ∙ rw (forks-are, count_is, p.numbers);
  }

-- ---- verify_on

abbrev SomeImage : List ℕ → Type 0
SomeImage bs = (m : Map) × ((epoch : ℕ) × IsImage size24 bs m epoch)

module _ (bs : List ℕ) (small : T (all (λ b. ltb b 256) bs)) where
  accepted-tree : (n end epoch : ℕ) (zs : List ℕ) → EndsAs bs n end epoch → zeros_on 16 bs (6 * n) ≡ true → Entries bs (6 * n + 16) end zs
      → T (tree_on bs n (end - (6 * n + 16))) → T (exact_on bs n end) → SomeImage bs
  accepted-tree n end epoch zs e z d t x =
      let l = length-entries bs end (6 * n + 16) zs d in
      let w = tree_on-tree bs n (end - (6 * n + 16)) zs (exact_on-known bs n end zs d l x) e.some_node t in
      let p : Parts bs n end zs w.trie =
      record {
        stands = w.stands;
        whole_is = w.whole_is;
        shallow = w.shallow;
        counts = w.counts;
        zeros = z;
        entries = d;
        numbers = zones_of-exact_on bs n end zs d l x w.trie w.counts w.stands w.zoned;
        zoned = w.zoned;
      } in
      (leaves [] w.trie, (epoch, image-found bs small n end epoch zs w.trie e p))

  accepted : (f : Option Tail) → frame_on bs ≡ f → T (verify_frame bs f) → SomeImage bs
  accepted (Some tail) e h =
      let n : ℕ = tail.nodes in
      let end : ℕ = tail.start in
      let epoch : ℕ = tail.epoch in
      let x : Bool = exact_on bs n end in
      let t : Bool = tree_on bs n (end - (6 * n + 16)) in
      let d : Bool = entries_on (length bs) bs (6 * n + 16) end 0 in
      let z : Bool = zeros_on 16 bs (6 * n) in
      let a = and_right (leb (6 * n + 16) end) (z && (d && (t && x))) h in
      let b = and_right z (d && (t && x)) a in
      let c = and_right d (t && x) b in
      let ends = frame_on-frame bs n end epoch small e in
      let w = entries_on-found bs end small ends.within (length bs) (6 * n + 16) 0 (and_left d (t && x) b) in
      accepted-tree n end epoch w.0 ends (T_true z (and_left z (d && (t && x)) a)) w.1 (and_left t x c) (and_right t x c)
  accepted None e h = elim h [ ]

  pub verify_on_yes : verify_on bs ≡ true → (m : Map) × ((epoch : ℕ) × IsImage size24 bs m epoch)
  unfolding verify_on
  verify_on_yes v = accepted (frame_on bs) refl (true-T (verify_frame bs (frame_on bs)) v)
