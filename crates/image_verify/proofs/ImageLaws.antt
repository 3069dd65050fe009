-- The checker accepts every image. No contract cites this file.
-- Assumes nothing.
use Prim.Native.Nat.{ℕ, suc, ◌+◌, ◌-◌, ◌*◌, ◌≤◌}
use native.Mathlib.Omega.{arith}
use mathlib.Core.Path.{◌≡◌, refl, sym, ap, ◌∙◌, subst}
use mathlib.Core.Bool.{true}
use mathlib.Core.List.{List, ◌++◌, append_assoc, Memᴰ}
use mathlib.Core.Option.{none, some}
use lib.Dec.{T, leb, eqb_refl, leb→le, le→leb}
use lib.ListN.{length, drop, replicate, length-append, length-replicate}
use borrow.Author.Tests.{le-leb}
use Rattle.bits.specs.Lists.{any, all}
use Rattle.bits.proofs.ListsLaws.{all_mem, mem-all}
use Rattle.zones.specs.Maps.{Map, keys}
use Rattle.image.specs.Image.{size24, Fork, forks_of, zones_of, data_of, tree_bytes, marker, metadata, image_of, image, fits, fits_in, IsImage}
use Rattle.image.specs.Tries.{Trie, leaf, fork, size, ref, refs}
use Rattle.image.proofs.LengthLaws.{length-tree_bytes}
use Rattle.image.proofs.NodeCountLaws.{length-forks_of_pos, length-forks_of-fits}
use Rattle.image.proofs.ZonesLaws.{ascending-zones_of, uses, used_by}
use Rattle.image.proofs.FitsLaws.{zones_of_stored, zone_below}
use Rattle.image.proofs.TrieLaws.{trie_of, Within}
use Rattle.image.proofs.PreorderLaws.{forks_of-refs, length-forks_of-size}
use Rattle.image.proofs.WholeLaws.{Whole, keys_mem, whole-trie_of, depth-trie_of}
use Rattle.metadata.specs.Frames.{tail_of, frame_on}
use Rattle.metadata.proofs.FramesLaws.{frame_on-tail}
use Rattle.image_verify.specs.Verifying.{verify_on}
use Rattle.image_verify.proofs.StandsLaws.{Stands, Zoned, tree_on-stands}
use Rattle.image_verify.proofs.UsesLaws.{used_top_left, used_top_right, used_left, used_right}
use Rattle.image_verify.proofs.EntriesLaws.{Entries, length-entries, entries_on-data}
use Rattle.image_verify.proofs.ExactLaws.{used_mem, exact_on-zones}
use Rattle.image_verify.proofs.TreeBytesLaws.{drop_past, tree_bytes-stands}
use Rattle.image_verify.proofs.PartsLaws.{Parts, zeros_on-zeros}
use Rattle.image_verify.proofs.Forms.{Ends}

-- ---- Zoned

-- a part's numbers are in zs, if those that it uses are, and what its own record says
zoned_used : (zs : List ℕ) (i : ℕ) (t : Trie) → ((z : ℕ) → T (uses z (ref i t)) → Memᴰ z zs)
    → ((z : ℕ) → T (any (used_by z) (refs i t)) → Memᴰ z zs) → Zoned zs t
zoned_used zs i (leaf none) f g = tt
zoned_used zs i (leaf (some z)) f g = f z (eqb_refl z)
zoned_used zs i (fork l r) f g = (
  zoned_used zs (suc i) l (λ z h. g z (used_top_left z i l r h)) (λ z h. g z (used_left z i l r h)),
  zoned_used zs (suc i + size l) r (λ z h. g z (used_top_right z i l r h)) (λ z h. g z (used_right z i l r h)),
)

zoned-zones_of : (t : Trie) → Whole t → Zoned (zones_of (refs 0 t)) t
zoned-zones_of (fork l r) g = zoned_used (zones_of (refs 0 (fork l r))) 0 (fork l r) (λ z h. absurd h) (λ z h. used_mem z (refs 0 (fork l r)) h)
zoned-zones_of (leaf _) g = elim g [ ]

-- ---- verify_on

verify_on_parts : (bs : List ℕ) (n end epoch : ℕ) (zs : List ℕ) (t : Trie) → frame_on bs ≡ Ends n end epoch → Parts bs n end zs t → verify_on bs ≡ true
unfolding verify_on
verify_on_parts bs n end epoch zs t f p =
    let ends : 6 * n + 16 + length (data_of zs) ≡ end = p.entries.ends in
    let d : end - (6 * n + 16) ≡ length (data_of zs) = omega arith in
    let l : length zs ≤ length bs = length-entries bs end (6 * n + 16) zs p.entries in
    rw (
      f,
      le-leb (6 * n + 16) end (omega arith),
      p.zeros,
      entries_on-data bs end (length bs) (6 * n + 16) 0 zs l (mem-all (leb 0) zs (λ z i. le→leb 0 z (omega arith))) p.entries,
      d,
      tree_on-stands bs n zs t p.whole_is p.shallow p.counts p.zoned p.stands,
      exact_on-zones bs n end zs p.entries l t p.counts p.stands p.numbers,
    )

-- ---- an image has these parts

within_narrow : (m : Map) → T (all (λ e. leb (length e.key) 128) m) → Within 128 (keys m)
within_narrow m h k i =
    let w = keys_mem m k i in
    rw (← w.2) (leb→le (length w.0.key) 128 (all_mem (λ e. leb (length e.key) 128) m h w.0 w.1))

module _ (bs : List ℕ) (m : Map) (epoch : ℕ) (is : IsImage size24 bs m epoch) where
  abbrev n : ℕ
  n = length (forks_of m)

  abbrev zs : List ℕ
  zs = zones_of (forks_of m)

  abbrev tree : List ℕ
  tree = tree_bytes size24 n zs (forks_of m)

  -- all before the marker
  abbrev front : List ℕ
  front = tree ++ replicate 16 0 ++ data_of zs

  length-tree : length tree ≡ 6 * n
  length-tree = length-tree_bytes size24 n zs (forks_of m)

  length_front : length front ≡ 6 * n + 16 + length (data_of zs)
  length_front = simp (length-append, length-replicate) (omega (arith, length-tree))

  front-tail : bs ≡ front ++ tail_of n epoch
  unfolding image image_of tail_of
  front-tail = is.bytes_are ∙ append_assoc front marker (metadata size24 n epoch)

  from-tree : bs ≡ tree ++ (replicate 16 0 ++ (data_of zs ++ tail_of n epoch))
  from-tree = front-tail ∙ append_assoc (tree ++ replicate 16 0) (data_of zs) (tail_of n epoch) ∙ append_assoc tree (replicate 16 0) (data_of zs ++ tail_of n epoch)

  from-zeros : drop (6 * n) bs ≡ replicate 16 0 ++ (data_of zs ++ tail_of n epoch)
  from-zeros = drop_past bs 0 (6 * n) tree (replicate 16 0 ++ (data_of zs ++ tail_of n epoch)) from-tree (omega (arith, length-tree))

  from-data : drop (6 * n + 16) bs ≡ data_of zs ++ tail_of n epoch
  from-data = drop_past bs (6 * n) (6 * n + 16) (replicate 16 0) (data_of zs ++ tail_of n epoch) from-zeros refl

  from_tail : drop (length front) bs ≡ tail_of n epoch
  from_tail = drop_past bs (6 * n + 16) (length front) (data_of zs) (tail_of n epoch) from-data (omega (arith, length_front))

  entries-image : Entries bs (6 * n + 16) (length front) zs
  entries-image = record {
    bytes = from-data ∙ ap (λ (l : List ℕ). data_of zs ++ l) (sym from_tail);
    ends = sym length_front;
    ascends = ascending-zones_of (forks_of m);
    fit = λ z i. zone_below m is.zones_fit z (zones_of_stored m z i);
  }

  within : Within 128 (keys m)
  within = within_narrow m is.narrow

  refs-are : forks_of m ≡ refs 0 (trie_of 128 m)
  refs-are = forks_of-refs 128 m (omega arith) within

  stands-image : Stands bs n zs 0 (trie_of 128 m)
  unfolding fits
  stands-image =
      tree_bytes-stands bs n zs 0 (trie_of 128 m) (replicate 16 0 ++ (data_of zs ++ tail_of n epoch))
      (subst (λ (fs : List Fork). T (all (fits_in size24 n zs) fs)) refs-are is.records_fit)
      (from-tree ∙ ap (λ (fs : List Fork). tree_bytes size24 n zs fs ++ (replicate 16 0 ++ (data_of zs ++ tail_of n epoch))) refs-are)

  zoned-image : Zoned zs (trie_of 128 m)
  zoned-image = rw refs-are (zoned-zones_of (trie_of 128 m) (whole-trie_of 128 m (omega arith) within))

  pub parts-image : Parts bs n (length front) zs (trie_of 128 m)
  parts-image = record {
    stands = stands-image;
    whole_is = whole-trie_of 128 m (omega arith) within;
    shallow = depth-trie_of 128 m;
    counts = sym (length-forks_of-size 128 m (omega arith) within);
    zeros = zeros_on-zeros bs 16 (6 * n) (data_of zs ++ tail_of n epoch) from-zeros;
    entries = entries-image;
    numbers = ap zones_of (sym refs-are);
    zoned = zoned-image;
  }

  pub frame-image : frame_on bs ≡ Ends n (length front) epoch
  frame-image =
      rw front-tail
      (frame_on-tail front n epoch (omega (arith, length_front, length-forks_of_pos m)) (length-forks_of_pos m) (length-forks_of-fits size24 m is.records_fit) is.epoch_fits)

  pub verify_on-image : verify_on bs ≡ true
  verify_on-image = verify_on_parts bs n (length front) epoch zs (trie_of 128 m) frame-image parts-image
