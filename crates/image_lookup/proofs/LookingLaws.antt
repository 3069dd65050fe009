-- The lookup in the image of a list answers the longest match, for every address of 128 bits; and from the
-- answer alone the call's promise follows.
-- Assumes nothing.
use Prim.Native.Nat.{ℕ, zero, suc, ◌+◌, ◌-◌, ◌*◌, ◌^◌, ◌≤◌, ◌<◌}
use native.Mathlib.Omega.{arith}
use mathlib.Core.Path.{◌≡◌, refl, sym, ap, subst, ◌∙◌}
use mathlib.Core.Bool.{Bool, true, false, ◌&&◌, cond}
use mathlib.Core.List.{List, [], ◌∷◌, Memᴰ}
use mathlib.Core.Option as math
use mathlib.Core.Option.{map}
use lib.Dec.{T, leb, ltb, eqb, leb→le, ltb→lt, eqb_refl}
use lib.ListN.{length, length-append, get_or}
use borrow.Author.Tests.{lt-ltb, le-ltb, le-leb}
use Rattle.std.specs.Prelude.{Option, Some, None, Result, Ok, Err}
use Rattle.bits.specs.Lists.{all}
use Rattle.bits.specs.Bits.{Bits}
use Rattle.bits.proofs.ListsLaws.{all_mem, or_left, or_right}
use Rattle.refusals.specs.Refusals.{number_of, OneOf}
use Rattle.refusals.specs.declared.Refusal.{Refusal}
use Rattle.refusals.specs.declared.Refusal.TheVariants.{BadImage}
use Rattle.zones.specs.Maps.{Entry, Map, keys, longest_match}
use Rattle.image.specs.Image.{size24, Fork, forks_of, zones_of, offset, record_of, IsImage}
use Rattle.image.specs.Tries.{Trie, leaf, fork, size, ref}
use Rattle.image.proofs.TrieLaws.{trie_at, is_fork, zone_at, trie_of, Within}
use Rattle.image.proofs.PreorderLaws.{forks_of-refs}
use Rattle.image.proofs.LookupLaws.{look, Has, has-refs, look-trie_of}
use Rattle.image.proofs.WholeLaws.{depth, depth-trie_of}
use Rattle.image.proofs.FitsLaws.{Placed, node, entry, placed-forks_of}
use Rattle.image.proofs.ZonesLaws.{uses, zones_of_mem}
use Rattle.image.proofs.NodeCountLaws.{length-forks_of_pos}
use Rattle.metadata.specs.Frames.{number_at, tail_of, count_on}
use Rattle.metadata.specs.declared.Nodes.{Nodes}
use Rattle.metadata.proofs.ImageLaws.{front_of, length-front_of, image_parts, count_on-image}
use Rattle.image_lookup.specs.Looking.{record_in, entry_on, leaf_on, walk_on, look_from, look_on, values_of, found_of, LookImage}
use Rattle.image_lookup.proofs.ImageLaws.{mem-fork_no, record_in-image, leaf_on-no_data, leaf_on-zone}

abbrev answer_of : math.Option ℕ → Result (Option ℕ) Refusal
answer_of math.none = Ok None
answer_of (math.some z) = Ok (Some z)

answer_of-found : (o : math.Option Entry) → answer_of (map (λ e. e.zone) o) ≡ found_of o
answer_of-found math.none = refl
answer_of-found (math.some e) = refl

within-keys : (n : ℕ) (m : Map) → T (all (λ e. leb (length e.key) n) m) → Within n (keys m)
unfolding keys
within-keys n m h k i =
    let w = mathlib.Core.List.Memᴰ.of_map (λ e. e.key) m i in
    rw (← w.2) (leb→le (length w.0.key) n (all_mem (λ e. leb (length e.key) n) m h w.0 w.1))

module _ {bs : List ℕ} {m : Map} {epoch : ℕ} (h : IsImage size24 bs m epoch) where
  abbrev nodes : ℕ
  nodes = length (forks_of m)

  abbrev zones : List ℕ
  zones = zones_of (forks_of m)

  -- what a record answers, going on or not
  abbrev enter : ℕ → Bits → Result (Option ℕ) Refusal
  enter r k = cond (ltb r nodes) (walk_on bs nodes r k) (leaf_on bs nodes r)

  -- the side of a trie, where the search from a fork there is right
  enter-ref : (j : ℕ) (t : Trie) (k : Bits) → Placed m nodes (ref j t) → ((z : ℕ) → T (uses z (ref j t)) → Memᴰ z zones)
      → Has (forks_of m) j t → depth t ≤ length k
      → ((l r : Trie) → Has (forks_of m) j (fork l r) → j < nodes → depth (fork l r) ≤ length k → walk_on bs nodes j k ≡ answer_of (look (fork l r) k))
      → enter (record_of nodes zones (ref j t)) k ≡ answer_of (look t k)
  enter-ref j (leaf math.none) k p u g d on = rw (le-ltb nodes nodes (omega arith)) (leaf_on-no_data h)
  enter-ref j (leaf (math.some z)) k (entry {e} i) u g d on =
      let small : z < 2 ^ 32 = ltb→lt z (2 ^ 32) (all_mem (λ x. ltb x.zone (2 ^ 32)) m h.zones_fit e i) in
      rw (le-ltb (nodes + 16 + offset zones z) nodes (omega arith)) (leaf_on-zone h z (u z (eqb_refl z)) small)
  enter-ref j (fork l r) k (node b) u g d on = rw (lt-ltb j nodes b) (on l r g b d)

  -- a search by bits that are enough for the trie
  walk_on-fork : (i : ℕ) (l r : Trie) (k : Bits) → Has (forks_of m) i (fork l r) → i < nodes → depth (fork l r) ≤ length k
      → walk_on bs nodes i k ≡ answer_of (look (fork l r) k)
  walk_on-fork i l r [] g b d = absurd (omega arith)
  walk_on-fork i l r (false ∷ k) g b d =
      let f : Fork = record { left = ref (suc i) l; right = ref (suc i + size l) r } in
      let there : Memᴰ f (forks_of m) = rw g.0 at (mem-fork_no (forks_of m) i b) in
      rw (record_in-image h i false b, g.0)
      (enter-ref (suc i) l k (placed-forks_of m f there).0 (λ z u. zones_of_mem z (forks_of m) f there (or_left (uses z f.left) (uses z f.right) u))
      g.1 (omega arith) (λ a c. walk_on-fork (suc i) a c k))
  walk_on-fork i l r (true ∷ k) g b d =
      let f : Fork = record { left = ref (suc i) l; right = ref (suc i + size l) r } in
      let there : Memᴰ f (forks_of m) = rw g.0 at (mem-fork_no (forks_of m) i b) in
      rw (record_in-image h i true b, g.0)
      (enter-ref (suc i + size l) r k (placed-forks_of m f there).1 (λ z u. zones_of_mem z (forks_of m) f there (or_right (uses z f.left) (uses z f.right) u))
      g.2 (omega arith) (λ a c. walk_on-fork (suc i + size l) a c k))

  walk_on_top : (w : ℕ) (k : Bits) → 0 < w → Within w (keys m) → w ≤ length k → walk_on bs nodes 0 k ≡ answer_of (look (trie_of w m) k)
  unfolding trie_of is_fork
  walk_on_top zero k z i l = absurd (omega arith)
  walk_on_top (suc w) k z i l =
      let left : Trie = trie_at (is_fork (keys m)) (zone_at m) w (false ∷ []) in
      let right : Trie = trie_at (is_fork (keys m)) (zone_at m) w (true ∷ []) in
      let has : Has (forks_of m) 0 (fork left right) =
      subst (λ (fs : List Fork). Has fs 0 (fork left right)) (sym (forks_of-refs (suc w) m z i)) (has-refs (trie_of (suc w) m)) in
      walk_on-fork 0 left right k has (length-forks_of_pos m) (omega (arith, depth-trie_of (suc w) m))

  -- "it is right for bytes the checker accepted"
  pub look_on-image : (k : Bits) → length k ≡ 128 → look_on bs k ≡ found_of (longest_match k m)
  unfolding look_on zone_at
  look_on-image k l =
      let long : 6 * nodes ≤ length bs = rw (image_parts h) (rw (length-append (front_of (forks_of m)) (tail_of nodes epoch)) (omega (arith, length-front_of (forks_of m)))) in
      let within : Within 128 (keys m) = within-keys 128 m h.narrow in
      rw (count_on-image h, le-leb (6 * nodes) (length bs) long)
      (walk_on_top 128 k (omega arith) within (omega arith)
      ∙ ap answer_of (look-trie_of 128 m k (omega arith) within (omega arith)) ∙ answer_of-found (longest_match k m))

-- ---- the promise

number_of-found : (o : math.Option Entry) → number_of (found_of o) ≡ 0
number_of-found math.none = refl
number_of-found (math.some e) = refl

-- the one refusal
abbrev Refuses : Result (Option ℕ) Refusal → Type 0
Refuses r = OneOf (0 ∷ 9 ∷ []) (number_of r)

refuses-cond : (b : Bool) (r q : Result (Option ℕ) Refusal) → Refuses r → Refuses q → Refuses (cond b r q)
refuses-cond true r q h k = h
refuses-cond false r q h k = k

entry_on-refuses : (bs : List ℕ) (at : ℕ) → Refuses (entry_on bs at)
unfolding entry_on
entry_on-refuses bs at =
    let c : ℕ = get_or bs at 0 in
    refuses-cond (leb 0xC0 c && (leb c 0xC4 && ltb (at + (c - 0xC0)) (length bs))) (Ok (Some (number_at bs (at + 1) (c - 0xC0)))) (Err BadImage) tt tt

leaf_on-refuses : (bs : List ℕ) (n r : ℕ) → Refuses (leaf_on bs n r)
unfolding leaf_on
leaf_on-refuses bs n r = refuses-cond (eqb r n) (Ok None) _ tt (refuses-cond (ltb r (n + 16)) (Err BadImage) _ tt (entry_on-refuses bs (5 * n + r)))

walk_on-refuses : (bs : List ℕ) (n i : ℕ) (k : Bits) → Refuses (walk_on bs n i k)
walk_on-refuses bs n i [] = tt
walk_on-refuses bs n i (x ∷ k) = refuses-cond (ltb (record_in bs i x) n) _ _ (walk_on-refuses bs n (record_in bs i x) k) (leaf_on-refuses bs n (record_in bs i x))

look_from-refuses : (bs : List ℕ) (c : Option Nodes) (k : Bits) → Refuses (look_from bs c k)
look_from-refuses bs None k = tt
look_from-refuses bs (Some x) k = refuses-cond (leb (6 * x.count) (length bs)) _ (Err BadImage) (walk_on-refuses bs x.count 0 k) tt

look_on-refuses : (bs : List ℕ) (k : Bits) → Refuses (look_on bs k)
unfolding look_on
look_on-refuses bs k = look_from-refuses bs (count_on bs) k

values_of-refused : (r : Result (Option ℕ) Refusal) → number_of r ≡ 9 → values_of r ≡ 0 ∷ 0 ∷ []
values_of-refused (Ok x) h = absurd (omega arith)
values_of-refused (Err e) h = refl

pub look-promise : (bs : List ℕ) (k : Bits) (r : Result (Option ℕ) Refusal) → length k ≡ 128 → r ≡ look_on bs k → LookImage bs k r
look-promise bs k r l e =
    record {
      answer = e;
      refusal = subst Refuses (sym e) (look_on-refuses bs k);
      meaning = λ m epoch h. e ∙ look_on-image h k l;
      number = λ m epoch h. ap number_of (e ∙ look_on-image h k l) ∙ number_of-found (longest_match k m);
      kept = values_of-refused r;
    }

-- two answers that meet the promise are one
pub look_single : (bs : List ℕ) (k : Bits) (r q : Result (Option ℕ) Refusal) → LookImage bs k r → LookImage bs k q → r ≡ q
look_single bs k r q h g = h.answer ∙ sym g.answer
