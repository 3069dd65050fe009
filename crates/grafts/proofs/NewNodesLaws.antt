-- The laws of the words once a store of a new node is written: the node stands above what lies below the open
-- place where its search ended, or it is a leaf under a new branch. The words hold the map with the entry put
-- in. No contract cites this file.
-- Assumes nothing.
use Prim.Native.Nat.{ℕ, ◌+◌, ◌*◌, ◌<◌}
use native.Mathlib.Omega.{arith}
use mathlib.Core.Path.{◌≡◌, refl}
use mathlib.Core.Bool.{Bool, true, false, not}
use mathlib.Core.List.{List, ◌∷◌, Memᴰ}
use mathlib.Core.Option.{none, some}
use lib.ListN.{length}
use borrow.Author.Tests.{eq-eqb}
use Rattle.bits.specs.Bits.{Bits, lcp}
use Rattle.bits.proofs.BitsLaws.{is_prefix_length, take-is_prefix, lcp_right}
use Rattle.prefix.specs.Keys.{string_of, cut_of}
use Rattle.prefix.specs.declared.Prefix.{Prefix}
use Rattle.prefix.proofs.KeysLaws.{length-string_of}
use Rattle.zones.specs.Maps.{Map, put}
use Rattle.zones.specs.Tree.{Tree, tip, node}
use Rattle.zones.specs.TreeEdits.{put_tree}
use Rattle.zones.specs.Focus.{Context, joined}
use Rattle.records.specs.Layout.{record_at, header_at, side_of}
use Rattle.records.specs.Holds.{Bears, Linked, Chained, Holds}
use Rattle.records.proofs.OnceLaws.{mem-times}
use Rattle.records.proofs.GraftLaws.{side_of-with_side_same, side_of-with_side_other, bears-with_side, times-joined, linked-joined}
use Rattle.plans.specs.Planning.{nowhere_of, node_of, applied}
use Rattle.plans.specs.Plans.{Write}
use Rattle.plans.proofs.AppliedLaws.{length-applied, record_at-applied_two, record_at-applied_three}
use Rattle.plans.specs.Planning.{entry_of}
use Rattle.grafts.proofs.PlanHoldsLaws.{hang_plan, above_write, leaf_write, fork_write}
use Rattle.grafts.proofs.OpenedLaws.{chained_as, opened_once, opened-bounds, times-nowhere, aside-nowhere, aside-chain, Hangs, hang_plan-hangs}
use Rattle.grafts.proofs.PutHoldsLaws.{Spot, holds-put, bears_stored, bears_branch}

-- ---- node_of

side-node_of : (k : Prefix) (tag zone l : ℕ) (x : Bool) → side_of (node_of k tag zone l l) x ≡ l
unfolding node_of
side-node_of k tag zone l false = refl
side-node_of k tag zone l true = refl

module _ {ws : List ℕ} {m : Map} {h : Holds ws m} {k : Prefix} {z : ℕ} {c : Context ℕ} {u : Tree ℕ} (spot : Spot h k z c u) where
  -- ---- one new node, above what lies in the place

  module _ (a : ℕ) (ls : List ℕ) (chain-is : h.chain ≡ a ∷ ls) (x : Bool) (i : ℕ) (linked : Linked (record_at ws) i u) where
    abbrev one_words : List ℕ
    one_words = applied ws (hang_plan ws c a (record_at ws a).left (above_write k z a x i) nowhere_of)

    first : Memᴰ a h.chain
    first = rw chain-is (Memᴰ.head refl)

    hangs_above : Hangs h c u spot.is a (record_at ws a).left (above_write k z a x i) nowhere_of one_words
    hangs_above =
        hang_plan-hangs h c u spot.is a (record_at ws a).left (above_write k z a x i) nowhere_of
        (aside-chain h c u spot.is a (above_write k z a x i).content first) (aside-nowhere h c u spot.is)

    record_above : record_at one_words a ≡ (above_write k z a x i).content
    unfolding nowhere_of
    record_above =
        let n = mem-times a h.chain first in
        let low = (opened-bounds h c u spot.is a (omega arith)).0 in
        record_at-applied_two ws (hang_plan ws c a (record_at ws a).left (above_write k z a x i) nowhere_of) hangs_above.fitting low
        (λ e. omega arith)

    linked_above : Linked (record_at one_words) a (joined a (string_of k) (some z) x u tip)
    linked_above =
        let r = node_of k (2 * k.width + 1) z 0 0 in
        linked-joined (record_at one_words) a (string_of k) (some z) x u tip
        (rw record_above (bears-with_side r x i (string_of k) (some z) (bears_stored k z 0 0 spot.valid)))
        (rw (record_above, side_of-with_side_same r x i) (hangs_above.linked i linked))
        (rw (record_above, side_of-with_side_other r x i) (side-node_of k (2 * k.width + 1) z 0 (not x)))

    chained_above : Chained (record_at one_words) (header_at one_words).spare ls
    chained_above =
        let rest = chained_as h (a ∷ ls) chain-is in
        let once = rw (chain-is, eq-eqb a a refl) at (opened_once h c u spot.is a) in
        let nowhere = rw chain-is at (times-nowhere h c u spot.is) in
        rw hangs_above.spare
        (hangs_above.chained (record_at ws a).left ls (λ b. rw chain-is (omega arith)) (omega arith) (omega arith) rest.2)

    pub holds_above : put_tree a 0 (entry_of k z) u ≡ joined a (string_of k) (some z) x u tip → Holds one_words (put (entry_of k z) m)
    holds_above e =
        holds-put spot a 0 (joined a (string_of k) (some z) x u tip) one_words ls a e (length-applied ws _)
        hangs_above.framed linked_above chained_above
        (λ j. rw chain-is (omega (arith, times-joined j a (string_of k) (some z) x u tip)))

  -- ---- two new nodes, a leaf and the branch over it and what lies in the place

  module _ (a b : ℕ) (ls : List ℕ) (chain-is : h.chain ≡ a ∷ b ∷ ls) (x : Bool) (s : Bits) (i : ℕ)
      (linked : Linked (record_at ws) i u) where
    -- the string at which they part, and the new leaf
    abbrev fork : Bits
    fork = lcp s (string_of k)

    abbrev leaf : Tree ℕ
    leaf = node a (string_of k) (some z) tip tip

    abbrev branch_write : Write
    branch_write = fork_write k (length fork) b x a i

    abbrev two_words : List ℕ
    two_words = applied ws (hang_plan ws c b (record_at ws b).left (leaf_write k z a) branch_write)

    two_first : Memᴰ a h.chain
    two_first = rw chain-is (Memᴰ.head refl)

    two_second : Memᴰ b h.chain
    two_second = rw chain-is (Memᴰ.tail (Memᴰ.head refl))

    hangs-fork : Hangs h c u spot.is b (record_at ws b).left (leaf_write k z a) branch_write two_words
    hangs-fork =
        hang_plan-hangs h c u spot.is b (record_at ws b).left (leaf_write k z a) branch_write
        (aside-chain h c u spot.is a (leaf_write k z a).content two_first)
        (aside-chain h c u spot.is b branch_write.content two_second)

    spare_low : (j : ℕ) → Memᴰ j h.chain → 0 < j
    spare_low j i = let n = mem-times j h.chain i in (opened-bounds h c u spot.is j (omega arith)).0

    different : a ≡ b → ⊥
    different e = let once = rw (chain-is, eq-eqb a a refl, eq-eqb a b e) at (opened_once h c u spot.is a) in omega arith

    record-leaf : record_at two_words a ≡ (leaf_write k z a).content
    record-leaf =
        record_at-applied_two ws (hang_plan ws c b (record_at ws b).left (leaf_write k z a) branch_write) hangs-fork.fitting
        (spare_low a two_first) different

    record-fork : record_at two_words b ≡ branch_write.content
    record-fork =
        record_at-applied_three ws (hang_plan ws c b (record_at ws b).left (leaf_write k z a) branch_write) hangs-fork.fitting
        (spare_low b two_second)

    linked-leaf : Linked (record_at two_words) a leaf
    unfolding node_of
    linked-leaf = (refl, rw record-leaf (bears_stored k z 0 0 spot.valid), rw record-leaf, rw record-leaf)

    fork-bears : Bears (node_of (cut_of k (length fork)) (2 * length fork) 0 i i) fork none
    fork-bears =
        let p = is_prefix_length fork (string_of k) (lcp_right s (string_of k)) in
        let w = length-string_of k spot.valid.narrow in
        rw (take-is_prefix fork (string_of k) (lcp_right s (string_of k))) at (bears_branch k (length fork) i i spot.valid (omega arith))

    linked-fork : Linked (record_at two_words) b (joined b fork none x leaf u)
    linked-fork =
        let r = node_of (cut_of k (length fork)) (2 * length fork) 0 i i in
        linked-joined (record_at two_words) b fork none x leaf u (rw record-fork (bears-with_side r x a fork none fork-bears))
        (rw (record-fork, side_of-with_side_same r x a) linked-leaf)
        (rw (record-fork, side_of-with_side_other r x a, side-node_of (cut_of k (length fork)) (2 * length fork) 0 i (not x))
        (hangs-fork.linked i linked))

    chained-fork : Chained (record_at two_words) (header_at two_words).spare ls
    chained-fork =
        let rest = chained_as h (a ∷ b ∷ ls) chain-is in
        let once-a = rw (chain-is, eq-eqb a a refl) at (opened_once h c u spot.is a) in
        let once-b = rw (chain-is, eq-eqb b b refl) at (opened_once h c u spot.is b) in
        rw hangs-fork.spare
        (hangs-fork.chained (record_at ws b).left ls (λ j. rw chain-is (omega arith)) (omega arith) (omega arith) rest.2.2)

    pub holds-fork : put_tree a b (entry_of k z) u ≡ joined b fork none x leaf u → Holds two_words (put (entry_of k z) m)
    holds-fork e =
        holds-put spot a b (joined b fork none x leaf u) two_words ls b e (length-applied ws _)
        hangs-fork.framed linked-fork chained-fork
        (λ j. rw chain-is (omega (arith, times-joined j b fork none x leaf u)))
