-- The laws of counting: how many image nodes a part of a table's tree grows into, one law for each way out,
-- and why the count fits a word. No contract cites this file.
-- Assumes nothing.
use Prim.Native.Nat.{ℕ, ◌+◌, ◌-◌, ◌*◌, ◌/◌, ◌≤◌}
use native.Mathlib.Omega.{arith}
use mathlib.Core.Path.{◌≡◌, sym, ap, ◌∙◌}
use mathlib.Core.Bool.{Bool, true, false}
use mathlib.Core.List.{List}
use mathlib.Core.Option.{Option, none}
use lib.ListN.{length, length-append, length-drop}
use Rattle.zones.specs.Tree.{Tree, tip, node}
use Rattle.records.specs.Layout.{record_at}
use Rattle.records.specs.Holds.{labels}
use Rattle.records.specs.Hanging.{Hangs}
use Rattle.records.specs.declared.Record.{Record}
use Rattle.records.proofs.HangingLaws.{hangs-tip, hangs_node}
use Rattle.image.specs.Tries.{Trie, size, crown, nearer, grow}
use Rattle.image.proofs.GrowLaws.{size-stalk, size-grow}
use Rattle.image_zones.specs.Used.{both_end}
use Rattle.image_write.specs.Parts.{Part}
use Rattle.image_write.proofs.PartLaws.{Seen, seen, size_end, size-fork, labels_seen}

-- ---- a node brings at most 129 image nodes: itself and the way to it

size-crown-le : (o : Option ℕ) (l r : Tree ℕ) (x y : Trie) → size (crown o l r x y) ≤ 1 + size x + size y
size-crown-le o tip tip x y = omega arith
size-crown-le o tip (node a s v l r) x y = omega arith
size-crown-le o (node a s v l r) t x y = omega arith

pub size-hangs : (ws : List ℕ) (t : Tree ℕ) (l a : ℕ) (o : Option ℕ) → Hangs ws l a t → size (grow o a t) ≤ 129 * length (labels t)
size-hangs ws tip l a o h = omega arith
size-hangs ws (node b s v x y) l a o h =
    let n : l ≡ 0 → ⊥ = λ e. let i = hangs-tip ws l a (node b s v x y) h e in let z : ◌≡◌ {A = ℕ} 0 1 = cc in omega arith in
    let k = hangs_node ws l a (node b s v x y) h n in
    let is : node b s v x y ≡ node l k.string k.zone k.left k.right = k.is_node in
    let es : k.string ≡ s = cc in
    let ex : k.left ≡ x = cc in
    let ey : k.right ≡ y = cc in
    let u : Option ℕ = nearer v o in
    let w : ℕ = length s + 1 in
    rw size-stalk
    (omega (
      arith,
      length-drop a s,
      k.high,
      ap length es,
      size-crown-le u x y (grow u w x) (grow u w y),
      size-hangs ws x (record_at ws l).left w u (rw (es, ex) at k.hangs_left),
      size-hangs ws y (record_at ws l).right w u (rw (es, ey) at k.hangs_right),
      length-append (labels x) (labels y),
    ))

-- ---- the ways out

abbrev pub Counts : List ℕ → ℕ → ℕ → ℕ → Type 0
Counts ws l a n = (t : Tree ℕ) → Hangs ws l a t → n ≡ size (grow none a t)

pub counts-tip : (ws : List ℕ) (l a : ℕ) → l ≡ 0 → Counts ws l a 0
counts-tip ws l a e t h = rw (hangs-tip ws l a t h e)

module _ (ws : List ℕ) (l a : ℕ) (n : l ≡ 0 → ⊥) (r : Record) (e : r ≡ record_at ws l) where
  pub counts_end : (b : Bool) → b ≡ both_end r → b ≡ true → Counts ws l a (r.tag / 2 - a)
  counts_end b f h t k = sym (size_end ws l a t r (seen ws l a t r k n e) none (sym f ∙ h))

  module _ (x y : ℕ) (cx : Counts ws r.left (r.tag / 2 + 1) x) (cy : Counts ws r.right (r.tag / 2 + 1) y) where
    pub counts-fork : (b : Bool) → b ≡ both_end r → b ≡ false → Counts ws l a (r.tag / 2 - a + 1 + x + y)
    counts-fork b f h t k =
        let s = seen ws l a t r k n e in
        let o : Option ℕ = nearer s.zone none in
        let w : ℕ = r.tag / 2 + 1 in
        omega (
          arith,
          size-fork ws l a t r s none (sym f ∙ h),
          cx s.left s.hangs_left,
          cy s.right s.hangs_right,
          size-grow o w s.left,
          size-grow o w s.right,
        )

  -- ---- the node that is counted

  module _ (p : Part ws l a) where
    abbrev part_seen : Seen ws l a p.tree r
    part_seen = seen ws l a p.tree r p.hangs n e

    pub part_low : a ≤ r.tag / 2
    part_low = part_seen.low

    pub part_high : r.tag / 2 ≤ 128
    part_high = part_seen.high

    pub part_left : Part ws r.left (r.tag / 2 + 1)
    part_left =
        let few = p.few in
        let all = labels_seen ws l a p.tree r part_seen in
        record { tree = part_seen.left; hangs = part_seen.hangs_left; few = omega arith }

    pub part_right : Part ws r.right (r.tag / 2 + 1)
    part_right =
        let few = p.few in
        let all = labels_seen ws l a p.tree r part_seen in
        record { tree = part_seen.right; hangs = part_seen.hangs_right; few = omega arith }

    -- two counts below it, and its own nodes, fit a word
    pub counts_fit : (x y : ℕ) → Counts ws r.left (r.tag / 2 + 1) x → Counts ws r.right (r.tag / 2 + 1) y
        → r.tag / 2 - a + 1 + x + y ≤ 129 * 65535
    counts_fit x y cx cy =
        let s = part_seen in
        let few = p.few in
        let w : ℕ = r.tag / 2 + 1 in
        omega (
          arith,
          labels_seen ws l a p.tree r s,
          s.high,
          cx s.left s.hangs_left,
          cy s.right s.hangs_right,
          size-hangs ws s.left r.left w none s.hangs_left,
          size-hangs ws s.right r.right w none s.hangs_right,
        )
