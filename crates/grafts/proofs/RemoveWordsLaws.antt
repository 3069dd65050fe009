-- The laws of the words of a remove's plan, once it is written: they are a table of the tree in which the
-- key's node stores nothing, in which a side of it has its place, or in which the branch node above it gave
-- way to its other side. No contract cites this file.
-- Assumes nothing.
use Prim.Native.Nat.{ℕ, ◌+◌, ◌≤◌, ◌<◌}
use native.Mathlib.Decide.{dec_lt}
use native.Mathlib.Omega.{arith}
use mathlib.Core.Path.{◌≡◌, refl}
use mathlib.Core.List.Memᴰ
use mathlib.Core.List.{List, [], ◌∷◌, ◌++◌}
use mathlib.Core.Option.{Option, none}
use lib.ListN.{length}
use borrow.Author.Tests.{eq-eqb}
use Rattle.prefix.specs.Keys.{string_of, Valid}
use Rattle.prefix.specs.declared.Prefix.{Prefix}
use Rattle.zones.specs.Maps.{Map}
use Rattle.zones.specs.Tree.{Tree, node, Good, entries}
use Rattle.zones.specs.Focus.{Context, top, into, plug, link_at}
use Rattle.records.specs.Layout.{place, record_at, header_at}
use Rattle.records.specs.Holds.{Memory, labels, Linked, Chained, times, Holds}
use Rattle.records.proofs.OnceLaws.{mem-times}
use Rattle.records.proofs.GraftLaws.{labels_above}
use Rattle.plans.specs.Planning.{node_of, freed_of, nowhere_of, applied}
use Rattle.plans.specs.Making.{Fitting}
use Rattle.plans.specs.Plans.{Write}
use Rattle.plans.proofs.AppliedLaws.{length-applied, header_at-applied, record_at-applied_other, record_at-applied_one, record_at-applied_two, record_at-applied_three}
use Rattle.grafts.proofs.HangLaws.{Hanged}
use Rattle.grafts.proofs.OpenedLaws.{link-hang_write, times_in, opened_once, opened-bounds}
use Rattle.grafts.proofs.EditedLaws.{holds-cut, holds-here}
use Rattle.grafts.proofs.PlanRemoveLaws.{is_spare-freed_of, left-freed_of, bears-node_of_branch, empty_plan, cut_plan, freeing, pass_plan, twin_plan}

-- ---- writes, the chain and the length

link-nowhere_of : nowhere_of.link ≡ 0
unfolding nowhere_of
link-nowhere_of = refl

-- a record that is freed heads the chain
chained-freed : (mem : Memory) (a next : ℕ) (ls : List ℕ) → mem a ≡ freed_of next → Chained mem next ls → Chained mem a (a ∷ ls)
chained-freed mem a next ls e q =
    let left : (mem a).left ≡ next = rw e (left-freed_of next) in
    (refl, rw e (is_spare-freed_of next), rw left q)

length_holds : {ws : List ℕ} {m : Map} → Holds ws m → 16 ≤ length ws
length_holds h = omega (arith, h.length_is, h.some_records)

-- ---- empty_plan

module _ {ws : List ℕ} {m : Map} (h : Holds ws m) (k : Prefix) (valid : Valid k) (c : Context ℕ) (a : ℕ) (v : Option ℕ) (x y : Tree ℕ)
    (e : h.tree ≡ plug c (node a (string_of k) v x y)) where
  times_top : 1 ≤ times_in h c (node a (string_of k) v x y) e a
  times_top = omega (arith, mem-times a (labels (node a (string_of k) v x y)) (Memᴰ.head refl))

  fitting_empty : Fitting ws (empty_plan ws k a)
  unfolding nowhere_of
  fitting_empty =
      let n = length_holds h in
      record {
        header = n;
        one = (opened-bounds h c (node a (string_of k) v x y) e a times_top).1;
        two = omega arith;
        three = omega arith;
      }

  record_at_empty : record_at (applied ws (empty_plan ws k a)) a ≡ (empty_plan ws k a).one.content
  record_at_empty =
      let n = (opened-bounds h c (node a (string_of k) v x y) e a times_top).0 in
      record_at-applied_one ws (empty_plan ws k a) fitting_empty n (omega (arith, link-nowhere_of)) (omega (arith, link-nowhere_of))

  pub holds_empty : Good [] (plug c (node a (string_of k) none x y))
      → Holds (applied ws (empty_plan ws k a)) (entries (plug c (node a (string_of k) none x y)))
  unfolding node_of
  holds_empty g =
      holds-here h c a (string_of k) v none x y e (applied ws (empty_plan ws k a))
      (λ b i d. record_at-applied_other ws (empty_plan ws k a) b i d (omega (arith, link-nowhere_of)) (omega (arith, link-nowhere_of)))
      (length-applied ws (empty_plan ws k a)) (header_at-applied ws (empty_plan ws k a) (length_holds h))
      (rw record_at_empty (bears-node_of_branch k (record_at ws a).left (record_at ws a).right valid))
      (rw record_at_empty) (rw record_at_empty) g

-- ---- cut_plan

-- the node above the open place, if there is one, stands above it
link_at-stands : (c : Context ℕ) → 0 < link_at 0 c → 1 ≤ times (link_at 0 c) (labels_above c)
link_at-stands top i = absurd (omega arith)
link_at-stands (into a p v x o c) i = mem-times a (a ∷ (labels o ++ labels_above c)) (Memᴰ.head refl)

-- the first write stands where no other one goes to a record above
hanged-cut : (ws : List ℕ) (c : Context ℕ) (l spare : ℕ) (two three : Write) → Fitting ws (cut_plan ws c l spare two three)
    → ((b : ℕ) → 1 ≤ times b (labels_above c) → (0 < b) × (b ≡ two.link → ⊥) × (b ≡ three.link → ⊥))
    → Hanged ws (applied ws (cut_plan ws c l spare two three)) c l
hanged-cut ws top l spare two three f d = tt
hanged-cut ws (into a p v x o c) l spare two three f d =
    let (n, i, j) = d a (mem-times a (a ∷ (labels o ++ labels_above c)) (Memᴰ.head refl)) in
    record_at-applied_one ws (cut_plan ws (into a p v x o c) l spare two three) f n i j

module _ {ws : List ℕ} {m : Map} (h : Holds ws m) (c : Context ℕ) (t : Tree ℕ) (e : h.tree ≡ plug c t) where
  fits_zero : (b : ℕ) → (0 < b → 1 ≤ times_in h c t e b) → place b + 8 ≤ length ws
  fits_zero b i = at (dec_lt 0 b)
    where
      at : Dec (0 < b) → place b + 8 ≤ length ws
      at (yes j) = (opened-bounds h c t e b (i j)).1
      at (no j) = omega (arith, length_holds h)

  -- the records fs leave the tree, and the second and third write go to them
  module _ (l spare : ℕ) (two three : Write) (fs : List ℕ) (t' : Tree ℕ)
      (parts : (b : ℕ) → times b (labels t) ≡ times b (labels t') + times b fs)
      (second : 1 ≤ times two.link fs) (third : 0 < three.link → 1 ≤ times three.link fs) where
    abbrev us : List ℕ
    us = applied ws (cut_plan ws c l spare two three)

    fitting-cut : Fitting ws (cut_plan ws c l spare two three)
    fitting-cut =
        record {
          header = length_holds h;
          one = rw (link-hang_write ws c l) (fits_zero (link_at 0 c) (λ i. omega (arith, link_at-stands c i)));
          two = (opened-bounds h c t e two.link (omega (arith, parts two.link))).1;
          three = fits_zero three.link (λ i. omega (arith, third i, parts three.link));
        }

    -- a record that stays in the tree is written by neither
    differs_two : (b : ℕ) → times b fs ≡ 0 → b ≡ two.link → ⊥
    differs_two b i q = let j = rw q at i in omega arith

    differs_three : (b : ℕ) → 0 < b → times b fs ≡ 0 → b ≡ three.link → ⊥
    differs_three b n i q =
        let j = rw q at i in
        let o = rw q at n in
        omega (arith, third o)

    record_at-cut_other : (b : ℕ) → 0 < b → (b ≡ link_at 0 c → ⊥) → times b fs ≡ 0 → record_at us b ≡ record_at ws b
    record_at-cut_other b n d i =
        record_at-applied_other ws (cut_plan ws c l spare two three) b n (rw (link-hang_write ws c l) d) (differs_two b i)
        (differs_three b n i)

    hanged : Hanged ws us c l
    hanged =
        hanged-cut ws c l spare two three fitting-cut
        (λ b i. let n = (opened-bounds h c t e b (omega arith)).0 in
        let z : times b fs ≡ 0 = omega (arith, parts b, opened_once h c t e b) in
        (n, differs_two b z, differs_three b n z))

    holds-cut_plan : Linked (record_at ws) l t'
        → (Chained (record_at us) (header_at ws).spare h.chain → Chained (record_at us) spare (fs ++ h.chain))
        → Good [] (plug c t') → Holds us (entries (plug c t'))
    holds-cut_plan i chains g =
        let q = header_at-applied ws (cut_plan ws c l spare two three) (length_holds h) in
        holds-cut h c t e us fs t' l record_at-cut_other parts (length-applied ws (cut_plan ws c l spare two three))
        (rw q) hanged i (rw q chains) g

  -- the key's node a gives way to the tree of the link l
  module _ (a l : ℕ) (t' : Tree ℕ) (parts : (b : ℕ) → times b (labels t) ≡ times b (labels t') + times b (a ∷ [])) where
    one_self : 1 ≤ times a (a ∷ [])
    one_self = mem-times a (a ∷ []) (Memᴰ.head refl)

    third-pass : 0 < nowhere_of.link → 1 ≤ times nowhere_of.link (a ∷ [])
    third-pass i = absurd (omega (arith, link-nowhere_of))

    record_at-pass : record_at (applied ws (pass_plan ws c a l)) a ≡ freed_of (header_at ws).spare
    record_at-pass =
        let n = (opened-bounds h c t e a (omega (arith, parts a, one_self))).0 in
        record_at-applied_two ws (pass_plan ws c a l)
        (fitting-cut l a (freeing a (header_at ws).spare) nowhere_of (a ∷ []) t' parts one_self third-pass) n (omega (arith, link-nowhere_of))

    pub holds-pass : Linked (record_at ws) l t' → Good [] (plug c t') → Holds (applied ws (pass_plan ws c a l)) (entries (plug c t'))
    holds-pass i =
        holds-cut_plan l a (freeing a (header_at ws).spare) nowhere_of (a ∷ []) t' parts one_self third-pass i
        (chained-freed (record_at (applied ws (pass_plan ws c a l))) a (header_at ws).spare h.chain record_at-pass)

  -- and the branch node b above it to the tree of its other link l
  module _ (a b l : ℕ) (t' : Tree ℕ) (parts : (d : ℕ) → times d (labels t) ≡ times d (labels t') + times d (b ∷ a ∷ [])) where
    first-twin : 1 ≤ times a (b ∷ a ∷ [])
    first-twin = mem-times a (b ∷ a ∷ []) (Memᴰ.tail (Memᴰ.head refl))

    second-twin : 1 ≤ times b (b ∷ a ∷ [])
    second-twin = mem-times b (b ∷ a ∷ []) (Memᴰ.head refl)

    fitting-twin : Fitting ws (twin_plan ws c a b l)
    fitting-twin = fitting-cut l b (freeing a (header_at ws).spare) (freeing b a) (b ∷ a ∷ []) t' parts first-twin (λ i. second-twin)

    record_at-twin_one : record_at (applied ws (twin_plan ws c a b l)) a ≡ freed_of (header_at ws).spare
    record_at-twin_one =
        let n = (opened-bounds h c t e a (omega (arith, parts a, first-twin))).0 in
        record_at-applied_two ws (twin_plan ws c a b l) fitting-twin n
        (λ q. let i = rw (eq-eqb a b q, eq-eqb a a refl) at (parts a) in omega (arith, opened_once h c t e a))

    record_at-twin_two : record_at (applied ws (twin_plan ws c a b l)) b ≡ freed_of a
    record_at-twin_two =
        let n = (opened-bounds h c t e b (omega (arith, parts b, second-twin))).0 in
        record_at-applied_three ws (twin_plan ws c a b l) fitting-twin n

    pub holds-twin : Linked (record_at ws) l t' → Good [] (plug c t') → Holds (applied ws (twin_plan ws c a b l)) (entries (plug c t'))
    holds-twin i =
        let mem : Memory = record_at (applied ws (twin_plan ws c a b l)) in
        holds-cut_plan l b (freeing a (header_at ws).spare) (freeing b a) (b ∷ a ∷ []) t' parts first-twin (λ i. second-twin) i
        (λ q. chained-freed mem b a (a ∷ h.chain) record_at-twin_two
        (chained-freed mem a (header_at ws).spare h.chain record_at-twin_one q))
