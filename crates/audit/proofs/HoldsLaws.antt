-- The laws of the whole check: it says yes exactly if the words are a table of some map. What it passes
-- through has no record twice, since the strings of a good tree are all different.
-- No contract cites this file.
-- Assumes nothing.
use Prim.Native.Nat.{ℕ, ◌+◌, ◌-◌, ◌≤◌, ◌<◌}
use native.Mathlib.Decide.{dec_lt}
use native.Mathlib.Omega.{arith}
use mathlib.Core.Path.{◌≡◌, refl, ap, ap₂, ◌∙◌}
use mathlib.Core.Bool.{Bool, true, false, cond}
use mathlib.Core.List.{List, [], ◌∷◌, ◌++◌, map, map-append, Memᴰ}
use mathlib.Core.Logic.{inl, inr}
use Rattle.std.specs.Prelude.{Option, None, Some, Ok, Err}
use lib.Dec.{eqb}
use lib.ListN.{length, length-append}
use borrow.Author.Tests.{eqb-true}
use Rattle.bits.specs.Lists.{keep}
use Rattle.bits.specs.Bits.{Bits, equal}
use Rattle.bits.proofs.ListsLaws.{mem-map}
use Rattle.bits.proofs.BitsLaws.{eq-equal}
use Rattle.bits.proofs.RisingLaws.{length-keep-equal}
use Rattle.refusals.specs.declared.Refusal.TheVariants.{BadLength}
use Rattle.prefix.specs.Keys.{string_of, Valid}
use Rattle.zones.specs.Maps.{Map}
use Rattle.zones.specs.Tree.{Tree, tip, node, Good, entries}
use Rattle.zones.specs.Searching.{strings}
use Rattle.zones.proofs.TreeLaws.{rising-strings}
use Rattle.records.specs.Layout.{table_length, is_table, capacity, record_at, header_at, key_of, is_spare}
use Rattle.records.specs.Holds.{labels, Linked, times, Holds}
use Rattle.records.specs.declared.Record.{Record}
use Rattle.records.proofs.LayoutLaws.{Table, is_table_true, capacity-table_length, room_of_true}
use Rattle.records.proofs.OnceLaws.{times-append, times_mem, once_full, length_once}
use Rattle.records.proofs.HoldsLaws.{is_table_holds, labels-room, chain-room}
use Rattle.audit.specs.Checking.{chain_on, below_on, audit_of, audit_on}
use Rattle.audit.proofs.NodeLaws.{rooms-append}
use Rattle.audit.proofs.BelowLaws.{Below, below_on_left, Passes, below_on-linked}
use Rattle.audit.proofs.ChainLaws.{Spares, chain_on_true, chained-chain_on, chained_spare, times-chained}

-- ---- labels: no node twice

-- a link stands in a list at most as often as its string stands among the strings
times-map : (g : ℕ → Bits) (a : ℕ) (ls : List ℕ) → times a ls ≤ length (keep (equal (g a)) (map g ls))
times-map g a [] = omega arith
times-map g a (b ∷ ls) = at (eqb a b) (equal (g a) (g b)) refl refl (times-map g a ls)
  where
    at : (x y : Bool) → eqb a b ≡ x → equal (g a) (g b) ≡ y → times a ls ≤ length (keep (equal (g a)) (map g ls))
        → cond x 1 0 + times a ls ≤ length (cond y (g b ∷ keep (equal (g a)) (map g ls)) (keep (equal (g a)) (map g ls)))
    at true true e f ih = omega arith
    at true false e f ih = absurd (rw f at (eq-equal (g a) (g b) (ap g (eqb-true a b e))))
    at false true e f ih = omega arith
    at false false e f ih = omega arith

module _ (ws : List ℕ) where
  abbrev string : ℕ → Bits
  string a = string_of (key_of (record_at ws a))

  map-labels : (t : Tree ℕ) (l : ℕ) → Linked (record_at ws) l t → map string (labels t) ≡ strings t
  map-labels tip l h = refl
  map-labels (node a s v x y) l h =
      ap₂ ◌∷◌ h.1.string
      (map-append string (labels x) (labels y)
      ∙ ap₂ ◌++◌ (map-labels x (record_at ws a).left h.2) (map-labels y (record_at ws a).right h.3))

  times-labels : (t : Tree ℕ) (l : ℕ) (p : Bits) → Good p t → Linked (record_at ws) l t → (a : ℕ) → times a (labels t) ≤ 1
  times-labels t l p g h a = at (dec_lt 0 (times a (labels t)))
    where
      at : Dec (0 < times a (labels t)) → times a (labels t) ≤ 1
      at (yes k) =
          let e = map-labels t l h in
          let i : Memᴰ (string a) (strings t) = rw e at (mem-map string (times_mem a (labels t) k)) in
          let m : times a (labels t) ≤ length (keep (equal (string a)) (strings t)) = rw e at (times-map string a (labels t)) in
          omega (arith, length-keep-equal (string a) (strings t) (rising-strings p t g) i)
      at (no k) = omega arith

  linked-valid : (t : Tree ℕ) (l a : ℕ) → Linked (record_at ws) l t → Memᴰ a (labels t) → Valid (key_of (record_at ws a))
  linked-valid (node b s v x y) l a h (mathlib.Core.List.Memᴰ.head e) = rw e h.1.valid
  linked-valid (node b s v x y) l a h (mathlib.Core.List.Memᴰ.tail i) =
      elim (mathlib.Core.List.Memᴰ.append_cases (labels x) i) [
        | inl j ↦ linked-valid x (record_at ws b).left a h.2 j
        | inr j ↦ linked-valid y (record_at ws b).right a h.3 j
      ]
  linked-valid tip l a h absent = elim absent [ ]

-- ---- is_spare

-- a node's tag is far below a spare record's
valid_spare : (r : Record) → Valid (key_of r) → is_spare r ≡ true → ⊥
unfolding key_of is_spare
valid_spare r v h = omega (arith, v.narrow, eqb-true r.tag 4294967295 h)

-- ---- times

times_both : (xs ys : List ℕ) (a : ℕ) → times a xs ≤ 1 → times a ys ≤ 1 → (Memᴰ a xs → Memᴰ a ys → ⊥) → times a (xs ++ ys) ≤ 1
times_both xs ys a h k apart = rw times-append (at (dec_lt 0 (times a xs)) (dec_lt 0 (times a ys)))
  where
    at : Dec (0 < times a xs) → Dec (0 < times a ys) → times a xs + times a ys ≤ 1
    at (yes i) (yes j) = absurd (apart (times_mem a xs i) (times_mem a ys j))
    at (yes i) (no j) = omega arith
    at (no i) d = omega arith

-- ---- capacity

capacity-table : (n : ℕ) → Table n → (1 ≤ capacity n) × (capacity n ≤ 65535) × (n ≡ table_length (capacity n))
unfolding capacity
capacity-table n t = (omega arith, omega arith, omega arith)

-- ---- Holds

module _ (ws : List ℕ) (n : ℕ) (table : Table (length ws)) (x : Below ws (header_at ws).root [] (capacity (length ws)) n)
    (y : Spares ws (header_at ws).spare n) where
  abbrev used : List ℕ
  used = labels x.tree ++ y.chain

  times_used : (a : ℕ) → times a used ≤ 1
  times_used a =
      times_both (labels x.tree) y.chain a (times-labels ws x.tree (header_at ws).root [] x.good x.linked a)
      (times-chained ws y.chain (header_at ws).spare a y.chained y.rooms)
      (λ i j. valid_spare (record_at ws a) (linked-valid ws x.tree (header_at ws).root a x.linked i)
      (chained_spare ws y.chain (header_at ws).spare a y.chained j))

  within_used : (a : ℕ) → Memᴰ a used → (0 < a) × (a ≤ capacity (length ws))
  within_used a i =
      let r = room_of_true (length ws) a (rooms-append ws (labels x.tree) y.chain x.rooms y.rooms a i) in
      (r.0, omega (arith, (capacity-table (length ws) table).2))

  length_used : length used ≡ capacity (length ws)
  length_used = omega (arith, length-append (labels x.tree) y.chain, x.count, y.count)

  holds-passed : Holds ws (entries x.tree)
  holds-passed =
      let c = capacity-table (length ws) table in
      record {
        records = capacity (length ws);
        some_records = c.0;
        most_records = c.1;
        length_is = c.2;
        tree = x.tree;
        good = x.good;
        map_is = refl;
        linked = x.linked;
        chain = y.chain;
        chained = y.chained;
        once = once_full (capacity (length ws)) used times_used within_used length_used;
      }

-- ---- audit_on

length_yes : (b x : Bool) → cond b (Ok x) (Err BadLength) ≡ Ok true → (b ≡ true) × (x ≡ true)
length_yes true x h = (refl, cc)
length_yes false x h = cc

audit_of_yes : (ws : List ℕ) (c : Option ℕ) → audit_of ws c ≡ true → (n : ℕ) × (c ≡ Some n) × (chain_on ws (header_at ws).spare n ≡ true)
audit_of_yes ws None h = cc
audit_of_yes ws (Some n) h = (n, refl, h)

pub audit_on_yes : (ws : List ℕ) → audit_on ws ≡ Ok true → (m : Map) × Holds ws m
unfolding audit_on
audit_on_yes ws h =
    let c = below_on 130 ws (header_at ws).root None (capacity (length ws)) in
    let i = length_yes (is_table (length ws)) (audit_of ws c) h in
    let j = audit_of_yes ws c i.1 in
    let x = below_on_left 130 ws (header_at ws).root None (capacity (length ws)) j.0 j.1 in
    (entries x.tree, holds-passed ws j.0 (is_table_true (length ws) i.0) x (chain_on_true ws j.0 (header_at ws).spare j.2))

pub audit_on_holds : (ws : List ℕ) (m : Map) → Holds ws m → audit_on ws ≡ Ok true
unfolding audit_on
audit_on_holds ws m h =
    let c : capacity (length ws) ≡ h.records = ap capacity h.length_is ∙ capacity-table_length h.records in
    let n : length (labels h.tree) + length h.chain ≡ h.records =
    rw (← length-append) (length_once h.records (labels h.tree ++ h.chain) h.once) in
    let p : Passes ws h.tree 130 (header_at ws).root None (capacity (length ws)) =
    record { good = h.good; linked = h.linked; rooms = labels-room h; fuel = omega arith; enough = omega arith } in
    let left : capacity (length ws) - length (labels h.tree) ≡ length h.chain = omega arith in
    rw (
      is_table_holds h,
      below_on-linked h.tree 130 p,
      left,
      chained-chain_on ws h.chain (header_at ws).spare h.chained (chain-room h),
    )
