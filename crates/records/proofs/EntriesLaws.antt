-- The laws of what a table stores: how wide its keys are, and how many it has. No contract cites this file.
-- Assumes nothing.
use Prim.Native.Nat.{ℕ, ◌≤◌}
use native.Mathlib.Omega.{arith}
use mathlib.Core.Path.{ap}
use mathlib.Core.Logic.{inl, inr}
use mathlib.Core.List.{List, ◌++◌, Memᴰ}
use mathlib.Core.Option.{Option, none, some}
use lib.ListN.{length, length-append}
use Rattle.bits.specs.Bits.{Bits}
use Rattle.prefix.proofs.KeysLaws.{length-string_of}
use Rattle.zones.specs.Maps.{Entry, Map, keys}
use Rattle.zones.specs.Tree.{Tree, tip, node, own, entries}
use Rattle.zones.proofs.TreeLaws.{mem-own}
use Rattle.records.specs.Layout.{key_of}
use Rattle.records.specs.Holds.{Memory, labels, Bears, Linked, Holds}
use Rattle.records.specs.declared.Record.{Record}
use Rattle.records.proofs.OnceLaws.{length_once}

-- ---- entries

narrow-bears : (r : Record) (s : Bits) (v : Option ℕ) → Bears r s v → length s ≤ 128
narrow-bears r s v b = omega (arith, ap length b.string, length-string_of (key_of r) b.valid.narrow, b.valid.narrow)

narrow-entries : (mem : Memory) (l : ℕ) (t : Tree ℕ) → Linked mem l t → (e : Entry) → Memᴰ e (entries t) → length e.key ≤ 128
narrow-entries mem l tip h e i = absurd (mathlib.Core.List.Memᴰ.not-nil i)
narrow-entries mem l (node a s v x y) h e i =
    elim (mathlib.Core.List.Memᴰ.append_cases (own s v) i) [
      | inl j ↦ rw (mem-own s v e j) (narrow-bears (mem a) s v h.1)
      | inr j ↦ elim (mathlib.Core.List.Memᴰ.append_cases (entries x) j) [
        | inl k ↦ narrow-entries mem (mem a).left x h.2 e k
        | inr k ↦ narrow-entries mem (mem a).right y h.3 e k
      ]
    ]

length-own : (s : Bits) (v : Option ℕ) → length (own s v) ≤ 1
length-own s none = omega arith
length-own s (some z) = omega arith

length-entries : (t : Tree ℕ) → length (entries t) ≤ length (labels t)
length-entries tip = omega arith
length-entries (node a s v x y) =
    rw (length-append (own s v) (entries x ++ entries y), length-append (entries x) (entries y), length-append (labels x) (labels y))
    (omega (arith, length-own s v, length-entries x, length-entries y))

-- ---- Holds

module _ {ws : List ℕ} {m : Map} (h : Holds ws m) where
  -- "a width from 0 to 128"
  pub narrow_holds : (k : Bits) → Memᴰ k (keys m) → length k ≤ 128
  unfolding keys
  narrow_holds k i =
      let w = mathlib.Core.List.Memᴰ.of_map (λ e. e.key) m i in
      let in_tree : Memᴰ w.0 (entries h.tree) = rw h.map_is w.1 in
      rw (← w.2) (narrow-entries _ _ h.tree h.linked w.0 in_tree)

  -- each is a record's
  pub length_holds : length m ≤ 65535
  length_holds =
      omega (
        arith,
        ap length h.map_is,
        length-entries h.tree,
        length-append (labels h.tree) h.chain,
        length_once h.records (labels h.tree ++ h.chain) h.once,
        h.most_records,
      )
