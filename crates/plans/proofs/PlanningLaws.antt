-- The laws of a store that comes to its end, over any words: one for each of its functions. No contract cites this
-- file.
-- Assumes nothing.
use Prim.Native.Nat.{ℕ, ◌+◌, ◌*◌, ◌/◌, ◌≤◌, ◌<◌}
use mathlib.Core.Path.{◌≡◌}
use mathlib.Core.List.{List}
use borrow.Author.Tests.{le-ltb, lt-leb}
use Rattle.std.specs.Prelude.{Result, Ok}
use Rattle.prefix.specs.Keys.{cut_of}
use Rattle.prefix.specs.declared.Prefix.{Prefix}
use Rattle.records.specs.Layout.{header_at, with_record, key_of, with_side}
use Rattle.records.specs.declared.Record.{Record}
use Rattle.lookup.specs.declared.Met.TheVariants.{Matching}
use Rattle.plans.specs.Planning.{node_of, node_on, spare_on, bit_at}
use Rattle.plans.specs.Planning.{here_on, above_on, fork_on, new_on}
use Rattle.plans.specs.Making.{Makes, Hangs, Taken}
use Rattle.plans.specs.declared.Spare.{Spare}
use Rattle.plans.specs.declared.Unmade.{Unmade}
use Rattle.plans.proofs.MakingLaws.{makes_single, hung_one, hung_two}
use Rattle.plans.proofs.PartsLaws.{node_on_taken, spare_on_taken}

-- ---- here_on

module _ (ws : List ℕ) (k : Prefix) (zone at : ℕ) where
  pub here_on_node : {r y : Record} {vs : List ℕ} → Ok r ≡ node_on ws at → y ≡ node_of k (2 * k.width + 1) zone r.left r.right
      → vs ≡ with_record ws at y → Makes ws (here_on ws (header_at ws) k zone at) (Ok tt) vs
  unfolding here_on
  here_on_node {r} {y} {vs} q f d = rw (← q) (makes_single ws vs at _ (rw f at d) (node_on_taken ws at q).some)

-- ---- above_on

width_key : (r : Record) (p : Prefix) → p ≡ key_of r → p.width ≡ r.tag / 2
unfolding key_of
width_key r p f = rw f

module _ (ws : List ℕ) (k : Prefix) (zone at l a next : ℕ) where
  pub above_on_done : {r : Record} {p : Prefix} {b : Result Unit Unmade} {us : List ℕ} {y : Record} {vs : List ℕ}
      → Ok r ≡ node_on ws l → p ≡ key_of r → p.width ≤ 128 → k.width < p.width → Hangs ws k at a next b us
      → y ≡ with_side (node_of k (2 * k.width + 1) zone 0 0) (bit_at p k.width) l → vs ≡ with_record us a y → Taken ws a → b ≡ Ok tt
      → Makes ws (above_on ws (header_at ws) k zone at l a next) (Ok tt) vs
  unfolding above_on
  above_on_done {r} {p} {b} {us} {y} q f g i h m v t n =
      let w = width_key r p f in
      rw (← q, ← w, le-ltb 128 p.width g, lt-leb p.width k.width i, ← f, ← m) (hung_one h n a y v t)

-- ---- fork_on

module _ (ws : List ℕ) (k : Prefix) (zone at l b a next : ℕ) where
  pub fork_on_done : {x : Spare} {r : Result Unit Unmade} {us : List ℕ} {v y : Record} {vs xs : List ℕ}
      → Ok x ≡ spare_on ws next → Hangs ws k at x.link x.next r us → v ≡ node_of k (2 * k.width + 1) zone 0 0
      → y ≡ with_side (node_of (cut_of k b) (2 * b) 0 l l) (bit_at k b) a → vs ≡ with_record us a v → xs ≡ with_record vs x.link y
      → Taken ws a → r ≡ Ok tt → Makes ws (fork_on ws (header_at ws) k zone at l b a next) (Ok tt) xs
  unfolding fork_on
  fork_on_done {x} {r} {us} {v} {y} q h j m n o t z =
      rw (← q, ← j, ← m) (hung_two h z a v n t x.link y o (spare_on_taken ws next q))

-- ---- new_on

module _ (ws : List ℕ) (k : Prefix) (zone at a next n : ℕ) where
  pub new_on_done : {b : Result Unit Unmade} {us : List ℕ} {y : Record} {vs : List ℕ} → Hangs ws k at a next b us
      → y ≡ node_of k (2 * k.width + 1) zone 0 0 → vs ≡ with_record us a y → Taken ws a → b ≡ Ok tt
      → Makes ws (new_on ws (header_at ws) k zone at (Matching n) a next) (Ok tt) vs
  new_on_done {b} {us} {y} h d v t f = rw (← d) (hung_one h f a y v t)
