-- The laws of a remove that comes to its end, over any words: one for each of its functions. No contract cites
-- this file.
-- Assumes nothing.
use Prim.Native.Nat.{ℕ, ◌*◌, ◌/◌, ◌<◌}
use mathlib.Core.Path.{◌≡◌}
use mathlib.Core.Bool.{Bool, not}
use mathlib.Core.List.{List}
use borrow.Author.Tests.{lt-leb, ne_eqb}
use Rattle.std.specs.Prelude.{Result, Ok}
use Rattle.prefix.specs.declared.Prefix.{Prefix}
use Rattle.records.specs.Layout.{header_at, with_record, side_of}
use Rattle.records.specs.declared.Record.{Record}
use Rattle.records.specs.declared.Header.{Header}
use Rattle.lookup.specs.declared.Walk.{Walk}
use Rattle.plans.specs.Planning.{node_of, freed_of, bit_at}
use Rattle.plans.specs.Planning.{pass_on, twin_on, out_on}
use Rattle.plans.specs.Making.{Makes, Hangs, Taken}
use Rattle.plans.specs.declared.Unmade.{Unmade}
use Rattle.plans.proofs.MakingLaws.{makes_single, hung_one, hung_two}

-- ---- pass_on

module _ (ws : List ℕ) (k : Prefix) (up at l : ℕ) {b : Result Unit Unmade} {us : List ℕ} (h : Hangs ws k up l at b us) where
  pub pass_on_done : {g : Header} {y : Record} {vs : List ℕ} → g ≡ header_at ws → y ≡ freed_of g.spare → vs ≡ with_record us at y
      → Taken ws at → b ≡ Ok tt → Makes ws (pass_on ws (header_at ws) k up at l) (Ok tt) vs
  unfolding pass_on
  pass_on_done d e f t i = hung_one h i at _ (rw (e, d) at f) t

-- ---- twin_on

module _ (ws : List ℕ) (k : Prefix) (s : Walk) (p : Record) where
  pub twin_on_done : {right : Bool} {l : ℕ} {b : Result Unit Unmade} {us : List ℕ} {f : Header} {y v : Record} {vs xs : List ℕ}
      → p.tag / 2 < k.width → right ≡ bit_at k (p.tag / 2) → l ≡ side_of p (not right) → Hangs ws k s.over l s.up b us
      → f ≡ header_at ws → y ≡ freed_of f.spare → v ≡ freed_of s.at → vs ≡ with_record us s.at y → xs ≡ with_record vs s.up v
      → Taken ws s.at → Taken ws s.up → b ≡ Ok tt → Makes ws (twin_on ws (header_at ws) k s p) (Ok tt) xs
  unfolding twin_on
  twin_on_done g d e h i j m n o t u z =
      rw (lt-leb k.width (p.tag / 2) g, ← d, ← e) (hung_two h z s.at _ (rw (j, i) at n) t s.up _ (rw m at o) u)

-- ---- out_on, by the sides that the node has

module _ (ws : List ℕ) (k : Prefix) (s : Walk) (r : Record) where
  pub out_on_both : {y : Record} {vs : List ℕ} → y ≡ node_of k (2 * k.width) 0 r.left r.right → vs ≡ with_record ws s.at y
      → Taken ws s.at → (r.left ≡ 0 → ⊥) → (r.right ≡ 0 → ⊥) → Makes ws (out_on ws (header_at ws) k s r) (Ok tt) vs
  unfolding out_on
  out_on_both {y} {vs} d e t f g = rw (ne_eqb r.left 0 f, ne_eqb r.right 0 g, ← d) (makes_single ws vs s.at y e t.some)
