-- The laws of the stack of open links: whether it has room, and how many are open. No contract cites this file.
-- Assumes nothing.
use Prim.Native.Nat.{ℕ, ◌+◌, ◌≤◌, ◌<◌}
use native.Mathlib.Omega.{arith}
use mathlib.Core.Path.{◌≡◌, refl}
use mathlib.Core.Bool.{Bool, true, false, cond}
use mathlib.Core.List.{List}
use Rattle.std.specs.Prelude.{Result, Ok, Err}
use lib.Dec.{ltb, leb, eqb}
use lib.ListN.{set}
use borrow.Author.Tests.{ltb-true, leb-true}
use Rattle.refusals.specs.declared.Refusal.{Refusal}
use Rattle.refusals.specs.declared.Refusal.TheVariants.{Damaged}
use Rattle.listing.specs.Touring.{Stack, push_on, room_on}

pub stack_is : (s : Stack) (ls : List ℕ) (o : ℕ) → ls ≡ s.links → o ≡ s.depth → s ≡ record { links = ls; depth = o }
stack_is s ls o e h = rw (e, h)

pub room_on-full : (o : ℕ) (e : Refusal) → Err e ≡ room_on o → (129 < o) × (e ≡ Damaged)
room_on-full o e = at (ltb 129 o) refl
  where
    at : (b : Bool) → ltb 129 o ≡ b → Err e ≡ cond {A = Result (Unit {0}) Refusal} b (Err Damaged) (Ok tt) → (129 < o) × (e ≡ Damaged)
    at true f h = (ltb-true 129 o f, cc)
    at false f h = cc

pub depth-push_on : (ls : List ℕ) (o l : ℕ) → o ≤ 128 → (push_on ls o l).depth ≤ o + 1
unfolding push_on
depth-push_on ls o l h = at (eqb l 0) (leb 129 o) refl
  where
    at : (a b : Bool) → leb 129 o ≡ b
        → (cond {A = Stack} a (record { links = ls; depth = o }) (cond b (record { links = ls; depth = 130 }) (record { links = set ls o l; depth = o + 1 }))).depth ≤ o + 1
    at true b f = omega arith
    at false true f = absurd (omega (arith, leb-true 129 o f))
    at false false f = omega arith
