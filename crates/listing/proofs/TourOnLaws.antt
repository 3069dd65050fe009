-- The laws of the tour over any words: one for each way out of its functions, the equations of a turn, and
-- the bounds on what it answers. No contract cites this file.
-- Assumes nothing.
use Prim.Native.Nat.{ℕ, zero, suc, ◌+◌, ◌-◌, ◌/◌, ◌%◌, ◌≤◌, ◌<◌}
use native.Mathlib.Nat.{le_refl, le_trans}
use native.Mathlib.Omega.{arith}
use mathlib.Core.Path.{◌≡◌, refl, sym, ap, subst, ◌∙◌}
use mathlib.Core.Bool.{Bool, true, false, cond}
use mathlib.Core.List.{List}
use Rattle.std.specs.Prelude.{Result, Ok, Err}
use lib.Dec.{ltb, eqb}
use lib.ListN.{length}
use borrow.Author.Tests.{eqb-false, lt-ltb, le-ltb, eq-eqb, ne_eqb}
use Rattle.bits.specs.Numbers.{odd}
use Rattle.refusals.specs.declared.Refusal.{Refusal}
use Rattle.refusals.specs.declared.Refusal.TheVariants.{Damaged}
use Rattle.records.specs.Layout.{room_of, record_at}
use Rattle.records.specs.declared.Record.{Record}
use Rattle.listing.specs.Touring.{gives, Stack, push_on, Tour, pop_on, visit_on, Entries, entry_set, entry_put, Touring, ends, node_on, turn_on, tour_on, tour_from}
use Rattle.listing.specs.declared.Sliced.{Sliced}

-- ---- entry_put

module _ (us : List ℕ) (n : ℕ) (r : Record) where
  pub entry_put_branch : r.tag % 2 ≡ 0 → entry_put us n r ≡ record { words = us; given = n }
  unfolding entry_put
  entry_put_branch h = let g : r.tag % 2 ≡ 1 → ⊥ = λ e. omega arith in simp (ne_eqb _ _ g)

  pub entry_put_stored : (r.tag % 2 ≡ 0 → ⊥) → entry_put us n r ≡ record { words = entry_set us n r; given = n + 1 }
  unfolding entry_put
  entry_put_stored h = let g : r.tag % 2 ≡ 1 = omega arith in simp (eq-eqb _ _ g)

  given-entry_put : (entry_put us n r).given ≤ n + 1
  unfolding entry_put
  given-entry_put = at (odd r.tag)
    where
      at : (x : Bool) → (cond {A = Entries} x (record { words = entry_set us n r; given = n + 1 }) (record { words = us; given = n })).given ≤ n + 1
      at true = le_refl (n + 1)
      at false = omega arith

  pub entry_put_most : (ys : List ℕ) (m : ℕ) → entry_put us n r ≡ record { words = ys; given = m } → m ≤ n + 1
  entry_put_most ys m e = subst (λ (x : Entries). x.given ≤ n + 1) e given-entry_put

-- ---- tour_on, where a tour that has the value v goes on, and may still pass f nodes

module _ (ws : List ℕ) (b at o : ℕ) (ls us : List ℕ) (n count : ℕ) (v : Touring) where
  pub tour_on_deep : (f : ℕ) → tour_on f ws b at o ls us n count ≡ v → 129 < o → v ≡ ends ls us (Err Damaged)
  unfolding tour_on
  tour_on_deep zero i h = sym i ∙ simp (lt-ltb _ _ h)
  tour_on_deep (suc f) i h = sym i ∙ simp (lt-ltb _ _ h)

  -- and t is what it looks at
  module _ (t : Tour) (e : t ≡ pop_on ls at o) (h : o ≤ 129) where
    pub tour_on_over : (f : ℕ) → tour_on f ws b at o ls us n count ≡ v → t.next ≡ 0 → v ≡ ends ls us (gives n false count)
    unfolding tour_on turn_on
    tour_on_over zero i z = sym i ∙ simp (le-ltb _ _ h, ← e, eq-eqb _ _ z)
    tour_on_over (suc f) i z = sym i ∙ simp (le-ltb _ _ h, ← e, eq-eqb _ _ z)

    pub tour_on_more : (f : ℕ) → tour_on f ws b at o ls us n count ≡ v → (t.next ≡ 0 → ⊥) → n ≡ b → v ≡ ends ls us (gives n true count)
    unfolding tour_on turn_on
    tour_on_more zero i z q = sym i ∙ simp (le-ltb _ _ h, ← e, ne_eqb _ _ z, eq-eqb _ _ q)
    tour_on_more (suc f) i z q = sym i ∙ simp (le-ltb _ _ h, ← e, ne_eqb _ _ z, eq-eqb _ _ q)

    pub tour_on-spent : (f : ℕ) → tour_on f ws b at o ls us n count ≡ v → (t.next ≡ 0 → ⊥) → (n ≡ b → ⊥) → f ≡ 0 → v ≡ ends ls us (Err Damaged)
    unfolding tour_on turn_on
    tour_on-spent f i z q s =
        sym i ∙ ap (λ (g : ℕ). tour_on g ws b at o ls us n count) s ∙ simp (le-ltb _ _ h, ← e, ne_eqb _ _ z, ne_eqb _ _ q)

    -- and may pass m nodes in all, and x is what it finds there
    module _ (m : ℕ) (i : tour_on (m - count) ws b at o ls us n count ≡ v) (z : t.next ≡ 0 → ⊥) (q : n ≡ b → ⊥) (s : count < m)
        (x : Result Record Refusal) (p : x ≡ visit_on ws t.next) where
      tour_on-turn : v
          ≡ node_on x ls us n t.depth (λ l s e. tour_on (m - (count + 1)) ws b l s.depth s.links e.words e.given (count + 1))
      unfolding tour_on turn_on
      tour_on-turn =
          let f : m - count ≡ suc (m - (count + 1)) = omega arith in
          sym i
          ∙ ap (λ (g : ℕ). tour_on g ws b at o ls us n count) f
          ∙ simp (le-ltb _ _ h, ← e, ne_eqb _ _ z, ne_eqb _ _ q, ← p)

      pub tour_on-bad : (d : Refusal) → x ≡ Err d → v ≡ ends ls us (Err d)
      unfolding node_on
      tour_on-bad d y = tour_on-turn ∙ rw y

      pub tour_on_node : (r : Record) (ms : List ℕ) (d : ℕ) (ys : List ℕ) (j : ℕ) → x ≡ Ok r
          → push_on ls t.depth r.right ≡ record { links = ms; depth = d } → entry_put us n r ≡ record { words = ys; given = j }
          → tour_on (m - (count + 1)) ws b r.left d ms ys j (count + 1) ≡ v
      unfolding node_on
      tour_on_node r ms d ys j y k w = sym (tour_on-turn ∙ rw (y, k, w))

-- a record is read, or no table has the words
abbrev Reads : Result Record Refusal → Type 0
Reads (Ok r) = Unit {0}
Reads (Err e) = e ≡ Damaged

visit_on_reads : (ws : List ℕ) (l : ℕ) → Reads (visit_on ws l)
unfolding visit_on
visit_on_reads ws l = at (room_of (length ws) l) (ltb 257 (record_at ws l).tag)
  where
    at : (x y : Bool) → Reads (cond x (cond y (Err Damaged) (Ok (record_at ws l))) (Err Damaged))
    at true true = refl
    at true false = tt
    at false y = refl

-- at most b entries are given, and at most so many nodes passed, or no table has the words
abbrev pub Within : ℕ → ℕ → Result Sliced Refusal → Type 0
Within b most (Ok s) = (s.given ≤ b) × (s.count ≤ most)
Within b most (Err e) = e ≡ Damaged

module _ (ws : List ℕ) (b most : ℕ) (ls us : List ℕ) (n count : ℕ) (h : n ≤ b) where
  turn_on-within : (t : Tour) (onward : Touring) → count ≤ most → (n < b → Within b most onward.out)
      → Within b most (turn_on ws b t ls us n count onward).out
  unfolding turn_on
  turn_on-within t onward g rec = at (eqb t.next 0) (eqb n b) refl
    where
      at : (x y : Bool) → eqb n b ≡ y
          → Within b most (cond x (ends ls us (gives n false count)) (cond y (ends ls us (gives n true count)) onward)).out
      at true y p = (h, g)
      at false true p = (h, g)
      at false false p = rec (let q : n ≡ b → ⊥ = eqb-false _ _ p in omega arith)

  node_on-within : (x : Result Record Refusal) (o : ℕ) (go : ℕ → Stack → Entries → Touring) → Reads x → n < b
      → ((l : ℕ) (s : Stack) (e : Entries) → e.given ≤ b → Within b most (go l s e).out) → Within b most (node_on x ls us n o go).out
  unfolding node_on
  node_on-within (Ok r) o go i g rec = rec r.left (push_on ls o r.right) (entry_put us n r) (le_trans (given-entry_put us n r) (omega arith))
  node_on-within (Err e) o go i g rec = i

deep-within : (b most : ℕ) (ls us : List ℕ) (v : Touring) (x : Bool) → Within b most v.out
    → Within b most (cond x (ends ls us (Err Damaged)) v).out
deep-within b most ls us v true h = refl
deep-within b most ls us v false h = h

pub tour_on-within : (f : ℕ) (ws : List ℕ) (b at o : ℕ) (ls us : List ℕ) (n count most : ℕ) → n ≤ b → count + f ≤ most
    → Within b most (tour_on f ws b at o ls us n count).out
unfolding tour_on
tour_on-within zero ws b at o ls us n count most h g =
    deep-within b most ls us (turn_on ws b (pop_on ls at o) ls us n count (ends ls us (Err Damaged))) (ltb 129 o)
    (turn_on-within ws b most ls us n count h (pop_on ls at o) (ends ls us (Err Damaged)) (omega arith) (λ l. refl))
tour_on-within (suc f) ws b at o ls us n count most h g =
    let go : ℕ → Stack → Entries → Touring = λ l s e. tour_on f ws b l s.depth s.links e.words e.given (count + 1) in
    let on : Touring = node_on (visit_on ws (pop_on ls at o).next) ls us n (pop_on ls at o).depth go in
    deep-within b most ls us (turn_on ws b (pop_on ls at o) ls us n count on) (ltb 129 o)
    (turn_on-within ws b most ls us n count h (pop_on ls at o) on (omega arith)
    (λ l. node_on-within ws b most ls us n count h (visit_on ws (pop_on ls at o).next) (pop_on ls at o).depth go
    (visit_on_reads ws (pop_on ls at o).next) l
    (λ l s e y. tour_on-within f ws b l s.depth s.links e.words e.given (count + 1) most y (omega arith))))

-- ---- tour_from

pub tour_on_start : (ws : List ℕ) (b next o : ℕ) (ls us : List ℕ) → tour_on (length ws / 8 - 0) ws b next o ls us 0 0 ≡ tour_from ws b next o ls us
unfolding tour_from
tour_on_start ws b next o ls us = ap (λ (f : ℕ). tour_on f ws b next o ls us 0 0) (omega arith)

pub tour_from-within : (ws : List ℕ) (b next o : ℕ) (ls us : List ℕ) → Within b (length ws / 8) (tour_from ws b next o ls us).out
unfolding tour_from
tour_from-within ws b next o ls us = tour_on-within (length ws / 8) ws b next o ls us 0 0 (length ws / 8) (omega arith) (omega arith)
