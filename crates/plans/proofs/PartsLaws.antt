-- The laws of what both edits are made of, over any words: what a link leads to, and a link that is hung; one
-- for each way out of their functions. No contract cites this file.
-- Assumes nothing.
use Prim.Native.Nat.{ℕ, ◌/◌, ◌<◌}
use mathlib.Core.Path.{◌≡◌, refl, sym, ◌∙◌}
use mathlib.Core.Bool.{Bool, true, false, cond}
use mathlib.Core.List.{List}
use lib.Dec.{eqb}
use lib.ListN.{length}
use borrow.Author.Tests.{lt-leb}
use Rattle.std.specs.Prelude.{Option, Some, None, Result, Ok, Err}
use Rattle.prefix.specs.declared.Prefix.{Prefix}
use Rattle.records.specs.Layout.{room_of, record_at, header_at, with_record, with_header, with_side}
use Rattle.records.specs.Inside.{Inside}
use Rattle.records.specs.declared.Record.{Record}
use Rattle.records.specs.declared.Header.{Header}
use Rattle.records.proofs.LayoutLaws.{room_of_true, record_at-with_header}
use Rattle.plans.specs.Planning.{wrote, look_on, look_of, node_on, spare_of, spare_on, bit_at, hang_on}
use Rattle.plans.specs.Making.{Hangs, Taken}
use Rattle.plans.specs.declared.Spare.{Spare}
use Rattle.plans.specs.declared.Unmade.{Unmade}
use Rattle.plans.specs.declared.Unmade.TheVariants.{Damaged, Full}
use Rattle.plans.proofs.MakingLaws.{with_record-wrote, wrote-nowhere, inside-taken, inside-with_header}

-- ---- look_on, node_on, spare_on: what a link that leads to a record tells, the record's place and that it is
-- the record there

module _ (ws : List ℕ) (l : ℕ) where
  abbrev There : Result Record Unmade → Type 0
  There (Ok r) = Taken ws l × (r ≡ record_at ws l)
  There (Err d) = Unit {0}

  node_on_there : There (node_on ws l)
  unfolding node_on
  node_on_there = at (room_of (length ws) l) refl
    where
      at : (b : Bool) → room_of (length ws) l ≡ b → There (cond b (Ok (record_at ws l)) (Err Damaged))
      at true e = let f = room_of_true (length ws) l e in (record { some = f.0; inside = f.1 }, refl)
      at false e = tt

  pub node_on_taken : {r : Record} → Ok r ≡ node_on ws l → Taken ws l
  node_on_taken q = (rw (← q) at node_on_there).0

  pub inside_node : {r : Record} → Ok r ≡ node_on ws l → Inside ws l
  inside_node q = inside-taken ws l (node_on_taken q)

  -- a link that leads to a record
  abbrev Led : Result (Option Record) Unmade → Type 0
  Led (Ok None) = Unit {0}
  Led (Ok (Some r)) = Taken ws l × (r ≡ record_at ws l)
  Led (Err d) = Unit {0}

  look_on-led : Led (look_on ws l)
  unfolding look_on
  look_on-led = at (eqb l 0) (node_on ws l) node_on_there
    where
      at : (a : Bool) (x : Result Record Unmade) → There x → Led (cond a (Ok None) (look_of x))
      at true x h = tt
      at false (Ok r) h = h
      at false (Err d) h = tt

  pub look_on-record : {r : Record} → Ok (Some r) ≡ look_on ws l → Taken ws l × (r ≡ record_at ws l)
  look_on-record q = rw (← q) at look_on-led

  pub look_on_taken : {r : Record} → Ok (Some r) ≡ look_on ws l → Taken ws l
  look_on_taken q = (look_on-record q).0

  pub inside_headed : {r : Record} {us : List ℕ} (h : Header) → Ok (Some r) ≡ look_on ws l → us ≡ with_header ws h → Inside us l
  inside_headed h q e = inside-with_header ws _ h l e (look_on_taken q)

  -- the place of a spare record
  abbrev SpareTaken : Result Spare Unmade → Type 0
  SpareTaken (Ok x) = Taken ws x.link
  SpareTaken (Err d) = Unit {0}

  spare_on-led : SpareTaken (spare_on ws l)
  unfolding spare_on
  spare_on-led = at (eqb l 0) (node_on ws l) node_on_there
    where
      by : (r : Record) → Taken ws l → (b : Bool) → SpareTaken (cond b (Ok (record { link = l; next = r.left })) (Err Damaged))
      by r f true = f
      by r f false = tt

      at : (a : Bool) (x : Result Record Unmade) → There x → SpareTaken (cond a (Err Full) (spare_of l x))
      at true x h = tt
      at false (Ok r) h = by r h.0 (eqb r.tag 4294967295)
      at false (Err d) h = tt

  pub spare_on_taken : {x : Spare} → Ok x ≡ spare_on ws l → Taken ws x.link
  spare_on_taken q = rw (← q) at spare_on-led

-- ---- hang_on

module _ (ws : List ℕ) (k : Prefix) (at l spare : ℕ) where
  pub hang_on_top : {us : List ℕ} → Ok None ≡ look_on ws at → us ≡ with_header ws (record { root = l; spare = spare })
      → Hangs ws k at l spare (Ok tt) us
  unfolding hang_on
  hang_on_top q d = record { answer = rw (← q); words = rw (← q) (d ∙ wrote-nowhere _) }

  module _ {r : Record} (q : Ok (Some r) ≡ look_on ws at) where
    module _ (h : Header) {us : List ℕ} (d : us ≡ with_header ws h) where
      record_at-headed : record_at us at ≡ r
      record_at-headed = let f = look_on-record ws at q in rw d (record_at-with_header ws h at f.0.some ∙ sym f.1)

      pub hang_on_node : {b : Bool} {vs : List ℕ} → h ≡ record { root = (header_at ws).root; spare = spare } → b ≡ bit_at k (r.tag / 2)
          → vs ≡ with_record us at (with_side (record_at us at) b l) → r.tag / 2 < k.width → Hangs ws k at l spare (Ok tt) vs
      unfolding hang_on
      hang_on_node {b} {vs} f g v i =
          let some = (look_on-record ws at q).0.some in
          let last : vs ≡ wrote (with_header ws h) (record { link = at; content = with_side r b l }) = rw (record_at-headed, d) at v ∙ with_record-wrote _ at _ some in
          record { answer = simp (← q, lt-leb _ _ i); words = simp (← q, lt-leb _ _ i, ← f, ← g) last }
