-- The laws of the way to the resume prefix over any words: one for each way out of its functions, what a step
-- shows of widths, and the bounds on what they answer. No contract cites this file.
-- Assumes nothing.
use Prim.Native.Nat.{ℕ, zero, suc, ◌+◌, ◌-◌, ◌/◌, ◌≤◌, ◌<◌}
use native.Mathlib.Nat.{le_refl, le_trans}
use native.Mathlib.Omega.{arith}
use mathlib.Core.Path.{◌≡◌, refl, sym, ap, subst, ◌∙◌}
use mathlib.Core.Bool.{Bool, true, false, cond}
use mathlib.Core.List.{List}
use Rattle.std.specs.Prelude.{Option, None, Some, Result, Ok, Err}
use lib.Dec.{ltb, eqb}
use lib.ListN.{length, get_or}
use borrow.Author.Tests.{ltb-false, lt-ltb, le-ltb, eq-eqb, ne_eqb}
use Rattle.bits.specs.Bits.{lcp}
use Rattle.bits.proofs.BitsLaws.{length-lcp}
use Rattle.refusals.specs.declared.Refusal.{Refusal}
use Rattle.refusals.specs.declared.Refusal.TheVariants.{Damaged}
use Rattle.prefix.specs.Keys.{string_of}
use Rattle.prefix.specs.Calls.{Shared}
use Rattle.prefix.specs.declared.Prefix.{Prefix}
use Rattle.prefix.proofs.KeysLaws.{length-string_of}
use Rattle.records.specs.Layout.{room_of, record_at, header_at, key_of}
use Rattle.records.specs.declared.Record.{Record}
use Rattle.listing.specs.Touring.{starts, Stack, push_on, parted_of, passed_of, sought_of, sought_on, Seeking, after_on, seek_on, seek_from, start_on}
use Rattle.listing.specs.declared.way.Seek.{Seek}
use Rattle.listing.specs.declared.way.Sought.{Sought}
use Rattle.listing.specs.declared.way.Sought.TheVariants.{On, Done}

-- what a step shows of widths: the node found is at most 128 wide, and no less than what it must share
abbrev Widens : ℕ → Sought → Type 0
Widens low (On l w side) = (low < w) × (w ≤ 129)
Widens low (Done l side) = low ≤ 128

-- or there is none, since no table has the words
abbrev Steps : ℕ → Result Sought Refusal → Type 0
Steps low (Ok x) = Widens low x
Steps low (Err e) = e ≡ Damaged

-- ---- parted_of

module _ (k : Prefix) (l b : ℕ) where
  parted_of-widens : (low : ℕ) → low ≤ 128 → Widens low (parted_of k l b)
  unfolding parted_of
  parted_of-widens low h = at (ltb b k.width) (get_or (string_of k) b false)
    where
      at : (x y : Bool) → Widens low (cond x (cond y (Done 0 0) (Done l 0)) (Done l 0))
      at true true = h
      at true false = h
      at false y = h

-- ---- passed_of

module _ (r : Record) (k : Prefix) (w : ℕ) where
  pub passed_of_right : (x : Bool) → x ≡ get_or (string_of k) w false → w < k.width → x ≡ true → On r.right (w + 1) 0 ≡ passed_of r k w
  unfolding passed_of
  passed_of_right x e h t = simp (lt-ltb _ _ h, ← e, t)

  pub passed_of_left : (x : Bool) → x ≡ get_or (string_of k) w false → w < k.width → x ≡ false
      → On r.left (w + 1) r.right ≡ passed_of r k w
  unfolding passed_of
  passed_of_left x e h t = simp (lt-ltb _ _ h, ← e, t)

  pub passed_of_end : k.width ≤ w → Done r.left r.right ≡ passed_of r k w
  unfolding passed_of
  passed_of_end h = simp (le-ltb _ _ h)

  passed_of-widens : (low : ℕ) → low ≤ w → w ≤ 128 → Widens low (passed_of r k w)
  unfolding passed_of
  passed_of-widens low h g = at (ltb w k.width) (get_or (string_of k) w false)
    where
      at : (x y : Bool) → Widens low
          (cond x (cond y (On r.right (w + 1) 0) (On r.left (w + 1) r.right)) (Done r.left r.right))
      at true true = (omega arith, omega arith)
      at true false = (omega arith, omega arith)
      at false y = le_trans h g

-- ---- sought_of

-- the bits that a record's key shares with k
abbrev shared_of : Record → Prefix → ℕ
shared_of r k = length (lcp (string_of (key_of r)) (string_of k))

shared_of-shared : (r : Record) (k p : Prefix) (b : ℕ) → Shared p k b → p ≡ key_of r → shared_of r k ≡ b
shared_of-shared r k p b h e = rw (← e) (sym h.answer)

shared_of_most : (r : Record) (k : Prefix) → r.tag / 2 ≤ 128 → shared_of r k ≤ r.tag / 2
unfolding key_of
shared_of_most r k h = omega (arith, length-lcp (string_of (key_of r)) (string_of k), length-string_of (key_of r) h)

module _ (r : Record) (k : Prefix) (l low : ℕ) where
  pub sought_of_wide : 128 < r.tag / 2 → (Err Damaged) ≡ sought_of r k l low
  unfolding sought_of
  sought_of_wide h = simp (lt-ltb _ _ h)

  sought_of_steps : Steps low (sought_of r k l low)
  unfolding sought_of
  sought_of_steps = at (ltb 128 w) (ltb (shared_of r k) low) (ltb (shared_of r k) w) refl refl
    where
      w : ℕ
      w = r.tag / 2

      at : (x y z : Bool) → ltb 128 w ≡ x → ltb (shared_of r k) low ≡ y
          → Steps low (cond x (Err Damaged) (cond y (Err Damaged) (cond z (Ok (parted_of k l (shared_of r k))) (Ok (passed_of r k w)))))
      at true y z p q = refl
      at false true z p q = refl
      at false false true p q =
          parted_of-widens k l (shared_of r k) low (le_trans (ltb-false _ _ q) (le_trans (shared_of_most r k (ltb-false _ _ p)) (ltb-false _ _ p)))
      at false false false p q =
          passed_of-widens r k w low (le_trans (ltb-false _ _ q) (shared_of_most r k (ltb-false _ _ p))) (ltb-false _ _ p)

module _ (r : Record) (k : Prefix) (l low : ℕ) (p : Prefix) (b : ℕ) (h : Shared p k b) (e : p ≡ key_of r) (w : r.tag / 2 ≤ 128) where
  pub sought_of_low : b < low → (Err Damaged) ≡ sought_of r k l low
  unfolding sought_of
  sought_of_low g = simp (shared_of-shared r k p b h e, le-ltb _ _ w, lt-ltb _ _ g)

  pub sought_of-parted : (x : Sought) → low ≤ b → b < r.tag / 2 → x ≡ parted_of k l b → Ok x ≡ sought_of r k l low
  unfolding sought_of
  sought_of-parted x g f q = simp (shared_of-shared r k p b h e, le-ltb _ _ w, le-ltb _ _ g, lt-ltb _ _ f, q)

  pub sought_of-passed : (x : Sought) → low ≤ b → r.tag / 2 ≤ b → x ≡ passed_of r k (r.tag / 2) → Ok x ≡ sought_of r k l low
  unfolding sought_of
  sought_of-passed x g f q = simp (shared_of-shared r k p b h e, le-ltb _ _ w, le-ltb _ _ g, le-ltb _ _ f, q)

-- ---- sought_on

module _ (ws : List ℕ) (k : Prefix) (l low : ℕ) where
  sought_on_steps : Steps low (sought_on ws k l low)
  unfolding sought_on
  sought_on_steps = at (room_of (length ws) l)
    where
      at : (x : Bool) → Steps low (cond x (sought_of (record_at ws l) k l low) (Err Damaged))
      at true = sought_of_steps (record_at ws l) k l low
      at false = refl

  module _ (x : Result Sought Refusal) (e : x ≡ sought_on ws k l low) where
    pub sought_on_on : (m w side : ℕ) → x ≡ Ok (On m w side) → (low < w) × (w ≤ 129)
    sought_on_on m w side q = subst (Steps low) (sym e ∙ q) sought_on_steps

    pub sought_on_done : (m side : ℕ) → x ≡ Ok (Done m side) → low ≤ 128
    sought_on_done m side q = subst (Steps low) (sym e ∙ q) sought_on_steps

-- ---- seek_on, where a way that has the value v goes on after n nodes

module _ (ws : List ℕ) (k : Prefix) (l low n : ℕ) (ls : List ℕ) (o : ℕ) (v : Seeking) where
  pub seek_on_end : (f : ℕ) → seek_on f ws k l low n ls o ≡ v → l ≡ 0 → v ≡ record { links = ls; depth = o; out = starts 0 n }
  unfolding seek_on
  seek_on_end zero i h = sym i ∙ simp (eq-eqb _ _ h)
  seek_on_end (suc f) i h = sym i ∙ simp (eq-eqb _ _ h)

  -- and its step is x
  module _ (x : Result Sought Refusal) (e : x ≡ sought_on ws k l low) (i : seek_on (130 - n) ws k l low n ls o ≡ v) (h : n ≤ 129) (z : l ≡ 0 → ⊥) where
    seek_on_step : v ≡ after_on x ls o n (λ m w s. seek_on (130 - (n + 1)) ws k m w (n + 1) s.links s.depth)
    unfolding seek_on
    seek_on_step =
        let f : 130 - n ≡ suc (130 - (n + 1)) = omega arith in
        sym i ∙ ap (λ (m : ℕ). seek_on m ws k l low n ls o) f ∙ simp (ne_eqb _ _ z, ← e)

    pub seek_on-bad : (d : Refusal) → x ≡ Err d → v ≡ record { links = ls; depth = o; out = Err d }
    unfolding after_on
    seek_on-bad d q = seek_on_step ∙ rw q

    pub seek_on_done : (m side : ℕ) (ms : List ℕ) (d : ℕ) → x ≡ Ok (Done m side) → push_on ls o side ≡ record { links = ms; depth = d }
        → v ≡ record { links = ms; depth = d; out = starts m (n + 1) }
    unfolding after_on
    seek_on_done m side ms d q p = seek_on_step ∙ rw (q, p)

    pub seek_on_on : (m w side : ℕ) (ms : List ℕ) (d : ℕ) → x ≡ Ok (On m w side) → push_on ls o side ≡ record { links = ms; depth = d }
        → seek_on (130 - (n + 1)) ws k m w (n + 1) ms d ≡ v
    unfolding after_on
    seek_on_on m w side ms d q p = sym (seek_on_step ∙ rw (q, p))

-- the resume's path has at most 129 nodes, or no table has the words
abbrev pub Short : Result Seek Refusal → Type 0
Short (Ok s) = s.found ≤ 129
Short (Err e) = e ≡ Damaged

after_on_short : (low n : ℕ) (ls : List ℕ) (o : ℕ) (go : ℕ → ℕ → Stack → Seeking) (x : Result Sought Refusal) → Steps low x → n ≤ low
    → ((m w : ℕ) (s : Stack) → n + 1 ≤ w → w ≤ 129 → Short (go m w s).out) → Short (after_on x ls o n go).out
unfolding after_on
after_on_short low n ls o go (Ok (On m w side)) g h rec = rec m w (push_on ls o side) (omega arith) (omega arith)
after_on_short low n ls o go (Ok (Done m side)) g h rec = omega arith
after_on_short low n ls o go (Err e) g h rec = g

seek_on_short : (f : ℕ) (ws : List ℕ) (k : Prefix) (l low n : ℕ) (ls : List ℕ) (o : ℕ) → n ≤ low → low ≤ 129
    → Short (seek_on f ws k l low n ls o).out
unfolding seek_on
seek_on_short zero ws k l low n ls o h g = at (eqb l 0)
  where
    at : (x : Bool) → Short (cond x (starts 0 n) (Err Damaged))
    at true = le_trans h g
    at false = refl
seek_on_short (suc f) ws k l low n ls o h g =
    let go : ℕ → ℕ → Stack → Seeking = λ m w s. seek_on f ws k m w (n + 1) s.links s.depth in
    at (eqb l 0) (after_on (sought_on ws k l low) ls o n go)
    (after_on_short low n ls o go (sought_on ws k l low) (sought_on_steps ws k l low) h
    (λ m w s. seek_on_short f ws k m w (n + 1) s.links s.depth))
  where
    at : (x : Bool) (v : Seeking) → Short v.out → Short (cond x (record { links = ls; depth = o; out = starts 0 n }) v).out
    at true v s = le_trans h g
    at false v s = s

-- ---- seek_from

pub seek_from_short : (ws : List ℕ) (k : Prefix) (root : ℕ) (ls : List ℕ) → Short (seek_from ws k root ls).out
unfolding seek_from
seek_from_short ws k root ls = seek_on_short 130 ws k root 0 0 ls 0 (le_refl 0) (omega arith)

-- ---- start_on

pub start_on_short : (ws : List ℕ) (r : Option Prefix) (ls : List ℕ) → Short (start_on ws r ls).out
start_on_short ws None ls = omega arith
start_on_short ws (Some k) ls = seek_from_short ws k (header_at ws).root ls
