-- The laws of a table's words: what the tests of a length and of a link tell, and what a record or a header
-- that is written leaves to be read, there and elsewhere. No contract cites this file.
-- Assumes nothing.
use Prim.Native.Nat.{ℕ, zero, suc, ◌+◌, ◌/◌, ◌%◌, ◌≤◌, ◌<◌}
use native.Mathlib.Nat.{add-zero, zero-add, not-suc-le-zero}
use native.Mathlib.Numerals.{towards_suc}
use native.Mathlib.Decide.{dec_lt}
use native.Mathlib.Omega.{arith}
use mathlib.Core.Path.{◌≡◌, refl, sym, ap, ◌∙◌}
use mathlib.Core.Logic.{◌⊎◌, inl, inr}
use mathlib.Core.Bool.{Bool, true, false, ◌&&◌, not}
use mathlib.Core.List.{List, [], ◌∷◌}
use lib.Dec.{leb, ltb, eqb}
use lib.ListN.{length, get_or, set, length-set}
use lib.Seq.{sets, get_or-set_same, get_or-set_other, set-get_or}
use borrow.Author.Tests.{leb-true, ltb-true, eqb-true, le-leb, lt-ltb, eq-eqb, not-false}
use Rattle.prefix.proofs.KeysLaws.{both_true}
use Rattle.records.specs.Layout.{table_length, is_table, capacity, place, room_of, record_at, header_at, with_record, with_header, with_side}
use Rattle.records.specs.Inside.{Inside}
use Rattle.records.specs.declared.Record.{Record}
use Rattle.records.specs.declared.Header.{Header}

-- ---- is_table

pub record Table (n : ℕ) : Type 0 where
  pub least : 16 ≤ n
  pub most : n ≤ 524288
  pub whole : n % 8 ≡ 0

pub is_table_true : (n : ℕ) → is_table n ≡ true → Table n
unfolding is_table
is_table_true n h =
    let low = both_true (leb 16 n) (leb n 524288 && eqb (n % 8) 0) h in
    let high = both_true (leb n 524288) (eqb (n % 8) 0) low.1 in
    record { least = leb-true 16 n low.0; most = leb-true n 524288 high.0; whole = eqb-true (n % 8) 0 high.1 }

pub table-is_table : (n : ℕ) → Table n → is_table n ≡ true
unfolding is_table
table-is_table n t = simp (le-leb 16 n t.least, le-leb n 524288 t.most, eq-eqb (n % 8) 0 t.whole)

pub is_table-table_length : (c : ℕ) → 1 ≤ c → c ≤ 65535 → is_table (table_length c) ≡ true
is_table-table_length c low high =
    table-is_table (table_length c) (record { least = omega arith; most = omega arith; whole = omega arith })

-- ---- capacity

pub capacity-table_length : (c : ℕ) → capacity (table_length c) ≡ c
unfolding capacity
capacity-table_length c = omega arith

-- ---- room_of

pub room_of_true : (n l : ℕ) → room_of n l ≡ true → (0 < l) × (place l + 8 ≤ n)
unfolding room_of
room_of_true n l h =
    let b = both_true (ltb 0 l) (ltb l (n / 8)) h in
    let below = ltb-true l (n / 8) b.1 in
    (ltb-true 0 l b.0, omega arith)

pub room-room_of : (n l : ℕ) → 0 < l → place l + 8 ≤ n → room_of n l ≡ true
unfolding room_of
room-room_of n l h f = let below : l < n / 8 = omega arith in simp (lt-ltb 0 l h, lt-ltb l (n / 8) below)

pub room_of-table_length : (c l : ℕ) → 0 < l → l ≤ c → room_of (table_length c) l ≡ true
room_of-table_length c l h f = room-room_of (table_length c) l h (omega arith)

pub room_of_zero : (n l : ℕ) → room_of n l ≡ true → l ≡ 0 → ⊥
room_of_zero n l h e = let i = (room_of_true n l h).0 in omega arith

-- ---- Inside

pub inside-room_of : (ws : List ℕ) (l : ℕ) → room_of (length ws) l ≡ true → Inside ws l
inside-room_of ws l h = record { fits = (room_of_true (length ws) l h).1 }

-- as the code tests it, which goes on where the answer is not false
pub inside_tested : (ws : List ℕ) (l : ℕ) (b : Bool) → b ≡ room_of (length ws) l → not b ≡ false → Inside ws l
inside_tested ws l b e t = inside-room_of ws l (sym e ∙ not-false b t)

pub room_of-inside : (ws : List ℕ) (l : ℕ) → 0 < l → Inside ws l → room_of (length ws) l ≡ true
room_of-inside ws l h i = room-room_of (length ws) l h i.fits

-- ---- record_at

-- two records are one where their eight words are
record_at_ext : (ws us : List ℕ) (l j : ℕ) → ((k : ℕ) → k < 8 → get_or ws (place l + k) 0 ≡ get_or us (place j + k) 0)
    → record_at ws l ≡ record_at us j
unfolding record_at
record_at_ext ws us l j h =
    let first : get_or ws (place l) 0 ≡ get_or us (place j) 0 = simp add-zero at (h 0 (omega arith)) in
    cc (
      first,
      h 1 (omega arith),
      h 2 (omega arith),
      h 3 (omega arith),
      h 4 (omega arith),
      h 5 (omega arith),
      h 6 (omega arith),
      h 7 (omega arith),
    )

-- ---- with_record

-- the words of a record as they stand in a table, so that they alone are one
abbrev words_of : Record → List ℕ
words_of r = r.w1 ∷ r.w0 ∷ r.w3 ∷ r.w2 ∷ r.zone ∷ r.left ∷ r.right ∷ r.tag ∷ []

record_at-words_of : (r : Record) → record_at (words_of r) 0 ≡ r
unfolding record_at
record_at-words_of r = refl

with_record-sets : (ws : List ℕ) (l : ℕ) (r : Record) → with_record ws l r ≡ sets ws (place l) (words_of r)
unfolding with_record
with_record-sets ws l r = simp towards_suc

get_or-sets_below : (vs ws : List ℕ) (i j : ℕ) → j < i → get_or (sets ws i vs) j 0 ≡ get_or ws j 0
get_or-sets_below [] ws i j h = refl
get_or-sets_below (a ∷ vs) ws i j h =
    get_or-sets_below vs (set ws i a) (suc i) j (omega arith) ∙ get_or-set_other ws i j a 0 (omega arith)

get_or-sets_above : (vs ws : List ℕ) (i j : ℕ) → i + length vs ≤ j → get_or (sets ws i vs) j 0 ≡ get_or ws j 0
get_or-sets_above [] ws i j h = refl
get_or-sets_above (a ∷ vs) ws i j h =
    get_or-sets_above vs (set ws i a) (suc i) j (omega arith) ∙ get_or-set_other ws i j a 0 (omega arith)

get_or-sets_same : (vs ws : List ℕ) (i k : ℕ) → k < length vs → i + length vs ≤ length ws
    → get_or (sets ws i vs) (i + k) 0 ≡ get_or vs k 0
get_or-sets_same [] ws i k h f = absurd (not-suc-le-zero h)
get_or-sets_same (a ∷ vs) ws i zero h f =
    rw add-zero (get_or-sets_below vs (set ws i a) (suc i) i (omega arith) ∙ get_or-set_same ws i a 0 (omega arith))
get_or-sets_same (a ∷ vs) ws i (suc k) h f =
    ap (λ (n : ℕ). get_or (sets (set ws i a) (suc i) vs) n 0) (omega arith)
    ∙ get_or-sets_same vs (set ws i a) (suc i) k (omega arith) (rw length-set (omega arith))

pub length-with_record : (ws : List ℕ) (l : ℕ) (r : Record) → length (with_record ws l r) ≡ length ws
unfolding with_record
length-with_record ws l r = simp length-set

-- a word outside the record l is as it was
pub get_or-with_record_other : (ws : List ℕ) (l : ℕ) (r : Record) (i : ℕ) → (i < place l) ⊎ (place l + 8 ≤ i)
    → get_or (with_record ws l r) i 0 ≡ get_or ws i 0
get_or-with_record_other ws l r i (inl h) = rw with_record-sets (get_or-sets_below (words_of r) ws (place l) i h)
get_or-with_record_other ws l r i (inr h) = rw with_record-sets (get_or-sets_above (words_of r) ws (place l) i h)

pub record_at-with_record_same : (ws : List ℕ) (l : ℕ) (r : Record) → Inside ws l → record_at (with_record ws l r) l ≡ r
record_at-with_record_same ws l r i =
    record_at_ext (with_record ws l r) (words_of r) l 0
    (λ k h. rw (with_record-sets ws l r, zero-add k) (get_or-sets_same (words_of r) ws (place l) k h i.fits))
    ∙ record_at-words_of r

pub record_at-with_record_other : (ws : List ℕ) (l : ℕ) (r : Record) (j : ℕ) → (j ≡ l → ⊥)
    → record_at (with_record ws l r) j ≡ record_at ws j
record_at-with_record_other ws l r j h =
    record_at_ext (with_record ws l r) ws j j (λ k f. get_or-with_record_other ws l r (place j + k) (side k f (dec_lt j l)))
  where
    side : (k : ℕ) → k < 8 → Dec (j < l) → (place j + k < place l) ⊎ (place l + 8 ≤ place j + k)
    side k f (yes b) = inl (omega arith)
    side k f (no b) = inr (omega arith)

-- a word set after another one to what it was is no change
set_kept : (ws : List ℕ) (i j x : ℕ) → (j ≡ i → ⊥) → set (set ws i x) j (get_or ws j 0) ≡ set ws i x
set_kept ws i j x ne = ap (set (set ws i x) j) (sym (get_or-set_other ws i j x 0 ne)) ∙ set-get_or (set ws i x) j 0

-- the record with another link on one side: that word alone is set
module _ (ws : List ℕ) (l x : ℕ) where
  -- the words before a record's links, set to what they are
  same_head : set (set (set (set (set ws (place l) (get_or ws (place l) 0)) (place l + 1) (get_or ws (place l + 1) 0)) (place l + 2) (get_or ws (place l + 2) 0))
      (place l + 3) (get_or ws (place l + 3) 0)) (place l + 4) (get_or ws (place l + 4) 0) ≡ ws
  same_head =
      rw (
        set-get_or ws (place l) 0,
        set-get_or ws (place l + 1) 0,
        set-get_or ws (place l + 2) 0,
        set-get_or ws (place l + 3) 0,
        set-get_or ws (place l + 4) 0,
      )

  pub with_record_left : (b : Bool) → b ≡ false → set ws (place l + 5) x ≡ with_record ws l (with_side (record_at ws l) b x)
  unfolding with_record record_at
  with_record_left b e =
      rw (
        e,
        same_head,
        set_kept ws (place l + 5) (place l + 6) x (λ e. omega arith),
        set_kept ws (place l + 5) (place l + 7) x (λ e. omega arith),
      )

  pub with_record_right : (b : Bool) → b ≡ true → set ws (place l + 6) x ≡ with_record ws l (with_side (record_at ws l) b x)
  unfolding with_record record_at
  with_record_right b e =
      rw (e, same_head, set-get_or ws (place l + 5) 0, set_kept ws (place l + 6) (place l + 7) x (λ e. omega arith))

pub header_at-with_record : (ws : List ℕ) (l : ℕ) (r : Record) → 0 < l → header_at (with_record ws l r) ≡ header_at ws
unfolding header_at
header_at-with_record ws l r h =
    cc (get_or-with_record_other ws l r 0 (inl (omega arith)), get_or-with_record_other ws l r 1 (inl (omega arith)))

-- ---- with_header

pub length-with_header : (ws : List ℕ) (h : Header) → length (with_header ws h) ≡ length ws
unfolding with_header
length-with_header ws h = simp length-set

pub with_header-header_at : (ws : List ℕ) → with_header ws (header_at ws) ≡ ws
unfolding header_at with_header
with_header-header_at ws = rw (set-get_or ws 0 0, set-get_or ws 1 0)

pub record_at-with_header : (ws : List ℕ) (h : Header) (l : ℕ) → 0 < l → record_at (with_header ws h) l ≡ record_at ws l
unfolding with_header
record_at-with_header ws h l f =
    record_at_ext (with_header ws h) ws l l
    (λ k g. get_or-set_other (set ws 0 h.root) 1 (place l + k) h.spare 0 (omega arith)
    ∙ get_or-set_other ws 0 (place l + k) h.root 0 (omega arith))

pub header_at-with_header : (ws : List ℕ) (h : Header) → 16 ≤ length ws → header_at (with_header ws h) ≡ h
unfolding header_at with_header
header_at-with_header ws h f =
    let first = get_or-set_other (set ws 0 h.root) 1 0 h.spare 0 (omega arith) ∙ get_or-set_same ws 0 h.root 0 (omega arith) in
    let second = get_or-set_same (set ws 0 h.root) 1 h.spare 0 (rw length-set (omega arith)) in
    λ i. record { root = first i; spare = second i }
