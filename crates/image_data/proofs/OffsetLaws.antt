-- The laws of an entry's place: entry i of the run of s bytes stands at the run's start + (s + 1) * i, and
-- the bytes there spell its number. No contract cites this file.
-- Assumes nothing.
use Prim.Native.Nat.{ℕ, zero, suc, ◌+◌, ◌*◌, ◌^◌, ◌≤◌, ◌<◌}
use native.Mathlib.Nat.{lt_trans}
use native.Mathlib.Omega.{arith}
use mathlib.Core.Path.{◌≡◌, refl, sym, ap, ◌∙◌}
use mathlib.Core.List.{List, [], ◌∷◌, ◌++◌, append_assoc, Memᴰ}
use mathlib.Core.Bool.{Bool, true, false, cond}
use lib.Dec.{T, ltb, eqb, ltb→lt, eqb→eq, lit<}
use lib.ListN.{length, drop, get_or, length-append, take-append-drop}
use lib.Seq.{drop-append-add, drop-drop}
use borrow.Author.Tests.{eq-eqb, ne_eqb}
use Rattle.bits.specs.Lists.{all, keep}
use Rattle.bits.proofs.ListsLaws.{and_left, and_right, and_both, all_mem, all_keep, all-keep_same}
use Rattle.image.specs.Bytes.{short, uint32}
use Rattle.image.specs.Image.{data_of, offset}
use Rattle.image.specs.Ascending.{ascending_numbers}
use Rattle.metadata.specs.Frames.{number_at}
use Rattle.metadata.proofs.ValueLaws.{number_at-append, value_of_short}
use Rattle.image_data.specs.Runs.{run_of, runs_of, start_of, DataAt, RunAt}
use Rattle.image_data.proofs.RunsLaws.{below, from, length-uint32_short, length_below, around_run}

-- ---- elements of lists

pub get_or_mem : (xs : List ℕ) (i : ℕ) → i < length xs → Memᴰ (get_or xs i 0) xs
get_or_mem [] i h = absurd (omega arith)
get_or_mem (x ∷ xs) zero h = Memᴰ.head refl
get_or_mem (x ∷ xs) (suc i) h = Memᴰ.tail (get_or_mem xs i (omega arith))

pub mem-get_or : (z : ℕ) (xs : List ℕ) → Memᴰ z xs → (i : ℕ) × (i < length xs) × (get_or xs i 0 ≡ z)
mem-get_or z (x ∷ xs) (Memᴰ.head e) = (0, omega arith, sym e)
mem-get_or z (x ∷ xs) (Memᴰ.tail j) = let w = mem-get_or z xs j in (suc w.0, omega arith, w.2)
mem-get_or z [] x' = elim x' [ ]

-- ---- ascending numbers

ascending-keep_at : (f : ℕ → Bool) (b : Bool) (z : ℕ) (zs : List ℕ) → T (all (ltb z) (keep f zs)) → T (ascending_numbers (keep f zs))
    → T (ascending_numbers (cond b (z ∷ keep f zs) (keep f zs)))
ascending-keep_at f true z zs h k = and_both (all (ltb z) (keep f zs)) (ascending_numbers (keep f zs)) h k
ascending-keep_at f false z zs h k = k

pub ascending-keep : (f : ℕ → Bool) (zs : List ℕ) → T (ascending_numbers zs) → T (ascending_numbers (keep f zs))
ascending-keep f [] h = tt
ascending-keep f (z ∷ zs) h =
    ascending-keep_at f (f z) z zs (all_keep f (ltb z) zs (and_left (all (ltb z) zs) (ascending_numbers zs) h))
    (ascending-keep f zs (and_right (all (ltb z) zs) (ascending_numbers zs) h))

pub get_or-ascending : (ys : List ℕ) (i j : ℕ) → T (ascending_numbers ys) → i < j → j < length ys → get_or ys i 0 < get_or ys j 0
get_or-ascending [] i j h l k = absurd (omega arith)
get_or-ascending (y ∷ ys) i zero h l k = absurd (omega arith)
get_or-ascending (y ∷ ys) zero (suc j) h l k =
    ltb→lt y (get_or ys j 0) (all_mem (ltb y) ys (and_left (all (ltb y) ys) (ascending_numbers ys) h) (get_or ys j 0) (get_or_mem ys j (omega arith)))
get_or-ascending (y ∷ ys) (suc i) (suc j) h l k =
    get_or-ascending ys i j (and_right (all (ltb y) ys) (ascending_numbers ys) h) (omega arith) (omega arith)

-- ---- data_of

pub data_of-append : (xs ys : List ℕ) → data_of (xs ++ ys) ≡ data_of xs ++ data_of ys
unfolding data_of
data_of-append [] ys = refl
data_of-append (x ∷ xs) ys = rw (data_of-append xs ys) (sym (append_assoc (uint32 x) (data_of xs) (data_of ys)))

-- ---- number_at

number_at-after : (xs ys : List ℕ) (at n : ℕ) → number_at (xs ++ ys) (length xs + at) n ≡ number_at ys at n
unfolding number_at
number_at-after xs ys at n = rw (drop-append-add xs ys at)

number_at-drop : (bs : List ℕ) (base at n : ℕ) → number_at bs (base + at) n ≡ number_at (drop base bs) at n
unfolding number_at
number_at-drop bs base at n = rw (drop-drop at base bs)

number_at-uint32 : (y : ℕ) (zs : List ℕ) → y < 2 ^ 32 → number_at (uint32 y ++ zs) 1 (length (short y)) ≡ y
unfolding uint32
number_at-uint32 y zs h =
    number_at-append ((0xC0 + length (short y)) ∷ []) (short y) zs 1 (length (short y)) refl refl ∙ value_of_short y (lt_trans h (lit< tt))

-- ---- a run: numbers that take s bytes each

module _ (s : ℕ) where
  abbrev of_size : ℕ → Bool
  of_size y = eqb (length (short y)) s

  length-entry : (y : ℕ) (ys : List ℕ) → T (all of_size (y ∷ ys)) → length (uint32 y) ≡ s + 1
  length-entry y ys h = let e = eqb→eq (length (short y)) s (and_left (of_size y) (all of_size ys) h) in omega (arith, length-uint32_short y)

  number_at_run : (ys zs : List ℕ) (i : ℕ) → T (all of_size ys) → T (all (λ y. ltb y (2 ^ 32)) ys) → i < length ys
      → number_at (data_of ys ++ zs) ((s + 1) * i + 1) s ≡ get_or ys i 0
  unfolding data_of
  number_at_run [] zs i h k l = absurd (omega arith)
  number_at_run (y ∷ ys) zs zero h k l =
      let e = eqb→eq (length (short y)) s (and_left (of_size y) (all of_size ys) h) in
      let p : (s + 1) * 0 + 1 ≡ 1 = omega arith in
      rw (p, ← e, append_assoc (uint32 y) (data_of ys) zs)
      (number_at-uint32 y (data_of ys ++ zs) (ltb→lt y (2 ^ 32) (and_left (ltb y (2 ^ 32)) (all (λ y. ltb y (2 ^ 32)) ys) k)))
  number_at_run (y ∷ ys) zs (suc i) h k l =
      let p : (s + 1) * suc i + 1 ≡ length (uint32 y) + ((s + 1) * i + 1) = omega (arith, length-entry y ys h) in
      rw (p, append_assoc (uint32 y) (data_of ys) zs, number_at-after (uint32 y) (data_of ys ++ zs) ((s + 1) * i + 1) s)
      (number_at_run ys zs i (and_right (of_size y) (all of_size ys) h) (and_right (ltb y (2 ^ 32)) (all (λ y. ltb y (2 ^ 32)) ys) k) (omega arith))

  offset_run : (ys zs : List ℕ) (i z : ℕ) → T (all of_size ys) → T (ascending_numbers ys) → i < length ys → get_or ys i 0 ≡ z
      → offset (ys ++ zs) z ≡ (s + 1) * i
  offset_run [] zs i z h k l e = absurd (omega arith)
  offset_run (y ∷ ys) zs zero z h k l e = rw (eq-eqb y z e) (omega arith)
  offset_run (y ∷ ys) zs (suc i) z h k l e =
      let n : y < get_or ys i 0 = get_or-ascending (y ∷ ys) 0 (suc i) k (omega arith) l in
      let q : eqb y z ≡ false = ne_eqb y z (λ f. omega arith) in
      let o : offset (ys ++ zs) z ≡ (s + 1) * i = offset_run ys zs i z (and_right (of_size y) (all of_size ys) h)
      (and_right (all (ltb y) ys) (ascending_numbers ys) k) (omega arith) e in
      rw (q, o) (omega (arith, length-entry y ys h))

  -- numbers of fewer bytes stand before the run
  offset_below : (xs ys : List ℕ) (z : ℕ) → T (all (λ x. ltb (length (short x)) s) xs) → length (short z) ≡ s
      → offset (xs ++ ys) z ≡ length (data_of xs) + offset ys z
  unfolding data_of
  offset_below [] ys z h e = omega arith
  offset_below (x ∷ xs) ys z h e =
      let l = ltb→lt (length (short x)) s (and_left (ltb (length (short x)) s) (all (λ x. ltb (length (short x)) s) xs) h) in
      let q : eqb x z ≡ false = ne_eqb x z (λ f. omega (arith, ap (λ (v : ℕ). length (short v)) f)) in
      let o = offset_below xs ys z (and_right (ltb (length (short x)) s) (all (λ x. ltb (length (short x)) s) xs) h) e in
      rw (q, o, length-append (uint32 x) (data_of xs)) (omega arith)

-- ---- the data section

module _ (s : ℕ) (zs : List ℕ) (few : s ≤ 4) (ascends : T (ascending_numbers zs)) (fit : T (all (λ z. ltb z (2 ^ 32)) zs)) where
  size-run_of : (i : ℕ) → i < length (run_of s zs) → length (short (get_or (run_of s zs) i 0)) ≡ s
  size-run_of i l =
      let y = get_or (run_of s zs) i 0 in
      eqb→eq (length (short y)) s (all_mem (of_size s) (run_of s zs) (all-keep_same (of_size s) zs) y (get_or_mem (run_of s zs) i l))

  -- the entry of a number, by its place in its run
  pub offset-runs : (i z : ℕ) → i < length (run_of s zs) → get_or (run_of s zs) i 0 ≡ z → offset zs z ≡ start_of (runs_of zs) s + (s + 1) * i
  offset-runs i z l e =
      let size : length (short z) ≡ s = rw e at (size-run_of i l) in
      ap (λ (l : List ℕ). offset l z) (around_run s zs ascends fit)
      ∙ offset_below s (below s zs) (run_of s zs ++ from (suc s) zs) z (all-keep_same (λ x. ltb (length (short x)) s) zs) size
      ∙ rw (length_below s zs (omega arith))
      (ap (λ (n : ℕ). start_of (runs_of zs) s + n)
      (offset_run s (run_of s zs) (from (suc s) zs) i z (all-keep_same (of_size s) zs) (ascending-keep (of_size s) zs ascends) l e))

  -- what the data section spells there
  pub number_at-runs : (rest : List ℕ) (i : ℕ) → i < length (run_of s zs)
      → number_at (data_of zs ++ rest) (start_of (runs_of zs) s + (s + 1) * i + 1) s ≡ get_or (run_of s zs) i 0
  number_at-runs rest i l =
      let end = data_of (from (suc s) zs) ++ rest in
      let p : start_of (runs_of zs) s + (s + 1) * i + 1 ≡ length (data_of (below s zs)) + ((s + 1) * i + 1) = omega (arith, length_below s zs (omega arith)) in
      let parts : data_of zs ++ rest ≡ data_of (below s zs) ++ (data_of (run_of s zs) ++ end) =
      ap (λ (l : List ℕ). data_of l ++ rest) (around_run s zs ascends fit) ∙ simp (data_of-append, append_assoc) in
      rw (p, parts, number_at-after (data_of (below s zs)) (data_of (run_of s zs) ++ end) ((s + 1) * i + 1) s)
      (number_at_run s (run_of s zs) end i (all-keep_same (of_size s) zs) (all_keep (of_size s) (λ y. ltb y (2 ^ 32)) zs fit) l)

-- bytes with the data section have each run where it starts
pub run_at-data : (bs : List ℕ) (base s : ℕ) (zs : List ℕ) → s ≤ 4 → DataAt bs base zs → RunAt bs (base + start_of (runs_of zs) s) s (run_of s zs)
run_at-data bs base s zs few d = record {
  ascends = ascending-keep (of_size s) zs d.ascends;
  spells = λ i l.
      let rest = drop (length (data_of zs)) (drop base bs) in
      let whole : drop base bs ≡ data_of zs ++ rest =
      sym (take-append-drop (length (data_of zs)) (drop base bs)) ∙ ap (λ (l : List ℕ). l ++ rest) d.stands in
      let k = start_of (runs_of zs) s + (s + 1) * i + 1 in
      let p : base + start_of (runs_of zs) s + (s + 1) * i + 1 ≡ base + k = omega arith in
      rw (p, number_at-drop bs base k s)
      (ap (λ (l : List ℕ). number_at l k s) whole ∙ number_at-runs s zs few d.ascends d.zones_fit rest i l);
}
