-- The laws of a data entry: it is read where it stands, and what is read is an entry in shortest form.
-- No contract cites this file.
-- Assumes nothing.
use Prim.Native.Nat.{ℕ, zero, suc, ◌+◌, ◌-◌, ◌*◌, ◌^◌, ◌≤◌, ◌<◌}
use native.Mathlib.Decide.{dec_lt}
use native.Mathlib.Nat.{add-zero, lt_of_lt_of_le, pow-le-pow_right, mul-le-mul_right}
use native.Mathlib.Numerals.{add-one}
use native.Mathlib.Omega.{arith}
use mathlib.Core.Path.{◌≡◌, refl, sym, ap, ◌∙◌}
use mathlib.Core.Logic.{◌⊎◌, inl, inr}
use mathlib.Core.Bool.{Bool, true, false, ◌&&◌, ◌||◌, cond}
use mathlib.Core.List.{List, [], ◌∷◌, ◌++◌}
use lib.Dec.{T, leb, ltb, eqb, ltb→lt, lt→ltb, eqb→eq, lit<}
use lib.ListN.{length, take, drop, get_or, length-take, length-drop, take-append-drop}
use lib.Seq.{drop-cons, drop-drop, get_or-drop, take-append_seam}
use borrow.Author.Tests.{lt-ltb, le-leb, ltb-true, leb-true, eqb-false}
use Rattle.std.specs.Prelude.{None}
use Rattle.bits.specs.Lists.{all}
use Rattle.bits.proofs.ListsLaws.{T_true, true-T, or_right, or_cases}
use Rattle.image.specs.Bytes.{bytes_of, without_zeros, short, uint32}
use Rattle.image.proofs.LengthLaws.{length_short_below}
use Rattle.image.proofs.BytesLaws.{short-lowest, short-fits}
use Rattle.metadata.specs.Frames.{value_of, number_at}
use Rattle.metadata.proofs.ValueLaws.{value_of-lt, value_of_short, bytes_of-value_of, all-take-drop, number_at-lt}
use Rattle.image_verify.specs.Verifying.{read_on}
use Rattle.image_verify.proofs.Forms.{Reads, reads_same}

-- ---- numbers in shortest form

-- no leading zero byte
abbrev Shortest : List ℕ → Type 0
Shortest [] = Unit {0}
Shortest (b ∷ bs) = 0 < b

shortest-without_zeros : (bs : List ℕ) → Shortest (without_zeros bs)
shortest-without_zeros [] = tt
shortest-without_zeros (b ∷ bs) = at (eqb b 0) refl (shortest-without_zeros bs)
  where
    at : (t : Bool) → eqb b 0 ≡ t → Shortest (without_zeros bs) → Shortest (cond t (without_zeros bs) (b ∷ bs))
    at true e h = h
    at false e h = let n : b ≡ 0 → ⊥ = eqb-false b 0 e in omega arith

shortest_short : (v : ℕ) → Shortest (short v)
unfolding short
shortest_short v = shortest-without_zeros (bytes_of 8 v)

-- a number with a first byte that is not 0 is no shorter
length_short-value_of : (b : ℕ) (cs : List ℕ) → 0 < b → value_of (b ∷ cs) < 256 ^ length (short (value_of (b ∷ cs))) → length cs < length (short (value_of (b ∷ cs)))
length_short-value_of b cs z h = at (dec_lt (length cs) (length (short (value_of (b ∷ cs)))))
  where
    at : Dec (length cs < length (short (value_of (b ∷ cs)))) → length cs < length (short (value_of (b ∷ cs)))
    at (yes k) = k
    at (no k) =
        let p : 256 ^ length (short (value_of (b ∷ cs))) ≤ 256 ^ length cs = pow-le-pow_right (lit< tt) (omega arith) in
        let q : 1 * 256 ^ length cs ≤ b * 256 ^ length cs = mul-le-mul_right (256 ^ length cs) z in
        absurd (omega arith)

-- bytes in shortest form are those of their number
short-value_of : (cs : List ℕ) → T (all (λ b. ltb b 256) cs) → length cs ≤ 8 → Shortest cs → short (value_of cs) ≡ cs
unfolding short
short-value_of [] h l s = refl
short-value_of (b ∷ cs) h l s =
    let v : ℕ = value_of (b ∷ cs) in
    let f : v < 256 ^ suc (length cs) = value_of-lt (b ∷ cs) h in
    let g : v < 256 ^ 8 = lt_of_lt_of_le f (pow-le-pow_right (lit< tt) l) in
    let e : length (short v) ≡ suc (length cs) =
    omega (arith, length_short_below (suc (length cs)) v l f, length_short-value_of b cs s (short-fits v g)) in
    short-lowest v ∙ ap (λ (n : ℕ). bytes_of n v) e ∙ bytes_of-value_of (b ∷ cs) h

-- ---- read_on

pub get_or_first : (bs : List ℕ) (at : ℕ) (cs : List ℕ) → drop at bs ≡ cs → get_or bs at 0 ≡ get_or cs 0 0
get_or_first bs at cs d = ap (λ (k : ℕ). get_or bs k 0) (sym (add-zero at)) ∙ sym (get_or-drop at bs 0 0) ∙ ap (λ (l : List ℕ). get_or l 0 0) d

-- the first byte of a number, if it has one, is not 0
headed : (bs rest : List ℕ) (at : ℕ) (cs : List ℕ) → drop (at + 1) bs ≡ cs ++ rest → Shortest cs
    → (eqb (0xC0 + length cs) 0xC0 || ltb 0 (get_or bs (at + 1) 0)) ≡ true
headed bs rest at [] d s = refl
headed bs rest at (b ∷ cs) d s =
    T_true (eqb (0xC0 + suc (length cs)) 0xC0 || ltb 0 (get_or bs (at + 1) 0))
    (or_right (eqb (0xC0 + suc (length cs)) 0xC0) (ltb 0 (get_or bs (at + 1) 0)) (rw (get_or_first bs (at + 1) (b ∷ (cs ++ rest)) d) (lt→ltb 0 b s)))

-- a number in shortest form, from its bytes
number_at_short : (bs : List ℕ) (at z : ℕ) (rest : List ℕ) → z < 2 ^ 64 → drop at bs ≡ short z ++ rest → number_at bs at (length (short z)) ≡ z
unfolding number_at
number_at_short bs at z rest h d = rw (d, take-append_seam (short z) rest) (value_of_short z h)

pub read_on-entry : (bs : List ℕ) (at end z : ℕ) (rest : List ℕ) → z < 2 ^ 32 → drop at bs ≡ uint32 z ++ rest → at + length (uint32 z) ≤ end
    → read_on bs at end ≡ Reads (at + length (uint32 z)) z
unfolding read_on uint32
read_on-entry bs at end z rest h d l =
    let k : ℕ = length (short z) in
    let few : k ≤ 4 = length_short_below 4 z (omega arith) h in
    let more : drop (at + 1) bs ≡ short z ++ rest = sym (drop-drop 1 at bs) ∙ ap (drop 1) d in
    let size : 0xC0 + k - 0xC0 ≡ k = omega arith in
    let next : at + 1 + k ≡ at + suc k = omega arith in
    rw (get_or_first bs at ((0xC0 + k) ∷ (short z ++ rest)) d, size, le-leb 0xC0 (0xC0 + k) (omega arith), le-leb (0xC0 + k) 0xC4 (omega arith))
    (rw (lt-ltb (at + k) end (omega arith), headed bs rest at (short z) more (shortest_short z), number_at_short bs (at + 1) z rest (omega arith) more, next))

-- the entry of z stands at a byte, and the next one follows
pub record Entered (bs : List ℕ) (at end next z : ℕ) : Type 0 where
  pub fits : z < 2 ^ 32
  pub bytes : drop at bs ≡ uint32 z ++ drop next bs
  pub ends : next ≡ at + length (uint32 z)
  pub within : next ≤ end

never : (next z : ℕ) → None ≡ Reads next z → ⊥
never next z e = let f : ◌≡◌ {A = ℕ} 0 1 = cc in omega arith

shortest-take : (k : ℕ) (cs : List ℕ) → (k ≡ 0) ⊎ (0 < get_or cs 0 0) → Shortest (take k cs)
shortest-take zero cs h = tt
shortest-take (suc k) [] h = tt
shortest-take (suc k) (b ∷ cs) (inl e) = absurd (omega arith)
shortest-take (suc k) (b ∷ cs) (inr h) = h

head-tests : (c b : ℕ) → 0xC0 ≤ c → T (eqb c 0xC0 || ltb 0 b) → (c - 0xC0 ≡ 0) ⊎ (0 < b)
head-tests c b low h =
    elim (or_cases (eqb c 0xC0) (ltb 0 b) h) [
      | inl e ↦ inl (omega (arith, eqb→eq c 0xC0 e))
      | inr e ↦ inr (ltb→lt 0 b e)
    ]

module _ (bs : List ℕ) (at end : ℕ) (small : T (all (λ b. ltb b 256) bs)) (inside : end ≤ length bs) where
  -- k bytes after the first, in shortest form
  short-take : (k : ℕ) → k ≤ 4 → (k ≡ 0) ⊎ (0 < get_or bs (at + 1) 0) → short (value_of (take k (drop (at + 1) bs))) ≡ take k (drop (at + 1) bs)
  short-take k few head =
      let first : get_or (drop (at + 1) bs) 0 0 ≡ get_or bs (at + 1) 0 = sym (get_or_first bs (at + 1) (drop (at + 1) bs) refl) in
      short-value_of (take k (drop (at + 1) bs)) (all-take-drop (λ b. ltb b 256) k (at + 1) bs small) (simp length-take (omega arith))
      (shortest-take k (drop (at + 1) bs) (rw first head))

  entered : (k : ℕ) → get_or bs at 0 ≡ 0xC0 + k → k ≤ 4 → at + k < end → (k ≡ 0) ⊎ (0 < get_or bs (at + 1) 0)
      → Entered bs at end (at + 1 + k) (number_at bs (at + 1) k)
  unfolding number_at uint32
  entered k c few room head =
      let cs : List ℕ = take k (drop (at + 1) bs) in
      let len : length cs ≡ k = simp (length-take, length-drop) (omega arith) in
      let same : short (value_of cs) ≡ cs = short-take k few head in
      let rest = take-append-drop k (drop (at + 1) bs) in
      record {
        fits = lt_of_lt_of_le (number_at-lt bs (at + 1) k small) (pow-le-pow_right (lit< tt) {j = 4} few);
        bytes = drop-cons bs at 0 (omega arith) ∙ cc (add-one at, drop-drop k (at + 1) bs);
        ends = omega (arith, ap length same);
        within = omega arith;
      }

  -- by the four tests
  read-tests : (next z : ℕ) (p q r s : Bool) → leb 0xC0 (get_or bs at 0) ≡ p → leb (get_or bs at 0) 0xC4 ≡ q → ltb (at + (get_or bs at 0 - 0xC0)) end ≡ r
      → (eqb (get_or bs at 0) 0xC0 || ltb 0 (get_or bs (at + 1) 0)) ≡ s
      → cond (p && (q && (r && s))) (Reads (at + 1 + (get_or bs at 0 - 0xC0)) (number_at bs (at + 1) (get_or bs at 0 - 0xC0))) None ≡ Reads next z
      → Entered bs at end next z
  read-tests next z false q r s hp hq hr hs v = absurd (never next z v)
  read-tests next z true false r s hp hq hr hs v = absurd (never next z v)
  read-tests next z true true false s hp hq hr hs v = absurd (never next z v)
  read-tests next z true true true false hp hq hr hs v = absurd (never next z v)
  read-tests next z true true true true hp hq hr hs v =
      let c : ℕ = get_or bs at 0 in
      let low : 0xC0 ≤ c = leb-true 0xC0 c hp in
      let high : c ≤ 0xC4 = leb-true c 0xC4 hq in
      let w = reads_same (at + 1 + (c - 0xC0)) (number_at bs (at + 1) (c - 0xC0)) next z v in
      rw (← w.0, ← w.1) (entered (c - 0xC0) (omega arith) (omega arith) (ltb-true (at + (c - 0xC0)) end hr) (head-tests c (get_or bs (at + 1) 0) low (true-T (eqb c 0xC0 || ltb 0 (get_or bs (at + 1) 0)) hs)))

  pub read_on-entered : (next z : ℕ) → read_on bs at end ≡ Reads next z → Entered bs at end next z
  unfolding read_on
  read_on-entered next z e =
      let c : ℕ = get_or bs at 0 in
      read-tests next z (leb 0xC0 c) (leb c 0xC4) (ltb (at + (c - 0xC0)) end) (eqb c 0xC0 || ltb 0 (get_or bs (at + 1) 0)) refl refl refl refl e
