-- The laws of the nodes on a way of single steps: one step more, and what a record and a node are as bytes.
-- No contract cites this file.
-- Assumes nothing.
use Prim.Native.Nat.{ℕ, suc, ◌+◌, ◌*◌, ◌≤◌, ◌<◌}
use native.Mathlib.Numerals.{add-one}
use native.Mathlib.Omega.{arith}
use mathlib.Core.Path.{◌≡◌, refl, ◌∙◌}
use mathlib.Core.Bool.{Bool, true, false, cond}
use mathlib.Core.List.{List, [], ◌∷◌, ◌++◌}
use lib.Dec.{ltb}
use lib.ListN.{length, drop, get_or, drop_of_length-le}
use lib.Seq.{sets, drop-cons}
use borrow.Author.Tests.{ltb-true, ltb-false}
use Rattle.bits.specs.Bits.{Bits}
use Rattle.image.proofs.SetsLaws.{sets-append}
use Rattle.image_write.specs.Stalks.{way_in, step_bytes, stalk_bytes, PutStalk}

-- ---- one node

length-step_bytes : (x : Bool) (on above : ℕ) → length (step_bytes x on above) ≡ 6
length-step_bytes false on above = refl
length-step_bytes true on above = refl

-- ---- way_in

pub way_in-drop : (s : Bits) (i m t : ℕ) → cond (ltb i (length s)) m t ≡ way_in (drop i s) m t
way_in-drop s i m t = at (ltb i (length s)) refl
  where
    at : (b : Bool) → ltb i (length s) ≡ b → cond b m t ≡ way_in (drop i s) m t
    at true e = rw (drop-cons s i false (ltb-true i (length s) e))
    at false e = rw (drop_of_length-le s (ltb-false i (length s) e))

-- ---- stalk_bytes

pub length-stalk_bytes : (xs : Bits) (m above t : ℕ) → length (stalk_bytes xs m above t) ≡ 6 * length xs
length-stalk_bytes [] m above t = refl
length-stalk_bytes (false ∷ xs) m above t = omega (arith, length-stalk_bytes xs (suc m) above t)
length-stalk_bytes (true ∷ xs) m above t = omega (arith, length-stalk_bytes xs (suc m) above t)

-- one step more: what is left to write from there is what was left before
pub stalk_step : (s : Bits) (w i m above t on : ℕ) (x : Bool) (out mid after : List ℕ) → length s ≡ w → i < w → x ≡ get_or s i false
    → on ≡ cond (ltb (i + 1) w) (m + 1) t → sets out (6 * m) (stalk_bytes (drop i s) m above t) ≡ after
    → mid ≡ sets out (6 * m) (step_bytes x on above)
    → sets mid (6 * (m + 1)) (stalk_bytes (drop (i + 1) s) (m + 1) above t) ≡ after
stalk_step s w i m above t on x out mid after l h b o e q =
    let k : i < length s = omega arith in
    let p : 6 * (m + 1) ≡ 6 * m + length (step_bytes x on above) = omega (arith, length-step_bytes x on above) in
    let d : step_bytes x on above ++ stalk_bytes (drop (i + 1) s) (m + 1) above t ≡ stalk_bytes (drop i s) m above t =
    rw (drop-cons s i false k, b, o, ← l, way_in-drop s (i + 1) (m + 1) t, add-one i, add-one m) in
    rw (q, p, ← sets-append, d) e

-- at the end nothing is left to write
pub put-stalk-promise : (s : Bits) (w a i m at above t r : ℕ) (out after : List ℕ) → length s ≡ w → w ≤ i
    → sets after (6 * at) (stalk_bytes (drop i s) at above t) ≡ sets out (6 * m) (stalk_bytes (drop a s) m above t)
    → r ≡ cond (ltb a w) m t → PutStalk (drop a s) m above t out r after
put-stalk-promise s w a i m at above t r out after l h e f =
    record { answer = f ∙ rw (← l) (way_in-drop s a m t); bytes = rw (drop_of_length-le s (rw (← l) at h)) at e }
