-- The writer's promise admits one answer and one output, on any words: an answer is its number and values.
-- Assumes nothing.
use Prim.Native.Nat.{ℕ, zero, suc, ◌<◌}
use native.Mathlib.Omega.{arith}
use native.Mathlib.Decide.{dec_lt}
use mathlib.Core.Path.{◌≡◌, refl, sym, ap, ◌∙◌}
use mathlib.Core.Bool.{Bool, true, false}
use Rattle.std.specs.Prelude.{Result, Ok, Err}
use mathlib.Core.List.{List}
use lib.ListN.{length, get_or}
use Rattle.refusals.specs.Refusals.{number_of}
use Rattle.refusals.specs.declared.Refusal.{Refusal}
use Rattle.refusals.specs.declared.Refusal.TheVariants.{BadLength, BadPrefix, BadPosition, BadSize, ShortOut, Damaged, Absent, Full, BadImage}
use Rattle.zones.specs.Maps.{Map}
use Rattle.records.specs.Holds.{Holds}
use Rattle.audit.specs.Checking.{audit_on}
use Rattle.audit.proofs.HoldsLaws.{audit_on_yes}
use Rattle.audit.proofs.PromiseLaws.{audit_on_refused}
use Rattle.image.specs.Image.{size24, image_length}
use Rattle.image_write.specs.Writing.{values_of, refusal_of, WriteImage}

-- ---- number_of, values_of

-- the answer of a number below 7 and a first value
abbrev answer_of : ℕ → ℕ → Result ℕ Refusal
answer_of zero v = Ok v
answer_of (suc zero) v = Err BadLength
answer_of (suc (suc zero)) v = Err BadPrefix
answer_of (suc (suc (suc zero))) v = Err BadPosition
answer_of (suc (suc (suc (suc zero)))) v = Err BadSize
answer_of (suc (suc (suc (suc (suc zero))))) v = Err (ShortOut v)
answer_of (suc (suc (suc (suc (suc (suc n)))))) v = Err Damaged

answer_of_same : (r : Result ℕ Refusal) → number_of r < 7 → answer_of (number_of r) (get_or (values_of r) 0 0) ≡ r
answer_of_same (Ok n) h = refl
answer_of_same (Err BadLength) h = refl
answer_of_same (Err BadPrefix) h = refl
answer_of_same (Err BadPosition) h = refl
answer_of_same (Err BadSize) h = refl
answer_of_same (Err (ShortOut n)) h = refl
answer_of_same (Err Damaged) h = refl
answer_of_same (Err (Absent n)) h = absurd (omega arith)
answer_of_same (Err (Full n)) h = absurd (omega arith)
answer_of_same (Err BadImage) h = absurd (omega arith)

written_ext : (r q : Result ℕ Refusal) (n : ℕ) → n < 7 → number_of r ≡ n → number_of q ≡ n → values_of r ≡ values_of q → r ≡ q
written_ext r q n l e f g =
    sym (answer_of_same r (omega arith)) ∙ rw (e, g, ← f) (answer_of_same q (omega arith))

-- ---- WriteImage

module _ (ws : List ℕ) (epoch : ℕ) (out : List ℕ) (r q : Result ℕ Refusal) (as' bs' : List ℕ) (x : WriteImage ws epoch out r as') (y : WriteImage ws epoch out q bs') where
  write-refused : (n : ℕ) → n < 6 → refusal_of (audit_on ws) ≡ suc n → (r ≡ q) × (as' ≡ bs')
  write-refused n l e =
      let a : number_of r ≡ suc n = rw e at x.refusal in
      let b : number_of q ≡ suc n = rw e at y.refusal in
      (written_ext r q (suc n) (omega arith) a b (x.counts n e ∙ sym (y.counts n e)), x.kept n a ∙ sym (y.kept n b))

  write-table : (m : Map) → Holds ws m → (r ≡ q) × (as' ≡ bs')
  write-table m h = at (dec_lt (length out) (image_length size24 m epoch))
    where
      at : Dec (length out < image_length size24 m epoch) → (r ≡ q) × (as' ≡ bs')
      at (yes s) =
          let a = x.short m h s in
          let b = y.short m h s in
          (written_ext r q 5 (omega arith) a.0 b.0 (a.1 ∙ sym b.1), x.kept 4 a.0 ∙ sym (y.kept 4 b.0))
      at (no s) =
          let a = x.written m h (omega arith) in
          let b = y.written m h (omega arith) in
          (written_ext r q 0 (omega arith) a.0 b.0 (a.1 ∙ sym b.1), a.2 ∙ sym b.2)

  pub write_single : (r ≡ q) × (as' ≡ bs')
  write_single = at (audit_on ws) refl
    where
      at : (v : Result Bool Refusal) → audit_on ws ≡ v → (r ≡ q) × (as' ≡ bs')
      at (Ok true) e = let u = audit_on_yes ws e in write-table u.0 u.1
      at (Ok false) e = write-refused 5 (omega arith) (ap refusal_of e)
      at (Err d) e = write-refused 0 (omega arith) (ap refusal_of (e ∙ ap Err (audit_on_refused ws d e)))
