-- The laws of `write`: one for each way out. No contract cites this file.
--   Checked    what is known once the words are checked
-- Assumes nothing.
use Prim.Native.Nat.{ℕ, suc, ◌^◌, ◌≤◌, ◌<◌}
use native.Mathlib.Omega.{arith}
use mathlib.Core.Path.{◌≡◌, refl, sym, ap, ◌∙◌}
use mathlib.Core.Bool.{Bool, true, false}
use Rattle.std.specs.Prelude.{Result, Ok, Err}
use mathlib.Core.List.{List, [], ◌∷◌}
use lib.ListN.{length}
use Rattle.zones.specs.Maps.{Map}
use Rattle.records.specs.Holds.{Holds}
use Rattle.audit.specs.Checking.{audit_on, Check}
use Rattle.audit.proofs.PromiseLaws.{audit_on_refused}
use Rattle.refusals.specs.Refusals.{number_of}
use Rattle.refusals.specs.declared.Refusal.{Refusal}
use Rattle.refusals.specs.declared.Refusal.TheVariants.{BadLength, Damaged, ShortOut}
use Rattle.image.specs.Image.{size24, image, image_length, IsImage}
use Rattle.image_data.specs.Runs.{length_of}
use Rattle.image_write.specs.Writing.{values_of, refusal_of, WriteImage}
use Rattle.image_write.specs.Whole.{Planned, length_by, Fills, filled}
use Rattle.image_write.specs.declared.Plan.{Plan}
use Rattle.image_write.proofs.TableLaws.{Machine, is_image_holds}
use Rattle.image_write.proofs.ImageLaws.{runs_small, length_by-image_length}

-- the words and the epoch are the machine's, and x is what the check says of the words
pub record Checked (ws : List ℕ) (epoch : ℕ) (x : Result Bool Refusal) : Type 0 where
  pub words : Machine ws
  pub small : epoch < 2 ^ 64
  pub check : Check ws x

module _ {ws : List ℕ} {epoch : ℕ} {x : Result Bool Refusal} (k : Checked ws epoch x) where
  image-checked : (m : Map) → Holds ws m → IsImage size24 (image size24 m epoch) m epoch
  image-checked m h = is_image_holds ws m h k.words epoch k.small

  refusal-checked : (y : Result Bool Refusal) → x ≡ y → refusal_of (audit_on ws) ≡ refusal_of y
  refusal-checked y e = ap refusal_of (sym k.check.answer ∙ e)

  -- ---- a refusal of the words

  write-refused : (out : List ℕ) (r : Result ℕ Refusal) (n : ℕ) → refusal_of (audit_on ws) ≡ suc n → number_of r ≡ suc n → values_of r ≡ 0 ∷ []
      → WriteImage ws epoch out r out
  write-refused out r n e f g =
      let none : (m : Map) → Holds ws m → ⊥ = λ m h. omega (arith, refusal-checked (Ok true) (k.check.exact m h)) in
      record {
        refusal = rw e f;
        counts = λ i j. g;
        kept = λ i j. refl;
        short = λ m h s. absurd (none m h);
        written = λ m h s. absurd (none m h);
        image_is = image-checked;
      }

  pub write-bad_length : (out : List ℕ) (e : Refusal) → x ≡ Err e → WriteImage ws epoch out (Err e) out
  write-bad_length out e q =
      let b : e ≡ BadLength = audit_on_refused ws e (sym k.check.answer ∙ q) in
      rw b (write-refused out (Err BadLength) 0 (refusal-checked (Err BadLength) (q ∙ ap Err b)) refl refl)

  pub write_damaged : (out : List ℕ) → x ≡ Ok false → WriteImage ws epoch out (Err Damaged) out
  write_damaged out e = write-refused out (Err Damaged) 5 (refusal-checked (Ok false) e) refl refl

  -- ---- a table

  module _ (e : x ≡ Ok true) (p : Plan) (q : (m : Map) → Holds ws m → Planned ws m p) where
    pub plan_small : length_of p.runs ≤ 2 ^ 24
    plan_small = let u = k.check.yes e in runs_small ws u.0 u.1 p (q u.0 u.1) k.words epoch

    module _ (out : List ℕ) (n : ℕ) (l : n ≡ length_by p epoch) where
      length_is : (m : Map) → Holds ws m → n ≡ image_length size24 m epoch
      length_is m h = l ∙ length_by-image_length ws m h p (q m h) k.words epoch

      pub write_short : length out < n → WriteImage ws epoch out (Err (ShortOut n)) out
      write_short s =
          let z = refusal-checked (Ok true) e in
          record {
            refusal = rw z tt;
            counts = λ i j. absurd (omega arith);
            kept = λ i j. refl;
            short = λ m h f. (refl, ap (λ (i : ℕ). i ∷ []) (length_is m h));
            written = λ m h f. absurd (omega (arith, length_is m h));
            image_is = image-checked;
          }

      pub fills-table : n ≤ length out → Fills ws p epoch out
      fills-table s =
          let u = k.check.yes e in
          record { map = u.0; holds = u.1; planned = q u.0 u.1; room = omega (arith, length_is u.0 u.1) }

      pub write-wrote : n ≤ length out → (after : List ℕ) → ((f : Fills ws p epoch out) → after ≡ filled f.map epoch out)
          → WriteImage ws epoch out (Ok n) after
      unfolding filled
      write-wrote s after g =
          let z = refusal-checked (Ok true) e in
          record {
            refusal = rw z tt;
            counts = λ i j. absurd (omega arith);
            kept = λ i j. absurd (omega arith);
            short = λ m h f. absurd (omega (arith, length_is m h));
            written =
                λ m h f. (refl, ap (λ (i : ℕ). i ∷ []) (length_is m h), g (record { map = m; holds = h; planned = q m h; room = f }));
            image_is = image-checked;
          }
