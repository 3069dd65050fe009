-- The law that makes the contract of `verify` from its answer, on the machine's bytes. No contract cites this
-- file.
-- Assumes nothing.
use Prim.Native.Nat.{ℕ, suc, ◌<◌}
use native.Mathlib.Omega.{arith}
use mathlib.Core.Path.{◌≡◌, refl, ap, ◌∙◌}
use mathlib.Core.Bool.{Bool, true, false, cond}
use mathlib.Core.List.{List, [], ◌∷◌}
use lib.Dec.{T, ltb, lt→ltb}
use lib.ListN.{get_or}
use Rattle.std.specs.Prelude.{Result, Ok, Err}
use Rattle.refusals.specs.Refusals.{number_of}
use Rattle.refusals.specs.declared.Refusal.{Refusal}
use Rattle.refusals.specs.declared.Refusal.TheVariants.{BadImage}
use Rattle.bits.specs.Lists.{all}
use Rattle.bits.proofs.ListsLaws.{and_both}
use Rattle.image_verify.specs.Verifying.{verify_on, VerifyImage}
use Rattle.image_verify.proofs.ImageLaws.{verify_on-image}
use Rattle.image_verify.proofs.AcceptedLaws.{verify_on_yes}

-- each byte is below 256, and so all are
all_below : (bs : List ℕ) → ((i : ℕ) → get_or bs i 0 < 256) → T (all (λ b. ltb b 256) bs)
all_below [] h = tt
all_below (b ∷ bs) h =
    and_both (ltb b 256) (all (λ x. ltb x 256) bs) (lt→ltb b 256 (h 0)) (all_below bs (λ i. h (suc i)))

abbrev said : Bool → Result Unit Refusal
said b = cond b (Ok tt) (Err BadImage)

number_of-cond : (b : Bool) → number_of (said b) ≡ cond b 0 9
number_of-cond true = refl
number_of-cond false = refl

zero_true : (b : Bool) (n : ℕ) → n ≡ cond b 0 9 → n ≡ 0 → b ≡ true
zero_true true n e z = refl
zero_true false n e z = absurd (omega arith)

pub verify-promise : (bs : List ℕ) (r : Result Unit Refusal) → ((i : ℕ) → get_or bs i 0 < 256) → r ≡ cond (verify_on bs) (Ok tt) (Err BadImage) → VerifyImage bs r
verify-promise bs r h e =
    let n : number_of r ≡ cond (verify_on bs) 0 9 = ap number_of e ∙ number_of-cond (verify_on bs) in
    record {
      answer = e;
      number = n;
      values = refl;
      yes = λ z. verify_on_yes bs (all_below bs h) (zero_true (verify_on bs) (number_of r) n z);
      exact = λ m epoch is. n ∙ ap (λ (b : Bool). cond b 0 9) (verify_on-image bs m epoch is);
    }
