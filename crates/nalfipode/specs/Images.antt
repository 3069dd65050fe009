-- The image calls, from C.
--   WriteOut, VerifyOut, DescribeOut, LookOut   the contracts of `nalfipode_image_write`, `.._verify`,
--       `.._describe` and `.._look`: everything passed, the number r returned, and what is left behind
-- Assumes nothing.
use Rattle.std.specs.Prelude.{ℕ, ◌≡◌, List, Option, Result, get_or}
use Rattle.refusals.specs.Refusals.{number_of}
use Rattle.refusals.specs.declared.Refusal.{Refusal}
use Rattle.image_lookup.specs.Looking as looking
use Rattle.image_lookup.specs.Looking.{address_bits, LookImage}
use Rattle.image_verify.specs.Describing as describing
use Rattle.image_verify.specs.Describing.{Describe}
use Rattle.image_verify.specs.declared.Description.{Description}
use Rattle.image_verify.specs.Verifying.{VerifyImage}
use Rattle.image_write.specs.Writing as writing
use Rattle.image_write.specs.Writing.{WriteImage}

-- words ws, output out, before; output and values after
pub record WriteOut (ws : List ℕ) (epoch : ℕ) (out : List ℕ) (r : ℕ) (after values : List ℕ) : Type 0 where
  pub answer : Result ℕ Refusal
  pub promise : WriteImage ws epoch out answer after
  pub number : r ≡ number_of answer
  pub listed : values ≡ writing.values_of answer

pub record VerifyOut (bs : List ℕ) (r : ℕ) : Type 0 where
  pub answer : Result Unit Refusal
  pub promise : VerifyImage bs answer
  pub number : r ≡ number_of answer

pub record DescribeOut (bs : List ℕ) (r : ℕ) (values : List ℕ) : Type 0 where
  pub answer : Result Description Refusal
  pub promise : Describe bs answer
  pub number : r ≡ number_of answer
  pub listed : values ≡ describing.values_of answer

-- "Image lookup takes 128 bits": four words ks, as C lends a key
pub record LookOut (bs ks : List ℕ) (r : ℕ) (values : List ℕ) : Type 0 where
  pub answer : Result (Option ℕ) Refusal
  pub promise : LookImage bs (address_bits (get_or ks 0 0) (get_or ks 1 0) (get_or ks 2 0) (get_or ks 3 0)) answer
  pub number : r ≡ number_of answer
  pub listed : values ≡ looking.values_of answer
