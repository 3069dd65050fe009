-- The first answer: no input stops it.
-- Paper 00, demand 1: "Any prefix, position, image or lent memory gets an answer or one of the numbered
-- refusals; what a refusal returns and leaves is fixed in document 01."
-- That each exported function returns, and does nothing undefined on the way, is what the check shows of its
-- code, which has no `requires`; here stands what it returns and leaves, by its contract, for any arguments.
--   NoInputStops     the first answer
-- Assumes nothing.
use Rattle.std.specs.Prelude.{ℕ, suc, ◌≡◌, true, cond, List, [], ◌∷◌, ℤ, Option, length}
use Rattle.refusals.specs.Refusals.{number_of, OneOf, GivenExactly}
use Rattle.prefix.specs.declared.Prefix.{Prefix}
use Rattle.ground.specs.Cells.{in_range}
use Rattle.records.specs.Layout.{is_table}
use Rattle.lookup.specs.Walking.{first_refusal, leaves_all}
use Rattle.listing.specs.Slicing.{refused_of}
use Rattle.audit.specs.Checking.{audit_on}
use Rattle.image_verify.specs.Verifying.{verify_on}
use Rattle.image_write.specs.Writing.{refusal_of}
use Rattle.nalfipode.specs.Cells.{CellOut}
use Rattle.nalfipode.specs.Changes.{FreshOut, StoreOut, RemoveOut}
use Rattle.nalfipode.specs.Reads.{FetchOut, LongestMatchOut}
use Rattle.nalfipode.specs.Slices.{SliceOut}
use Rattle.nalfipode.specs.Checks.{AuditOut}
use Rattle.nalfipode.specs.Images.{WriteOut, VerifyOut, DescribeOut, LookOut}

pub record NoInputStops : Type 0 where
  -- ---- an answer (0) or a numbered refusal, "given exactly when" paper 01 says so
  pub cell : {longitude latitude : ℤ} {r : ℕ} {values : List ℕ} → CellOut longitude latitude r values → r ≡ cond (in_range longitude latitude) 0 3
  pub fresh : {ws us : List ℕ} {r : ℕ} → FreshOut ws r us → r ≡ cond (is_table (length ws)) 0 1
  pub fetch : {ws bs after values : List ℕ} {k : Prefix} {r : ℕ} → FetchOut ws k bs r after values
      → GivenExactly (first_refusal ws k (length bs)) (0 ∷ 6 ∷ 7 ∷ []) r
  pub longest : {ws bs after values : List ℕ} {k : Prefix} {r : ℕ} → LongestMatchOut ws k bs r after values
      → GivenExactly (first_refusal ws k (length bs)) (0 ∷ 6 ∷ []) r
  pub store : {ws bs us after values : List ℕ} {k : Prefix} {z r : ℕ} → StoreOut ws k z bs r us after values
      → GivenExactly (first_refusal ws k (length bs)) (0 ∷ 6 ∷ 8 ∷ []) r
  pub remove : {ws bs us after values : List ℕ} {k : Prefix} {r : ℕ} → RemoveOut ws k bs r us after values
      → GivenExactly (first_refusal ws k (length bs)) (0 ∷ 6 ∷ 7 ∷ []) r
  pub slice : {ws us after values : List ℕ} {from : Option Prefix} {b r : ℕ} → SliceOut ws from b us r after values
      → GivenExactly (number_of (refused_of (length ws) from b (length us))) (0 ∷ 6 ∷ []) r
  pub check : {ws values : List ℕ} {r : ℕ} → AuditOut ws r values → r ≡ cond (is_table (length ws)) 0 1
  pub image_write : {ws out after values : List ℕ} {epoch r : ℕ} → WriteOut ws epoch out r after values
      → GivenExactly (refusal_of (audit_on ws)) (0 ∷ 5 ∷ []) r
  pub image_check : {bs : List ℕ} {r : ℕ} → VerifyOut bs r → r ≡ cond (verify_on bs) 0 9
  pub image_describe : {bs values : List ℕ} {r : ℕ} → DescribeOut bs r values → OneOf (0 ∷ 9 ∷ []) r
  pub image_look : {bs ks values : List ℕ} {r : ℕ} → LookOut bs ks r values → OneOf (0 ∷ 9 ∷ []) r
  -- ---- "Every refusal leaves the table's words alone." Absent and Full write the trail; "all others return zero
  -- counts and leave every lent byte and word" (a Damaged slice may have written its output)
  pub cell_leaves : {longitude latitude : ℤ} {values : List ℕ} → CellOut longitude latitude 3 values → values ≡ 0 ∷ 0 ∷ 0 ∷ 0 ∷ 0 ∷ []
  pub fresh_leaves : {ws us : List ℕ} {n : ℕ} → FreshOut ws (suc n) us → us ≡ ws
  pub fetch_leaves : {ws bs after values : List ℕ} {k : Prefix} {r : ℕ} → FetchOut ws k bs r after values → leaves_all r ≡ true
      → (values ≡ 0 ∷ 0 ∷ []) × (after ≡ bs)
  pub longest_leaves : {ws bs after values : List ℕ} {k : Prefix} {r : ℕ} → LongestMatchOut ws k bs r after values → leaves_all r ≡ true
      → (values ≡ 0 ∷ 0 ∷ 0 ∷ 0 ∷ []) × (after ≡ bs)
  pub store_leaves : {ws bs us after values : List ℕ} {k : Prefix} {z r : ℕ} → StoreOut ws k z bs r us after values → leaves_all r ≡ true
      → (values ≡ 0 ∷ 0 ∷ 0 ∷ []) × (after ≡ bs)
  pub store_refused : {ws bs us after values : List ℕ} {k : Prefix} {z n : ℕ} → StoreOut ws k z bs (suc n) us after values → us ≡ ws
  pub remove_leaves : {ws bs us after values : List ℕ} {k : Prefix} {r : ℕ} → RemoveOut ws k bs r us after values → leaves_all r ≡ true
      → (values ≡ 0 ∷ 0 ∷ []) × (after ≡ bs)
  pub remove_refused : {ws bs us after values : List ℕ} {k : Prefix} {n : ℕ} → RemoveOut ws k bs (suc n) us after values → us ≡ ws
  pub slice_counts : {ws us after values : List ℕ} {from : Option Prefix} {b n : ℕ} → SliceOut ws from b us (suc n) after values
      → values ≡ 0 ∷ 0 ∷ 0 ∷ []
  pub slice_leaves : {ws us after values : List ℕ} {from : Option Prefix} {b r n : ℕ} → SliceOut ws from b us r after values
      → number_of (refused_of (length ws) from b (length us)) ≡ suc n → after ≡ us
  pub check_counts : {ws values : List ℕ} {n : ℕ} → AuditOut ws (suc n) values → values ≡ 0 ∷ []
  pub image_counts : {ws out after values : List ℕ} {epoch r n : ℕ} → WriteOut ws epoch out r after values → refusal_of (audit_on ws) ≡ suc n
      → values ≡ 0 ∷ []
  pub image_leaves : {ws out after values : List ℕ} {epoch n : ℕ} → WriteOut ws epoch out (suc n) after values → after ≡ out
  pub describe_counts : {bs values : List ℕ} → DescribeOut bs 9 values → values ≡ 0 ∷ 0 ∷ 0 ∷ []
  pub look_counts : {bs ks values : List ℕ} → LookOut bs ks 9 values → values ≡ 0 ∷ 0 ∷ []
