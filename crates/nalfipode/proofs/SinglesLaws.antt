-- Each promise to C admits one number, one list of values, and one content of everything lent: two outcomes
-- that meet it are equal, on any words.
-- Assumes nothing.
use Prim.Native.Nat.{ℕ}
use mathlib.Core.Path.{◌≡◌, sym, ap, ◌∙◌}
use mathlib.Core.List.{List}
use Rattle.std.specs.Prelude.{Option}
use lib.IntN.{ℤ}
use Rattle.refusals.specs.Refusals.{number_of}
use Rattle.prefix.specs.declared.Prefix.{Prefix}
use Rattle.ground.specs.Cells as ground
use Rattle.lookup.specs.Fetching as fetching
use Rattle.lookup.specs.Matching as matching
use Rattle.lookup.proofs.FetchingLaws.{fetch_single}
use Rattle.lookup.proofs.MatchingLaws.{longest_single}
use Rattle.audit.specs.Checking as checking
use Rattle.audit.proofs.PromiseLaws.{check_single}
use Rattle.edits.specs.Storing as storing
use Rattle.edits.specs.Removing as removing
use Rattle.edits.proofs.StoringLaws.{store_single}
use Rattle.edits.proofs.RemovingLaws.{remove_single}
use Rattle.listing.specs.Slicing as slicing
use Rattle.listing.proofs.SlicingLaws.{slice_single}
use Rattle.image_lookup.specs.Looking as looking
use Rattle.image_lookup.proofs.LookingLaws.{look_single}
use Rattle.image_verify.specs.Describing as describing
use Rattle.refusals.specs.Refusals.{number_of}
use Rattle.image_write.specs.Writing as writing
use Rattle.nalfipode.specs.Cells.{CellOut}
use Rattle.nalfipode.specs.Changes.{FreshOut, StoreOut, RemoveOut}
use Rattle.nalfipode.specs.Reads.{FetchOut, LongestMatchOut}
use Rattle.nalfipode.specs.Slices.{SliceOut}
use Rattle.nalfipode.specs.Checks.{AuditOut}
use Rattle.nalfipode.specs.Images.{WriteOut, VerifyOut, DescribeOut, LookOut}
use Rattle.image_write.proofs.SingleLaws.{write_single}

-- a number or a list of values that two answers give, where these are equal
pub alike : {A B : Type 0} (f : A → B) {x y : A} {a b : B} → a ≡ f x → b ≡ f y → x ≡ y → a ≡ b
alike f p q e = p ∙ ap f e ∙ sym q

pub cell_out_single : {longitude latitude : ℤ} {r q : ℕ} {xs ys : List ℕ} → CellOut longitude latitude r xs → CellOut longitude latitude q ys
    → (r ≡ q) × (xs ≡ ys)
cell_out_single x y =
    let e = x.promise.answer ∙ sym y.promise.answer in
    (alike number_of x.number y.number e, alike ground.values_of x.listed y.listed e)

pub fresh_out_single : {ws us vs : List ℕ} {r q : ℕ} → FreshOut ws r us → FreshOut ws q vs → (r ≡ q) × (us ≡ vs)
fresh_out_single x y =
    let e = x.promise.answer ∙ sym y.promise.answer in
    (alike number_of x.number y.number e, x.promise.words ∙ sym y.promise.words)

module _ {ws : List ℕ} {k : Prefix} {bs : List ℕ} {r q : ℕ} where
  pub store_out_single : {z : ℕ} {us vs as' bs' xs ys : List ℕ} → StoreOut ws k z bs r us as' xs → StoreOut ws k z bs q vs bs' ys
      → (r ≡ q) × (xs ≡ ys) × (us ≡ vs) × (as' ≡ bs')
  store_out_single x y =
      let s = store_single _ _ _ _ _ _ _ _ _ _ x.promise y.promise in
      (alike number_of x.number y.number s.0, alike storing.values_of x.listed y.listed s.0, s.1, s.2)

  pub remove_out_single : {us vs as' bs' xs ys : List ℕ} → RemoveOut ws k bs r us as' xs → RemoveOut ws k bs q vs bs' ys
      → (r ≡ q) × (xs ≡ ys) × (us ≡ vs) × (as' ≡ bs')
  remove_out_single x y =
      let s = remove_single _ _ _ _ _ _ _ _ _ x.promise y.promise in
      (alike number_of x.number y.number s.0, alike removing.values_of x.listed y.listed s.0, s.1, s.2)

  pub fetch_out_single : {as' bs' xs ys : List ℕ} → FetchOut ws k bs r as' xs → FetchOut ws k bs q bs' ys
      → (r ≡ q) × (xs ≡ ys) × (as' ≡ bs')
  fetch_out_single x y =
      let s = fetch_single _ _ _ _ _ _ _ x.promise y.promise in
      (alike number_of x.number y.number s.0, alike fetching.values_of x.listed y.listed s.0, s.1)

  pub longest_match_out_single : {as' bs' xs ys : List ℕ} → LongestMatchOut ws k bs r as' xs → LongestMatchOut ws k bs q bs' ys
      → (r ≡ q) × (xs ≡ ys) × (as' ≡ bs')
  longest_match_out_single x y =
      let s = longest_single _ _ _ _ _ _ _ x.promise y.promise in
      (alike number_of x.number y.number s.0, alike matching.values_of x.listed y.listed s.0, s.1)

module _ {ws : List ℕ} {resume : Option Prefix} {b : ℕ} {us : List ℕ} {r q : ℕ} where
  pub slice_out_single : {as' bs' xs ys : List ℕ} → SliceOut ws resume b us r as' xs → SliceOut ws resume b us q bs' ys
      → (r ≡ q) × (xs ≡ ys) × (as' ≡ bs')
  slice_out_single x y =
      let s = slice_single _ _ _ _ _ _ _ _ x.promise y.promise in
      (alike number_of x.number y.number s.0, alike slicing.values_of x.listed y.listed s.0, s.1)

pub audit_out_single : {ws : List ℕ} {r q : ℕ} {xs ys : List ℕ} → AuditOut ws r xs → AuditOut ws q ys → (r ≡ q) × (xs ≡ ys)
audit_out_single x y =
    let e = check_single _ _ _ x.promise y.promise in
    (alike number_of x.number y.number e, alike checking.values_of x.listed y.listed e)

pub write_out_single : {ws : List ℕ} {epoch : ℕ} {out : List ℕ} {r q : ℕ} {as' bs' xs ys : List ℕ} → WriteOut ws epoch out r as' xs
    → WriteOut ws epoch out q bs' ys → (r ≡ q) × (xs ≡ ys) × (as' ≡ bs')
write_out_single x y =
    let s = write_single _ _ _ _ _ _ _ x.promise y.promise in
    (alike number_of x.number y.number s.0, alike writing.values_of x.listed y.listed s.0, s.1)

pub verify_out_single : {bs : List ℕ} {r q : ℕ} → VerifyOut bs r → VerifyOut bs q → r ≡ q
verify_out_single x y = alike number_of x.number y.number (x.promise.answer ∙ sym y.promise.answer)

pub describe_out_single : {bs : List ℕ} {r q : ℕ} {xs ys : List ℕ} → DescribeOut bs r xs → DescribeOut bs q ys → (r ≡ q) × (xs ≡ ys)
describe_out_single x y =
    let e = x.promise.answer ∙ sym y.promise.answer in
    (alike number_of x.number y.number e, alike describing.values_of x.listed y.listed e)

pub look_out_single : {bs ks : List ℕ} {r q : ℕ} {xs ys : List ℕ} → LookOut bs ks r xs → LookOut bs ks q ys → (r ≡ q) × (xs ≡ ys)
look_out_single x y =
    let e = look_single _ _ _ _ x.promise y.promise in
    (alike number_of x.number y.number e, alike looking.values_of x.listed y.listed e)
