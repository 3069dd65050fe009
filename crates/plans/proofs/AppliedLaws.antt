-- The laws of a plan that is written: what then stands in the words, at its links and elsewhere, and that
-- at most three node records change. Paper 00, demand 3. No contract cites this file.
-- Assumes nothing.
use Prim.Native.Nat.{ℕ, ◌+◌, ◌≤◌, ◌<◌}
use native.Mathlib.Omega.{arith}
use mathlib.Core.Path.{◌≡◌, refl, ◌∙◌}
use mathlib.Core.Bool.{Bool, true, false, cond}
use mathlib.Core.List.Memᴰ
use mathlib.Core.List.{List, [], ◌∷◌}
use lib.Dec.{eqb}
use lib.ListN.{length}
use borrow.Author.Tests.{eqb-false, ne_eqb}
use Rattle.records.specs.Layout.{place, record_at, header_at, with_record, with_header}
use Rattle.records.specs.Inside.{Inside}
use Rattle.records.proofs.LayoutLaws.{length-with_record, record_at-with_record_same, record_at-with_record_other, header_at-with_record, length-with_header, record_at-with_header, header_at-with_header}
use Rattle.plans.specs.Planning.{wrote, applied}
use Rattle.plans.specs.Making.{Fitting}
use Rattle.plans.specs.Limits.{ThreeRecords}
use Rattle.plans.specs.Plans.{Write, Plan}

-- ---- wrote

wrote_at : (P : List ℕ → Type 0) (b : Bool) (ws : List ℕ) (w : Write) → eqb w.link 0 ≡ b → P ws
    → (0 < w.link → P (with_record ws w.link w.content)) → P (cond b ws (with_record ws w.link w.content))
wrote_at P true ws w e none some = none
wrote_at P false ws w e none some = let h = eqb-false w.link 0 e in some (omega arith)

-- what is so with no write, and with one above the header, is so
wrote-cases : (P : List ℕ → Type 0) (ws : List ℕ) (w : Write) → P ws
    → (0 < w.link → P (with_record ws w.link w.content)) → P (wrote ws w)
unfolding wrote
wrote-cases P ws w = wrote_at P (eqb w.link 0) ws w refl

pub length-wrote : (ws : List ℕ) (w : Write) → length (wrote ws w) ≡ length ws
length-wrote ws w =
    wrote-cases (λ (us : List ℕ). length us ≡ length ws) ws w refl (λ h. length-with_record ws w.link w.content)

pub record_at-wrote_same : (ws : List ℕ) (w : Write) → 0 < w.link → Inside ws w.link → record_at (wrote ws w) w.link ≡ w.content
unfolding wrote
record_at-wrote_same ws w h i = rw (ne_eqb w.link 0 (omega arith)) (record_at-with_record_same ws w.link w.content i)

pub record_at-wrote_other : (ws : List ℕ) (w : Write) (l : ℕ) → (l ≡ w.link → ⊥) → 0 < l → record_at (wrote ws w) l ≡ record_at ws l
record_at-wrote_other ws w l d h =
    wrote-cases (λ (us : List ℕ). record_at us l ≡ record_at ws l) ws w refl
    (λ f. record_at-with_record_other ws w.link w.content l d)

pub header_at-wrote : (ws : List ℕ) (w : Write) → header_at (wrote ws w) ≡ header_at ws
header_at-wrote ws w =
    wrote-cases (λ (us : List ℕ). header_at us ≡ header_at ws) ws w refl (λ h. header_at-with_record ws w.link w.content h)

inside-wrote : (ws : List ℕ) (w : Write) (l : ℕ) → Inside ws l → Inside (wrote ws w) l
inside-wrote ws w l i = record { fits = rw (length-wrote ws w) i.fits }

-- ---- applied

-- the words of a plan on the way: with the header, with the first write, with the second
abbrev headed : List ℕ → Plan → List ℕ
headed ws p = with_header ws p.header

abbrev with_one : List ℕ → Plan → List ℕ
with_one ws p = wrote (headed ws p) p.one

abbrev with_two : List ℕ → Plan → List ℕ
with_two ws p = wrote (with_one ws p) p.two

inside-headed : (ws : List ℕ) (p : Plan) (l : ℕ) → place l + 8 ≤ length ws → Inside (headed ws p) l
inside-headed ws p l h = record { fits = rw (length-with_header ws p.header) h }

module _ (ws : List ℕ) (p : Plan) where
  pub length-applied : length (applied ws p) ≡ length ws
  unfolding applied
  length-applied =
      length-wrote (with_two ws p) p.three ∙ length-wrote (with_one ws p) p.two ∙ length-wrote (headed ws p) p.one
      ∙ length-with_header ws p.header

  pub header_at-applied : 16 ≤ length ws → header_at (applied ws p) ≡ p.header
  unfolding applied
  header_at-applied h =
      header_at-wrote (with_two ws p) p.three ∙ header_at-wrote (with_one ws p) p.two ∙ header_at-wrote (headed ws p) p.one
      ∙ header_at-with_header ws p.header h

  pub record_at-applied_other : (l : ℕ) → 0 < l → (l ≡ p.one.link → ⊥) → (l ≡ p.two.link → ⊥) → (l ≡ p.three.link → ⊥)
      → record_at (applied ws p) l ≡ record_at ws l
  unfolding applied
  record_at-applied_other l h a b c =
      record_at-wrote_other (with_two ws p) p.three l c h ∙ record_at-wrote_other (with_one ws p) p.two l b h
      ∙ record_at-wrote_other (headed ws p) p.one l a h ∙ record_at-with_header ws p.header l h

  pub record_at-applied_one : Fitting ws p → 0 < p.one.link → (p.one.link ≡ p.two.link → ⊥) → (p.one.link ≡ p.three.link → ⊥)
      → record_at (applied ws p) p.one.link ≡ p.one.content
  unfolding applied
  record_at-applied_one f h b c =
      record_at-wrote_other (with_two ws p) p.three p.one.link c h ∙ record_at-wrote_other (with_one ws p) p.two p.one.link b h
      ∙ record_at-wrote_same (headed ws p) p.one h (inside-headed ws p p.one.link f.one)

  pub record_at-applied_two : Fitting ws p → 0 < p.two.link → (p.two.link ≡ p.three.link → ⊥)
      → record_at (applied ws p) p.two.link ≡ p.two.content
  unfolding applied
  record_at-applied_two f h c =
      let i = inside-wrote (headed ws p) p.one p.two.link (inside-headed ws p p.two.link f.two) in
      record_at-wrote_other (with_two ws p) p.three p.two.link c h ∙ record_at-wrote_same (with_one ws p) p.two h i

  pub record_at-applied_three : Fitting ws p → 0 < p.three.link → record_at (applied ws p) p.three.link ≡ p.three.content
  unfolding applied
  record_at-applied_three f h =
      let i = inside-wrote (headed ws p) p.one p.three.link (inside-headed ws p p.three.link f.three) in
      record_at-wrote_same (with_two ws p) p.three h (inside-wrote (with_one ws p) p.two p.three.link i)

-- ---- ThreeRecords

pub three_refl : (ws : List ℕ) → ThreeRecords ws ws
three_refl ws = record { links = []; few = omega arith; same = λ l h out. refl; same_length = refl }

pub applied_three : (ws : List ℕ) (p : Plan) → ThreeRecords ws (applied ws p)
applied_three ws p =
    record {
      links = p.one.link ∷ p.two.link ∷ p.three.link ∷ [];
      few = omega arith;
      same =
          λ l h out. record_at-applied_other ws p l h (λ e. out (Memᴰ.head e)) (λ e. out (Memᴰ.tail (Memᴰ.head e)))
          (λ e. out (Memᴰ.tail (Memᴰ.tail (Memᴰ.head e))));
      same_length = length-applied ws p;
    }
