-- The laws of writing an edit as its plan has it, over any words: a link that is hung and the records written
-- after it, and a plan of one record. No contract cites this file.
-- Assumes nothing.
use Prim.Native.Nat.{ℕ, ◌<◌}
use native.Mathlib.Omega.{arith}
use mathlib.Core.Path.{◌≡◌, refl, sym, ap, ◌∙◌}
use mathlib.Core.List.{List}
use lib.ListN.{length}
use borrow.Author.Tests.{ne_eqb}
use Rattle.std.specs.Prelude.{Result, Ok, Err}
use Rattle.prefix.specs.declared.Prefix.{Prefix}
use Rattle.records.specs.Layout.{header_at, with_record, with_header}
use Rattle.records.specs.Inside.{Inside}
use Rattle.records.specs.declared.Record.{Record}
use Rattle.records.specs.declared.Header.{Header}
use Rattle.records.proofs.LayoutLaws.{length-with_record, length-with_header, with_header-header_at}
use Rattle.plans.specs.Plans.{Write, Hung}
use Rattle.plans.specs.Planning.{nowhere_of, wrote, applied, hang_on, plan_of}
use Rattle.plans.specs.Making.{Makes, made_of, hung_by, Hangs, Taken}
use Rattle.plans.specs.declared.Unmade.{Unmade}
use Rattle.plans.proofs.AppliedLaws.{length-wrote}

-- ---- wrote

pub with_record-wrote : (ws : List ℕ) (l : ℕ) (y : Record) → 0 < l → with_record ws l y ≡ wrote ws (record { link = l; content = y })
unfolding wrote
with_record-wrote ws l y h = rw (ne_eqb l 0 (omega arith))

pub wrote-nowhere : (ws : List ℕ) → ws ≡ wrote ws nowhere_of
unfolding wrote nowhere_of
wrote-nowhere ws = refl

-- ---- Taken

pub inside-taken : (ws : List ℕ) (l : ℕ) → Taken ws l → Inside ws l
inside-taken ws l t = record { fits = t.inside }

pub inside-with_header : (ws us : List ℕ) (h : Header) (l : ℕ) → us ≡ with_header ws h → Taken ws l → Inside us l
inside-with_header ws us h l e t = record { fits = rw (e, length-with_header ws h) t.inside }

pub inside-with_record : (us vs : List ℕ) (a : ℕ) (y : Record) (l : ℕ) → vs ≡ with_record us a y → Inside us l → Inside vs l
inside-with_record us vs a y l e i = record { fits = rw (e, length-with_record us a y) i.fits }

-- ---- Makes, of a refusal and of a plan of one record

pub makes_single : (ws vs : List ℕ) (l : ℕ) (y : Record) → vs ≡ with_record ws l y → 0 < l
    → Makes ws (Ok (record { header = header_at ws; one = record { link = l; content = y }; two = nowhere_of; three = nowhere_of })) (Ok tt) vs
unfolding applied
makes_single ws vs l y e h =
    record {
      answer = refl;
      words = rw (with_header-header_at ws) (e ∙ with_record-wrote ws l y h ∙ wrote-nowhere _ ∙ wrote-nowhere _);
    }

-- ---- Hangs, where us is left by it: what is then inside, and what it makes of a plan

module _ {ws us : List ℕ} {k : Prefix} {at l spare : ℕ} {r : Result Unit Unmade} (h : Hangs ws k at l spare r us) where
  length-hung : length us ≡ length ws
  length-hung = rw h.words (by (hang_on ws (header_at ws).root k at l))
    where
      by : (x : Result Hung Unmade) → length (hung_by ws spare x) ≡ length ws
      by (Ok x) = length-wrote (with_header ws _) x.one ∙ length-with_header ws _
      by (Err d) = refl

  pub inside-hung : {a : ℕ} → Taken ws a → Inside us a
  inside-hung t = record { fits = rw length-hung t.inside }

  hung_done : (two three : Write) (vs : List ℕ) → vs ≡ wrote (wrote us two) three → r ≡ Ok tt
      → Makes ws (plan_of (hang_on ws (header_at ws).root k at l) spare two three) (Ok tt) vs
  unfolding applied
  hung_done two three vs f t = by (hang_on ws (header_at ws).root k at l) (sym t ∙ h.answer) h.words
    where
      by : (x : Result Hung Unmade) → Ok tt ≡ made_of x → us ≡ hung_by ws spare x → Makes ws (plan_of x spare two three) (Ok tt) vs
      by (Ok x) e d = record { answer = refl; words = f ∙ ap (λ (xs : List ℕ). wrote (wrote xs two) three) d }
      by (Err c) e d = record { answer = cc; words = cc }

  module _ (go : r ≡ Ok tt) (a : ℕ) (y : Record) {vs : List ℕ} (e : vs ≡ with_record us a y) (t : Taken ws a) where
    pub hung_one : Makes ws (plan_of (hang_on ws (header_at ws).root k at l) spare (record { link = a; content = y }) nowhere_of) (Ok tt) vs
    hung_one = hung_done _ nowhere_of vs (e ∙ with_record-wrote us a y t.some ∙ wrote-nowhere _) go

    pub hung_two : (c : ℕ) (x : Record) {xs : List ℕ} → xs ≡ with_record vs c x → Taken ws c
        → Makes ws (plan_of (hang_on ws (header_at ws).root k at l) spare (record { link = a; content = y }) (record { link = c; content = x })) (Ok tt) xs
    hung_two c x {xs} f u =
        let first = e ∙ with_record-wrote us a y t.some in
        hung_done _ _ xs (f ∙ ap (λ (zs : List ℕ). with_record zs c x) first ∙ with_record-wrote _ c x u.some) go
