-- The laws of the longest match: it is the widest stored prefix of the key, and no other. No contract cites
-- this file.
-- Assumes nothing.
use Prim.Native.Nat.{◌≤◌, ◌<◌}
use native.Mathlib.Nat.{le_antisymm}
use native.Mathlib.Omega.{arith}
use mathlib.Core.Path.{◌≡◌, refl, sym, ap, ◌∙◌, subst}
use mathlib.Core.Logic.{inl, inr}
use mathlib.Core.Bool.{Bool, true, false, cond}
use mathlib.Core.List.Memᴰ
use mathlib.Core.List.{List, [], ◌∷◌, Memᴰ}
use mathlib.Core.Option.{Option, none, some, some-injective, some-ne-none, none-ne-some}
use borrow.Author.Tests.{le-leb, leb-true, leb-false}
use lib.Dec.{T, leb}
use lib.ListN.{length}
use Rattle.bits.specs.Lists.{all, keep, last, last_or}
use Rattle.bits.specs.Bits.{Bits, is_prefix, before, rising}
use Rattle.bits.proofs.ListsLaws.{and_left, and_right, all-keep_same, mem-keep, keep_mem}
use Rattle.bits.proofs.BitsLaws.{before_length, is_prefix_same}
use Rattle.bits.proofs.RisingLaws.{rising-keep}
use Rattle.zones.specs.Maps.{Entry, Map, keys, ascending, get, wider, widest, longest_match, Longest}
use Rattle.zones.proofs.MapsLaws.{keys-keep, get_mem}

last-all : (g : Bits → Bool) (e : Entry) (m : Map) → T (all g (keys (e ∷ m))) → T (g (last_or e m).key)
unfolding keys
last-all g e [] h = and_left (g e.key) true h
last-all g e (f ∷ m) h = last-all g f m (and_right (g e.key) (all g (keys (f ∷ m))) h)

widest-last : (k : Bits) (m : Map) → T (rising (keys m)) → T (all (λ p. is_prefix p k) (keys m)) → widest m ≡ last m
unfolding keys
widest-last k [] r h = refl
widest-last k (e ∷ []) r h = refl
widest-last k (e ∷ (f ∷ m)) r h =
    let ks : List Bits = keys (f ∷ m) in
    let ht : T (all (λ p. is_prefix p k) ks) = and_right (is_prefix e.key k) (all (λ p. is_prefix p k) ks) h in
    let g : Bits = (last_or f m).key in
    let l : length e.key < length g =
    before_length k e.key g (and_left (is_prefix e.key k) (all (λ p. is_prefix p k) ks) h) (last-all (λ p. is_prefix p k) f m ht)
    (last-all (before e.key) f m (and_left (all (before e.key) ks) (rising ks) r)) in
    ap (wider e) (widest-last k (f ∷ m) (and_right (all (before e.key) ks) (rising ks) r) ht)
    ∙ rw (le-leb (length e.key) (length g) (omega arith))

pub longest_match-last : (k : Bits) (m : Map) → T (ascending m) → longest_match k m ≡ last (keep (λ e. is_prefix e.key k) m)
unfolding longest_match ascending
longest_match-last k m h =
    widest-last k (keep (λ e. is_prefix e.key k) m)
    (rw (keys-keep (λ p. is_prefix p k) m) (rising-keep (λ p. is_prefix p k) (keys m) h))
    (rw (keys-keep (λ p. is_prefix p k) m) (all-keep_same (λ p. is_prefix p k) (keys m)))

-- ---- longest_match

-- e is one of m, and none is wider
record Widest (m : Map) (e : Entry) : Type 0 where
  there : Memᴰ e m
  most : (f : Entry) → Memᴰ f m → length f.key ≤ length e.key

widest-wider : (b : Bool) (e d g : Entry) (m : Map) → leb (length e.key) (length d.key) ≡ b → Widest m d → cond b (some d) (some e) ≡ some g → Widest (e ∷ m) g
widest-wider true e d g m c w q =
    let eq : d ≡ g = some-injective d g q in
    subst (λ (x : Entry). Widest (e ∷ m) x) eq
    (record { there = Memᴰ.tail w.there; most = λ f i. at f i })
  where
    at : (f : Entry) → Memᴰ f (e ∷ m) → length f.key ≤ length d.key
    at f (Memᴰ.head h) = rw h (leb-true (length e.key) (length d.key) c)
    at f (Memᴰ.tail i) = w.most f i
widest-wider false e d g m c w q =
    let eq : e ≡ g = some-injective e g q in
    subst (λ (x : Entry). Widest (e ∷ m) x) eq
    (record { there = Memᴰ.head refl; most = λ f i. at f i })
  where
    at : (f : Entry) → Memᴰ f (e ∷ m) → length f.key ≤ length e.key
    at f (Memᴰ.head h) = rw h (omega arith)
    at f (Memᴰ.tail i) = omega (arith, w.most f i, leb-false (length e.key) (length d.key) c)

widest-none : (m : Map) → widest m ≡ none → m ≡ []
widest-none [] q = refl
widest-none (e ∷ m) q = at (widest m) q
  where
    pick : (b : Bool) (d : Entry) → cond b (some d) (some e) ≡ none → (e ∷ m) ≡ []
    pick true d h = absurd (some-ne-none d h)
    pick false d h = absurd (some-ne-none e h)

    at : (o : Option Entry) → wider e o ≡ none → (e ∷ m) ≡ []
    at none h = absurd (some-ne-none e h)
    at (some d) h = pick (leb (length e.key) (length d.key)) d h

widest_some : (m : Map) (g : Entry) → widest m ≡ some g → Widest m g
widest_some [] g q = absurd (none-ne-some g q)
widest_some (e ∷ m) g q = at (widest m) refl q (λ d. widest_some m d)
  where
    alone : m ≡ [] → e ≡ g → Widest (e ∷ m) g
    alone n s =
        record {
          there = Memᴰ.head (sym s);
          most = λ f i. elim (Memᴰ.cases_cons i) [
            | inl h ↦ omega (arith, ap (λ (x : Entry). length x.key) (h ∙ s))
            | inr j ↦ absurd (Memᴰ.not-nil (subst (λ (l : Map). Memᴰ f l) n j))
          ];
        }

    at : (o : Option Entry) → widest m ≡ o → wider e o ≡ some g → ((d : Entry) → widest m ≡ some d → Widest m d) → Widest (e ∷ m) g
    at none h q ih = alone (widest-none m h) (some-injective e g q)
    at (some d) h q ih = widest-wider (leb (length e.key) (length d.key)) e d g m refl (ih d h) q

-- the answer is the widest stored prefix of the key
pub longest_match_some : (k : Bits) (m : Map) (e : Entry) → longest_match k m ≡ some e → Longest k m e
unfolding longest_match
longest_match_some k m e q =
    let w = widest_some (keep (λ x. is_prefix x.key k) m) e q in
    let i = keep_mem (λ x. is_prefix x.key k) m e w.there in
    record { stored = i.0; prefix = i.1; widest = λ f j h. w.most f (mem-keep (λ x. is_prefix x.key k) m f j h) }

-- "no match": no stored prefix is a prefix of the key
pub longest_match-none : (k : Bits) (m : Map) → longest_match k m ≡ none → (f : Entry) → Memᴰ f m → T (is_prefix f.key k) → ⊥
unfolding longest_match
longest_match-none k m q f i h =
    Memᴰ.not-nil (subst (λ (l : Map). Memᴰ f l) (widest-none (keep (λ x. is_prefix x.key k) m) q) (mem-keep (λ x. is_prefix x.key k) m f i h))

-- and there is no other
pub longest_same : (k : Bits) (m : Map) (e f : Entry) → T (ascending m) → Longest k m e → Longest k m f → e ≡ f
longest_same k m e f a p q =
    let l : length e.key ≡ length f.key =
    le_antisymm (q.widest e p.stored p.prefix) (p.widest f q.stored q.prefix) in
    let s : e.key ≡ f.key = is_prefix_same e.key f.key k p.prefix q.prefix l in
    let z : e.zone ≡ f.zone =
    some-injective e.zone f.zone (sym (get_mem e m a p.stored) ∙ ap (λ (x : Bits). get x m) s ∙ get_mem f m a q.stored) in
    λ i. record { key = s i; zone = z i }

pub longest-longest_match : (k : Bits) (m : Map) (e : Entry) → T (ascending m) → Longest k m e → longest_match k m ≡ some e
longest-longest_match k m e a p = at (longest_match k m) refl
  where
    at : (o : Option Entry) → longest_match k m ≡ o → o ≡ some e
    at none q = absurd (longest_match-none k m q e p.stored p.prefix)
    at (some f) q = ap {B = Option Entry} some (longest_same k m f e a (longest_match_some k m f q) p)
