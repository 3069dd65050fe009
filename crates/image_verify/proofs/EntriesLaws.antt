-- The laws of the data section: the checker's test of it is true exactly where the entries of ascending
-- numbers stand there, and then it knows the bytes where they start. No contract cites this file.
--   Entries bs at end zs   the entries of the numbers zs stand from the byte at to before the byte end
-- Assumes nothing.
use Prim.Native.Nat.{ℕ, zero, suc, ◌+◌, ◌^◌, ◌≤◌, ◌<◌}
use native.Mathlib.Nat.{add-zero, add_assoc}
use native.Mathlib.Omega.{arith}
use mathlib.Core.Path.{◌≡◌, refl, sym, ap, ◌∙◌}
use mathlib.Core.Bool.{Bool, true, false, cond}
use mathlib.Core.List.Memᴰ
use mathlib.Core.List.{List, [], ◌∷◌, ◌++◌, append_assoc, Memᴰ}
use lib.Dec.{T, leb, ltb, eqb, leb→le, le→leb, ltb→lt, lt→ltb, eqb→eq}
use lib.ListN.{length, drop, length-append, length-drop}
use lib.Seq.{drop-drop, drop-append_seam}
use borrow.Author.Tests.{le-leb, lt-leb, eq-eqb, ne_eqb, eqb-true, eqb-false}
use Rattle.std.specs.Prelude.{Option, Some, None}
use Rattle.bits.specs.Lists.{all}
use Rattle.bits.proofs.ListsLaws.{T_true, and_left, and_right, and_both, all_imp, all_mem}
use Rattle.image.specs.Bytes.{uint32}
use Rattle.image.specs.Image.{data_of, offset}
use Rattle.image.specs.Ascending.{ascending_numbers}
use Rattle.image.proofs.ZonesLaws.{one_byte}
use Rattle.image_verify.specs.Verifying.{read_on, entries_from, entries_on, starts_at}
use Rattle.image_verify.specs.declared.Entry.{Entry}
use Rattle.image_verify.proofs.ReadLaws.{read_on-entry, Entered, read_on-entered}
use Rattle.image_verify.proofs.Forms.{Reads}

pub record Entries (bs : List ℕ) (at end : ℕ) (zs : List ℕ) : Type 0 where
  pub bytes : drop at bs ≡ data_of zs ++ drop end bs
  pub ends : at + length (data_of zs) ≡ end
  pub ascends : T (ascending_numbers zs)
  pub fit : (z : ℕ) → Memᴰ z zs → z < 2 ^ 32

-- ---- Entries

length-data_of_cons : (z : ℕ) (zs : List ℕ) → length (data_of (z ∷ zs)) ≡ length (uint32 z) + length (data_of zs)
unfolding data_of
length-data_of_cons z zs = length-append (uint32 z) (data_of zs)

-- each entry has a byte
pub length-data_of-le : (zs : List ℕ) → length zs ≤ length (data_of zs)
length-data_of-le [] = omega arith
length-data_of-le (z ∷ zs) = omega (arith, length-data_of_cons z zs, one_byte z, length-data_of-le zs)

module _ (bs : List ℕ) (end : ℕ) where
  entries_none : (at : ℕ) → at ≡ end → Entries bs at end []
  unfolding data_of
  entries_none at e = record { bytes = rw e; ends = omega arith; ascends = tt; fit = λ z i. absurd (Memᴰ.not-nil i) }

  pub entries-tail : (at z : ℕ) (zs : List ℕ) → Entries bs at end (z ∷ zs) → Entries bs (at + length (uint32 z)) end zs
  unfolding data_of
  entries-tail at z zs h = record {
    bytes = sym (drop-drop (length (uint32 z)) at bs) ∙ rw (h.bytes, append_assoc) (drop-append_seam (uint32 z) (data_of zs ++ drop end bs));
    ends = omega (arith, h.ends, length-data_of_cons z zs);
    ascends = and_right (all (ltb z) zs) (ascending_numbers zs) h.ascends;
    fit = λ y i. h.fit y (Memᴰ.tail i);
  }

  pub read_on-entries : (at z : ℕ) (zs : List ℕ) → Entries bs at end (z ∷ zs) → read_on bs at end ≡ Reads (at + length (uint32 z)) z
  unfolding data_of
  read_on-entries at z zs h =
      read_on-entry bs at end z (data_of zs ++ drop end bs) (h.fit z (Memᴰ.head refl)) (h.bytes ∙ append_assoc (uint32 z) (data_of zs) (drop end bs))
      (omega (arith, h.ends, length-data_of_cons z zs))

  pub entries-lt : (at z : ℕ) (zs : List ℕ) → Entries bs at end (z ∷ zs) → at < end
  entries-lt at z zs h = omega (arith, h.ends, length-data_of_cons z zs, one_byte z)

  -- there are no more entries than bytes
  pub length-entries : (at : ℕ) (zs : List ℕ) → Entries bs at end zs → length zs ≤ length bs
  length-entries at zs h =
      omega (arith, length-data_of-le zs, length-append (data_of zs) (drop end bs), ap length h.bytes, length-drop at bs)

  -- ---- entries_on

  above : (z : ℕ) (zs : List ℕ) → T (all (ltb z) zs) → T (all (leb (z + 1)) zs)
  above z zs h = all_imp (ltb z) (leb (z + 1)) (λ x i. le→leb (z + 1) x (omega (arith, ltb→lt z x i))) zs h

  pub entries_on-data : (f at low : ℕ) (zs : List ℕ) → length zs ≤ f → T (all (leb low) zs) → Entries bs at end zs → entries_on f bs at end low ≡ true
  unfolding data_of
  entries_on-data zero at low [] l m h = eq-eqb at end (omega (arith, h.ends))
  entries_on-data (suc f) at low [] l m h = rw (eq-eqb at end (omega (arith, h.ends)))
  entries_on-data zero at low (z ∷ zs) l m h = absurd (omega arith)
  entries_on-data (suc f) at low (z ∷ zs) l m h =
      rw (
        ne_eqb at end (λ q. omega (arith, entries-lt at z zs h)),
        read_on-entries at z zs h,
        T_true (leb low z) (and_left (leb low z) (all (leb low) zs) m),
      )
      (entries_on-data f (at + length (uint32 z)) (z + 1) zs (omega arith) (above z zs (and_left (all (ltb z) zs) (ascending_numbers zs) h.ascends)) (entries-tail at z zs h))

  entries_cons : (at next z : ℕ) (zs : List ℕ) → Entered bs at end next z → T (all (leb (z + 1)) zs) → Entries bs next end zs → Entries bs at end (z ∷ zs)
  unfolding data_of
  entries_cons at next z zs e m h = record {
    bytes = e.bytes ∙ rw h.bytes (sym (append_assoc (uint32 z) (data_of zs) (drop end bs)));
    ends = omega (arith, e.ends, h.ends, length-data_of_cons z zs);
    ascends = and_both (all (ltb z) zs) (ascending_numbers zs) (all_imp (leb (z + 1)) (ltb z) (λ x i. lt→ltb z x (omega (arith, leb→le (z + 1) x i))) zs m) h.ascends;
    fit = fits;
  }
    where
      fits : (y : ℕ) → Memᴰ y (z ∷ zs) → y < 2 ^ 32
      fits y (Memᴰ.head q) = rw q e.fits
      fits y (Memᴰ.tail i) = h.fit y i

  -- the numbers that are read, from low on
  abbrev pub Found : ℕ → ℕ → Type 0
  Found at low = (zs : List ℕ) × Entries bs at end zs × T (all (leb low) zs)

  module _ (small : T (all (λ b. ltb b 256) bs)) (inside : end ≤ length bs) where
    found_from : (f at low : ℕ) (r : Option Entry) → read_on bs at end ≡ r → ((next least : ℕ) → T (entries_on f bs next end least) → Found next least)
        → T (entries_from (λ next least. entries_on f bs next end least) low r) → Found at low
    found_from f at low (Some x) e go h =
        let next : ℕ = x.next in
        let z : ℕ = x.zone in
        let w = go next (z + 1) (and_right (leb low z) (entries_on f bs next end (z + 1)) h) in
        let l = and_left (leb low z) (entries_on f bs next end (z + 1)) h in (
          z ∷ w.0,
          entries_cons at next z w.0 (read_on-entered bs at end small inside next z e) w.2 w.1,
          and_both (leb low z) (all (leb low) w.0) l
              (all_imp (leb (z + 1)) (leb low) (λ x i. le→leb low x (omega (arith, leb→le low z l, leb→le (z + 1) x i))) w.0 w.2),
        )
    found_from f at low None e go h = elim h [ ]

    pub entries_on-found : (f at low : ℕ) → T (entries_on f bs at end low) → Found at low
    entries_on-found zero at low h = ([], entries_none at (eqb→eq at end h), tt)
    entries_on-found (suc f) at low h = go (eqb at end) refl (entries_on-found f) h
      where
        go : (b : Bool) → eqb at end ≡ b → ((next least : ℕ) → T (entries_on f bs next end least) → Found next least)
            → T (cond b true (entries_from (λ next least. entries_on f bs next end least) low (read_on bs at end))) → Found at low
        go true e ih k = ([], entries_none at (eqb-true at end e), tt)
        go false e ih k = found_from f at low (read_on bs at end) refl ih k

  -- ---- starts_at

  pub starts_at-entry : (f at : ℕ) (zs : List ℕ) (z : ℕ) → length zs ≤ f → Entries bs at end zs → Memᴰ z zs → T (starts_at f bs at end (at + offset zs z))
  starts_at-entry f at [] z l h i = absurd (Memᴰ.not-nil i)
  starts_at-entry zero at (y ∷ ys) z l h i = absurd (omega arith)
  starts_at-entry (suc f) at (y ∷ ys) z l h i = go (eqb y z) refl i (starts_at-entry f (at + length (uint32 y)) ys z (omega arith) (entries-tail at y ys h))
    where
      go : (b : Bool) → eqb y z ≡ b → Memᴰ z (y ∷ ys) → (Memᴰ z ys → T (starts_at f bs (at + length (uint32 y)) end (at + length (uint32 y) + offset ys z)))
          → T (starts_at (suc f) bs at end (at + cond b 0 (length (uint32 y) + offset ys z)))
      go true e j ih = rw (lt-leb end at (entries-lt at y ys h), add-zero, le-leb at at (omega arith), eq-eqb at at refl) tt
      go false e (Memᴰ.head q) ih = absurd (eqb-false y z e (sym q))
      go false e (Memᴰ.tail j) ih =
          rw (
            lt-leb end at (entries-lt at y ys h),
            lt-leb (at + (length (uint32 y) + offset ys z)) at (omega (arith, one_byte y)),
            read_on-entries at y ys h,
            ← add_assoc at (length (uint32 y)) (offset ys z),
          )
          (ih j)

  offset-tail : (y : ℕ) (ys : List ℕ) (z : ℕ) → T (ascending_numbers (y ∷ ys)) → Memᴰ z ys → offset (y ∷ ys) z ≡ length (uint32 y) + offset ys z
  offset-tail y ys z h i =
      let l : y < z = ltb→lt y z (all_mem (ltb y) ys (and_left (all (ltb y) ys) (ascending_numbers ys) h) z i) in
      rw (ne_eqb y z (λ q. omega arith))

  pub starts_at_true : (f at : ℕ) (zs : List ℕ) (p : ℕ) → Entries bs at end zs → T (starts_at f bs at end p) → (z : ℕ) × Memᴰ z zs × (p ≡ at + offset zs z)
  unfolding data_of
  starts_at_true (suc f) at [] p h k = absurd (rw (le-leb end at (omega (arith, h.ends))) at k)
  starts_at_true (suc f) at (y ∷ ys) p h k =
      go (leb p at) refl (rw (lt-leb end at (entries-lt at y ys h), read_on-entries at y ys h) at k)
      (starts_at_true f (at + length (uint32 y)) ys p (entries-tail at y ys h))
    where
      go : (b : Bool) → leb p at ≡ b → T (cond b (eqb p at) (starts_at f bs (at + length (uint32 y)) end p))
          → (T (starts_at f bs (at + length (uint32 y)) end p) → (z : ℕ) × Memᴰ z ys × (p ≡ at + length (uint32 y) + offset ys z))
          → (z : ℕ) × Memᴰ z (y ∷ ys) × (p ≡ at + offset (y ∷ ys) z)
      go true e j ih = (y, Memᴰ.head refl, eqb→eq p at j ∙ rw (eq-eqb y y refl, add-zero))
      go false e j ih =
          let w = ih j in
          (w.0, Memᴰ.tail w.1, w.2 ∙ rw (offset-tail y ys w.0 h.ascends w.1) (omega arith))
  starts_at_true zero at zs p h k = elim k [ ]
