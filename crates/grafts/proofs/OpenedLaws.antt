-- The laws of words that hold a map, opened at a place of its tree: the links below the place, above it and
-- in the chain of spare records differ from each other and have room; and what stands in the words once a
-- link is hung in the place and two records aside are written. No contract cites this file.
--   times_in l          how often the link l stands below the place, above it, and in the chain
--   Aside w             the write w is to a record neither above nor below the place, or to none
--   Hangs               what holds of words with a link hung in the place
-- Assumes nothing.
use Prim.Native.Nat.{ℕ, ◌+◌, ◌≤◌, ◌<◌}
use native.Mathlib.Omega.{arith}
use mathlib.Core.Path.{◌≡◌, refl, sym, ap, ◌∙◌, subst}
use mathlib.Core.List.{List, ◌++◌, Memᴰ}
use lib.ListN.{length}
use borrow.Author.Tests.{eq-eqb}
use Rattle.zones.specs.Maps.{Map}
use Rattle.zones.specs.Tree.{Tree}
use Rattle.zones.specs.Focus.{Context, top, into, plug, link_at}
use Rattle.records.specs.Layout.{place, record_at, header_at}
use Rattle.records.specs.Holds.{labels, Linked, Chained, times, Holds}
use Rattle.records.specs.declared.Record.{Record}
use Rattle.records.proofs.OnceLaws.{times-append, mem-times, times_mem, once-bounds, once_most}
use Rattle.records.proofs.HoldsLaws.{linked_ext, chained_ext}
use Rattle.records.proofs.GraftLaws.{labels_above, times-plug, Framed, Opened, linked-plug}
use Rattle.plans.specs.Planning.{nowhere_of, applied}
use Rattle.plans.specs.Making.{Fitting}
use Rattle.plans.specs.Plans.{Write}
use Rattle.plans.proofs.AppliedLaws.{header_at-applied, record_at-applied_one, record_at-applied_other}
use Rattle.grafts.proofs.HangLaws.{hang_write, Hanged, framed-hang}
use Rattle.grafts.proofs.PlanHoldsLaws.{hang_plan}

-- ---- hang_write

pub link-hang_write : (ws : List ℕ) (c : Context ℕ) (l : ℕ) → (hang_write ws c l).link ≡ link_at 0 c
unfolding nowhere_of
link-hang_write ws top l = refl
link-hang_write ws (into a p v x o c) l = refl

-- a link that does not stand above the place is not the first one above it
pub aside-link_at : (c : Context ℕ) (b : ℕ) → 0 < b → times b (labels_above c) ≡ 0 → b ≡ link_at 0 c → ⊥
aside-link_at top b h n e = omega arith
aside-link_at (into a p v x o c) b h n e = let i = rw (eq-eqb b a e) at n in omega arith

hang_plan-hanged : (ws : List ℕ) (c : Context ℕ) (l next : ℕ) (two three : Write) → Fitting ws (hang_plan ws c l next two three)
    → ((b : ℕ) → 1 ≤ times b (labels_above c) → (0 < b) × (b ≡ two.link → ⊥) × (b ≡ three.link → ⊥))
    → Hanged ws (applied ws (hang_plan ws c l next two three)) c l
hang_plan-hanged ws top l next two three f g = tt
hang_plan-hanged ws (into a p v x o c) l next two three f g =
    let d = g a (rw (eq-eqb a a refl) (omega arith)) in
    record_at-applied_one ws (hang_plan ws (into a p v x o c) l next two three) f d.0 d.1 d.2

-- ---- Holds

pub chained_as : {ws : List ℕ} {m : Map} (h : Holds ws m) (ls : List ℕ) → h.chain ≡ ls
    → Chained (record_at ws) (header_at ws).spare ls
chained_as {ws} h ls e = subst (λ (l : List ℕ). Chained (record_at ws) (header_at ws).spare l) e h.chained

module _ {ws : List ℕ} {m : Map} (h : Holds ws m) (c : Context ℕ) (u : Tree ℕ) (is : h.tree ≡ plug c u) where
  pub opened_at : Opened (record_at ws) (header_at ws).root c u
  opened_at =
      linked-plug (record_at ws) (header_at ws).root c u
      (subst (λ (t : Tree ℕ). Linked (record_at ws) (header_at ws).root t) is h.linked)

  -- how often a link stands below the place, above it, and in the chain
  abbrev pub times_in : ℕ → ℕ
  times_in l = times l (labels u) + times l (labels_above c) + times l h.chain

  times-opened : (l : ℕ) → times l (labels h.tree ++ h.chain) ≡ times_in l
  times-opened l = times-append l (labels h.tree) h.chain ∙ rw (is, times-plug)

  pub opened_once : (l : ℕ) → times_in l ≤ 1
  opened_once l = rw times-opened at (once_most h.records (labels h.tree ++ h.chain) h.once l)

  pub opened-bounds : (l : ℕ) → 1 ≤ times_in l → (0 < l) × (place l + 8 ≤ length ws)
  opened-bounds l i =
      let b = once-bounds h.records (labels h.tree ++ h.chain) h.once l (times_mem l _ (rw times-opened i)) in
      (b.0, omega (arith, h.length_is))

  pub long-enough : 16 ≤ length ws
  long-enough = omega (arith, h.length_is, h.some_records)

  -- ---- Aside

  pub record Aside (w : Write) : Type 0 where
    pub fits : place w.link + 8 ≤ length ws
    pub below : times w.link (labels u) ≡ 0
    pub above : times w.link (labels_above c) ≡ 0

  pub times-nowhere : times_in nowhere_of.link ≡ 0
  unfolding nowhere_of
  times-nowhere = rw times-opened at (h.once 0)

  pub aside-nowhere : Aside nowhere_of
  unfolding nowhere_of
  aside-nowhere =
      let n : times_in 0 ≡ 0 = times-nowhere in
      record { fits = omega (arith, long-enough); below = omega arith; above = omega arith }

  pub aside-chain : (a : ℕ) (r : Record) → Memᴰ a h.chain → Aside (record { link = a; content = r })
  aside-chain a r i =
      let n = mem-times a h.chain i in
      let o = opened_once a in
      record { fits = (opened-bounds a (omega arith)).1; below = omega arith; above = omega arith }

  -- ---- hang_plan

  -- the words us have l in the place and `next` as the first spare record, and what two writes aside leave
  pub record Hangs (l next : ℕ) (two three : Write) (us : List ℕ) : Type 0 where
    pub fitting : Fitting ws (hang_plan ws c l next two three)
    pub framed : Framed (record_at us) (header_at us).root c l
    pub spare : (header_at us).spare ≡ next
    pub linked : (i : ℕ) → Linked (record_at ws) i u → Linked (record_at us) i u
    pub chained : (i : ℕ) (ls : List ℕ) → ((b : ℕ) → times b ls ≤ times b h.chain) → times two.link ls ≡ 0
        → times three.link ls ≡ 0 → Chained (record_at ws) i ls → Chained (record_at us) i ls

  module _ (l next : ℕ) (two three : Write) (aside-two : Aside two) (aside-three : Aside three) where
    abbrev after : List ℕ
    after = applied ws (hang_plan ws c l next two three)

    fits-hang_write : (d : Context ℕ) → ((b : ℕ) → 1 ≤ times b (labels_above d) → place b + 8 ≤ length ws)
        → place (hang_write ws d l).link + 8 ≤ length ws
    unfolding nowhere_of
    fits-hang_write top f = omega (arith, long-enough)
    fits-hang_write (into a p v x o d) f = f a (rw (eq-eqb a a refl) (omega arith))

    hang_plan-fitting : Fitting ws (hang_plan ws c l next two three)
    hang_plan-fitting =
        record {
          header = long-enough;
          one = fits-hang_write c (λ b i. (opened-bounds b (omega arith)).1);
          two = aside-two.fits;
          three = aside-three.fits;
        }

    hang_plan_same : (b : ℕ) → 0 < b → times b (labels_above c) ≡ 0 → (b ≡ two.link → ⊥) → (b ≡ three.link → ⊥)
        → record_at after b ≡ record_at ws b
    hang_plan_same b i n p q =
        record_at-applied_other ws (hang_plan ws c l next two three) b i
        (λ e. aside-link_at c b i n (e ∙ link-hang_write ws c l)) p q

    -- what is linked below the place stays so
    hang_plan-linked : (i : ℕ) → Linked (record_at ws) i u → Linked (record_at after) i u
    hang_plan-linked i =
        linked_ext (record_at ws) (record_at after) i u (λ b j.
        let n = mem-times b (labels u) j in
        let o = opened_once b in
        sym (hang_plan_same b (opened-bounds b (omega arith)).0 (omega arith)
        (λ e. omega (arith, rw (← e) at aside-two.below)) (λ e. omega (arith, rw (← e) at aside-three.below))))

    apart_above : (b : ℕ) → 1 ≤ times b (labels_above c) → (0 < b) × (b ≡ two.link → ⊥) × (b ≡ three.link → ⊥)
    apart_above b n = (
      (opened-bounds b (omega arith)).0,
      λ e. omega (arith, rw (← e) at aside-two.above),
      λ e. omega (arith, rw (← e) at aside-three.above),
    )

    -- the link hangs in the place
    hang_plan-framed : Framed (record_at after) (header_at after).root c l
    hang_plan-framed =
        let p = hang_plan ws c l next two three in
        framed-hang ws after c opened_at.link l opened_at.framed
        (ap (λ r. r.root) (header_at-applied ws p long-enough)) (hang_plan-hanged ws c l next two three hang_plan-fitting apart_above)
        (λ b i d. let (low, q, r) = apart_above b (mem-times b (labels_above c) i) in
        record_at-applied_other ws p b low (λ e. d (e ∙ link-hang_write ws c l)) q r)
        (λ b. let o = opened_once b in omega arith)

    spare-hang_plan : (header_at after).spare ≡ next
    spare-hang_plan = ap (λ r. r.spare) (header_at-applied ws (hang_plan ws c l next two three) long-enough)

    -- what is left of the chain stays chained
    hang_plan-chained : (i : ℕ) (ls : List ℕ) → ((b : ℕ) → times b ls ≤ times b h.chain) → times two.link ls ≡ 0
        → times three.link ls ≡ 0 → Chained (record_at ws) i ls → Chained (record_at after) i ls
    hang_plan-chained i ls sub p q =
        chained_ext (record_at ws) (record_at after) i ls (λ b j.
        let n = mem-times b ls j in
        let o = opened_once b in
        let s = sub b in
        sym (hang_plan_same b (opened-bounds b (omega arith)).0 (omega arith)
        (λ e. omega (arith, rw (← e) at p)) (λ e. omega (arith, rw (← e) at q))))

    pub hang_plan-hangs : Hangs l next two three after
    hang_plan-hangs =
        record {
          fitting = hang_plan-fitting;
          framed = hang_plan-framed;
          spare = spare-hang_plan;
          linked = hang_plan-linked;
          chained = hang_plan-chained;
        }
