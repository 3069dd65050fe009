-- The laws of hanging a link where a search ended: what a plan writes for it, and that the context is then
-- framed at that link. No contract cites this file.
-- Assumes nothing.
use Prim.Native.Nat.{ℕ, ◌≤◌}
use native.Mathlib.Omega.{arith}
use mathlib.Core.Path.{◌≡◌, refl, sym, subst}
use mathlib.Core.Bool.{true}
use mathlib.Core.List.{List, ◌++◌, Memᴰ}
use lib.ListN.{length}
use borrow.Author.Tests.{eq-eqb, ne_eqb, lt-leb}
use Rattle.std.specs.Prelude.{Some, None, Ok}
use Rattle.prefix.specs.declared.Prefix.{Prefix}
use Rattle.zones.specs.Focus.{Context, top, into, link_at}
use Rattle.records.specs.Layout.{room_of, record_at, header_at, with_side}
use Rattle.records.specs.Holds.{labels, times}
use Rattle.records.proofs.LayoutLaws.{room_of_true}
use Rattle.records.proofs.GraftLaws.{labels_above, Framed, framed-set}
use Rattle.lookup.proofs.FramesLaws.{Frames}
use Rattle.plans.specs.Planning.{nowhere_of, look_on, node_on, hang_on}
use Rattle.plans.specs.Plans.{Write}

-- the header's root, and the write, once l is hung in the open place of c
abbrev pub root_with : Context ℕ → ℕ → ℕ → ℕ
root_with top root l = l
root_with (into a p v x o c) root l = root

abbrev pub hang_write : List ℕ → Context ℕ → ℕ → Write
hang_write ws top l = nowhere_of
hang_write ws (into a p v x o c) l = record { link = a; content = with_side (record_at ws a) x l }

-- the words us have that write
abbrev pub Hanged : List ℕ → List ℕ → Context ℕ → ℕ → Type 0
Hanged ws us top l = Unit {0}
Hanged ws us (into a p v x o c) l = record_at us a ≡ with_side (record_at ws a) x l

-- ---- look_on, node_on

pub look_on_nothing : (ws : List ℕ) → look_on ws 0 ≡ Ok None
unfolding look_on
look_on_nothing ws = refl

pub node_on-room : (ws : List ℕ) (l : ℕ) → room_of (length ws) l ≡ true → node_on ws l ≡ Ok (record_at ws l)
unfolding node_on
node_on-room ws l h = rw h

pub look_on-room : (ws : List ℕ) (l : ℕ) → room_of (length ws) l ≡ true → look_on ws l ≡ Ok (Some (record_at ws l))
unfolding look_on
look_on-room ws l h = let i = room_of_true (length ws) l h in rw (ne_eqb l 0 (omega arith), node_on-room ws l h)

-- ---- hang_on

pub hang_on-frames : (ws : List ℕ) (k : Prefix) (c : Context ℕ) (root l : ℕ) → Frames ws k c
    → hang_on ws root k (link_at 0 c) l ≡ Ok (record { root = root_with c root l; one = hang_write ws c l })
unfolding hang_on
hang_on-frames ws k top root l f = rw (look_on_nothing ws)
hang_on-frames ws k (into a p v x o c) root l f =
    rw (look_on-room ws a f.0.room, f.0.width, lt-leb k.width (length p) f.0.narrow, f.0.bit)

-- ---- Framed

-- the context is framed at l in words us that have the write and are otherwise as ws at the context's labels
pub framed-hang : (ws us : List ℕ) (c : Context ℕ) (l₀ l : ℕ) → Framed (record_at ws) (header_at ws).root c l₀
    → (header_at us).root ≡ root_with c (header_at ws).root l → Hanged ws us c l
    → ((b : ℕ) → Memᴰ b (labels_above c) → (b ≡ link_at 0 c → ⊥) → record_at us b ≡ record_at ws b)
    → ((b : ℕ) → times b (labels_above c) ≤ 1)
    → Framed (record_at us) (header_at us).root c l
framed-hang ws us top l₀ l f root w same once = root
framed-hang ws us (into a p v x o c) l₀ l f root w same once =
    let none : times a (labels o ++ labels_above c) ≡ 0 = let i = rw (eq-eqb a a refl) at (once a) in omega arith in
    subst (λ (r : ℕ). Framed (record_at us) r (into a p v x o c) l) (sym root)
    (framed-set (record_at ws) (record_at us) (header_at ws).root a p v x o c l₀ l f w
    (λ b i d. sym (same b (Memᴰ.tail i) d)) none)
