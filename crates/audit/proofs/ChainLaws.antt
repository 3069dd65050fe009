-- The laws of the check of the spare records: it passes through the chain that is linked so, and that chain
-- has no link twice, since it ends. No contract cites this file.
--   Spares ws l n     from the link l a chain of n spare records is linked
-- Assumes nothing.
use Prim.Native.Nat.{ℕ, zero, suc, ◌+◌, ◌≤◌, ◌<◌}
use native.Mathlib.Decide.{dec_lt}
use native.Mathlib.Omega.{arith}
use mathlib.Core.Path.{◌≡◌, refl, sym, ap, ◌∙◌}
use mathlib.Core.Bool.{Bool, true, false, ◌&&◌, cond}
use mathlib.Core.List.Memᴰ
use mathlib.Core.List.{List, [], ◌∷◌, Memᴰ}
use lib.Dec.{T, eqb}
use lib.ListN.{length}
use borrow.Author.Tests.{eqb-true, eq-eqb, ne_eqb}
use Rattle.bits.proofs.ListsLaws.{T_true, true-T, and_left, and_right}
use Rattle.records.specs.Layout.{room_of, record_at, is_spare}
use Rattle.records.specs.Holds.{Chained, times}
use Rattle.records.proofs.LayoutLaws.{room_of_true}
use Rattle.records.proofs.OnceLaws.{times_mem}
use Rattle.audit.specs.Checking.{chain_on}
use Rattle.audit.proofs.NodeLaws.{Rooms, rooms_cons}

module _ (ws : List ℕ) where
  -- ---- Rooms

  rooms-tail : {a : ℕ} {ls : List ℕ} → Rooms ws (a ∷ ls) → Rooms ws ls
  rooms-tail rooms b i = rooms b (Memᴰ.tail i)

  above-room : {ls : List ℕ} {a : ℕ} → Rooms ws ls → Memᴰ a ls → 0 < a
  above-room {ls} {a} rooms i = (room_of_true (length ws) a (rooms a i)).0

  -- ---- chain_on

  pub record Spares (l n : ℕ) : Type 0 where
    pub chain : List ℕ
    pub chained : Chained (record_at ws) l chain
    pub rooms : Rooms ws chain
    pub count : length chain ≡ n

  spares_cons : (l n : ℕ) → room_of (length ws) l ≡ true → is_spare (record_at ws l) ≡ true → Spares (record_at ws l).left n
      → Spares l (suc n)
  spares_cons l n room is rest =
      record {
        chain = l ∷ rest.chain;
        chained = (refl, is, rest.chained);
        rooms = rooms_cons ws l rest.chain room rest.rooms;
        count = ap suc rest.count;
      }

  unless_true : (b c : Bool) → cond b false c ≡ true → T c
  unless_true true c h = let z : ◌≡◌ {A = ℕ} 0 1 = cc in absurd (omega arith)
  unless_true false c h = true-T c h

  pub chain_on_true : (n l : ℕ) → chain_on ws l n ≡ true → Spares l n
  unfolding chain_on
  chain_on_true zero l h =
      record { chain = []; chained = eqb-true l 0 h; rooms = λ a i. absurd (Memᴰ.not-nil i); count = refl }
  chain_on_true (suc n) l h =
      let room = room_of (length ws) l in
      let is = is_spare (record_at ws l) in
      let rest = chain_on ws (record_at ws l).left n in
      let i = unless_true (eqb l 0) (room && (is && rest)) h in
      let j = and_right room (is && rest) i in
      spares_cons l n (T_true room (and_left room (is && rest) i)) (T_true is (and_left is rest j))
      (chain_on_true n (record_at ws l).left (T_true rest (and_right is rest j)))

  pub chained-chain_on : (ls : List ℕ) (l : ℕ) → Chained (record_at ws) l ls → Rooms ws ls → chain_on ws l (length ls) ≡ true
  unfolding chain_on
  chained-chain_on [] l h rooms = eq-eqb l 0 h
  chained-chain_on (a ∷ ls) l h rooms =
      let above = above-room rooms (Memᴰ.head refl) in
      rw (h.0, ne_eqb a 0 (omega arith), rooms a (Memᴰ.head refl), h.1)
      (chained-chain_on ls (record_at ws a).left h.2 (rooms-tail rooms))

  -- ---- Chained

  pub chained_spare : (ls : List ℕ) (l a : ℕ) → Chained (record_at ws) l ls → Memᴰ a ls → is_spare (record_at ws a) ≡ true
  chained_spare (b ∷ ls) l a h (Memᴰ.head e) = rw e h.1
  chained_spare (b ∷ ls) l a h (Memᴰ.tail i) = chained_spare ls (record_at ws b).left a h.2 i
  chained_spare [] l a h absent = elim absent [ ]

  -- from one link there is one length
  length-chained : (xs ys : List ℕ) (l : ℕ) → Chained (record_at ws) l xs → Chained (record_at ws) l ys → Rooms ws xs → Rooms ws ys
      → length xs ≡ length ys
  length-chained [] [] l h k rx ry = refl
  length-chained [] (b ∷ ys) l h k rx ry = absurd (omega (arith, above-room ry (Memᴰ.head refl), h, k.0))
  length-chained (a ∷ xs) [] l h k rx ry = absurd (omega (arith, above-room rx (Memᴰ.head refl), h.0, k))
  length-chained (a ∷ xs) (b ∷ ys) l h k rx ry =
      let e : a ≡ b = sym h.0 ∙ k.0 in
      let g : Chained (record_at ws) (record_at ws a).left ys = rw e k.2 in
      ap suc (length-chained xs ys (record_at ws a).left h.2 g (rooms-tail rx) (rooms-tail ry))

  -- the chain after one of its links
  after : (ls : List ℕ) (l a : ℕ) → Chained (record_at ws) l ls → Rooms ws ls → Memᴰ a ls
      → (n : ℕ) × (n < length ls) × Spares (record_at ws a).left n
  after (b ∷ ls) l a h rooms (Memᴰ.head e) =
      (length ls, omega arith, record { chain = ls; chained = rw e h.2; rooms = rooms-tail rooms; count = refl })
  after (b ∷ ls) l a h rooms (Memᴰ.tail i) =
      let r = after ls (record_at ws b).left a h.2 (rooms-tail rooms) i in
      (r.0, omega (arith, r.1), r.2)
  after [] l a h rooms x3 = elim x3 [ ]

  -- a link that stood again would have a shorter rest
  not_again : (a : ℕ) (ls : List ℕ) → Chained (record_at ws) (record_at ws a).left ls → Rooms ws ls → Memᴰ a ls → ⊥
  not_again a ls h rooms i =
      let r = after ls (record_at ws a).left a h rooms i in
      let x = r.2 in
      omega (arith, r.1, x.count, length-chained ls x.chain (record_at ws a).left h x.chained rooms x.rooms)

  pub times-chained : (ls : List ℕ) (l a : ℕ) → Chained (record_at ws) l ls → Rooms ws ls → times a ls ≤ 1
  times-chained [] l a h rooms = omega arith
  times-chained (b ∷ ls) l a h rooms =
      at (eqb a b) refl (dec_lt 0 (times a ls)) (times-chained ls (record_at ws b).left a h.2 (rooms-tail rooms))
    where
      at : (x : Bool) → eqb a b ≡ x → Dec (0 < times a ls) → times a ls ≤ 1 → cond x 1 0 + times a ls ≤ 1
      at true e (yes k) ih =
          absurd (not_again b ls h.2 (rooms-tail rooms) (Memᴰ.cast (sym (eqb-true a b e)) (times_mem a ls k)))
      at true e (no k) ih = omega arith
      at false e d ih = omega arith
