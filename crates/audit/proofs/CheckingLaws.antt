-- The laws of the whole-table check: one for each way out of its functions, and what a node shows of widths.
-- No contract cites this file.
-- Assumes nothing.
use Prim.Native.Nat.{ℕ, zero, suc, ◌+◌, ◌-◌, ◌/◌, ◌≤◌, ◌<◌}
use native.Mathlib.Omega.{arith}
use mathlib.Core.Path.{◌≡◌, refl, sym, ap, subst, ◌∙◌}
use mathlib.Core.Bool.{Bool, true, false, not, ◌&&◌, ◌||◌, beq, cond}
use mathlib.Core.List.{List, [], ◌∷◌, ◌++◌}
use Rattle.std.specs.Prelude.{Option, None, Some, Ok, Err}
use lib.Dec.{T, ltb, eqb}
use lib.ListN.{length, get_or, length-append}
use borrow.Author.Tests.{not-true, not-false, eq-eqb, ne_eqb}
use Rattle.bits.specs.Bits.{Bits, is_prefix, lcp}
use Rattle.bits.specs.Numbers.{odd}
use Rattle.bits.proofs.BitsLaws.{is_prefix_length, length-lcp, is_prefix-lcp}
use Rattle.refusals.specs.declared.Refusal.TheVariants.{BadLength}
use Rattle.prefix.specs.Keys.{string_of, is_valid, Valid}
use Rattle.prefix.specs.declared.Prefix.{Prefix}
use Rattle.prefix.proofs.KeysLaws.{length-string_of, both_true, is_valid_true}
use Rattle.records.specs.Layout.{is_table, capacity, room_of, record_at, header_at, key_of, is_spare}
use Rattle.records.specs.declared.Record.{Record}
use Rattle.records.specs.declared.Header.{Header}
use Rattle.records.proofs.LayoutLaws.{Table, is_table_true, room_of_true}
use Rattle.audit.specs.Checking.{Place, stands, is_node, then_on, below_on, chain_on, audit_of, audit_on}
use Rattle.audit.specs.Bounds.{low_of}
use Rattle.audit.specs.declared.Under.{Under}

-- ---- stands

-- a longer string is no prefix
is_prefix-longer : (p k : Bits) → length k < length p → is_prefix p k ≡ false
is_prefix-longer p k h = sym (is_prefix-lcp p k) ∙ ne_eqb (length (lcp k p)) (length p) (λ e. omega (arith, length-lcp k p))

-- a prefix and one bit more
is_prefix_next : (p k : Bits) (x : Bool) → length p < length k
    → (is_prefix p k && beq (get_or k (length p) false) x) ≡ is_prefix (p ++ (x ∷ [])) k
is_prefix_next p [] x h = absurd (omega arith)
is_prefix_next [] (false ∷ k) false h = refl
is_prefix_next [] (false ∷ k) true h = refl
is_prefix_next [] (true ∷ k) false h = refl
is_prefix_next [] (true ∷ k) true h = refl
is_prefix_next (false ∷ p) (false ∷ k) x h = is_prefix_next p k x (omega arith)
is_prefix_next (false ∷ p) (true ∷ k) x h = refl
is_prefix_next (true ∷ p) (false ∷ k) x h = refl
is_prefix_next (true ∷ p) (true ∷ k) x h = is_prefix_next p k x (omega arith)

module _ (k : Prefix) (at : Place) where
  pub stands_top : at ≡ None → true ≡ stands k at
  unfolding stands
  stands_top e = rw e

  module _ (valid : Valid k) (low : low_of at ≤ 129) (u : Under) (e : at ≡ Some u) where
    length-under : length (string_of u.key) ≡ u.key.width
    length-under = let h : u.key.width + 1 ≤ 129 = rw e at low in length-string_of u.key (omega arith)

    pub stands-under : (b y : Bool) → u.key.width < k.width → b ≡ is_prefix (string_of u.key) (string_of k)
        → y ≡ get_or (string_of k) u.key.width false → (b && beq y u.side) ≡ stands k at
    unfolding stands
    stands-under b y l q g =
        let s : length (string_of u.key) < length (string_of k) = omega (arith, length-under, length-string_of k valid.narrow) in
        let n : y ≡ get_or (string_of k) (length (string_of u.key)) false = g ∙ ap (λ (i : ℕ). get_or (string_of k) i false) (sym length-under) in
        rw (e, q, n) (is_prefix_next (string_of u.key) (string_of k) u.side s)

    pub stands_short : k.width ≤ u.key.width → false ≡ stands k at
    unfolding stands
    stands_short l =
        let s : length (string_of k) < length (string_of u.key ++ (u.side ∷ [])) =
        omega (arith, length-append (string_of u.key) (u.side ∷ []), length-under, length-string_of k valid.narrow) in
        rw (e, is_prefix-longer (string_of u.key ++ (u.side ∷ [])) (string_of k) s)

-- a key that stands at a place is as wide as the place wants
stands_low : (k : Prefix) (at : Place) → low_of at ≤ 129 → k.width ≤ 128 → stands k at ≡ true → low_of at ≤ k.width
unfolding stands
stands_low k None h g e = omega arith
stands_low k (Some u) h g e =
    let l = is_prefix_length (string_of u.key ++ (u.side ∷ [])) (string_of k) (subst T (sym e) tt) in
    omega (arith, length-append (string_of u.key) (u.side ∷ []), length-string_of u.key (omega arith), length-string_of k g)

-- ---- is_node

-- a node's width lies between what its place wants and 128
pub record Fair (at : Place) (n : ℕ) : Type 0 where
  pub low : low_of at ≤ n
  pub high : n ≤ 128

is_node-fair : (r : Record) (at : Place) → low_of at ≤ 129 → is_node r at ≡ true → Fair at (key_of r).width
unfolding is_node
is_node-fair r at h e =
    let a = both_true (is_valid (key_of r)) (stands (key_of r) at && (odd r.tag || (ltb 0 r.left && ltb 0 r.right))) e in
    let b = both_true (stands (key_of r) at) (odd r.tag || (ltb 0 r.left && ltb 0 r.right)) a.1 in
    let g : (key_of r).width ≤ 128 = (is_valid_true (key_of r) a.0).narrow in
    record { low = stands_low (key_of r) at h g b.0; high = g }

-- ---- below_on

-- what the count comes to, at any number of levels that is enough
abbrev Counts : List ℕ → ℕ → Place → ℕ → Option ℕ → Type 0
Counts ws l at left x = (f : ℕ) → 130 ≤ low_of at + f → below_on f ws l at left ≡ x

-- the link l has a node for the place, with the record r and the key k, and there may be one
pub record Node (ws : List ℕ) (l : ℕ) (at : Place) (left : ℕ) (r : Record) (k : Prefix) : Type 0 where
  pub shallow : low_of at ≤ 129
  pub some : l ≡ 0 → ⊥
  pub counted : left ≡ 0 → ⊥
  pub room : room_of (length ws) l ≡ true
  pub record_is : r ≡ record_at ws l
  pub node : is_node r at ≡ true
  pub key_is : k ≡ key_of r

module _ (ws : List ℕ) (l : ℕ) (at : Place) (left : ℕ) where
  pub below_on_end : l ≡ 0 → Counts ws l at left (Some left)
  unfolding below_on
  below_on_end e zero g = rw (eq-eqb l 0 e)
  below_on_end e (suc f) g = rw (eq-eqb l 0 e)

  module _ (some : l ≡ 0 → ⊥) where
    pub below_on_many : left ≡ 0 → Counts ws l at left None
    unfolding below_on
    below_on_many e zero g = rw (ne_eqb l 0 some)
    below_on_many e (suc f) g = rw (ne_eqb l 0 some, eq-eqb left 0 e)

    module _ (counted : left ≡ 0 → ⊥) (b : Bool) (h : b ≡ room_of (length ws) l) where
      pub below_on_outside : not b ≡ true → Counts ws l at left None
      unfolding below_on
      below_on_outside t zero g = rw (ne_eqb l 0 some)
      below_on_outside t (suc f) g = rw (ne_eqb l 0 some, ne_eqb left 0 counted, ← h, not-true b t)

      module _ (r : Record) (q : r ≡ record_at ws l) (d : Bool) (i : d ≡ is_node r at) (t : not b ≡ false) where
        pub below_on_other : not d ≡ true → Counts ws l at left None
        unfolding below_on
        below_on_other u zero g = rw (ne_eqb l 0 some)
        below_on_other u (suc f) g = rw (ne_eqb l 0 some, ne_eqb left 0 counted, ← h, not-false b t, ← q, ← i, not-true d u)

        pub node_seen : (k : Prefix) → k ≡ key_of r → not d ≡ false → low_of at ≤ 129 → Node ws l at left r k
        node_seen k e u low =
            record {
              shallow = low;
              some = some;
              counted = counted;
              room = sym h ∙ not-false b t;
              record_is = q;
              node = sym i ∙ not-false d u;
              key_is = e;
            }

  module _ (r : Record) (k : Prefix) (n : Node ws l at left r k) where
    pub node-fair : Fair at k.width
    node-fair = rw n.key_is (is_node-fair r at n.shallow n.node)

    below_on_node : (f : ℕ) → below_on (suc f) ws l at left
        ≡ then_on (below_on f ws r.left (Some (record { key = k; side = false })) (left - 1)) (λ m. below_on f ws r.right (Some (record { key = k; side = true })) m)
    unfolding below_on
    below_on_node f = rw (ne_eqb l 0 n.some, ne_eqb left 0 n.counted, n.room, ← n.record_is, n.node, ← n.key_is)

    module _ (x : Option ℕ) (e : Counts ws r.left (Some (record { key = k; side = false })) (left - 1) x) where
      pub below_on-bad : x ≡ None → Counts ws l at left None
      below_on-bad q zero g = absurd (omega arith)
      below_on-bad q (suc f) g = let w = node-fair in below_on_node f ∙ rw (e f (omega arith), q)

      pub below_on_right : (m : ℕ) (y : Option ℕ) → x ≡ Some m → Counts ws r.right (Some (record { key = k; side = true })) m y → Counts ws l at left y
      below_on_right m y q s zero g = absurd (omega arith)
      below_on_right m y q s (suc f) g = let w = node-fair in below_on_node f ∙ rw (e f (omega arith), q) (s f (omega arith))

-- ---- chain_on

-- one law for each way out, where x is what the chain from l on comes to
module _ (ws : List ℕ) (l n : ℕ) (x : Bool) (e : chain_on ws l n ≡ x) where
  pub chain_on_end : n ≡ 0 → eqb l 0 ≡ x
  unfolding chain_on
  chain_on_end z = rw z at e

  module _ (m : ℕ) (more : n ≡ suc m) (b : Bool) (h : b ≡ room_of (length ws) l) where
    pub chain_on_outside : not b ≡ true → false ≡ x
    unfolding chain_on
    chain_on_outside t = at (eqb l 0) (rw (more, ← h, not-true b t) at e)
      where
        at : (y : Bool) → cond y false false ≡ x → false ≡ x
        at true f = f
        at false f = f

    module _ (r : Record) (q : r ≡ record_at ws l) (t : not b ≡ false) where
      chain_on_step : (eqb r.tag 4294967295 && chain_on ws r.left m) ≡ x
      unfolding chain_on is_spare
      chain_on_step =
          let above = room_of_true (length ws) l (sym h ∙ not-false b t) in
          rw (more, ne_eqb l 0 (omega arith), ← h, not-false b t, ← q) at e

      pub chain_on_other : (r.tag ≡ 4294967295 → ⊥) → false ≡ x
      chain_on_other u = rw (ne_eqb r.tag 4294967295 u) at chain_on_step

      pub chain_on_next : r.tag ≡ 4294967295 → chain_on ws r.left m ≡ x
      chain_on_next u = rw (eq-eqb r.tag 4294967295 u) at chain_on_step

-- ---- audit_on

pub is_table-table : (n : ℕ) (b : Bool) → b ≡ is_table n → not b ≡ false → Table n
is_table-table n b e t = is_table_true n (sym e ∙ not-false b t)

-- one law for each way out, where b is what the test of the length says
module _ (ws : List ℕ) (b : Bool) (e : b ≡ is_table (length ws)) where
  pub audit_on_length : not b ≡ true → Err BadLength ≡ audit_on ws
  unfolding audit_on
  audit_on_length t = rw (← e, not-true b t)

  module _ (t : not b ≡ false) (h : Header) (g : h ≡ header_at ws) (x : Option ℕ) (c : Counts ws h.root None (length ws / 8 - 1) x) where
    audit_on-counted : Ok (audit_of ws x) ≡ audit_on ws
    unfolding audit_on capacity
    audit_on-counted = rw (← e, not-false b t, ← g, c 130 (omega arith))

    pub audit_on-bad : x ≡ None → Ok false ≡ audit_on ws
    audit_on-bad q = rw q at audit_on-counted

    pub audit_on-chained : (n : ℕ) (d : Bool) → x ≡ Some n → d ≡ chain_on ws h.spare n → Ok d ≡ audit_on ws
    audit_on-chained n d q s = simp (q, ← g, ← s) at audit_on-counted
