-- The laws of a step at a record that bears a node: what it shares with the key and where it goes on, by how
-- the key meets the node's string. No contract cites this file.
-- Assumes nothing.
use Prim.Native.Nat.{ℕ, suc, ◌/◌, ◌≤◌, ◌<◌}
use native.Mathlib.Omega.{arith}
use mathlib.Core.Path.{◌≡◌, refl, sym, ap, subst, ◌∙◌}
use mathlib.Core.Bool.{Bool, true, false, not, cond}
use mathlib.Core.List.{List, [], ◌∷◌, ◌++◌}
use mathlib.Core.Option.{Option}
use lib.Dec.{T, ltb}
use lib.ListN.{length, get_or, length-append}
use lib.Seq.{get_or-take, get_or-append_seam}
use borrow.Author.Tests.{lt-ltb, le-ltb, eq-eqb, ne_eqb}
use Rattle.bits.specs.Bits.{Bits, is_prefix, lcp}
use Rattle.bits.specs.declared.Meeting.TheVariants.{Equal, Below, Above, Apart}
use Rattle.bits.proofs.BitsLaws.{is_prefix_length, is_prefix-taken, take_next, lcp_right, lcp-greatest, lcp-prefix, lcp_split}
use Rattle.bits.proofs.BlankLaws.{clear_next}
use Rattle.bits.proofs.MeetLaws.{Says}
use Rattle.prefix.specs.Keys.{word_bits, string_of, Valid}
use Rattle.prefix.specs.declared.Prefix.{Prefix}
use Rattle.prefix.proofs.WordsLaws.{length-word_bits}
use Rattle.prefix.proofs.KeysLaws.{length-string_of}
use Rattle.records.specs.Layout.{room_of, record_at, key_of}
use Rattle.records.specs.Holds.{Bears}
use Rattle.records.specs.declared.Record.{Record}
use Rattle.records.proofs.LayoutLaws.{room_of_zero}
use Rattle.lookup.specs.Walking.{shared_on, agree_on, side_on, down_on, seen_on, step_on}
use Rattle.lookup.specs.declared.Walk.{Walk}
use Rattle.lookup.specs.declared.Step.TheVariants.{Down, Last, End}
use Rattle.std.specs.Prelude.{Ok}

-- ---- shared_on and side_on: what they are at a node's record, by how the key meets the node's string

pub get_or_next : (p k : Bits) (x : Bool) → T (is_prefix (p ++ (x ∷ [])) k) → get_or k (length p) false ≡ x
get_or_next p k x h =
    sym (get_or-take (suc (length p)) k (length p) false (omega arith)) ∙ rw (take_next p k x h) (get_or-append_seam p x [] false)

cond_not : (x : Bool) (a b : ℕ) → cond (not x) a b ≡ cond x b a
cond_not false a b = refl
cond_not true a b = refl

module _ (r : Record) (z : Bits) (v : Option ℕ) (b : Bears r z v) where
  pub width-bears : r.tag / 2 ≡ length z
  unfolding key_of
  width-bears = sym (length-string_of (key_of r) b.valid.narrow) ∙ ap length b.string

  pub narrow-bears : r.tag / 2 ≤ 128
  unfolding key_of
  narrow-bears = b.valid.narrow

  module _ (k : Prefix) where
    pub shared_on-bears : shared_on r k ≡ length (lcp z (string_of k))
    unfolding shared_on
    shared_on-bears = rw b.string

    pub shared_on-prefix : T (is_prefix z (string_of k)) → shared_on r k ≡ r.tag / 2
    shared_on-prefix h = shared_on-bears ∙ ap length (lcp-prefix z (string_of k) h) ∙ sym width-bears

    pub shared_on_above : (x : Bool) → Says (Above x) z (string_of k) → shared_on r k < r.tag / 2
    shared_on_above x y =
        let h : length (lcp z (string_of k)) ≤ length (string_of k) =
        is_prefix_length (lcp z (string_of k)) (string_of k) (lcp_right z (string_of k)) in
        let j : length (string_of k ++ (x ∷ [])) ≤ length z = is_prefix_length (string_of k ++ (x ∷ [])) z y in
        omega (arith, shared_on-bears, width-bears, length-append (string_of k) (x ∷ []))

    pub shared_on_apart : (x : Bool) → Says (Apart x) z (string_of k) → shared_on r k < r.tag / 2
    shared_on_apart x y =
        let p : Bits = lcp z (string_of k) in
        omega (arith, shared_on-bears, width-bears, is_prefix_length (p ++ (not x ∷ [])) z y.1, length-append p (not x ∷ []))

    module _ (valid : Valid k) where
      pub side_on-equal : Says Equal z (string_of k) → side_on r k (r.tag / 2) ≡ 0
      unfolding side_on
      side_on-equal y =
          let l : k.width ≤ r.tag / 2 = omega (arith, width-bears, ap length y, length-string_of k valid.narrow) in
          rw (le-ltb (r.tag / 2) k.width l)

      -- the node's words go on with 0 after its width, so that they agree with the key's there exactly where
      -- the key goes on with 0
      clear_below : length z < k.width → T (is_prefix (z ++ (false ∷ [])) (word_bits (key_of r)))
      unfolding string_of key_of
      clear_below h =
          let w : (key_of r).width < length (word_bits (key_of r)) =
          omega (arith, length-word_bits (key_of r), width-bears, valid.narrow) in
          subst (λ (s : Bits). T (is_prefix (s ++ (false ∷ [])) (word_bits (key_of r)))) b.string
          (clear_next (key_of r).width (word_bits (key_of r)) w b.valid.clean)

      agree_on_below : (x : Bool) → Says (Below x) z (string_of k) → length z < k.width → ltb (length z) (agree_on r k) ≡ not x
      unfolding agree_on string_of
      agree_on_below false y h =
          let g = lcp-greatest (z ++ (false ∷ [])) (word_bits (key_of r)) (word_bits k) (clear_below h)
          (is_prefix-taken (z ++ (false ∷ [])) (word_bits k) k.width y) in
          let l = is_prefix_length (z ++ (false ∷ [])) (lcp (word_bits (key_of r)) (word_bits k)) g in
          lt-ltb (length z) (length (lcp (word_bits (key_of r)) (word_bits k))) (omega (arith, length-append z (false ∷ [])))
      agree_on_below true y h =
          let e = lcp_split z (word_bits (key_of r)) (word_bits k) (clear_below h) (is_prefix-taken (z ++ (true ∷ [])) (word_bits k) k.width y) in
          rw e (le-ltb (length z) (length z) (omega arith))

      pub side_on_below : (x : Bool) → Says (Below x) z (string_of k) → side_on r k (r.tag / 2) ≡ cond x r.right r.left
      unfolding side_on
      side_on_below x y =
          let h : length (z ++ (x ∷ [])) ≤ length (string_of k) = is_prefix_length (z ++ (x ∷ [])) (string_of k) y in
          let l : length z < k.width = omega (arith, length-append z (x ∷ []), length-string_of k valid.narrow) in
          rw (width-bears, lt-ltb (length z) k.width l, agree_on_below x y l) (cond_not x r.left r.right)

-- ---- step_on, one law for each way out

module _ (ws : List ℕ) (k : Prefix) (s : Walk) where
  pub step_on_end : s.next ≡ 0 → step_on ws k s ≡ Ok End
  unfolding step_on
  step_on_end e = rw (eq-eqb s.next 0 e)

  pub step_on_node : (a : ℕ) → s.next ≡ a → room_of (length ws) a ≡ true → step_on ws k s ≡ seen_on (record_at ws a) k s
  unfolding step_on
  step_on_node a e h = rw (e, h, ne_eqb a 0 (room_of_zero (length ws) a h))

module _ (r : Record) (k : Prefix) (s : Walk) (w : r.tag / 2 ≤ 128) (l : s.low ≤ shared_on r k) where
  pub seen_on_down : r.tag / 2 ≤ shared_on r k → seen_on r k s ≡ Ok (Down (r.tag / 2) (down_on r k s))
  unfolding seen_on
  seen_on_down h = rw (le-ltb 128 (r.tag / 2) w, le-ltb (shared_on r k) s.low l, le-ltb (shared_on r k) (r.tag / 2) h)

  pub seen_on-last : shared_on r k < r.tag / 2 → seen_on r k s ≡ Ok (Last (r.tag / 2) (shared_on r k))
  unfolding seen_on
  seen_on-last h = rw (le-ltb 128 (r.tag / 2) w, le-ltb (shared_on r k) s.low l, lt-ltb (shared_on r k) (r.tag / 2) h)
