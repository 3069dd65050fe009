-- What a tour does over the trees that it has before it: it gives the first of what they store, says whether
-- a node is left, and counts the nodes that it passed. No contract cites this file.
-- Assumes nothing.
use Prim.Native.Nat.{ℕ, zero, suc, ◌+◌, ◌-◌, ◌*◌, ◌/◌, ◌^◌, ◌≤◌, ◌<◌}
use native.Mathlib.Nat.{add-zero, zero-add, sub-zero, suc-sub-suc}
use native.Mathlib.Omega.{arith}
use mathlib.Core.Path.{◌≡◌, refl, ◌∙◌}
use mathlib.Core.Bool.{true, false, not}
use mathlib.Core.List.Memᴰ
use mathlib.Core.List.{List, [], ◌∷◌, ◌++◌, append_assoc}
use mathlib.Core.Option.{Option, none, some}
use Rattle.std.specs.Prelude.{Ok}
use lib.Dec.{eqb-suc-zero}
use lib.ListN.{length, get_or, take, drop, length-append, length-take}
use lib.Seq.{take-nil, sets, sets-eq}
use borrow.Author.Tests.{le-ltb, eq-eqb, ne_eqb}
use Rattle.bits.specs.Lists.{is_empty}
use Rattle.bits.specs.Bits.{Bits}
use Rattle.prefix.proofs.WordsLaws.{Small}
use Rattle.zones.specs.Maps.{Map}
use Rattle.zones.specs.Tree.{Tree, tip, node, own}
use Rattle.records.specs.Layout.{room_of, record_at, key_of}
use Rattle.records.specs.Holds.{Bears}
use Rattle.records.specs.declared.Record.{Record}
use Rattle.listing.specs.Touring.{gives, push_on, pop_on, visit_on, entry_put, Touring, ends, node_on, turn_on, tour_on, tour_from}
use Rattle.listing.specs.Slicing.{words_of}
use Rattle.listing.proofs.Items.{Item, items, all_items, stored_in, counts, up_to, past, Pending}
use Rattle.listing.proofs.PendingLaws.{linked_above, pending-pop, pushed, all_items-pushed, pending-push}
use Rattle.listing.proofs.EntriesLaws.{given-entry_put, words-entry_put}

-- the table's words are of 32 bits, as the machine has them
abbrev Machine : List ℕ → Type 0
Machine ws = (i : ℕ) → get_or ws i 0 < 2 ^ 32

-- ---- visit_on

small-record_at : (ws : List ℕ) (l : ℕ) → Machine ws → Small (key_of (record_at ws l))
unfolding record_at key_of
small-record_at ws l h = (h _, h _, h _, h _)

pub visit_on-bears : (ws : List ℕ) (l : ℕ) (s : Bits) (v : Option ℕ) → room_of (length ws) l ≡ true → Bears (record_at ws l) s v
    → visit_on ws l ≡ Ok (record_at ws l)
unfolding visit_on key_of
visit_on-bears ws l s v e h =
    let most : (record_at ws l).tag ≤ 257 = omega (arith, h.valid.narrow) in
    simp (e, le-ltb 257 (record_at ws l).tag most)

-- ---- tour_on, one law for each way on

-- on from a node, with its side of 1 put off
abbrev pub onward_on : ℕ → List ℕ → ℕ → ℕ → List ℕ → List ℕ → ℕ → ℕ → Record → Touring
onward_on f ws b o ls us n count r =
    tour_on f ws b r.left (push_on ls o r.right).depth (push_on ls o r.right).links (entry_put us n r).words
    (entry_put us n r).given (count + 1)

module _ (f : ℕ) (ws : List ℕ) (b : ℕ) (ls us : List ℕ) (n count : ℕ) where
  pub tour_on_full : (l o : ℕ) → 0 < l → o ≤ 129 → n ≡ b → tour_on (suc f) ws b l o ls us n count ≡ ends ls us (gives n true count)
  unfolding tour_on turn_on pop_on
  tour_on_full l o h g e = simp (le-ltb 129 o g, ne_eqb l 0 (omega arith), eq-eqb n b e)

  -- the top of the stack is as good as the next link
  pub tour_on-pop : (o : ℕ) → 0 < o → o ≤ 129 → 0 < get_or ls (o - 1) 0
      → tour_on (suc f) ws b 0 o ls us n count ≡ tour_on (suc f) ws b (get_or ls (o - 1) 0) (o - 1) ls us n count
  unfolding tour_on pop_on
  tour_on-pop o h g e =
      simp (le-ltb 129 o g, le-ltb 129 (o - 1) (omega arith), ne_eqb o 0 (omega arith), ne_eqb (get_or ls (o - 1) 0) 0 (omega arith))

  pub tour_on_node : (l o : ℕ) (r : Record) → 0 < l → o ≤ 129 → n < b → visit_on ws l ≡ Ok r
      → tour_on (suc f) ws b l o ls us n count ≡ onward_on f ws b o ls us n count r
  unfolding tour_on turn_on pop_on node_on
  tour_on_node l o r h g m e = simp (le-ltb 129 o g, ne_eqb l 0 (omega arith), ne_eqb n b (omega arith), e)

pub tour_on_empty : (f : ℕ) (ws : List ℕ) (b l o : ℕ) (ls us : List ℕ) (n count : ℕ) → l ≡ 0 → o ≡ 0
    → tour_on f ws b l o ls us n count ≡ ends ls us (gives n false count)
unfolding tour_on turn_on pop_on
tour_on_empty zero ws b l o ls us n count h g = simp (h, g)
tour_on_empty (suc f) ws b l o ls us n count h g = simp (h, g)

-- ---- the items

-- what a tour comes to with the items is before it, n entries given, c to give, and count nodes passed
record Turns (ws : List ℕ) (c : ℕ) (us : List ℕ) (n count : ℕ) (is : List Item) (x : Touring) : Type 0 where
  out : x.out ≡ gives (n + length (take c (stored_in is))) (not (is_empty (past c is))) (count + length (up_to c is))
  words : Machine ws → x.words ≡ sets us (6 * n) (words_of (take c (stored_in is)))

turns_empty : (ws : List ℕ) (c : ℕ) (ls us : List ℕ) (n count : ℕ) → Turns ws c us n count [] (ends ls us (gives n false count))
turns_empty ws c ls us n count = record { out = simp (take-nil, add-zero); words = λ h. simp take-nil }

turns_full : (ws ls us : List ℕ) (n count : ℕ) (i : Item) (is : List Item)
    → Turns ws 0 us n count (i ∷ is) (ends ls us (gives n true count))
turns_full ws ls us n count i is = record { out = simp add-zero; words = λ h. refl }

take_own : (c : ℕ) (s : Bits) (v : Option ℕ) (m : Map) → take (suc c) (own s v ++ m) ≡ own s v ++ take (suc c - counts v) m
take_own c s none m = rw sub-zero
take_own c s (some z) m = rw (suc-sub-suc c 0, sub-zero)

sets-own : (us : List ℕ) (n : ℕ) (s : Bits) (v : Option ℕ) (m : Map)
    → sets (sets us (6 * n) (words_of (own s v))) (6 * (n + counts v)) (words_of m) ≡ sets us (6 * n) (words_of (own s v ++ m))
sets-own us n s none m = rw add-zero
sets-own us n s (some z) m =
    let e : 6 * (n + 1) ≡ suc (suc (suc (suc (suc (suc (6 * n)))))) = omega arith in
    rw e

length-own : (s : Bits) (v : Option ℕ) → length (own s v) ≡ counts v
length-own s none = refl
length-own s (some z) = refl

pub counts_most : (v : Option ℕ) → counts v ≤ 1
counts_most none = omega arith
counts_most (some z) = omega arith

module _ (ws : List ℕ) (c : ℕ) (us vs : List ℕ) (n k count a : ℕ) (s : Bits) (v : Option ℕ) (is : List Item) (x : Touring) where
  turns_step : k ≡ n + counts v → (Machine ws → vs ≡ sets us (6 * n) (words_of (own s v)))
      → Turns ws (suc c - counts v) vs k (count + 1) is x → Turns ws (suc c) us n count (record { link = a; key = s; zone = v } ∷ is) x
  turns_step e w t =
      let rest = take (suc c - counts v) (stored_in is) in
      let given : n + length (take (suc c) (own s v ++ stored_in is)) ≡ k + length rest =
      rw (take_own, length-append) (omega (arith, length-own s v)) in
      let passed : count + suc (length (up_to (suc c - counts v) is)) ≡ count + 1 + length (up_to (suc c - counts v) is) = omega arith in
      record {
        out = rw (eqb-suc-zero c, given, passed) t.out;
        words = λ h. rw take_own (t.words h ∙ rw (w h, e) (sets-own us n s v rest));
      }

-- ---- the tour

module _ (ws : List ℕ) (b : ℕ) where
  -- what a tour with the fuel f does over any trees that it has before it
  abbrev Goes : ℕ → Type 0
  Goes f =
      (l o : ℕ) (ls us : List ℕ) (n c count : ℕ) (t : Tree ℕ) (ts : List (Tree ℕ)) → Pending ws l ls o t ts → n + c ≡ b
      → length (items t ++ all_items ts) ≤ f → Turns ws c us n count (items t ++ all_items ts) (tour_on f ws b l o ls us n count)

  module _ (f : ℕ) (go : Goes f) (l o : ℕ) (ls us : List ℕ) (n c count a : ℕ) (s : Bits) (v : Option ℕ) (x y : Tree ℕ) where
    -- the side of 0 comes next, and that of 1 before all that the stack has
    turns-onward : (ts : List (Tree ℕ)) → Pending ws l ls o (node a s v x y) ts → n + suc c ≡ b
        → length (items (node a s v x y) ++ all_items ts) ≤ suc f
        → Turns ws (suc c - counts v) (entry_put us n (record_at ws a)).words (entry_put us n (record_at ws a)).given (count + 1)
        (items x ++ items y ++ all_items ts) (onward_on f ws b o ls us n count (record_at ws a))
    turns-onward ts p e h =
        let same : items x ++ all_items (pushed y ts) ≡ items x ++ items y ++ all_items ts = rw (all_items-pushed, append_assoc) in
        let to-give : (entry_put us n (record_at ws a)).given + (suc c - counts v) ≡ b =
        omega (arith, given-entry_put us n (record_at ws a) s v p.linked.1, counts_most v) in
        rw (← same)
        (go _ _ _ _ _ (suc c - counts v) (count + 1) x (pushed y ts) (pending-push ws ls l o a s v x y ts p) to-give (rw same (omega arith)))

  module _ (f : ℕ) (go : Goes f) (l o : ℕ) (ls us : List ℕ) (n : ℕ) where
    turns_node : (c count a : ℕ) (s : Bits) (v : Option ℕ) (x y : Tree ℕ) (ts : List (Tree ℕ)) → Pending ws l ls o (node a s v x y) ts
        → n + c ≡ b → length (items (node a s v x y) ++ all_items ts) ≤ suc f
        → Turns ws c us n count (items (node a s v x y) ++ all_items ts) (tour_on (suc f) ws b l o ls us n count)
    turns_node zero count a s v x y ts p e h =
        let above = linked_above ws l (node a s v x y) tt p.linked p.sound in
        rw (tour_on_full f ws b ls us n count l o above (omega (arith, p.room)) (omega arith)) (turns_full ws ls us n count _ _)
    turns_node (suc c) count a s v x y ts p e h =
        let above = linked_above ws l (node a s v x y) tt p.linked p.sound in
        let bears = p.linked.1 in
        let seen : visit_on ws l ≡ Ok (record_at ws a) =
        rw p.linked.0 (visit_on-bears ws a s v (p.sound a (Memᴰ.head refl)) bears) in
        rw (tour_on_node f ws b ls us n count l o (record_at ws a) above (omega (arith, p.room)) (omega arith) seen)
        (turns_step ws c us _ n _ count a s v (items x ++ items y ++ all_items ts) _ (given-entry_put us n (record_at ws a) s v bears)
        (λ w. words-entry_put us n (record_at ws a) s v (small-record_at ws a w) bears)
        (turns-onward f go l o ls us n c count a s v x y ts p e h))

  turns_zero : Goes zero
  turns_zero l o ls us n c count tip [] p e h =
      rw (tour_on_empty zero ws b l o ls us n count p.linked p.stacked) (turns_empty ws c ls us n count)
  turns_zero l o ls us n c count tip (tip ∷ ts) p e h = absurd p.stacked.1
  turns_zero l o ls us n c count tip (node a s v x y ∷ ts) p e h = absurd (omega arith)
  turns_zero l o ls us n c count (node a s v x y) ts p e h = absurd (omega arith)

  turns-suc : (f : ℕ) → Goes f → Goes (suc f)
  turns-suc f go l o ls us n c count tip [] p e h =
      rw (tour_on_empty (suc f) ws b l o ls us n count p.linked p.stacked) (turns_empty ws c ls us n count)
  turns-suc f go l o ls us n c count tip (tip ∷ ts) p e h = absurd p.stacked.1
  turns-suc f go l o ls us n c count tip (node a s v x y ∷ ts) p e h =
      let above = linked_above ws (get_or ls (o - 1) 0) (node a s v x y) tt p.stacked.2 p.stacked.3 in
      rw (p.linked, tour_on-pop f ws b ls us n count o p.stacked.0 (omega (arith, p.room)) above)
      (turns_node f go (get_or ls (o - 1) 0) (o - 1) ls us n c count a s v x y ts (pending-pop ws ls l o (node a s v x y) ts p) e h)
  turns-suc f go l o ls us n c count (node a s v x y) ts p e h = turns_node f go l o ls us n c count a s v x y ts p e h

  tour_on-turns : (f : ℕ) → Goes f
  tour_on-turns zero = turns_zero
  tour_on-turns (suc f) = turns-suc f (tour_on-turns f)

-- ---- tour_from

pub record Tours (b : ℕ) (us : List ℕ) (is : List Item) (x : Touring) : Type 0 where
  pub out : x.out ≡ gives (length (take b (stored_in is))) (not (is_empty (past b is))) (length (up_to b is))
  pub words : x.words ≡ words_of (take b (stored_in is)) ++ drop (6 * length (take b (stored_in is))) us

pub length-words_of : (m : Map) → length (words_of m) ≡ 6 * length m
length-words_of [] = refl
length-words_of (e ∷ m) = rw (length-words_of m) (omega arith)

sets-words_of : (b : ℕ) (us : List ℕ) (m : Map) → 6 * b ≤ length us
    → sets us 0 (words_of (take b m)) ≡ words_of (take b m) ++ drop (6 * length (take b m)) us
sets-words_of b us m h =
    let few : length (take b m) ≤ b = omega (arith, length-take b m) in
    sets-eq (words_of (take b m)) us 0 (rw length-words_of (omega arith)) ∙ rw (zero-add, length-words_of)

module _ (ws : List ℕ) (b next d : ℕ) (ls us : List ℕ) (t : Tree ℕ) (ts : List (Tree ℕ)) (p : Pending ws next ls d t ts)
    (few : length (items t ++ all_items ts) ≤ length ws / 8) where
  tour_from-turns : Turns ws b us 0 0 (items t ++ all_items ts) (tour_from ws b next d ls us)
  unfolding tour_from
  tour_from-turns = tour_on-turns ws b (length ws / 8) next d ls us 0 b 0 t ts p (zero-add b) few

  pub tour_from_out : (tour_from ws b next d ls us).out
      ≡ gives (length (take b (stored_in (items t ++ all_items ts)))) (not (is_empty (past b (items t ++ all_items ts))))
      (length (up_to b (items t ++ all_items ts)))
  tour_from_out = simp zero-add at tour_from-turns.out

  pub tour_from_words : ((i : ℕ) → get_or ws i 0 < 2 ^ 32) → 6 * b ≤ length us
      → (tour_from ws b next d ls us).words
      ≡ words_of (take b (stored_in (items t ++ all_items ts))) ++ drop (6 * length (take b (stored_in (items t ++ all_items ts)))) us
  tour_from_words w h = tour_from-turns.words w ∙ sets-words_of b us (stored_in (items t ++ all_items ts)) h

pub tour_from-pending : (ws : List ℕ) (b next d : ℕ) (ls us : List ℕ) (t : Tree ℕ) (ts : List (Tree ℕ)) → Pending ws next ls d t ts
    → ((i : ℕ) → get_or ws i 0 < 2 ^ 32) → 6 * b ≤ length us → length (items t ++ all_items ts) ≤ length ws / 8
    → Tours b us (items t ++ all_items ts) (tour_from ws b next d ls us)
tour_from-pending ws b next d ls us t ts p w h few =
    record { out = tour_from_out ws b next d ls us t ts p few; words = tour_from_words ws b next d ls us t ts p few w h }
