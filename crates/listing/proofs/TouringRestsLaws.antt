-- The laws of what the way to the resume and the tour after it rest on: on any memory of the same length that
-- agrees with a table in the records of the nodes that they pass, they leave the same.
-- No contract cites this file.
-- Assumes nothing.
use Prim.Native.Nat.{ℕ, zero, suc, ◌+◌, ◌-◌, ◌/◌, ◌≤◌, ◌<◌}
use native.Mathlib.Nat.{zero-add}
use native.Mathlib.Omega.{arith}
use mathlib.Core.Path.{◌≡◌, refl, sym, ◌∙◌}
use mathlib.Core.Bool.{Bool, true, false}
use mathlib.Core.List.{List, [], ◌∷◌, ◌++◌, map, append_assoc, Memᴰ}
use mathlib.Core.Option.{Option}
use Rattle.std.specs.Prelude.{Ok}
use lib.Dec.{T, eqb-suc-zero}
use lib.ListN.{length, get_or, length-append}
use Rattle.bits.specs.Bits.{Bits, is_prefix, lcp}
use Rattle.bits.specs.Meet.{meet}
use Rattle.bits.specs.declared.Meeting.{Meeting}
use Rattle.bits.specs.declared.Meeting.TheVariants.{Equal, Below, Above, Apart}
use Rattle.bits.proofs.BitsLaws.{is_prefix_length, lcp-greatest}
use Rattle.bits.proofs.MeetLaws.{Says, meet-says}
use Rattle.prefix.specs.Keys.{string_of, Valid}
use Rattle.prefix.specs.declared.Prefix.{Prefix}
use Rattle.zones.specs.Tree.{Tree, tip, node, Good}
use Rattle.zones.specs.Searching.{onward}
use Rattle.records.specs.Layout.{record_at}
use Rattle.lookup.proofs.PathLinksLaws.{walk_links}
use Rattle.listing.specs.Touring.{push_on, sought_on, Seeking, after_on, seek_on, visit_on, entry_put, turn_on, tour_on, tour_from}
use Rattle.listing.specs.declared.way.Sought.TheVariants.{On, Done}
use Rattle.listing.proofs.Items.{Item, items, all_items, counts, up_to, Pending}
use Rattle.listing.proofs.PendingLaws.{linked_above, pending-pop, pushed, all_items-pushed, pending-push}
use Rattle.listing.proofs.EntriesLaws.{given-entry_put}
use Rattle.listing.proofs.TourLaws.{visit_on-bears, onward_on, tour_on_full, tour_on-pop, tour_on_node, tour_on_empty, counts_most}
use Rattle.listing.proofs.PushLaws.{Leads, leads_left, leads_right}
use Rattle.listing.proofs.SoughtLaws.{Met, sought_on_above, sought_on_apart, sought_on-equal, sought_on_below}

-- ---- links_of: the links of the nodes that a tour passes

abbrev pub links_of : List Item → List ℕ
links_of is = map (λ i. i.link) is

-- ---- Same

module _ (us ws : List ℕ) (length-same : length us ≡ length ws) where
  -- the records at the links are the same
  abbrev Same : List ℕ → Type 0
  Same ls = (l : ℕ) → Memᴰ l ls → record_at us l ≡ record_at ws l

  -- ---- tour_on

  visit_on_same : (l : ℕ) → record_at us l ≡ record_at ws l → visit_on us l ≡ visit_on ws l
  unfolding visit_on
  visit_on_same l e = rw (length-same, e)

  module _ (b : ℕ) where
    -- a tour with the fuel f reads the records of the nodes that it passes, and no other
    abbrev Rests : ℕ → Type 0
    Rests f =
        (l o : ℕ) (ls vs : List ℕ) (n c count : ℕ) (t : Tree ℕ) (ts : List (Tree ℕ)) → Pending ws l ls o t ts → n + c ≡ b
        → Same (links_of (up_to c (items t ++ all_items ts))) → tour_on f us b l o ls vs n count ≡ tour_on f ws b l o ls vs n count

    module _ (f : ℕ) (go : Rests f) (l o : ℕ) (ls vs : List ℕ) (n : ℕ) where
      -- the side of 0 comes next, and that of 1 before all that the stack has
      rests-onward : (c count a : ℕ) (s : Bits) (v : Option ℕ) (x y : Tree ℕ) (ts : List (Tree ℕ)) → Pending ws l ls o (node a s v x y) ts
          → n + suc c ≡ b → Same (links_of (up_to (suc c - counts v) ((items x ++ items y) ++ all_items ts)))
          → onward_on f us b o ls vs n count (record_at ws a) ≡ onward_on f ws b o ls vs n count (record_at ws a)
      rests-onward c count a s v x y ts p e same =
          let order : (items x ++ items y) ++ all_items ts ≡ items x ++ all_items (pushed y ts) = rw (all_items-pushed, append_assoc) in
          let to-give : (entry_put vs n (record_at ws a)).given + (suc c - counts v) ≡ b =
          omega (arith, given-entry_put vs n (record_at ws a) s v p.linked.1, counts_most v) in
          go _ _ _ _ _ (suc c - counts v) (count + 1) x (pushed y ts) (pending-push ws ls l o a s v x y ts p) to-give (rw order at same)

      rests_step : (c count a : ℕ) (s : Bits) (v : Option ℕ) (x y : Tree ℕ) (ts : List (Tree ℕ)) → Pending ws l ls o (node a s v x y) ts
          → 0 < l → n + suc c ≡ b → Same (a ∷ links_of (up_to (suc c - counts v) ((items x ++ items y) ++ all_items ts)))
          → tour_on (suc f) us b l o ls vs n count ≡ tour_on (suc f) ws b l o ls vs n count
      rests_step c count a s v x y ts p above e same =
          let room : o ≤ 129 = omega (arith, p.room) in
          let left : n < b = omega arith in
          let seen : visit_on ws l ≡ Ok (record_at ws a) =
          rw p.linked.0 (visit_on-bears ws a s v (p.sound a (Memᴰ.head refl)) p.linked.1) in
          let here : record_at us l ≡ record_at ws l = rw p.linked.0 (same a (Memᴰ.head refl)) in
          tour_on_node f us b ls vs n count l o (record_at ws a) above room left (visit_on_same l here ∙ seen)
          ∙ rests-onward c count a s v x y ts p e (λ i j. same i (Memᴰ.tail j))
          ∙ sym (tour_on_node f ws b ls vs n count l o (record_at ws a) above room left seen)

      -- once all are given, no record is read
      rests_node : (c count a : ℕ) (s : Bits) (v : Option ℕ) (x y : Tree ℕ) (ts : List (Tree ℕ)) → Pending ws l ls o (node a s v x y) ts
          → n + c ≡ b → Same (links_of (up_to c (items (node a s v x y) ++ all_items ts)))
          → tour_on (suc f) us b l o ls vs n count ≡ tour_on (suc f) ws b l o ls vs n count
      rests_node zero count a s v x y ts p e same =
          let above = linked_above ws l (node a s v x y) tt p.linked p.sound in
          let room : o ≤ 129 = omega (arith, p.room) in
          rw (tour_on_full f us b ls vs n count l o above room (omega arith), tour_on_full f ws b ls vs n count l o above room (omega arith))
      rests_node (suc c) count a s v x y ts p e same =
          let above = linked_above ws l (node a s v x y) tt p.linked p.sound in
          rests_step c count a s v x y ts p above e (rw (eqb-suc-zero c) at same)

    rests-suc : (f : ℕ) → Rests f → Rests (suc f)
    rests-suc f go l o ls vs n c count tip [] p e same =
        tour_on_empty (suc f) us b l o ls vs n count p.linked p.stacked
        ∙ sym (tour_on_empty (suc f) ws b l o ls vs n count p.linked p.stacked)
    rests-suc f go l o ls vs n c count tip (tip ∷ ts) p e same = absurd p.stacked.1
    rests-suc f go l o ls vs n c count tip (node a s v x y ∷ ts) p e same =
        let above = linked_above ws (get_or ls (o - 1) 0) (node a s v x y) tt p.stacked.2 p.stacked.3 in
        let room : o ≤ 129 = omega (arith, p.room) in
        rw (p.linked, tour_on-pop f us b ls vs n count o p.stacked.0 room above, tour_on-pop f ws b ls vs n count o p.stacked.0 room above)
        (rests_node f go (get_or ls (o - 1) 0) (o - 1) ls vs n c count a s v x y ts (pending-pop ws ls l o (node a s v x y) ts p) e same)
    rests-suc f go l o ls vs n c count (node a s v x y) ts p e same = rests_node f go l o ls vs n c count a s v x y ts p e same

    tour_on_rests : (f : ℕ) → Rests f
    unfolding tour_on turn_on
    tour_on_rests zero = λ l o ls vs n c count t ts p e same. refl
    tour_on_rests (suc f) = rests-suc f (tour_on_rests f)

    pub tour_from_rests : (l o : ℕ) (ls vs : List ℕ) (t : Tree ℕ) (ts : List (Tree ℕ)) → Pending ws l ls o t ts
        → Same (links_of (up_to b (items t ++ all_items ts))) → tour_from us b l o ls vs ≡ tour_from ws b l o ls vs
    unfolding tour_from
    tour_from_rests l o ls vs t ts p same = rw length-same (tour_on_rests (length ws / 8) l o ls vs 0 b 0 t ts p (zero-add b) same)

  -- ---- seek_on

  module _ (k : Prefix) (valid : Valid k) where
    abbrev key : Bits
    key = string_of k

    -- a way reads the records of the nodes that a walk meets, and no other
    abbrev Seeks : Tree ℕ → Type 0
    Seeks t =
        (p : Bits) (f n low : ℕ) (ls : List ℕ) (o l : ℕ) → Good p t → Leads ws l t → T (is_prefix p key) → low ≡ length p
        → Same (walk_links t key) → seek_on f us k l low n ls o ≡ seek_on f ws k l low n ls o

    sought_on_same : (l low : ℕ) → record_at us l ≡ record_at ws l → sought_on us k l low ≡ sought_on ws k l low
    unfolding sought_on
    sought_on_same l low e = rw (length-same, e)

    -- at a node, by how the key meets its string
    module _ (a : ℕ) (z : Bits) (v : Option ℕ) (l r : Tree ℕ) (p : Bits) (f n low : ℕ) (ls : List ℕ) (o : ℕ)
        (g : Good p (node a z v l r)) (e : Leads ws a (node a z v l r)) (begins : T (is_prefix p key)) (low_is : low ≡ length p) where
      -- the way over the words xs, from the step that ws gives
      abbrev goes : List ℕ → Seeking
      goes xs = after_on (sought_on ws k a low) ls o n (λ x w t. seek_on f xs k x w (n + 1) t.links t.depth)

      meets : Met ws k a low z v
      meets =
          record {
            valid = valid;
            room = e.sound a (Memᴰ.head refl);
            bears = e.linked.1;
            shares = omega (arith, is_prefix_length p (lcp z key) (lcp-greatest p z key g.0 begins));
          }

      goes_done : (next side : ℕ) → sought_on ws k a low ≡ Ok (Done next side) → goes us ≡ goes ws
      unfolding after_on
      goes_done next side q = rw q

      goes_below : (x : Bool) (next side : ℕ) (t : Tree ℕ) → Seeks t → sought_on ws k a low ≡ Ok (On next (length z + 1) side)
          → Says (Below x) z key → Good (z ++ (x ∷ [])) t → Leads ws next t → Same (a ∷ walk_links t key) → goes us ≡ goes ws
      unfolding after_on
      goes_below x next side t seeks q y good leads same =
          rw q (seeks (z ++ (x ∷ [])) f (n + 1) (length z + 1) (push_on ls o side).links (push_on ls o side).depth next good leads y
          (sym (length-append z (x ∷ []))) (λ i j. same i (Memᴰ.tail j)))

      goes_same : Seeks l → Seeks r → (m : Meeting) → Says m z key
          → Same (a ∷ onward m [] [] (walk_links l key) (walk_links r key)) → goes us ≡ goes ws
      goes_same sl sr Equal y same = goes_done _ _ (sought_on-equal meets y)
      goes_same sl sr (Below false) y same =
          goes_below false _ _ l sl (sought_on_below meets false y) y g.2 (leads_left e) same
      goes_same sl sr (Below true) y same =
          goes_below true _ _ r sr (sought_on_below meets true y) y g.3 (leads_right e) same
      goes_same sl sr (Above x) y same = goes_done _ _ (sought_on_above meets x y)
      goes_same sl sr (Apart x) y same = goes_done _ _ (sought_on_apart meets x y)

    pub seek_on_rests : (t : Tree ℕ) → Seeks t
    unfolding seek_on
    seek_on_rests tip p zero n low ls o c g e begins low_is same = refl
    seek_on_rests tip p (suc f) n low ls o c g e begins low_is same = rw e.linked
    seek_on_rests (node a z v l r) p zero n low ls o c g e begins low_is same = refl
    seek_on_rests (node a z v l r) p (suc f) n low ls o c g e begins low_is same =
        let at : Leads ws a (node a z v l r) = record { linked = (refl, e.linked.1, e.linked.2, e.linked.3); sound = e.sound } in
        rw (
          e.linked.0,
          sought_on_same a low (same a (Memᴰ.head refl)),
          goes_same a z v l r p f n low ls o g at begins low_is
              (seek_on_rests l) (seek_on_rests r) (meet z key) (meet-says z key) same,
        )
