-- The laws of the way to the resume on words that hold a map: what is next and what is on the stack
-- then lead to all the nodes after the resume, in their order. No contract cites this file.
-- Assumes nothing.
use Prim.Native.Nat.{ℕ, zero, suc, ◌+◌, ◌≤◌, min}
use native.Mathlib.Nat.{add-zero}
use native.Mathlib.Omega.{arith}
use mathlib.Core.Path.{◌≡◌, refl, sym, ap, ◌∙◌}
use mathlib.Core.Bool.{Bool, true, false}
use mathlib.Core.List.Memᴰ
use mathlib.Core.List.{List, [], ◌∷◌, ◌++◌, append-nil, append_assoc}
use mathlib.Core.Option.{Option}
use Rattle.std.specs.Prelude.{Ok}
use lib.Dec.{T}
use lib.ListN.{length, length-append}
use borrow.Author.Tests.{ne_eqb}
use Rattle.bits.specs.Bits.{Bits, is_prefix, lcp}
use Rattle.bits.specs.Meet.{meet}
use Rattle.bits.specs.declared.Meeting.{Meeting}
use Rattle.bits.specs.declared.Meeting.TheVariants.{Equal, Below, Above, Apart}
use Rattle.bits.proofs.BitsLaws.{is_prefix_length, lcp-greatest}
use Rattle.bits.proofs.MeetLaws.{Says, meet-says}
use Rattle.prefix.specs.Keys.{string_of, Valid}
use Rattle.prefix.specs.declared.Prefix.{Prefix}
use Rattle.prefix.proofs.KeysLaws.{length-string_of}
use Rattle.zones.specs.Tree.{Tree, tip, node, Good}
use Rattle.zones.specs.Searching.{onward, walk}
use Rattle.records.specs.Layout.{record_at}
use Rattle.records.proofs.LayoutLaws.{room_of_zero}
use Rattle.listing.specs.Touring.{starts, Stack, push_on, sought_on, Seeking, after_on, seek_on}
use Rattle.listing.specs.declared.way.Sought.TheVariants.{On, Done}
use Rattle.listing.proofs.Items.{Item, items, all_items, height, Stacked, Pending}
use Rattle.listing.proofs.PushLaws.{height-linked, Leads, leads-tip, leads_left, leads_right, Pushed, push_on-leads}
use Rattle.listing.proofs.SoughtLaws.{rest, rest-equal, rest_left, rest_right, rest_above, rest_apart-all, rest_apart-none}
use Rattle.listing.proofs.SoughtLaws.{Met, sought_on_above, sought_on_apart, sought_on-equal, sought_on_below}

-- ---- seek_on

-- x is a way's end where n nodes were met, and what is left leads to the items is
pub record Comes (ws : List ℕ) (n : ℕ) (is : List Item) (x : Seeking) : Type 0 where
  pub next : ℕ
  pub tree : Tree ℕ
  pub trees : List (Tree ℕ)
  pub out : x.out ≡ starts next n
  pub pending : Pending ws next x.links x.depth tree trees
  pub items_is : items tree ++ all_items trees ≡ is

-- where a way for k stands that looks for what begins with p, may still make f steps, and has the trees ts
-- on its stack
pub record Stands (ws : List ℕ) (k : Prefix) (p : Bits) (low f : ℕ) (ls : List ℕ) (o : ℕ) (ts : List (Tree ℕ)) : Type 0 where
  pub prefix : T (is_prefix p (string_of k))
  pub low_is : low ≡ length p
  pub fuel : 130 ≤ low + f
  pub shallow : o ≤ length p
  pub stacked : Stacked ws ls o ts
  pub length_is : length ls ≡ 129

module _ (ws : List ℕ) (k : Prefix) where
  abbrev key : Bits
  key = string_of k

  -- what a way comes to from a link that leads to t
  abbrev Follows : Tree ℕ → Type 0
  Follows t =
      (p : Bits) (f n low : ℕ) (ls : List ℕ) (o l : ℕ) (ts : List (Tree ℕ)) → Good p t → Leads ws l t → Stands ws k p low f ls o ts
      → Comes ws (n + length (walk t key)) (rest key t ++ all_items ts) (seek_on f ws k l low n ls o)

  seek_on_zero : (f low n : ℕ) (ls : List ℕ) (o : ℕ) → seek_on f ws k 0 low n ls o ≡ record { links = ls; depth = o; out = starts 0 n }
  unfolding seek_on
  seek_on_zero zero low n ls o = refl
  seek_on_zero (suc f) low n ls o = refl

  module _ (valid : Valid k) where
    stem-le : (p : Bits) → T (is_prefix p key) → length p ≤ 128
    stem-le p h = omega (arith, is_prefix_length p key h, length-string_of k valid.narrow, valid.narrow)

    seek_on-tip : Follows tip
    seek_on-tip p f n low ls o l ts g e st =
        let h : o + 0 ≤ 129 = omega (arith, stem-le p st.prefix) in
        rw (e.linked, seek_on_zero f low n ls o) (record {
          next = 0;
          tree = tip;
          trees = ts;
          out = ap (starts 0) (sym (add-zero n));
          pending = record { linked = refl; sound = (leads-tip ws).sound; room = h; stacked = st.stacked; length_is = st.length_is };
          items_is = refl;
        })

    -- at a node, by how the key meets its string
    module _ (a : ℕ) (z : Bits) (v : Option ℕ) (l r : Tree ℕ) (p : Bits) (f n low : ℕ) (ls : List ℕ) (o : ℕ) (ts : List (Tree ℕ))
        (g : Good p (node a z v l r)) (e : Leads ws a (node a z v l r)) (st : Stands ws k p low (suc f) ls o ts) where
      -- what the way comes to: m nodes met, and what is left leads to the items is, and then to the stack's
      abbrev Goes : ℕ → List Item → Type 0
      Goes m is =
          Comes ws m (is ++ all_items ts)
          (after_on (sought_on ws k a low) ls o n (λ x w t. seek_on f ws k x w (n + 1) t.links t.depth))

      goes_to : {m : ℕ} {is js : List Item} → js ≡ is → Goes m is → Goes m js
      goes_to q c = rw q c

      meets : Met ws k a low z v
      meets =
          record {
            valid = valid;
            room = e.sound a (Memᴰ.head refl);
            bears = e.linked.1;
            shares = omega (arith, is_prefix_length p (lcp z key) (lcp-greatest p z key g.0 st.prefix));
          }

      height-whole : o + height (node a z v l r) ≤ 129
      height-whole =
          omega (arith, height-linked (record_at ws) a p (node a z v l r) (omega (arith, stem-le p st.prefix)) g e.linked)

      -- the way ends: the tree t is next, and u goes on the stack
      goes_done : (next side : ℕ) (t u : Tree ℕ) → sought_on ws k a low ≡ Ok (Done next side) → Leads ws next t → Leads ws side u
          → o + height u ≤ 129 → o + min 1 (height u) + height t ≤ 129 → Goes (n + 1) (items t ++ items u)
      unfolding after_on
      goes_done next side t u q lt lu h i =
          let w = push_on-leads ws ls o ts st.stacked st.length_is side u lu h in
          rw q (record {
            next = next;
            tree = t;
            trees = w.trees;
            out = refl;
            pending = record { linked = lt.linked; sound = lt.sound; room = omega arith; stacked = w.stacked; length_is = w.length_is };
            items_is = ap (◌++◌ (items t)) w.items_is ∙ sym (append_assoc (items t) (items u) (all_items ts));
          })

      goes_sides : sought_on ws k a low ≡ Ok (Done (record_at ws a).left (record_at ws a).right) → Goes (n + 1) (items l ++ items r)
      goes_sides q =
          let h : o + height r ≤ 129 = omega (arith, height-whole) in
          let i : o + min 1 (height r) + height l ≤ 129 = omega (arith, height-whole) in
          goes_done (record_at ws a).left (record_at ws a).right l r q (leads_left e) (leads_right e) h i

      -- nothing goes on the stack
      goes_next : (next : ℕ) (t : Tree ℕ) → sought_on ws k a low ≡ Ok (Done next 0) → Leads ws next t → o + height t ≤ 129
          → Goes (n + 1) (items t)
      goes_next next t q lt h = goes_to (sym (append-nil (items t))) (goes_done next 0 t tip q lt (leads-tip ws) (omega arith) (omega arith))

      stands_below : (x : Bool) (u : Tree ℕ) (t : Stack) → Says (Below x) z key → (w : Pushed ws o u ts t)
          → Stands ws k (z ++ (x ∷ [])) (length z + 1) f t.links t.depth w.trees
      stands_below x u t y w =
          let j : length (z ++ (x ∷ [])) ≡ length z + 1 = length-append z (x ∷ []) in
          let i : length p ≤ length z = is_prefix_length p z g.0 in
          record {
            prefix = y;
            low_is = sym j;
            fuel = omega (arith, st.fuel, st.low_is);
            shallow = omega (arith, w.depth_le, st.shallow);
            stacked = w.stacked;
            length_is = w.length_is;
          }

      -- the way goes on into the tree t, and u goes on the stack
      goes_on : (x : Bool) (next side : ℕ) (t u : Tree ℕ) → Follows t → sought_on ws k a low ≡ Ok (On next (length z + 1) side)
          → Says (Below x) z key → Good (z ++ (x ∷ [])) t → Leads ws next t → Leads ws side u → o + height u ≤ 129
          → Goes (n + suc (length (walk t key))) (rest key t ++ items u)
      unfolding after_on
      goes_on x next side t u follow q y good lt lu h =
          let w = push_on-leads ws ls o ts st.stacked st.length_is side u lu h in
          let number : n + 1 + length (walk t key) ≡ n + suc (length (walk t key)) = omega arith in
          rw (q, append_assoc (rest key t) (items u) (all_items ts), ← w.items_is, ← number)
          (follow (z ++ (x ∷ [])) f (n + 1) (length z + 1) (push_on ls o side).links (push_on ls o side).depth next w.trees good lt
          (stands_below x u (push_on ls o side) y w))

      goes_left : Follows l → Says (Below false) z key → Goes (n + suc (length (walk l key))) (rest key l ++ items r)
      goes_left follow y =
          goes_on false (record_at ws a).left (record_at ws a).right l r follow (sought_on_below meets false y) y g.2
          (leads_left e) (leads_right e) (omega (arith, height-whole))

      goes_right : Follows r → Says (Below true) z key → Goes (n + suc (length (walk r key))) (rest key r)
      goes_right follow y =
          goes_to (sym (append-nil (rest key r))) (goes_on true (record_at ws a).right 0 r tip follow (sought_on_below meets true y) y g.3
          (leads_right e) (leads-tip ws) (omega (arith, height-whole)))

      seek_on_node : Follows l → Follows r → (m : Meeting) → Says m z key
          → Goes (n + length (z ∷ onward m [] [] (walk l key) (walk r key))) (rest key (node a z v l r))
      seek_on_node fl fr Equal y = goes_to (rest-equal key a z v l r p g y) (goes_sides (sought_on-equal meets y))
      seek_on_node fl fr (Below false) y = goes_to (rest_left key a z v l r p g y) (goes_left fl y)
      seek_on_node fl fr (Below true) y = goes_to (rest_right key a z v l r p g y) (goes_right fr y)
      seek_on_node fl fr (Above x) y =
          goes_to (rest_above key a z v l r p g x y) (goes_next a (node a z v l r) (sought_on_above meets x y) e height-whole)
      seek_on_node fl fr (Apart false) y =
          goes_to (rest_apart-all key a z v l r p g y) (goes_next a (node a z v l r) (sought_on_apart meets false y) e height-whole)
      seek_on_node fl fr (Apart true) y =
          goes_to (rest_apart-none key a z v l r p g y) (goes_next 0 tip (sought_on_apart meets true y) (leads-tip ws) (omega (arith, height-whole)))

    pub seek_on-leads : (t : Tree ℕ) → Follows t
    unfolding seek_on
    seek_on-leads tip p f n low ls o c ts g e st = seek_on-tip p f n low ls o c ts g e st
    seek_on-leads (node a z v l r) p zero n low ls o c ts g e st =
        absurd (omega (arith, stem-le p st.prefix, st.fuel, st.low_is))
    seek_on-leads (node a z v l r) p (suc f) n low ls o c ts g e st =
        let at : Leads ws a (node a z v l r) = record { linked = (refl, e.linked.1, e.linked.2, e.linked.3); sound = e.sound } in
        rw (e.linked.0, ne_eqb a 0 (room_of_zero (length ws) a (e.sound a (Memᴰ.head refl))))
        (seek_on_node a z v l r p f n low ls o ts g at st (seek_on-leads l) (seek_on-leads r) (meet z key) (meet-says z key))
