-- The laws of the walk on words that hold a tree: it meets the nodes that a search meets there, writes their
-- widths, and notes the best entry that it passes. No contract cites this file.
-- Assumes nothing.
use Prim.Native.Nat.{ℕ, zero, suc, ◌+◌, ◌/◌, ◌≤◌, ◌<◌}
use native.Mathlib.Nat.{add-zero}
use native.Mathlib.Numerals.{add-one}
use native.Mathlib.Omega.{arith}
use mathlib.Core.Path.{◌≡◌, refl, sym, ap, ◌∙◌, subst}
use mathlib.Core.Bool.{Bool, true, false, cond}
use mathlib.Core.List.Memᴰ
use mathlib.Core.List.{List, [], ◌∷◌, ◌++◌, map, Memᴰ}
use mathlib.Core.Option.{Option, none, some}
use Rattle.std.specs.Prelude as prelude
use Rattle.std.specs.Prelude.{Some}
use lib.Dec.{T}
use lib.ListN.{length, set, length-append}
use lib.Seq.{sets}
use Rattle.bits.specs.Bits.{Bits, is_prefix, lcp}
use Rattle.bits.specs.Meet.{meet}
use Rattle.bits.specs.Numbers.{odd}
use Rattle.bits.specs.declared.Meeting.{Meeting}
use Rattle.bits.specs.declared.Meeting.TheVariants.{Equal, Below, Above, Apart}
use Rattle.bits.proofs.BitsLaws.{is_prefix_refl, is_prefix_trans, is_prefix_length, is_prefix-append, lcp-greatest}
use Rattle.bits.proofs.MeetLaws.{Says, meet-says}
use Rattle.prefix.specs.Keys.{string_of, Valid}
use Rattle.prefix.specs.declared.Prefix.{Prefix}
use Rattle.prefix.proofs.KeysLaws.{length-string_of}
use Rattle.zones.specs.Maps.{Entry}
use Rattle.zones.specs.Tree.{Tree, tip, node, Good}
use Rattle.zones.specs.Searching.{onward, walk, better, best}
use Rattle.records.specs.Layout.{room_of, record_at, zone_of}
use Rattle.records.specs.Holds.{labels, Bears, Linked}
use Rattle.records.specs.declared.Record.{Record}
use Rattle.lookup.specs.Walking.{shared_on, down_on, seen_on, Survey, path_of, after_on, walk_on}
use Rattle.lookup.specs.declared.Walk.{Walk}
use Rattle.lookup.specs.declared.Met.{Met}
use Rattle.lookup.specs.declared.Met.TheVariants.{Matching, Mismatching}
use Rattle.lookup.specs.declared.Match.{Match}
use Rattle.lookup.specs.Matching.{match_of}
use Rattle.lookup.proofs.StepsLaws.{width-bears, narrow-bears, shared_on-bears, shared_on-prefix, shared_on_above, shared_on_apart, side_on-equal, side_on_below, step_on_end, step_on_node, seen_on_down, seen_on-last}

-- ---- what a walk notes, and what it leaves

-- the walk s has noted the entry o, or none
abbrev pub Noted : Option Entry → Walk → Type 0
Noted o s = s.longest ≡ match_of o

noted_at : (t : Bool) (z : Bits) (o : Option Entry) (w x : ℕ) (b : prelude.Option Match) → w ≡ length z → b ≡ match_of o
    → cond t (Some (record { width = w; zone = x })) b ≡ match_of (better z (cond t (some x) none) o)
noted_at true z o w x b e h = rw e
noted_at false z o w x b e h = h

noted_down : (r : Record) (k : Prefix) (z : Bits) (v : Option ℕ) (o : Option Entry) (s : Walk) → Bears r z v
    → Noted o s → Noted (better z v o) (down_on r k s)
unfolding down_on zone_of
noted_down r k z v o s b h =
    subst (λ (u : Option ℕ). Noted (better z u o) (down_on r k s)) b.zone
    (noted_at (odd r.tag) z o (r.tag / 2) r.zone s.longest (width-bears r z v b) h)

-- x is what a walk leaves that met the strings ps from place n on, over ts, and noted o at its end
pub record Walked (ts : List ℕ) (n : ℕ) (ps : List Bits) (o : Option Entry) (x : Survey) : Type 0 where
  pub ends : Walk
  pub met : Met
  pub out : x.out ≡ path_of (n + length ps) ends met
  pub widths : x.widths ≡ sets ts n (map length ps)
  pub noted : Noted o ends

walked_cons : (ts : List ℕ) (n w : ℕ) (z : Bits) (ps : List Bits) (o : Option Entry) (x : Survey) → w ≡ length z
    → Walked (set ts n w) (n + 1) ps o x → Walked ts n (z ∷ ps) o x
walked_cons ts n w z ps o x e h =
    record {
      ends = h.ends;
      met = h.met;
      out = h.out ∙ ap (λ (i : ℕ). path_of i h.ends h.met) (omega arith);
      widths = h.widths ∙ rw (e, add-one);
      noted = h.noted;
    }

-- ---- walk_on

-- where a walk for k stands that looks for what begins with p, has noted o, and may still make f steps
pub record Stands (k : Prefix) (p : Bits) (o : Option Entry) (f : ℕ) (s : Walk) : Type 0 where
  pub prefix : T (is_prefix p (string_of k))
  pub low : s.low ≡ length p
  pub noted : Noted o s
  pub fuel : 130 ≤ s.low + f

-- the words have a record for each link of the tree
abbrev pub Rooms : List ℕ → Tree ℕ → Type 0
Rooms ws t = (a : ℕ) → Memᴰ a (labels t) → room_of (length ws) a ≡ true

module _ (ws : List ℕ) (k : Prefix) where
  walked_end : (f n : ℕ) (ts : List ℕ) (s : Walk) (o : Option Entry) → 1 ≤ f → s.next ≡ 0 → Noted o s
      → Walked ts n [] o (walk_on f ws k n ts s)
  unfolding walk_on after_on
  walked_end zero n ts s o i e h = absurd (omega arith)
  walked_end (suc f) n ts s o i e h =
      let out = ap (λ (j : ℕ). path_of j s (Matching s.at)) (sym (add-zero n)) in
      rw (step_on_end ws k s e) (record { ends = s; met = Matching s.at; out = out; widths = refl; noted = h })

  -- what a walk comes to from a link that is linked as t is
  abbrev pub Follows : Tree ℕ → Type 0
  Follows t =
      (p : Bits) (o : Option Entry) (f n : ℕ) (ts : List ℕ) (s : Walk) → Good p t → Linked (record_at ws) s.next t → Rooms ws t
      → Stands k p o f s → Walked ts n (walk t (string_of k)) (best o t (string_of k)) (walk_on f ws k n ts s)

  module _ (valid : Valid k) where
    fuel_left : (p : Bits) (o : Option Entry) (f : ℕ) (s : Walk) → Stands k p o f s → 2 ≤ f
    fuel_left p o f s st =
        let h : length p ≤ length (string_of k) = is_prefix_length p (string_of k) st.prefix in
        omega (arith, st.low, st.fuel, length-string_of k valid.narrow, valid.narrow)

    -- at a node, by how the key meets its string
    module _ (a : ℕ) (z : Bits) (v : Option ℕ) (l r : Tree ℕ) (p : Bits) (o : Option Entry) (f n : ℕ) (ts : List ℕ) (s : Walk)
        (g : Good p (node a z v l r)) (e : Linked (record_at ws) s.next (node a z v l r)) (st : Stands k p o (suc f) s) where
      -- its record
      abbrev here : Record
      here = record_at ws a

      abbrev Goes : List Bits → Option Entry → Type 0
      Goes ps u = Walked ts n ps u (after_on (seen_on here k s) n ts s (λ w d. walk_on f ws k (n + 1) (set ts n w) d))

      low-shared_on : s.low ≤ shared_on here k
      low-shared_on =
          let c : length p ≤ length (lcp z (string_of k)) =
          is_prefix_length p (lcp z (string_of k)) (lcp-greatest p z (string_of k) g.0 st.prefix) in
          omega (arith, st.low, shared_on-bears here z v e.1 k)

      goes_off : shared_on here k < here.tag / 2 → Goes (z ∷ []) o
      unfolding after_on
      goes_off i =
          let widths = ap (set ts n) (width-bears here z v e.1) in
          rw (seen_on-last here k s (narrow-bears here z v e.1) low-shared_on i)
          (record { ends = s; met = Mismatching s.next (shared_on here k); out = refl; widths = widths; noted = st.noted })

      goes_on : (ps : List Bits) (u : Option Entry) → T (is_prefix z (string_of k))
          → Walked (set ts n (here.tag / 2)) (n + 1) ps u (walk_on f ws k (n + 1) (set ts n (here.tag / 2)) (down_on here k s))
          → Goes (z ∷ ps) u
      unfolding after_on
      goes_on ps u i w =
          rw (seen_on_down here k s (narrow-bears here z v e.1) low-shared_on (omega (arith, shared_on-prefix here z v e.1 k i)))
          (walked_cons ts n (here.tag / 2) z ps u _ (width-bears here z v e.1) w)

      noted_next : Noted (better z v o) (down_on here k s)
      noted_next = noted_down here k z v o s e.1 st.noted

      goes-equal : Says Equal z (string_of k) → Goes (z ∷ []) (better z v o)
      unfolding down_on
      goes-equal y =
          goes_on [] (better z v o) (subst (λ (q : Bits). T (is_prefix z q)) y (is_prefix_refl z))
          (walked_end f (n + 1) (set ts n (here.tag / 2)) (down_on here k s) (better z v o) (omega (arith, fuel_left p o (suc f) s st))
          (side_on-equal here z v e.1 k valid y) noted_next)

      stands_below : (x : Bool) → Says (Below x) z (string_of k) → Stands k (z ++ (x ∷ [])) (better z v o) f (down_on here k s)
      unfolding down_on
      stands_below x y =
          let w : here.tag / 2 ≡ length z = width-bears here z v e.1 in
          record {
            prefix = y;
            low = omega (arith, length-append z (x ∷ []));
            noted = noted_next;
            fuel = omega (arith, st.fuel, st.low, is_prefix_length p z g.0);
          }

      goes_below : (x : Bool) (t : Tree ℕ) → Follows t → Good (z ++ (x ∷ [])) t
          → Linked (record_at ws) (cond x here.right here.left) t → Rooms ws t
          → Says (Below x) z (string_of k) → Goes (z ∷ walk t (string_of k)) (best (better z v o) t (string_of k))
      unfolding down_on
      goes_below x t follow good linked rooms y =
          let next = subst (λ (i : ℕ). Linked (record_at ws) i t) (sym (side_on_below here z v e.1 k valid x y)) linked in
          goes_on (walk t (string_of k)) (best (better z v o) t (string_of k))
          (is_prefix_trans z (z ++ (x ∷ [])) (string_of k) (is_prefix-append z (x ∷ [])) y)
          (follow (z ++ (x ∷ [])) (better z v o) f (n + 1) (set ts n (here.tag / 2)) (down_on here k s) good next rooms (stands_below x y))

      walk_on-linked_at : Follows l → Follows r → Rooms ws (node a z v l r) → (m : Meeting) → Says m z (string_of k)
          → Goes (z ∷ onward m [] [] (walk l (string_of k)) (walk r (string_of k)))
          (onward m (better z v o) o (best (better z v o) l (string_of k)) (best (better z v o) r (string_of k)))
      walk_on-linked_at fl fr rooms Equal y = goes-equal y
      walk_on-linked_at fl fr rooms (Below false) y =
          goes_below false l fl g.2 e.2 (λ c i. rooms c (Memᴰ.tail (Memᴰ.append_left (labels r) i))) y
      walk_on-linked_at fl fr rooms (Below true) y =
          goes_below true r fr g.3 e.3 (λ c i. rooms c (Memᴰ.tail (Memᴰ.append_right (labels l) i))) y
      walk_on-linked_at fl fr rooms (Above x) y = goes_off (shared_on_above here z v e.1 k x y)
      walk_on-linked_at fl fr rooms (Apart x) y = goes_off (shared_on_apart here z v e.1 k x y)

    -- the walk meets what a search meets, and notes the best that it passes
    pub walk_on-linked : (t : Tree ℕ) → Follows t
    unfolding walk_on
    walk_on-linked tip p o f n ts s g e rooms st = walked_end f n ts s o (omega (arith, fuel_left p o f s st)) e st.noted
    walk_on-linked (node a z v l r) p o zero n ts s g e rooms st = absurd (omega (arith, fuel_left p o zero s st))
    walk_on-linked (node a z v l r) p o (suc f) n ts s g e rooms st =
        rw (step_on_node ws k s a e.0 (rooms a (Memᴰ.head refl)))
        (walk_on-linked_at a z v l r p o f n ts s g e st (walk_on-linked l) (walk_on-linked r) rooms (meet z (string_of k))
        (meet-says z (string_of k)))
