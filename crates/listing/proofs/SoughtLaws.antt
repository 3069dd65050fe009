-- The laws of a step on the way to the resume: what of a node's tree comes after the resume, and where the
-- step goes, by how the resume's string meets the node's. No contract cites this file.
-- Assumes nothing.
use Prim.Native.Nat.{ℕ, ◌+◌, ◌/◌, ◌≤◌, ◌<◌}
use native.Mathlib.Omega.{arith}
use mathlib.Core.Path.{◌≡◌, refl, ap, ap₂, ◌∙◌, subst}
use mathlib.Core.Bool.{Bool, true, false, not, cond}
use mathlib.Core.List.{List, [], ◌∷◌, ◌++◌}
use mathlib.Core.Option.{Option}
use Rattle.std.specs.Prelude.{Ok}
use lib.Dec.{T, ltb}
use lib.ListN.{length, length-append}
use borrow.Author.Tests.{lt-ltb, le-ltb}
use Rattle.bits.specs.Lists.{keep}
use Rattle.bits.specs.Bits.{Bits, is_prefix, lcp, before}
use Rattle.bits.specs.declared.Meeting.TheVariants.{Equal, Below, Above, Apart}
use Rattle.bits.proofs.ListsLaws.{test_ext, keep_append, keep-every, keep-none}
use Rattle.bits.proofs.BitsLaws.{is_prefix_refl, is_prefix_trans, is_prefix_length, is_prefix-append, lcp_comm, lcp-prefix}
use Rattle.bits.proofs.BitsLaws.{before_irrefl, before_trans, before-longer, before_split}
use Rattle.bits.proofs.MeetLaws.{Says}
use Rattle.prefix.specs.Keys.{string_of, Valid}
use Rattle.prefix.specs.declared.Prefix.{Prefix}
use Rattle.prefix.proofs.KeysLaws.{length-string_of}
use Rattle.zones.specs.Tree.{Tree, node, Good}
use Rattle.records.specs.Layout.{room_of, record_at}
use Rattle.records.specs.Holds.{Bears}
use Rattle.records.specs.declared.Record.{Record}
use Rattle.lookup.proofs.StepsLaws.{get_or_next, width-bears, narrow-bears}
use Rattle.listing.specs.Touring.{parted_of, passed_of, sought_of, sought_on}
use Rattle.listing.specs.declared.way.Sought.TheVariants.{On, Done}
use Rattle.listing.proofs.Items.{Item, items}
use Rattle.listing.proofs.SliceItemsLaws.{begin-items}

-- ---- what comes after a key in a good tree, by how the key meets the top node

before-asym : (a b : Bits) → T (before a b) → T (before b a) → ⊥
before-asym a b h k = before_irrefl a (before_trans a b a h k)

-- the items of t after the key k
abbrev pub rest : Bits → Tree ℕ → List Item
rest k t = keep (λ i. before k i.key) (items t)

module _ (k q : Bits) (t : Tree ℕ) (g : Good q t) where
  rest_all : ((a : Bits) → T (is_prefix q a) → T (before k a)) → rest k t ≡ items t
  rest_all h = keep-every (λ i. before k i.key) (items t) (λ i j. h i.key (begin-items q t g i j))

  rest-none : ((a : Bits) → T (is_prefix q a) → T (before a k)) → rest k t ≡ []
  rest-none h = keep-none (λ i. before k i.key) (items t) (λ i j. before-asym i.key k (h i.key (begin-items q t g i j)))

module _ (k : Bits) (a : ℕ) (z : Bits) (v : Option ℕ) (l r : Tree ℕ) (p : Bits) (g : Good p (node a z v l r)) where
  -- the tree of the node
  abbrev whole : Tree ℕ
  whole = node a z v l r

  good-whole : Good z whole
  good-whole = (is_prefix_refl z, g.1, g.2, g.3)

  rest_sides : (T (before k z) → ⊥) → rest k whole ≡ rest k l ++ rest k r
  rest_sides h = rw (test_ext (before k z) false h (λ i. absurd i)) (keep_append (λ i. before k i.key) (items l) (items r))

  pub rest-equal : Says Equal z k → rest k whole ≡ items l ++ items r
  rest-equal y =
      rest_sides (λ b. before_irrefl k (rw y at b))
      ∙ ap₂ ◌++◌ (rest_all k (z ++ (false ∷ [])) l g.2 (λ b h. rw (← y) (before-longer z b false h)))
      (rest_all k (z ++ (true ∷ [])) r g.3 (λ b h. rw (← y) (before-longer z b true h)))

  -- the node comes before what lies below it
  rest_off : (x : Bool) → Says (Below x) z k → rest k whole ≡ rest k l ++ rest k r
  rest_off x y = rest_sides (before-asym z k (before-longer z k x y))

  pub rest_left : Says (Below false) z k → rest k whole ≡ rest k l ++ items r
  rest_left y = rest_off false y ∙ ap (◌++◌ (rest k l)) (rest_all k (z ++ (true ∷ [])) r g.3 (λ b h. before_split z k b y h))

  pub rest_right : Says (Below true) z k → rest k whole ≡ rest k r
  rest_right y = rest_off true y ∙ ap (λ (is : List Item). is ++ rest k r) (rest-none k (z ++ (false ∷ [])) l g.2 (λ b h. before_split z b k h y))

  pub rest_above : (x : Bool) → Says (Above x) z k → rest k whole ≡ items whole
  rest_above x y = rest_all k z whole good-whole (λ b h. before-longer k b x (is_prefix_trans (k ++ (x ∷ [])) z b y h))

  pub rest_apart-all : Says (Apart false) z k → rest k whole ≡ items whole
  rest_apart-all y = rest_all k z whole good-whole
      (λ b h. before_split (lcp z k) k b y.0 (is_prefix_trans (lcp z k ++ (true ∷ [])) z b y.1 h))

  pub rest_apart-none : Says (Apart true) z k → rest k whole ≡ []
  rest_apart-none y = rest-none k z whole good-whole
      (λ b h. before_split (lcp z k) b k (is_prefix_trans (lcp z k ++ (false ∷ [])) z b y.1 h) y.0)

-- ---- sought_on: a step, by how the key meets the node's string

-- a way for the valid key k, of which low bits are known to be shared, meets the node of the link a
pub record Met (ws : List ℕ) (k : Prefix) (a low : ℕ) (z : Bits) (v : Option ℕ) : Type 0 where
  pub valid : Valid k
  pub room : room_of (length ws) a ≡ true
  pub bears : Bears (record_at ws a) z v
  pub shares : low ≤ length (lcp z (string_of k))

module _ {ws : List ℕ} {k : Prefix} {a low : ℕ} {z : Bits} {v : Option ℕ} (m : Met ws k a low z v) where
  -- the key's string, the node's record, and the bits that they share
  abbrev key : Bits
  key = string_of k

  abbrev here : Record
  here = record_at ws a

  abbrev shared : ℕ
  shared = length (lcp z key)

  width_key : length key ≡ k.width
  width_key = length-string_of k m.valid.narrow

  sought_on_at : sought_on ws k a low ≡ cond (ltb shared (length z)) (Ok (parted_of k a shared)) (Ok (passed_of here k (length z)))
  unfolding sought_on sought_of
  sought_on_at =
      let w : here.tag / 2 ≡ length z = width-bears here z v m.bears in
      let n : length z ≤ 128 = omega (arith, narrow-bears here z v m.bears) in
      rw (m.room, m.bears.string, w, le-ltb 128 (length z) n, le-ltb shared low m.shares)

  sought_on_off : shared < length z → sought_on ws k a low ≡ Ok (parted_of k a shared)
  sought_on_off h = sought_on_at ∙ rw (lt-ltb shared (length z) h)

  sought_on_on : T (is_prefix z key) → sought_on ws k a low ≡ Ok (passed_of here k (length z))
  sought_on_on h = sought_on_at ∙ rw (lcp-prefix z key h, le-ltb (length z) (length z) (omega arith))

  pub sought_on_above : (x : Bool) → Says (Above x) z key → sought_on ws k a low ≡ Ok (Done a 0)
  unfolding parted_of
  sought_on_above x y =
      let n : length (key ++ (x ∷ [])) ≤ length z = is_prefix_length (key ++ (x ∷ [])) z y in
      let h : T (is_prefix key z) = is_prefix_trans key (key ++ (x ∷ [])) z (is_prefix-append key (x ∷ [])) y in
      let e : lcp z key ≡ key = lcp_comm z key ∙ lcp-prefix key z h in
      sought_on_off (omega (arith, ap length e, length-append key (x ∷ [])))
      ∙ rw (e, width_key, le-ltb k.width k.width (omega arith))

  pub sought_on_apart : (x : Bool) → Says (Apart x) z key → sought_on ws k a low ≡ Ok (Done (cond x 0 a) 0)
  unfolding parted_of
  sought_on_apart x y =
      let p : Bits = lcp z key in
      let n : length (p ++ (not x ∷ [])) ≤ length z = is_prefix_length (p ++ (not x ∷ [])) z y.1 in
      let i : length (p ++ (x ∷ [])) ≤ length key = is_prefix_length (p ++ (x ∷ [])) key y.0 in
      let l : length p < k.width = omega (arith, length-append p (x ∷ []), width_key) in
      sought_on_off (omega (arith, length-append p (not x ∷ [])))
      ∙ rw (lt-ltb (length p) k.width l, get_or_next p key x y.0) (ap Ok (at x))
    where
      at : (x : Bool) → cond x (Done 0 0) (Done a 0) ≡ Done (cond x 0 a) 0
      at true = refl
      at false = refl

  pub sought_on-equal : Says Equal z key → sought_on ws k a low ≡ Ok (Done here.left here.right)
  unfolding passed_of
  sought_on-equal y =
      sought_on_on (subst (λ (q : Bits). T (is_prefix z q)) y (is_prefix_refl z))
      ∙ rw (le-ltb (length z) k.width (omega (arith, ap length y, width_key)))

  pub sought_on_below : (x : Bool) → Says (Below x) z key
      → sought_on ws k a low ≡ Ok (On (cond x here.right here.left) (length z + 1) (cond x 0 here.right))
  unfolding passed_of
  sought_on_below x y =
      let n : length (z ++ (x ∷ [])) ≤ length key = is_prefix_length (z ++ (x ∷ [])) key y in
      let l : length z < k.width = omega (arith, length-append z (x ∷ []), width_key) in
      sought_on_on (is_prefix_trans z (z ++ (x ∷ [])) key (is_prefix-append z (x ∷ [])) y)
      ∙ rw (lt-ltb (length z) k.width l, get_or_next z key x y) (ap Ok (at x))
    where
      at : (x : Bool) → cond x (On here.right (length z + 1) 0) (On here.left (length z + 1) here.right)
          ≡ On (cond x here.right here.left) (length z + 1) (cond x 0 here.right)
      at true = refl
      at false = refl
