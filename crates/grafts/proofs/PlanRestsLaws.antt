-- The laws of what the plan of an edit rests on: two memories with one header that show the same at the links
-- that the plan looks at have the same plan. Paper 01, "The lent table". No contract cites this file.
-- What a plan looks at besides the header, where a walk ended with s and e (at a link 0 nothing is read):
--   plan_store_on   s.at, the last node that is a prefix of the key; where that is not the key's own node,
--                   also the first spare record; and where a node is in the way, either that node, if the key
--                   is a prefix of it, or the second spare record, if not: `store_links`
--   plan_remove_on  s.at, the key's node; where a side of it is empty, also s.up, the node above; where
--                   both are and the node above stores nothing, also s.over, the one above that. No spare
--                   record. `remove_links` has all three.
--   SameLook        two memories show the same at a link; SameLooks: at all links of a list; SameNext: at the
--                   link after a spare record
-- Assumes nothing.
use Prim.Native.Nat.{ℕ, ◌+◌}
use mathlib.Core.Path.{◌≡◌, refl, ap}
use mathlib.Core.Bool.{Bool, true, false, cond}
use mathlib.Core.List.{List, [], ◌∷◌}
use lib.Dec.{ltb, eqb}
use lib.ListN.{length}
use Rattle.std.specs.Prelude.{Option, Some, None, Result, Ok, Err}
use Rattle.prefix.specs.declared.Prefix.{Prefix}
use Rattle.records.specs.Layout.{room_of, record_at, header_at}
use Rattle.records.specs.declared.Record.{Record}
use Rattle.records.specs.declared.Header.{Header}
use Rattle.lookup.specs.declared.Walk.{Walk}
use Rattle.lookup.specs.declared.Met.{Met}
use Rattle.lookup.specs.declared.Met.TheVariants.{Matching, Mismatching}
use Rattle.plans.specs.Planning.{look_on, node_on, spare_of, spare_on, hang_of, hang_on, here_of, here_on, above_of, above_on, fork_of, fork_on, store_of, plan_store_on, pass_on, twin_on, alone_of, alone_on, out_on, remove_of, plan_remove_on}
use Rattle.plans.specs.declared.Spare.{Spare}
use Rattle.plans.specs.declared.Unmade.{Unmade}
use Rattle.plans.specs.declared.Unmade.TheVariants.{Damaged, Full}

-- ---- look_on, spare_on, hang_on

module _ (us ws : List ℕ) where
  abbrev pub SameLook : ℕ → Type 0
  SameLook l = node_on us l ≡ node_on ws l

  abbrev pub SameLooks : List ℕ → Type 0
  SameLooks [] = Unit {0}
  SameLooks (l ∷ ls) = SameLook l × SameLooks ls

  pub look_on_zero : (l : ℕ) → l ≡ 0 → SameLook l
  unfolding node_on room_of
  look_on_zero l e = rw e

  pub look_on_same : length us ≡ length ws → (l : ℕ) → record_at us l ≡ record_at ws l → SameLook l
  unfolding node_on
  look_on_same n l e = rw (n, e)

  led_same : (l : ℕ) → SameLook l → look_on us l ≡ look_on ws l
  unfolding look_on
  led_same l e = rw e

  spare_on_same : (l : ℕ) → SameLook l → spare_on us l ≡ spare_on ws l
  unfolding spare_on
  spare_on_same l e = rw e

  hang_on_same : (root : ℕ) (k : Prefix) (at l : ℕ) → SameLook at → hang_on us root k at l ≡ hang_on ws root k at l
  unfolding hang_on
  hang_on_same root k at l e = ap (hang_of root k at l) (led_same at e)

-- ---- SameNext

-- they show the same at the link after a spare record
abbrev pub SameNext : List ℕ → List ℕ → Result Spare Unmade → Type 0
SameNext us ws (Ok x) = SameLook us ws x.next
SameNext us ws (Err d) = Unit {0}

pub same_next_zero : (us ws : List ℕ) → SameNext us ws (spare_on ws 0)
unfolding spare_on
same_next_zero us ws = tt

pub same_next-spare_on : (us ws : List ℕ) (l : ℕ) → SameLook us ws (record_at ws l).left → SameNext us ws (spare_on ws l)
unfolding spare_on node_on
same_next-spare_on us ws l h = at (eqb l 0) (room_of (length ws) l) (eqb (record_at ws l).tag 4294967295) refl
  where
    at : (x y z : Bool) → eqb (record_at ws l).tag 4294967295 ≡ z
        → SameNext us ws (cond x (Err Full) (spare_of l (cond y (Ok (record_at ws l)) (Err Damaged))))
    at true y z e = tt
    at false false z e = tt
    at false true true e = rw e h
    at false true false e = rw e tt

-- ---- plan_store_on

-- the links that a store of a new node looks at after the first spare record, which is x
abbrev pub way_links : Prefix → Met → Result Spare Unmade → List ℕ
way_links k (Matching q) x = []
way_links k (Mismatching l b) (Ok x) = cond (ltb b k.width) (x.next ∷ []) (l ∷ [])
way_links k (Mismatching l b) (Err d) = []

-- the links that a store's plan looks at
abbrev pub store_links : List ℕ → Prefix → Walk → Met → List ℕ
store_links ws k s e =
    s.at
    ∷ cond (eqb s.low (k.width + 1)) [] ((header_at ws).spare ∷ way_links k e (spare_on ws (header_at ws).spare))

module _ (us ws : List ℕ) (h : Header) (k : Prefix) (zone at : ℕ) (here : SameLook us ws at) where
  here_on_same : here_on us h k zone at ≡ here_on ws h k zone at
  unfolding here_on
  here_on_same = ap (here_of h k zone at) here

  above_of_same : (l a next : ℕ) (x : Result Record Unmade) → above_of us h k zone at l a next x ≡ above_of ws h k zone at l a next x
  above_of_same l a next (Err d) = refl
  above_of_same l a next (Ok r) = rw (hang_on_same us ws h.root k at a here)

  fork_of_same : (l b a : ℕ) (x : Result Spare Unmade) → fork_of us h k zone at l b a x ≡ fork_of ws h k zone at l b a x
  fork_of_same l b a (Ok x) = rw (hang_on_same us ws h.root k at x.link here)
  fork_of_same l b a (Err d) = refl

  -- where a node is in the way, b saying whether the key leaves its string
  way_on_same : (l n a next : ℕ) (b : Bool) → SameLooks us ws (cond b (next ∷ []) (l ∷ []))
      → cond b (fork_on us h k zone at l n a next) (above_on us h k zone at l a next)
      ≡ cond b (fork_on ws h k zone at l n a next) (above_on ws h k zone at l a next)
  unfolding fork_on above_on
  way_on_same l n a next true i = rw (spare_on_same us ws next i.0) (fork_of_same l n a (spare_on ws next))
  way_on_same l n a next false i = rw i.0 (above_of_same l a next (node_on ws l))

  store_of_same : (e : Met) (x : Result Spare Unmade) → SameLooks us ws (way_links k e x) → store_of us h k zone at e x ≡ store_of ws h k zone at e x
  store_of_same e (Err d) i = refl
  store_of_same (Matching q) (Ok x) i = rw (hang_on_same us ws h.root k at x.link here)
  store_of_same (Mismatching l b) (Ok x) i = way_on_same l b x.link x.next (ltb b k.width) i

-- a store's plan rests on the header and on what its links show
pub plan_store_on_rests : (us ws : List ℕ) (k : Prefix) (zone : ℕ) (s : Walk) (e : Met) → header_at us ≡ header_at ws
    → SameLooks us ws (store_links ws k s e) → plan_store_on us k zone s e ≡ plan_store_on ws k zone s e
unfolding plan_store_on
plan_store_on_rests us ws k zone s e same i = rw same (at (eqb s.low (k.width + 1)) i.1)
  where
    h : Header
    h = header_at ws

    at : (b : Bool) → SameLooks us ws (cond b [] (h.spare ∷ way_links k e (spare_on ws h.spare)))
        → cond b (here_on us h k zone s.at) (store_of us h k zone s.at e (spare_on us h.spare))
        ≡ cond b (here_on ws h k zone s.at) (store_of ws h k zone s.at e (spare_on ws h.spare))
    at true j = here_on_same us ws h k zone s.at i.0
    at false j =
        rw (spare_on_same us ws h.spare j.0) (store_of_same us ws h k zone s.at i.0 e (spare_on ws h.spare) j.1)

-- ---- plan_remove_on

-- the links that a remove's plan looks at
abbrev pub remove_links : Walk → List ℕ
remove_links s = s.at ∷ s.up ∷ s.over ∷ []

module _ (us ws : List ℕ) (h : Header) (k : Prefix) (s : Walk) (i : SameLooks us ws (remove_links s)) where
  pass_on_same : (l : ℕ) → pass_on us h k s.up s.at l ≡ pass_on ws h k s.up s.at l
  unfolding pass_on
  pass_on_same l = rw (hang_on_same us ws h.root k s.up l i.1.0)

  twin_on_same : (p : Record) → twin_on us h k s p ≡ twin_on ws h k s p
  unfolding twin_on
  twin_on_same p = rw (hang_on_same us ws h.root k s.over _ i.1.1.0)

  alone_of_same : (x : Result (Option Record) Unmade) → alone_of us h k s x ≡ alone_of ws h k s x
  alone_of_same (Ok None) = pass_on_same 0
  alone_of_same (Err d) = refl
  alone_of_same (Ok (Some p)) = rw (pass_on_same 0, twin_on_same p)

  remove_of_same : (x : Result Record Unmade) → remove_of us h k s x ≡ remove_of ws h k s x
  unfolding out_on alone_on
  remove_of_same (Err d) = refl
  remove_of_same (Ok r) =
      rw (led_same us ws s.up i.1.0, alone_of_same (look_on ws s.up), pass_on_same r.right, pass_on_same r.left)

-- a remove's plan rests on the header and on what its links show
pub plan_remove_on_rests : (us ws : List ℕ) (k : Prefix) (s : Walk) → header_at us ≡ header_at ws → SameLooks us ws (remove_links s)
    → plan_remove_on us k s ≡ plan_remove_on ws k s
unfolding plan_remove_on
plan_remove_on_rests us ws k s same i = rw (same, i.0) (remove_of_same us ws (header_at ws) k s i (node_on ws s.at))
