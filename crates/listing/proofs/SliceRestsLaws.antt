-- The laws of what a slice rests on: on any memory of the same length that agrees with a table in the header
-- and in the records of the nodes that it counts, it leaves the same. No contract cites this file.
-- Assumes nothing.
use Prim.Native.Nat.{ℕ}
use mathlib.Core.Path.{◌≡◌, refl, sym, ap, ap₂, ◌∙◌}
use mathlib.Core.Bool.{Bool, true, false, cond}
use mathlib.Core.List.Memᴰ
use mathlib.Core.List.{List, [], ◌∷◌, ◌++◌, map, map-append, Memᴰ}
use Rattle.std.specs.Prelude.{Option, None, Some, Result, Ok, Err}
use lib.ListN.{length, replicate, length-map}
use Rattle.bits.specs.Lists.{keep, last}
use Rattle.bits.specs.Bits.{Bits}
use Rattle.bits.proofs.ListsLaws.{keep_append}
use Rattle.refusals.specs.declared.Refusal.{Refusal}
use Rattle.prefix.specs.Keys.{string_of}
use Rattle.prefix.specs.declared.Prefix.{Prefix}
use Rattle.zones.specs.Maps.{Map, keys}
use Rattle.zones.specs.Nodes.{nodes}
use Rattle.zones.specs.Slices.{given, passes, way_to, count}
use Rattle.zones.specs.Tree.{Tree, tip, node, entries}
use Rattle.zones.specs.Searching.{strings}
use Rattle.zones.proofs.CountLaws.{counted_nodes, length-counted_nodes}
use Rattle.zones.proofs.TreeLaws.{nodes-entries}
use Rattle.records.specs.Layout.{record_at, header_at, key_of}
use Rattle.records.specs.Holds.{Linked, Holds}
use Rattle.records.proofs.HoldsLaws.{labels-room}
use Rattle.lookup.specs.Paths.{links_where, Agree}
use Rattle.lookup.proofs.PathLinksLaws.{path_links-walk, path_links-strings}
use Rattle.listing.specs.Touring.{seek_from, start_on, Touring}
use Rattle.listing.specs.Slicing.{refused_of, toured_of, started_from, sliding_of, slice_on, resume_of}
use Rattle.listing.specs.Resting.{path_links_of, slice_links}
use Rattle.listing.proofs.Items.{Item, items, up_to}
use Rattle.listing.proofs.SliceItemsLaws.{ahead, passes-items}
use Rattle.listing.proofs.StartLaws.{Resumes, start_on_holds}
use Rattle.listing.proofs.HoldsLaws.{refused_of_no}
use Rattle.listing.proofs.TouringRestsLaws.{links_of, tour_from_rests, seek_on_rests}

-- ---- links_where

links_where-items_at : (b : Bool) (i : Item) (is : List Item) → links_of (cond b (i ∷ is) is) ≡ cond b (i.link ∷ []) [] ++ links_of is
links_where-items_at true i is = refl
links_where-items_at false i is = refl

links_where-items : (f : Bits → Bool) (t : Tree ℕ) → links_of (keep (λ i. f i.key) (items t)) ≡ links_where f t
links_where-items f tip = refl
links_where-items f (node a s v l r) =
    let g : Item → Bool = λ i. f i.key in
    let sides : links_of (keep g (items l ++ items r)) ≡ links_where f l ++ links_where f r =
    ap (λ (is : List Item). links_of is) (keep_append g (items l) (items r)) ∙ map-append (λ (i : Item). i.link) (keep g (items l)) (keep g (items r))
    ∙ ap₂ ◌++◌ (links_where-items f l) (links_where-items f r) in
    links_where-items_at (f s) (record { link = a; key = s; zone = v }) (keep g (items l ++ items r))
    ∙ ap (λ (ls : List ℕ). cond (f s) (a ∷ []) [] ++ ls) sides

module _ (ws : List ℕ) where
  -- the string of the record at a link
  abbrev string_at : ℕ → Bits
  string_at a = string_of (key_of (record_at ws a))

  links_where-strings_at : (b : Bool) (a : ℕ) (s : Bits) (ls : List ℕ) (ps : List Bits) → string_at a ≡ s → map string_at ls ≡ ps
      → map string_at (cond b (a ∷ []) [] ++ ls) ≡ cond b (s ∷ ps) ps
  links_where-strings_at true a s ls ps e h = ap₂ ◌∷◌ e h
  links_where-strings_at false a s ls ps e h = h

  -- the links of the nodes that pass have the strings that pass
  links_where-strings : (f : Bits → Bool) (l : ℕ) (t : Tree ℕ) → Linked (record_at ws) l t → map string_at (links_where f t) ≡ keep f (strings t)
  links_where-strings f l tip e = refl
  links_where-strings f l (node a s v x y) e =
      links_where-strings_at (f s) a s (links_where f x ++ links_where f y) (keep f (strings x ++ strings y)) e.1.string
      (map-append string_at (links_where f x) (links_where f y)
      ∙ ap₂ ◌++◌ (links_where-strings f (record_at ws a).left x e.2) (links_where-strings f (record_at ws a).right y e.3)
      ∙ sym (keep_append f (strings x) (strings y)))

-- ---- slice_links

module _ {ws : List ℕ} {m : Map} (h : Holds ws m) where
  path_links_of-strings : (r : Option Prefix) → map (string_at ws) (path_links_of h.tree r) ≡ way_to m (resume_of r)
  path_links_of-strings None = refl
  path_links_of-strings (Some k) = path_links-strings h (string_of k)

  -- they are the links of the nodes that a slice counts
  pub slice_links-strings : (r : Option Prefix) (b : ℕ)
      → map (λ a. string_of (key_of (record_at ws a))) (slice_links h.tree r b) ≡ counted_nodes m (resume_of r) b
  unfolding slice_links counted_nodes
  slice_links-strings r b =
      let passing : Map → Bits → Bool = λ n. passes (resume_of r) (last (keys (given n (resume_of r) b))) in
      let links : List ℕ = links_where (passing (entries h.tree)) h.tree in
      let here : map (string_at ws) links ≡ keep (passing (entries h.tree)) (nodes (keys (entries h.tree))) =
      rw (nodes-entries [] h.tree h.good) (links_where-strings ws _ (header_at ws).root h.tree h.linked) in
      map-append (string_at ws) (path_links_of h.tree r) links
      ∙ ap₂ ◌++◌ (path_links_of-strings r) (here ∙ ap (λ (n : Map). keep (passing n) (nodes (keys n))) h.map_is)

  -- and as many as it counts
  pub length-slice_links : (r : Option Prefix) (b : ℕ) → length (slice_links h.tree r b) ≡ count m (resume_of r) b
  length-slice_links r b =
      sym (length-map (slice_links h.tree r b) (string_at ws)) ∙ ap length (slice_links-strings r b) ∙ length-counted_nodes m (resume_of r) b

-- ---- slice_on

start_on_rests : (ws us : List ℕ) (r : Option Prefix) (m : Map) (h : Holds ws m) → Resumes r → Agree us ws (path_links_of h.tree r) → (ls : List ℕ)
    → start_on us r ls ≡ start_on ws r ls
unfolding seek_from
start_on_rests ws us None m h v agree ls = rw agree.same_header
start_on_rests ws us (Some k) m h v agree ls =
    rw agree.same_header
    (seek_on_rests us ws agree.same_length k v h.tree [] 130 0 0 ls 0 (header_at ws).root h.good
    (record { linked = h.linked; sound = labels-room h }) tt refl
    (rw (path_links-walk h.tree (string_of k) h.good) at agree.same_records))

module _ (ws us : List ℕ) (r : Option Prefix) (b : ℕ) (vs : List ℕ) (m : Map) (h : Holds ws m) (agree : Agree us ws (slice_links h.tree r b)) where
  -- the stack before the way, and the links of the nodes passed
  abbrev blank : List ℕ
  blank = replicate 129 0

  abbrev passing : List ℕ
  passing = links_of (up_to b (ahead (resume_of r) (items h.tree)))

  -- as the definition says them
  abbrev counting : List ℕ
  counting = links_where (passes (resume_of r) (last (keys (given (entries h.tree) (resume_of r) b)))) h.tree

  passing_is : passing ≡ counting
  passing_is =
      ap (λ (is : List Item). links_of is) (sym (passes-items [] h.tree h.good (resume_of r) b)) ∙ links_where-items _ h.tree

  agree-path : Agree us ws (path_links_of h.tree r)
  unfolding slice_links
  agree-path =
      record {
        same_length = agree.same_length;
        same_header = agree.same_header;
        same_records = λ l i. agree.same_records l (Memᴰ.append_left counting i);
      }

  same-passed : (l : ℕ) → Memᴰ l passing → record_at us l ≡ record_at ws l
  unfolding slice_links
  same-passed l i = agree.same_records l (Memᴰ.append_right (path_links_of h.tree r) (rw passing_is at i))

  started_from_rests : Resumes r → started_from us b vs (start_on us r blank) ≡ started_from ws b vs (start_on ws r blank)
  started_from_rests v =
      let s = start_on_holds ws m h blank refl r v in
      let tour = tour_from_rests us ws agree.same_length b s.next (start_on ws r blank).depth (start_on ws r blank).links vs s.t s.ts s.pending
      (rw s.items_is same-passed) in
      rw (start_on_rests ws us r m h v agree-path blank, s.found_is) (ap (λ (t : Touring). toured_of t s.number) tour)

  sliding_of_rests : (x : Result (Unit {0}) Refusal) → refused_of (length ws) r b (length vs) ≡ x → sliding_of us r b vs x ≡ sliding_of ws r b vs x
  sliding_of_rests (Err x) e = refl
  sliding_of_rests (Ok u) e = started_from_rests (refused_of_no (length ws) r b (length vs) e).resumes

-- a slice reads the header and the records of the nodes that it counts, and no other
pub slice_on_rests : (ws us : List ℕ) (r : Option Prefix) (b : ℕ) (vs : List ℕ) (m : Map) → (h : Holds ws m) → Agree us ws (slice_links h.tree r b)
    → slice_on us r b vs ≡ slice_on ws r b vs
unfolding slice_on
slice_on_rests ws us r b vs m h agree =
    rw agree.same_length (sliding_of_rests ws us r b vs m h agree (refused_of (length ws) r b (length vs)) refl)
