-- The laws of writing a part of a table's tree: what may be asked of the two sides, and one law for each way
-- out. No contract cites this file.
-- Assumes nothing.
use Prim.Native.Nat.{ℕ, ◌+◌, ◌-◌, ◌*◌, ◌/◌, ◌^◌, ◌≤◌}
use native.Mathlib.Omega.{arith}
use mathlib.Core.Path.{◌≡◌, refl, sym, ap, ◌∙◌, subst}
use mathlib.Core.Bool.{Bool, true, false}
use mathlib.Core.List.{List, append-nil}
use mathlib.Core.Option.{Option}
use lib.ListN.{length, drop}
use lib.Seq.{sets}
use Rattle.bits.specs.Bits.{Bits}
use Rattle.prefix.specs.Keys.{string_of}
use Rattle.prefix.specs.declared.Prefix.{Prefix}
use Rattle.records.specs.Layout.{record_at, key_of}
use Rattle.records.specs.declared.Record.{Record}
use Rattle.records.proofs.HangingLaws.{hangs-tip}
use Rattle.image.specs.Image.{size24, node_bytes}
use Rattle.image.specs.Tries.{Trie, leaf, fork, size, stalk, nearer, grow}
use Rattle.image.proofs.SetsLaws.{sets-before}
use Rattle.image_data.specs.declared.Runs.{Runs}
use Rattle.image_zones.specs.Used.{both_end}
use Rattle.image_write.specs.Stalks.{stalk_bytes, PutStalk}
use Rattle.image_write.specs.Parts.{Reaches, Uses}
use Rattle.image_write.specs.Planting.{Stocked, Here, Planted, Grew, Grows}
use Rattle.image_write.specs.declared.Grown.{Grown}
use Rattle.image_write.proofs.PartLaws.{Seen, seen, length_way, size_end, size-fork}
use Rattle.image_write.proofs.PartLaws as part
use Rattle.image_write.proofs.StockLaws.{stocked-sets, stocked_length}
use Rattle.image_write.proofs.StalkLaws.{length-stalk_bytes}
use Rattle.image_write.proofs.TreeBytesLaws.{uses_left, uses_right, uses-stalk, reaches-leaf}
use Rattle.image_write.proofs.TreeBytesLaws.{bytes_from, record_to, length-bytes_from, bytes_from-leaf, record_to-stalk, bytes_from-stalk, sets-forked}

-- ---- where nothing hangs

pub grows-tip : (ws : List ℕ) (l a above next n : ℕ) (runs : Runs) (out : List ℕ) → l ≡ 0
    → Grows ws l a above next n runs out (record { next = next; top = above }) out
grows-tip ws l a above next n runs out e p =
    let t : p.tree ≡ _ = hangs-tip ws l a p.tree p.hangs e in
    let u : Uses p.zones (leaf p.over) = rw t at p.uses in
    record {
      bytes = rw (t, bytes_from-leaf n p.zones next p.over);
      goes_on = rw t (omega arith);
      leads = rw t (reaches-leaf n p.zones p.over above p.reaches u);
    }

-- ---- a node whose record r is read: its key k, the number of its own fork, the record h of the zone there

pub record Node (ws : List ℕ) (l a above next n : ℕ) (runs : Runs) (out : List ℕ) (r : Record) (k : Prefix) (own h : ℕ) : Type 0 where
  pub some_link : l ≡ 0 → ⊥
  pub record_is : r ≡ record_at ws l
  pub key_is : k ≡ key_of r
  pub place : own ≡ next + (r.tag / 2 - a)
  pub here : Here out n runs r above h

module _ (ws : List ℕ) (l a above next n : ℕ) (runs : Runs) (out : List ℕ) (p : Planted ws l a above next n runs out)
    (some_link : l ≡ 0 → ⊥) (r : Record) (e : r ≡ record_at ws l) where
  pub planted_low : a ≤ r.tag / 2
  planted_low = (seen ws l a p.tree r p.hangs some_link e).low

  pub planted_high : r.tag / 2 ≤ 128
  planted_high = (seen ws l a p.tree r p.hangs some_link e).high

  -- the node's own fork, or what follows the way to it, has a number in the image
  pub planted-own : next + (r.tag / 2 - a) ≤ n
  planted-own = at (both_end r) refl
    where
      at : (b : Bool) → both_end r ≡ b → next + (r.tag / 2 - a) ≤ n
      at true f = omega (arith, p.room, size_end ws l a p.tree r (seen ws l a p.tree r p.hangs some_link e) p.over f)
      at false f = omega (arith, p.room, size-fork ws l a p.tree r (seen ws l a p.tree r p.hangs some_link e) p.over f)

  -- so that the way to it can be written
  pub planted-stalk : (k : Prefix) → k ≡ key_of r
      → (k.width ≤ 128) × (next + (k.width - a) ≤ 2 ^ 24) × (6 * (next + (k.width - a)) ≤ length out)
  unfolding key_of
  planted-stalk k f =
      let w : k.width ≡ r.tag / 2 = ap (λ (x : Prefix). x.width) f in
      let room = stocked_length out n runs p.zones p.stocked in
      let high = planted_high in
      let own = planted-own in
      rw w (omega arith, omega arith, omega arith)

module _ (ws : List ℕ) (l a above next n : ℕ) (runs : Runs) (out : List ℕ) (r : Record) (k : Prefix) (own h : ℕ)
    (q : Node ws l a above next n runs out r k own h) where
  module _ (p : Planted ws l a above next n runs out) where
    abbrev node_seen : Seen ws l a p.tree r
    node_seen = seen ws l a p.tree r p.hangs q.some_link q.record_is

    -- the way to the node, and the zone there
    abbrev way : Bits
    way = drop a node_seen.string

    abbrev zone_here : Option ℕ
    zone_here = nearer node_seen.zone p.over

    reaches_here : Reaches n p.zones zone_here h
    reaches_here =
        subst (λ (v : Option ℕ). Reaches n p.zones (nearer v p.over) h) node_seen.bears.zone
        (q.here p.zones p.over p.stocked p.reaches)

    own_way : own ≡ next + length way
    own_way = q.place ∙ ap (λ (k : ℕ). next + k) (sym (length_way ws l a p.tree r node_seen))

    module _ (f : both_end r ≡ false) where
      abbrev left_trie : Trie
      left_trie = grow zone_here (r.tag / 2 + 1) node_seen.left

      abbrev right_trie : Trie
      right_trie = grow zone_here (r.tag / 2 + 1) node_seen.right

      uses-crown : Uses p.zones (fork left_trie right_trie)
      uses-crown =
          uses-stalk p.zones way p.over (fork left_trie right_trie)
          (rw (part.grow-fork ws l a p.tree r node_seen p.over f) at p.uses)

      room-fork : own + 1 + size left_trie + size right_trie ≤ n
      room-fork = omega (arith, q.place, p.room, size-fork ws l a p.tree r node_seen p.over f)

      pub planted-fork : 6 * own + 6 ≤ length out
      planted-fork = omega (arith, room-fork, (stocked_length out n runs p.zones p.stocked).0)

      pub planted_left : Planted ws r.left (r.tag / 2 + 1) h (own + 1) n runs out
      planted_left =
          record {
            tree = node_seen.left;
            hangs = node_seen.hangs_left;
            zones = p.zones;
            stocked = p.stocked;
            over = zone_here;
            reaches = reaches_here;
            uses = uses_left p.zones left_trie right_trie uses-crown;
            room = omega (arith, room-fork);
          }

      module _ (x : Grown) (out1 : List ℕ) (gx : Grows ws r.left (r.tag / 2 + 1) h (own + 1) n runs out x out1) where
        grew_left : Grew (r.tag / 2 + 1) (own + 1) n out p.zones zone_here node_seen.left x out1
        unfolding planted_left
        grew_left = gx planted_left

        stocked_left : Stocked out1 n runs p.zones
        stocked_left =
            rw grew_left.bytes
            (stocked-sets out n runs p.zones (6 * (own + 1)) (bytes_from n p.zones (own + 1) left_trie)
            (omega (arith, length-bytes_from n p.zones (own + 1) left_trie, room-fork)) p.stocked)

        pub planted_right : Planted ws r.right (r.tag / 2 + 1) h x.next n runs out1
        planted_right =
            record {
              tree = node_seen.right;
              hangs = node_seen.hangs_right;
              zones = p.zones;
              stocked = stocked_left;
              over = zone_here;
              reaches = reaches_here;
              uses = uses_right p.zones left_trie right_trie uses-crown;
              room = omega (arith, room-fork, grew_left.goes_on);
            }

        module _ (y : Grown) (out2 : List ℕ) (gy : Grows ws r.right (r.tag / 2 + 1) h x.next n runs out1 y out2) where
          grew_right : Grew (r.tag / 2 + 1) (own + 1 + size left_trie) n out1 p.zones zone_here node_seen.right y out2
          unfolding planted_right
          grew_right =
              subst (λ (m : ℕ). Grew (r.tag / 2 + 1) m n out1 p.zones zone_here node_seen.right y out2) grew_left.goes_on
              (gy planted_right)

          -- the node's own fork, and then the way to it
          pub grew-forked : (top : ℕ) (out3 after : List ℕ) → out3 ≡ sets out2 (6 * own) (node_bytes size24 x.top y.top)
              → PutStalk (drop a (string_of k)) next above own out3 top after
              → Grew a next n out p.zones p.over p.tree (record { next = y.next; top = top }) after
          grew-forked top out3 after e3 ps =
              let zs : List ℕ = p.zones in
              let t : Trie = fork left_trie right_trie in
              let g : grow p.over a p.tree ≡ stalk way p.over t = grow-fork' in
              let w : drop a (string_of k) ≡ way = ap (drop a) (ap string_of q.key_is ∙ node_seen.bears.string) in
              let e : own ≡ record_to n zs (next + length way) t = own_way in
              let c : out3 ≡ sets out (6 * own) (bytes_from n zs own t) =
              sets-forked n zs out out1 out2 out3 own x.top y.top left_trie right_trie grew_left.bytes grew_right.bytes grew_left.leads
              grew_right.leads e3 in
              record {
                bytes = ps.bytes
                    ∙ rw (
                      w,
                      c,
                      sets-before out (6 * next) (stalk_bytes way next above own) (6 * own) (bytes_from n zs own t)
                          (omega (arith, own_way, length-stalk_bytes way next above own)),
                      g,
                      bytes_from-stalk n zs p.over above p.reaches t own way next e (rw g at p.uses),
                      ← own_way,
                    );
                goes_on = omega (arith, grew_left.goes_on, grew_right.goes_on, q.place, size-fork ws l a p.tree r node_seen p.over f);
                leads = ps.answer ∙ rw (w, g) (record_to-stalk n zs p.over above p.reaches t own way next e);
              }
            where
              grow-fork' : grow p.over a p.tree ≡ stalk way p.over (fork left_trie right_trie)
              grow-fork' = part.grow-fork ws l a p.tree r node_seen p.over f

    -- ---- a node below which nothing is stored

    module _ (f : both_end r ≡ true) where
      pub grew_end : (top : ℕ) (after : List ℕ) → PutStalk (drop a (string_of k)) next above h out top after
          → Grew a next n out p.zones p.over p.tree (record { next = own; top = top }) after
      grew_end top after ps =
          let zs : List ℕ = p.zones in
          let t : Trie = leaf zone_here in
          let g : grow p.over a p.tree ≡ stalk way p.over t = grow-end' in
          let u : Uses zs (stalk way p.over t) = rw g at p.uses in
          let w : drop a (string_of k) ≡ way = ap (drop a) (ap string_of q.key_is ∙ node_seen.bears.string) in
          let e : h ≡ record_to n zs (next + length way) t = reaches-leaf n zs zone_here h reaches_here (uses-stalk zs way p.over t u) in
          record {
            bytes = ps.bytes
                ∙ rw (
                  w,
                  g,
                  bytes_from-stalk n zs p.over above p.reaches t h way next e u,
                  bytes_from-leaf n zs (next + length way) zone_here,
                  append-nil,
                );
            goes_on = omega (arith, q.place, size_end ws l a p.tree r node_seen p.over f);
            leads = ps.answer ∙ rw (w, g) (record_to-stalk n zs p.over above p.reaches t h way next e);
          }
        where
          grow-end' : grow p.over a p.tree ≡ stalk way p.over (leaf zone_here)
          grow-end' = part.grow_end ws l a p.tree r node_seen p.over f
