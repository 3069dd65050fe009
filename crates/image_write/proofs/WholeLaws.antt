-- The laws of a whole table: what is measured of it, and the tree written from its root. No contract cites
-- this file.
-- Assumes nothing.
use Prim.Native.Nat.{ℕ, max}
use native.Mathlib.Omega.{arith}
use mathlib.Core.Path.{◌≡◌, refl, sym, ap, ◌∙◌}
use mathlib.Core.List.{List}
use mathlib.Core.Option.{none}
use lib.Seq.{sets}
use Rattle.zones.specs.Maps.{Map}
use Rattle.records.specs.Layout.{header_at}
use Rattle.records.specs.Holds.{Holds}
use Rattle.records.specs.declared.Header.{Header}
use Rattle.records.proofs.HangingLaws.{hangs_holds}
use Rattle.image.specs.Image.{size24, zones_of, forks_of, node_bytes}
use Rattle.image.specs.Tries.{Trie, leaf, fork, size, topped, grow}
use Rattle.image_data.specs.Runs.{runs_of}
use Rattle.image_data.specs.declared.Runs.{Runs}
use Rattle.image_write.specs.Parts.{Part}
use Rattle.image_write.specs.Planting.{Grows, Stands}
use Rattle.image_write.specs.Whole.{Planned}
use Rattle.image_write.specs.declared.Grown.{Grown}
use Rattle.image_write.proofs.CountLaws.{Counts}
use Rattle.image_write.proofs.TreeBytesLaws.{bytes_from, record_to, bytes_from-leaf, bytes_from-fork}
use Rattle.image_write.proofs.TableLaws.{few-labels, length-forks_of_holds}

-- ---- Planned

pub size-topped : (t : Trie) → size (topped t) ≡ max (size t) 1
size-topped (leaf o) = refl
size-topped (fork l r) = omega arith

pub part_holds : (ws : List ℕ) (m : Map) (hd : Header) → hd ≡ header_at ws → Holds ws m → Part ws hd.root 0
part_holds ws m hd e h = rw e (record { tree = h.tree; hangs = hangs_holds ws m h; few = few-labels ws m h })

pub planned_holds : (ws : List ℕ) (hd : Header) (c n : ℕ) (runs : Runs) → hd ≡ header_at ws → Counts ws hd.root 0 c → n ≡ max c 1
    → (m : Map) → Holds ws m → runs ≡ runs_of (zones_of (forks_of m)) → Planned ws m (record { root = hd.root; nodes = n; runs = runs })
planned_holds ws hd c n runs e f g m h r =
    let k : c ≡ size (grow none 0 h.tree) = f h.tree (rw e (hangs_holds ws m h)) in
    record {
      root_is = ap (λ (x : Header). x.root) e;
      nodes_are = g ∙ ap (λ (x : ℕ). max x 1) k ∙ sym (length-forks_of_holds ws m h ∙ size-topped (grow none 0 h.tree));
      runs_are = r;
    }

-- ---- Stands: the tree from its root

topped-leaf : (n : ℕ) (zs : List ℕ) (t : Trie) (top : ℕ) (out mid after : List ℕ) → size t ≡ 0 → mid ≡ sets out 0 (bytes_from n zs 0 t)
    → top ≡ record_to n zs 0 t → after ≡ sets mid 0 (node_bytes size24 top top) → after ≡ sets out 0 (bytes_from n zs 0 (topped t))
topped-leaf n zs (leaf o) top out mid after z e f g =
    let b : mid ≡ out = e ∙ rw (bytes_from-leaf n zs 0 o) in
    g ∙ rw (b, f, bytes_from-fork n zs 0 (leaf o) (leaf o), bytes_from-leaf n zs 1 o)
topped-leaf n zs (fork l r) top out mid after z e f g = absurd (omega arith)

module _ (ws : List ℕ) (l n : ℕ) (runs : Runs) (out mid : List ℕ) (x : Grown) (g : Grows ws l 0 n 0 n runs out x mid) where
  pub stands-topped : (after : List ℕ) → x.next ≡ 0 → after ≡ sets mid 0 (node_bytes size24 x.top x.top) → Stands ws l n runs out after
  stands-topped after z e p =
      let k = g p in
      topped-leaf n p.zones (grow p.over 0 p.tree) x.top out mid after (omega (arith, k.goes_on)) k.bytes k.leads e
