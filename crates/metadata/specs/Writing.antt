-- What a call that writes bytes promises, and one that reads a number.
-- Internal: what the writer's and the readers' own functions are held to; no public contract cites it.
--   between                 the metadata's bytes from the node count to the epoch's key
--   Put old at vs new r     the bytes vs stand in new from `at` on, all others are as in old, and r is their end
--   NumberAt bs at n r      r is the number of n bytes from `at` on
--   Counts bs x             what a count says of the bytes that it was read from
-- Assumes nothing.
use Rattle.std.specs.Prelude.{ℕ, ◌+◌, ◌-◌, ◌^◌, ◌≤◌, ◌<◌, ◌≡◌, List, ◌++◌, length}
use Rattle.std.proofs.lemmas.List.Edits.{sets}
use Rattle.image.specs.Bytes.{ascii, text, uint16}
use Rattle.metadata.specs.Frames.{number_at}
use Rattle.metadata.specs.declared.Nodes.{Nodes}

-- from the node count to the epoch's key
unfoldable pub between : List ℕ
between =
    text (ascii "record_size") ++ uint16 24 ++ text (ascii "ip_version") ++ uint16 6 ++ text (ascii "database_type") ++ text (ascii "Ground-Cells")
    ++ text (ascii "binary_format_major_version") ++ uint16 2 ++ text (ascii "binary_format_minor_version") ++ uint16 0

-- ---- what the calls promise

pub record Put (old : List ℕ) (at : ℕ) (vs new : List ℕ) (r : ℕ) : Type 0 where
  pub bytes : new ≡ sets old at vs
  pub end : r ≡ at + length vs
  pub room : length new ≡ length old

pub record NumberAt (bs : List ℕ) (at n r : ℕ) : Type 0 where
  pub number : r ≡ number_at bs at n
  pub small : r < 256 ^ n

pub record Counts (bs : List ℕ) (x : Nodes) : Type 0 where
  pub long : 177 ≤ length bs
  pub few : x.epoch_width ≤ 8
  pub some : 1 ≤ x.width
  pub fits : x.width ≤ 3
  pub number : x.count ≡ number_at bs (length bs - x.epoch_width - 127 - x.width) x.width
