-- Where a table's words stand: the length of a table, its header and its records.
-- Paper 01, "The lent table" and "Numbered refusals"; docs/LAYOUT.md fixes "what each word holds".
--   table_length c     the words that c records take
--   is_table n         some table has n words
--   capacity n        the records of a table of n words
--   place l           where the record of the link l starts
--   room_of n l        a table of n words has a record l
--   record_at, header_at       the record of a link, the header
--   with_record, with_header   the words with another one there
--   key_of r           a record's key
--   zone_of r          the zone stored there, if there is one
--   side_of r x        the link of a record's side; with_side r x l: the record with the link l there
--   is_spare r         the record is spare
-- Assumes nothing.
use Rattle.std.specs.Prelude.{ℕ, ◌+◌, ◌-◌, ◌*◌, ◌/◌, ◌%◌, Bool, true, false, ◌&&◌, cond, List, leb, ltb, eqb, get_or, set}
use Rattle.std.proofs.Math.Option.{Option, none, some}
use Rattle.bits.specs.Numbers.{odd}
use Rattle.prefix.specs.declared.Prefix.{Prefix}
use Rattle.records.specs.declared.Record.{Record}
use Rattle.records.specs.declared.Header.{Header}

-- "A table of c node records takes 8 + 8c 32-bit words: a header of eight words, then c records of eight."
abbrev pub table_length : ℕ → ℕ
table_length c = 8 + 8 * c

-- "the length is a multiple of 8 from 16 to 524,288"
unfoldable pub is_table : ℕ → Bool
is_table n = leb 16 n && (leb n 524288 && eqb (n % 8) 0)

unfoldable pub capacity : ℕ → ℕ
capacity n = n / 8 - 1

-- (links count from 1, so that the header, as long as a record, stands where a record 0 would)
abbrev pub place : ℕ → ℕ
place l = 8 * l

unfoldable pub room_of : ℕ → ℕ → Bool
room_of n l = ltb 0 l && ltb l (n / 8)

-- (of each half of the key the lower word stands first)
unfoldable pub record_at : List ℕ → ℕ → Record
record_at ws l =
    record {
      w0 = get_or ws (place l + 1) 0;
      w1 = get_or ws (place l) 0;
      w2 = get_or ws (place l + 3) 0;
      w3 = get_or ws (place l + 2) 0;
      zone = get_or ws (place l + 4) 0;
      left = get_or ws (place l + 5) 0;
      right = get_or ws (place l + 6) 0;
      tag = get_or ws (place l + 7) 0;
    }

unfoldable pub header_at : List ℕ → Header
header_at ws = record { root = get_or ws 0 0; spare = get_or ws 1 0 }

unfoldable pub with_record : List ℕ → ℕ → Record → List ℕ
with_record ws l r =
    set (set (set (set (set (set (set (set ws (place l) r.w1) (place l + 1) r.w0) (place l + 2) r.w3) (place l + 3) r.w2)
    (place l + 4) r.zone) (place l + 5) r.left) (place l + 6) r.right) (place l + 7) r.tag

unfoldable pub with_header : List ℕ → Header → List ℕ
with_header ws h = set (set ws 0 h.root) 1 h.spare

unfoldable pub key_of : Record → Prefix
key_of r = record { width = r.tag / 2; w0 = r.w0; w1 = r.w1; w2 = r.w2; w3 = r.w3 }

unfoldable pub zone_of : Record → Option ℕ
zone_of r = cond (odd r.tag) (some r.zone) none

-- the link of a side, that of 1 where x is true, and the record with another one there
abbrev pub side_of : Record → Bool → ℕ
side_of r false = r.left
side_of r true = r.right

abbrev pub with_side : Record → Bool → ℕ → Record
with_side r false l =
    record { w0 = r.w0; w1 = r.w1; w2 = r.w2; w3 = r.w3; zone = r.zone; left = l; right = r.right; tag = r.tag }
with_side r true l =
    record { w0 = r.w0; w1 = r.w1; w2 = r.w2; w3 = r.w3; zone = r.zone; left = r.left; right = l; tag = r.tag }

unfoldable pub is_spare : Record → Bool
is_spare r = eqb r.tag 4294967295
