-- The image checker over any bytes, and its promise.
-- Paper 01, "The image" and "Numbered refusals".
--   read_on bs at end        the data entry at a byte of a data section that ends before `end`
--   entries_on f bs at end low   from `at` on there are entries up to `end`, in shortest form, ascending from low on
--   starts_at f bs at end p  an entry starts at the byte p, the entries being read from `at` on
--   side_on, below_on         the nodes of a part of the tree, numbered from one on
--   tree_on bs n d           the n nodes are numbered as an image's are, with a data section of d bytes
--   uses_on bs n p           some record of the tree means the data entry at the byte p
--   exact_on bs n end        the records mean the entries' starts: every one of these, and nothing else
--   verify_on bs             whether all holds
--   values_of                the values of an answer
--   VerifyImage             the contract of `verify`
-- Assumes nothing.
use Rattle.std.specs.Prelude.{ℕ, zero, suc, ◌+◌, ◌-◌, ◌*◌, ◌≡◌, Bool, true, false, ◌&&◌, ◌||◌, not, cond, List, [], leb, ltb, eqb, length, get_or, Option, Some, None, Result, Ok, Err}
use Rattle.zones.specs.Maps.{Map}
use Rattle.image.specs.Image.{size24, IsImage}
use Rattle.metadata.specs.Frames.{number_at, frame_on}
use Rattle.metadata.specs.declared.Tail.{Tail}
use Rattle.refusals.specs.Refusals.{number_of}
use Rattle.refusals.specs.declared.Refusal.{Refusal}
use Rattle.refusals.specs.declared.Refusal.TheVariants.{BadImage}
use Rattle.image_verify.specs.declared.Entry.{Entry}
use Rattle.image_verify.specs.declared.Numbered.{Numbered}

-- ---- the data section

-- "one byte C0 + size, then the number without leading zero bytes (0 is C0 alone)"
unfoldable pub read_on : List ℕ → ℕ → ℕ → Option Entry
read_on bs at end =
    cond (leb 0xC0 (get_or bs at 0) && (leb (get_or bs at 0) 0xC4 && (ltb (at + (get_or bs at 0 - 0xC0)) end
    && (eqb (get_or bs at 0) 0xC0 || ltb 0 (get_or bs (at + 1) 0)))))
    (Some (record { next = at + 1 + (get_or bs at 0 - 0xC0); zone = number_at bs (at + 1) (get_or bs at 0 - 0xC0) })) None

-- "ascending, each once" (f is how many bytes there may be)
abbrev pub entries_from : (ℕ → ℕ → Bool) → ℕ → Option Entry → Bool
entries_from go low None = false
entries_from go low (Some x) = leb low x.zone && go x.next (x.zone + 1)

abbrev pub entries_on : ℕ → List ℕ → ℕ → ℕ → ℕ → Bool
entries_on zero bs at end low = eqb at end
entries_on (suc f) bs at end low = cond (eqb at end) true (entries_from (λ next least. entries_on f bs next end least) low (read_on bs at end))

abbrev pub starts_from : (ℕ → Bool) → Option Entry → Bool
starts_from go None = false
starts_from go (Some x) = go x.next

abbrev pub starts_at : ℕ → List ℕ → ℕ → ℕ → ℕ → Bool
starts_at zero bs at end p = false
starts_at (suc f) bs at end p =
    cond (leb end at) false (cond (leb p at) (eqb p at) (starts_from (λ next. starts_at f bs next end p) (read_on bs at end)))

-- ---- the search tree

-- "each two 24-bit records, left (bit 0) then right": record j of the tree, counted through
unfoldable pub record_no : List ℕ → ℕ → ℕ
record_no bs j = number_at bs (3 * j) 3

-- (every node but the top has data below it: it is a proper prefix of a stored string)
abbrev pub alive : Option Numbered → Option Numbered
alive None = None
alive (Some x) = cond x.has_data (Some x) None

-- "A record below N is a node; equal to N is no data; N + 16 + d means the data entry at offset d. N + 1 to
-- N + 15 are bad." A node has the next number: "numbered from 0 in the order above".
unfoldable pub side_on : (ℕ → Option Numbered) → ℕ → ℕ → ℕ → ℕ → Option Numbered
side_on go n d next r =
    cond (ltb r n) (cond (eqb r next) (alive (go next)) None)
    (cond (eqb r n) (Some (record { next = next; has_data = false }))
    (cond (leb (n + 16) r && ltb r (n + 16 + d)) (Some (record { next = next; has_data = true })) None))

abbrev pub then_on : Option Numbered → (ℕ → Bool → Option Numbered) → Option Numbered
then_on None go = None
then_on (Some x) go = go x.next x.has_data

-- (a node is a proper prefix of at most 128 bits, so at most 128 nodes stand on a way down)
abbrev pub below_on : ℕ → List ℕ → ℕ → ℕ → ℕ → Option Numbered
below_on zero bs n d i = None
below_on (suc f) bs n d i =
    then_on (side_on (λ j. below_on f bs n d j) n d (i + 1) (record_no bs (2 * i)))
    (λ next a. then_on (side_on (λ j. below_on f bs n d j) n d next (record_no bs (2 * i + 1))) (λ last b. Some (record { next = last; has_data = a || b })))

abbrev pub whole : ℕ → Option Numbered → Bool
whole n None = false
whole n (Some x) = eqb x.next n

unfoldable pub tree_on : List ℕ → ℕ → ℕ → Bool
tree_on bs n d = whole n (below_on 128 bs n d 0)

-- ---- "the different zone numbers that some record uses"

-- one of the first k records is r
abbrev pub among_first : ℕ → List ℕ → ℕ → Bool
among_first zero bs r = false
among_first (suc k) bs r = eqb (record_no bs k) r || among_first k bs r

-- (the data section starts at byte 6N + 16, so the record of the entry at byte p is p - 5N)
unfoldable pub uses_on : List ℕ → ℕ → ℕ → Bool
uses_on bs n p = among_first (2 * n) bs (p - 5 * n)

abbrev pub agree : Bool → Bool → Bool
agree a b = cond a b (not b)

-- from byte p on, for k bytes
abbrev pub exact_from : ℕ → List ℕ → ℕ → ℕ → ℕ → Bool
exact_from zero bs n end p = true
exact_from (suc k) bs n end p = agree (uses_on bs n p) (starts_at (length bs) bs (6 * n + 16) end p) && exact_from k bs n end (p + 1)

unfoldable pub exact_on : List ℕ → ℕ → ℕ → Bool
exact_on bs n end = exact_from (end - (6 * n + 16)) bs n end (6 * n + 16)

-- ---- the whole

-- k bytes from `at` on are 0
abbrev pub zeros_on : ℕ → List ℕ → ℕ → Bool
zeros_on zero bs at = true
zeros_on (suc k) bs at = eqb (get_or bs at 0) 0 && zeros_on k bs (at + 1)

-- "Parts in order: search tree, 16 zero bytes, data section, the 14 bytes .., metadata."
abbrev pub verify_frame : List ℕ → Option Tail → Bool
verify_frame bs None = false
verify_frame bs (Some t) =
    let start = 6 * t.nodes + 16 in
    leb start t.start && (zeros_on 16 bs (6 * t.nodes) && (entries_on (length bs) bs start t.start 0
    && (tree_on bs t.nodes (t.start - start) && exact_on bs t.nodes t.start)))

unfoldable pub verify_on : List ℕ → Bool
verify_on bs = verify_frame bs (frame_on bs)

abbrev pub values_of : Result Unit Refusal → List ℕ
values_of r = []

-- ---- what `verify` promises

pub record VerifyImage (bs : List ℕ) (r : Result Unit Refusal) : Type 0 where
  -- one value on any bytes
  pub answer : r ≡ cond (verify_on bs) (Ok tt) (Err BadImage)
  -- No. 9, BadImage: "checker says no"
  pub number : number_of r ≡ cond (verify_on bs) 0 9
  pub values : values_of r ≡ []
  -- "yes exactly if the bytes are the image of some list of prefixes and some epoch"
  pub yes : number_of r ≡ 0 → (m : Map) × ((epoch : ℕ) × IsImage size24 bs m epoch)
  pub exact : (m : Map) (epoch : ℕ) → IsImage size24 bs m epoch → number_of r ≡ 0
