-- The path walk over a table's words, for any words: one step, the steps one after the other, and the
-- refusals before them.
-- Paper 01, "The tree of a set", "The lent table" and "Numbered refusals".
--   shared_on r k       the bits that a record's key shares with k
--   agree_on r k        how many of the 128 bits of the record's key and of k are the same, from the top
--   side_on r k w       the link of the side that k goes on by at a node of width w
--   down_on r k s       where the walk s goes on from a node that is a prefix of k
--   seen_on r k s       what a step makes of the record that it reads
--   step_on ws k s      one step
--   Survey              what a survey leaves: the widths written, and the answer
--   walk_on, walk_from  a walk of at most some steps; the walk from the top
--   survey_on ws k n    the refusals of a keyed call with a trail of n bytes, and its walk
--   stored_in w l       the number of a key of width w itself, where l is its longest stored prefix
--   refuse_on n k room  the refusals before the walk, on n words and with a trail of `room` bytes
--   first_refusal       the paper's number of the first of them, 0 for none
--   leaves_all n        the refusal numbered n leaves everything lent
--   Outcome A           what a keyed call gives and leaves
--   leave_on            what stands in the lent trail after a keyed call
-- Assumes nothing.
use Rattle.std.specs.Prelude.{ℕ, zero, suc, ◌+◌, ◌/◌, Bool, not, ◌||◌, cond, List, Option, Some, None, Result, Ok, Err, ltb, eqb, length, set}
use Rattle.std.proofs.Math.Seq.{paste}
use Rattle.bits.specs.Bits.{lcp}
use Rattle.bits.specs.Numbers.{odd}
use Rattle.prefix.specs.Keys.{word_bits, string_of, is_valid}
use Rattle.prefix.specs.declared.Prefix.{Prefix}
use Rattle.records.specs.Layout.{is_table, room_of, record_at, header_at, key_of}
use Rattle.records.specs.declared.Record.{Record}
use Rattle.refusals.specs.declared.Refusal.{Refusal}
use Rattle.refusals.specs.declared.Refusal.TheVariants.{BadLength, BadPrefix, ShortOut, Damaged}
use Rattle.lookup.specs.declared.Match.{Match}
use Rattle.lookup.specs.declared.Walk.{Walk}
use Rattle.lookup.specs.declared.Step.{Step}
use Rattle.lookup.specs.declared.Step.TheVariants.{Down, Last, End}
use Rattle.lookup.specs.declared.Met.{Met}
use Rattle.lookup.specs.declared.Met.TheVariants.{Matching, Mismatching}
use Rattle.lookup.specs.declared.Path.{Path}

unfoldable pub shared_on : Record → Prefix → ℕ
shared_on r k = length (lcp (string_of (key_of r)) (string_of k))

unfoldable pub agree_on : Record → Prefix → ℕ
agree_on r k = length (lcp (word_bits (key_of r)) (word_bits k))

-- "let d be q followed by k's next bit" (q's words are clear after its width: so they agree with k's past
-- that width exactly where k's next bit is 0)
unfoldable pub side_on : Record → Prefix → ℕ → ℕ
side_on r k w = cond (ltb w k.width) (cond (ltb w (agree_on r k)) r.left r.right) 0

unfoldable pub down_on : Record → Prefix → Walk → Walk
down_on r k s =
    record {
      at = s.next;
      up = s.at;
      over = s.up;
      next = side_on r k (r.tag / 2);
      low = r.tag / 2 + 1;
      longest = cond (odd r.tag) (Some (record { width = r.tag / 2; zone = r.zone })) s.longest;
    }

-- (a node of a table is at most 128 wide, and shares with the key its parent's string and the side's bit: so
-- widths grow)
unfoldable pub seen_on : Record → Prefix → Walk → Result Step Refusal
seen_on r k s =
    cond (ltb 128 (r.tag / 2)) (Err Damaged)
    (cond (ltb (shared_on r k) s.low) (Err Damaged)
    (cond (ltb (shared_on r k) (r.tag / 2)) (Ok (Last (r.tag / 2) (shared_on r k))) (Ok (Down (r.tag / 2) (down_on r k s)))))

unfoldable pub step_on : List ℕ → Prefix → Walk → Result Step Refusal
step_on ws k s =
    cond (eqb s.next 0) (Ok End)
    (cond (room_of (length ws) s.next) (seen_on (record_at ws s.next) k s) (Err Damaged))

pub record Survey : Type 0 where
  pub widths : List ℕ
  pub out : Result Path Refusal

-- the answer of a walk that comes to its end
abbrev pub path_of : ℕ → Walk → Met → Result Path Refusal
path_of n s e = Ok (record { nodes = n; walk = s; met = e })

-- what a walk does with a step, where it goes on by `go`
unfoldable pub after_on : Result Step Refusal → ℕ → List ℕ → Walk → (ℕ → Walk → Survey) → Survey
after_on (Ok (Down w d)) n ts s go = go w d
after_on (Ok (Last w b)) n ts s go = record { widths = set ts n w; out = path_of (n + 1) s (Mismatching s.next b) }
after_on (Ok End) n ts s go = record { widths = ts; out = path_of n s (Matching s.at) }
after_on (Err e) n ts s go = record { widths = ts; out = Err e }

unfoldable pub walk_on : ℕ → List ℕ → Prefix → ℕ → List ℕ → Walk → Survey
walk_on zero ws k n ts s = record { widths = ts; out = Err Damaged }
walk_on (suc f) ws k n ts s = after_on (step_on ws k s) n ts s (λ w d. walk_on f ws k (n + 1) (set ts n w) d)

unfoldable pub start_on : List ℕ → Walk
start_on ws = record { at = 0; up = 0; over = 0; next = (header_at ws).root; low = 0; longest = None }

-- (130 steps are enough: widths grow from 0 to at most 128, and one step more ends the walk)
unfoldable pub walk_from : List ℕ → Prefix → List ℕ → Survey
walk_from ws k ts = walk_on 130 ws k 0 ts (start_on ws)

-- "Keyed calls .. lend a trail of at least 129 bytes"; "The first that applies, in this order, is given"
unfoldable pub refuse_on : ℕ → Prefix → ℕ → Result Unit Refusal
refuse_on n k room =
    cond (is_table n)
    (cond (is_valid k)
    (cond (ltb room 129) (Err (ShortOut 129)) (Ok tt))
    (Err BadPrefix))
    (Err BadLength)

abbrev pub past_refusal : Result Unit Refusal → List ℕ → Survey → Survey
past_refusal (Ok x) ts v = v
past_refusal (Err e) ts v = record { widths = ts; out = Err e }

unfoldable pub survey_on : List ℕ → Prefix → ℕ → List ℕ → Survey
survey_on ws k room ts = past_refusal (refuse_on (length ws) k room) ts (walk_from ws k ts)

-- Nos. 1, 2 and 5 in their order, 0 where none of them applies: BadLength, "the table memory has another
-- length"; BadPrefix, "width above 128, or a bit set after the width"; ShortOut, "trail .. too short"
unfoldable pub first_refusal : List ℕ → Prefix → ℕ → ℕ
first_refusal ws k room = cond (is_table (length ws)) (cond (is_valid k) (cond (ltb room 129) 5 0) 2) 1

-- "Absent and Full write the trail and return its number; all others return zero counts and leave every lent
-- byte" (a refusal by its number: every one but 7 and 8)
unfoldable pub leaves_all : ℕ → Bool
leaves_all n = not (eqb n 0 || (eqb n 7 || eqb n 8))

-- what a keyed call gives and leaves: its answer, and the bytes of the lent trail
pub record Outcome (A : Type 0) : Type 0 where
  pub answer : A
  pub bytes : List ℕ

-- "The call writes the widths of the path's nodes there in order .. Bytes after that number stay."
abbrev pub leave_on : List ℕ → List ℕ → Result Path Refusal → List ℕ
leave_on bs ts (Ok p) = paste bs 0 ts p.nodes
leave_on bs ts (Err e) = bs

-- "Fetch gives the stored number" (the key itself, where it is stored, is the longest stored prefix of the key)
abbrev pub stored_in : ℕ → Option Match → Option ℕ
stored_in w None = None
stored_in w (Some m) = cond (eqb m.width w) (Some m.zone) None
