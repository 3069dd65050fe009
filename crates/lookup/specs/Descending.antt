-- The upper part of a path walk, which carries less: what it stands for.
-- Internal: what the descent of a walk is held to; no public contract cites it.
-- Paper 01, "The tree of a set": "all nodes that are prefixes of k, shortest first".
--   Whole at          a record may start at the word `at`
--   Held ws at        a record of ws starts at the word `at`, or `at` is 0
--   Passed            what is known of a node that is passed
--   Turned            the contract of `turn_at`
--   ends_on ws        the header's last word is no tag of a node that is passed
--   top_of, past_on   the descent at the top, and past a node
--   longest_in ws at  the longest stored prefix so far, by the word at which its record starts
--   walk_in ws l d    the walk that a descent stands for, where the last nodes are l
--   Sound ws d        what a descent names are records' first words, or none
--   Descended         the walk from the top comes to what the walk from there does
--   Reached           the contract of `descend`
-- Assumes nothing.
use Rattle.std.specs.Prelude.{ℕ, ◌+◌, ◌-◌, ◌/◌, ◌%◌, ◌^◌, ◌≤◌, ◌<◌, ◌≡◌, Bool, true, cond, List, Option, Some, None, eqb, leb, ltb, length}
use Rattle.bits.specs.Numbers.{odd}
use Rattle.prefix.specs.declared.Prefix.{Prefix}
use Rattle.records.specs.Layout.{place, record_at}
use Rattle.lookup.specs.Walking.{agree_on, walk_on, walk_from}
use Rattle.lookup.specs.declared.Match.{Match}
use Rattle.lookup.specs.declared.Walk.{Walk}
use Rattle.lookup.specs.declared.descent.Descent.{Descent}
use Rattle.lookup.specs.declared.descent.Pass.{Pass}

abbrev pub Whole : ℕ → Type 0
Whole at = at ≡ place (at / 8)

pub record Held (ws : List ℕ) (at : ℕ) : Type 0 where
  pub whole : Whole at
  pub room : (at ≡ 0 → ⊥) → at + 8 ≤ length ws

-- what is known of a node that is passed: it is a proper prefix of the key, which goes on by the link
pub record Passed (ws : List ℕ) (k : Prefix) (at low tag link : ℕ) : Type 0 where
  pub some_record : 0 < at
  pub room : at + 8 ≤ length ws
  pub tag_is : tag ≡ (record_at ws (at / 8)).tag
  pub grown : low ≤ tag / 2
  pub wider : tag / 2 < k.width
  pub early : tag / 2 < 64
  pub agrees : tag / 2 ≤ agree_on (record_at ws (at / 8)) k
  pub goes : link ≡ cond (ltb (tag / 2) (agree_on (record_at ws (at / 8)) k)) (record_at ws (at / 8)).left (record_at ws (at / 8)).right

-- (the header stands where a record 0 would)
unfoldable pub ends_on : List ℕ → Bool
ends_on ws = leb 128 (record_at ws 0).tag

abbrev pub Turned : List ℕ → Prefix → ℕ → ℕ → Option Pass → Type 0
Turned ws k at low (Some p) = Passed ws k at low p.tag p.link
Turned ws k at low None = Unit {0}

unfoldable pub top_of : ℕ → Descent
top_of root = record { next = place root; held = 0; low = 0; n = 0 }

unfoldable pub past_on : Descent → ℕ → ℕ → Descent
past_on d tag link = record { next = place link; held = cond (odd tag) d.next d.held; low = tag / 2 + 1; n = d.n + 1 }

unfoldable pub longest_in : List ℕ → ℕ → Option Match
longest_in ws at = cond (eqb at 0) None (Some (record { width = (record_at ws (at / 8)).tag / 2; zone = (record_at ws (at / 8)).zone }))

unfoldable pub walk_in : List ℕ → ℕ → Descent → Walk
walk_in ws last d =
    record {
      at = last % 1048576 / 8;
      up = last / 1048576 % 1048576 / 8;
      over = last / 1099511627776 % 1048576 / 8;
      next = d.next / 8;
      low = d.low;
      longest = longest_in ws d.held;
    }

pub record Sound (ws : List ℕ) (d : Descent) : Type 0 where
  pub next_whole : Whole d.next
  pub next_link : d.next / 8 < 2 ^ 32
  pub held_at : Held ws d.held

pub record Descended (ws : List ℕ) (k : Prefix) (ts : List ℕ) (last : ℕ) (d : Descent) (after : List ℕ) : Type 0 where
  pub sound : Sound ws d
  pub few : d.n ≤ d.low
  pub early : d.low ≤ 64
  pub same : walk_on (130 - d.n) ws k d.n after (walk_in ws last d) ≡ walk_from ws k ts

-- (a descent that notes no last nodes has some; one that notes them has these)
pub record Reached (noted : Bool) (ws : List ℕ) (k : Prefix) (ts : List ℕ) (last : ℕ) (d : Descent) (after : List ℕ) : Type 0 where
  pub nodes : ℕ
  pub are : noted ≡ true → nodes ≡ last
  pub descended : Descended ws k ts nodes d after
