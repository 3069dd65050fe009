-- A stored set with its zone numbers: a plain map from bit strings to numbers.
-- Paper 00, demand 2: "the table behaves as a plain map from prefixes to zone numbers". Paper 01, "The lent
-- table".
--   Entry, Map          a string with its zone number; a list of them
--   keys m              the strings of m
--   ascending m         the keys strictly ascend: then m is a map, and two that answer alike are one
--   get k m             the number stored for k, if there is one
--   put e m             m after storing e
--   without k m         m after removing k
--   longest_match k m   the entry with the longest stored prefix of k, if there is one
--   Longest k m e       what makes e that entry: no stored prefix of k is wider
-- Assumes nothing.
use Rattle.std.specs.Prelude.{ℕ, ◌≤◌, Bool, not, cond, T, leb, length}
use mathlib.Core.List.{List, [], ◌∷◌, map, Memᴰ}
use Rattle.std.proofs.Math.Option.{Option, none, some}
use Rattle.std.specs.declared.cmp.Ordering.{Ordering}
use Rattle.std.specs.declared.cmp.Ordering.TheVariants.{Less, Equal, Greater}
use Rattle.bits.specs.Lists.{keep}
use Rattle.bits.specs.Bits.{Bits, order, equal, is_prefix, rising}

pub record Entry : Type 0 where
  pub key : Bits
  pub zone : ℕ

abbrev pub Map : Type 0
Map = List Entry

unfoldable pub keys : Map → List Bits
keys m = map (λ e. e.key) m

unfoldable pub ascending : Map → Bool
ascending m = rising (keys m)

-- "Fetch gives the stored number"
abbrev pub get : Bits → Map → Option ℕ
get k [] = none
get k (e ∷ m) = cond (equal k e.key) (some e.zone) (get k m)

abbrev pub put_at : Ordering → Entry → Entry → Map → Map → Map
put_at Less new e m rest = new ∷ e ∷ m
put_at Equal new e m rest = new ∷ m
put_at Greater new e m rest = e ∷ rest

-- "Store adds a prefix or replaces its zone number"
abbrev pub put : Entry → Map → Map
put new [] = new ∷ []
put new (e ∷ m) = put_at (order new.key e.key) new e m (put new m)

-- (what a remove leaves)
unfoldable pub without : Bits → Map → Map
without k m = keep (λ e. not (equal k e.key)) m

abbrev pub wider : Entry → Option Entry → Option Entry
wider e none = some e
wider e (some f) = cond (leb (length e.key) (length f.key)) (some f) (some e)

abbrev pub widest : Map → Option Entry
widest [] = none
widest (e ∷ m) = wider e (widest m)

-- "the longest stored prefix of the key"
unfoldable pub longest_match : Bits → Map → Option Entry
longest_match k m = widest (keep (λ e. is_prefix e.key k) m)

-- (the same as facts: e is stored and a prefix of k, and no stored prefix of k is wider; the laws
-- `longest_match_some` and `longest-longest_match` say that the two agree)
pub record Longest (k : Bits) (m : Map) (e : Entry) : Type 0 where
  pub stored : Memᴰ e m
  pub prefix : T (is_prefix e.key k)
  pub widest : (f : Entry) → Memᴰ f m → T (is_prefix f.key k) → length f.key ≤ length e.key
