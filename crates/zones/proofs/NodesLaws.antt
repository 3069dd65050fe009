-- The laws of sets of strings and of a set's nodes: a string is a node exactly if it is the longest common
-- prefix of two members, and the nodes ascend. No contract cites this file.
-- Assumes nothing.
use mathlib.Core.Path.{◌≡◌, refl, sym, ap, ◌∙◌}
use mathlib.Core.Bool.{Bool, true, false, ◌||◌, or_self_left}
use mathlib.Core.List.{List, [], ◌∷◌, map, Memᴰ}
use lib.Dec.{T}
use Rattle.std.specs.declared.cmp.Ordering.{Ordering}
use Rattle.std.specs.declared.cmp.Ordering.TheVariants.{Less, Equal, Greater}
use Rattle.bits.specs.Lists.{any, all, each}
use Rattle.bits.specs.Bits.{Bits, lcp, order, before, equal, rising, member}
use Rattle.bits.proofs.ListsLaws.{or_swap, and_left, and_right, and_both, any-map, any-each, any_mem, mem-any, T_true, true-T}
use Rattle.bits.proofs.BitsLaws.{equal_true, equal_refl, eq-equal, order_flip}
use Rattle.bits.proofs.RisingLaws.{before-rising, rising_ext}
use Rattle.zones.specs.Nodes.{join, join_at, in_order, nodes}

-- ---- join

any-join_at : (o : Ordering) (p q x : Bits) (qs : List Bits) → order q x ≡ o
    → any (equal p) (join q qs) ≡ (equal p q || any (equal p) qs)
    → any (equal p) (join_at o q x qs (join q qs)) ≡ (equal p q || (equal p x || any (equal p) qs))
any-join_at Less p q x qs e ih = refl
any-join_at Equal p q x qs e ih = rw (equal_true q x (rw e tt)) (sym (or_self_left (equal p x) (any (equal p) qs)))
any-join_at Greater p q x qs e ih = rw ih (or_swap (equal p x) (equal p q) (any (equal p) qs))

pub any-join : (p q : Bits) (qs : List Bits) → any (equal p) (join q qs) ≡ (equal p q || any (equal p) qs)
any-join p q [] = refl
any-join p q (x ∷ qs) = any-join_at (order q x) p q x qs refl (any-join p q qs)

all-join_at : (o : Ordering) (r p q : Bits) (qs : List Bits) → T (before r p) → T (all (before r) (q ∷ qs)) → T (all (before r) (join p qs))
    → T (all (before r) (join_at o p q qs (join p qs)))
all-join_at Less r p q qs h k i = and_both (before r p) (all (before r) (q ∷ qs)) h k
all-join_at Equal r p q qs h k i = k
all-join_at Greater r p q qs h k i =
    and_both (before r q) (all (before r) (join p qs)) (and_left (before r q) (all (before r) qs) k) i

all_join : (r p : Bits) (qs : List Bits) → T (before r p) → T (all (before r) qs) → T (all (before r) (join p qs))
all_join r p [] h k = and_both (before r p) true h tt
all_join r p (q ∷ qs) h k =
    all-join_at (order p q) r p q qs h k (all_join r p qs h (and_right (before r q) (all (before r) qs) k))

rising-join_at : (o : Ordering) (p q : Bits) (qs : List Bits) → order p q ≡ o → T (rising (q ∷ qs)) → T (rising (join p qs))
    → T (rising (join_at o p q qs (join p qs)))
rising-join_at Less p q qs e h i =
    and_both (all (before p) (q ∷ qs)) (rising (q ∷ qs)) (before-rising p q qs (rw e tt) h) h
rising-join_at Equal p q qs e h i = h
rising-join_at Greater p q qs e h i =
    and_both (all (before q) (join p qs)) (rising (join p qs))
    (all_join q p qs (rw (order_flip p q, e) tt) (and_left (all (before q) qs) (rising qs) h)) i

pub rising-join : (p : Bits) (qs : List Bits) → T (rising qs) → T (rising (join p qs))
rising-join p [] h = tt
rising-join p (q ∷ qs) h =
    rising-join_at (order p q) p q qs refl h (rising-join p qs (and_right (all (before q) qs) (rising qs) h))

join-member_at : (b : Bool) (r p : Bits) (s : List Bits) → equal r p ≡ b → T (any (equal p) s) → (b || any (equal r) s) ≡ any (equal r) s
join-member_at true r p s e i = sym (rw (equal_true r p (rw e tt)) (T_true (any (equal p) s) i))
join-member_at false r p s e i = refl

-- a set with one of its members is the set
pub join-member : (p : Bits) (s : List Bits) → T (rising s) → T (member p s) → join p s ≡ s
unfolding member
join-member p s h i =
    rising_ext (join p s) s (rising-join p s h) h (λ r. any-join r p s ∙ join-member_at (equal r p) r p s refl i)

-- ---- in_order

pub member-in_order : (p : Bits) (ps : List Bits) → member p (in_order ps) ≡ member p ps
unfolding member
member-in_order p [] = refl
member-in_order p (q ∷ ps) = any-join p q (in_order ps) ∙ ap (λ (b : Bool). equal p q || b) (member-in_order p ps)

pub rising-in_order : (ps : List Bits) → T (rising (in_order ps))
rising-in_order [] = tt
rising-in_order (p ∷ ps) = rising-join p (in_order ps) (rising-in_order ps)

-- ---- nodes

pub rising-nodes : (s : List Bits) → T (rising (nodes s))
unfolding nodes
rising-nodes s = rising-in_order (each (λ a. map (λ b. lcp a b) s) s)

-- p is the longest common prefix of two members of s, as a test
unfoldable pub is_node : List Bits → Bits → Bool
is_node s p = any (λ a. any (λ b. equal p (lcp a b)) s) s

-- a string is in the list of nodes exactly if it is a node
pub member-nodes : (s : List Bits) (p : Bits) → member p (nodes s) ≡ is_node s p
unfolding nodes is_node member
member-nodes s p =
    member-in_order p (each (λ a. map (λ b. lcp a b) s) s)
    ∙ any-each (equal p) (λ a. map (λ b. lcp a b) s) s
    ∙ simp any-map

-- ---- is_node

-- p is the longest common prefix of two members of s
pub record Node (s : List Bits) (p : Bits) : Type 0 where
  pub one : Bits
  pub two : Bits
  pub one_in : Memᴰ one s
  pub two_in : Memᴰ two s
  pub is : p ≡ lcp one two

pub node-is_node : (s : List Bits) (p : Bits) → Node s p → T (is_node s p)
unfolding is_node
node-is_node s p n =
    mem-any (λ a. any (λ b. equal p (lcp a b)) s) s n.one n.one_in
    (mem-any (λ b. equal p (lcp n.one b)) s n.two n.two_in (eq-equal p (lcp n.one n.two) n.is))

pub is_node_true : (s : List Bits) (p : Bits) → T (is_node s p) → Node s p
unfolding is_node
is_node_true s p h =
    let u = any_mem (λ a. any (λ b. equal p (lcp a b)) s) s h in
    let w = any_mem (λ b. equal p (lcp u.0 b)) s u.2 in
    record { one = u.0; two = w.0; one_in = u.1; two_in = w.1; is = equal_true p (lcp u.0 w.0) w.2 }

-- the same of the list itself
pub mem-nodes : (s : List Bits) (p : Bits) → Memᴰ p (nodes s) → Node s p
unfolding member
mem-nodes s p i =
    is_node_true s p (true-T (is_node s p) (sym (member-nodes s p) ∙ T_true (any (equal p) (nodes s)) (mem-any (equal p) (nodes s) p i (equal_refl p))))

pub nodes_mem : (s : List Bits) (p : Bits) → Node s p → Memᴰ p (nodes s)
unfolding member
nodes_mem s p n =
    let w = any_mem (equal p) (nodes s) (true-T (any (equal p) (nodes s)) (member-nodes s p ∙ T_true (is_node s p) (node-is_node s p n))) in
    rw (equal_true p w.0 w.2) w.1
