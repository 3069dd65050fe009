-- Every whole trie is the trie of a list: of its leaves that hold a number, each under its string. So what is
-- numbered as a whole trie is the image of a list. No contract cites this file.
-- Assumes nothing.
use Prim.Native.Nat.{ℕ, ◌+◌, ◌≤◌}
use native.Mathlib.Omega.{arith}
use mathlib.Core.Path.{◌≡◌, refl, sym, ap, ap₂, ◌∙◌, subst}
use mathlib.Core.Logic.{inl, inr}
use mathlib.Core.Bool.{Bool, true, false, not, ◌||◌}
use mathlib.Core.List.Memᴰ
use mathlib.Core.List.{List, [], ◌∷◌, ◌++◌, append-nil, Memᴰ}
use mathlib.Core.Option.{Option, none, some}
use lib.Dec.{T}
use lib.ListN.{length, length-append}
use Rattle.bits.specs.Lists.{any, each, keep}
use Rattle.bits.specs.Bits.{Bits, is_prefix, equal, rising, member}
use Rattle.bits.proofs.ListsLaws.{T_true, or_cases, keep-none, keep_append, mem-any, test_ext}
use Rattle.bits.proofs.BitsLaws.{is_prefix_refl, is_prefix_trans, is_prefix-append, equal_refl, before_split, longer_irrefl, one_side}
use Rattle.bits.proofs.RisingLaws.{rising-append, rising_ext, member_mem}
use Rattle.zones.specs.Maps.{Entry, Map, keys, ascending, longest_match}
use Rattle.zones.proofs.NodesLaws.{rising-in_order}
use Rattle.zones.proofs.TreeLaws.{keys-append, mem-keys}
use Rattle.image.specs.Image.{proper_prefixes, image_nodes, forks_in, forks_of}
use Rattle.image.specs.Tries.{Trie, leaf, fork, refs}
use Rattle.image.proofs.TrieLaws.{forks, is_fork, zone_at, Within, rising-forks, next, mem-fork}
use Rattle.image.proofs.TrieLaws.{member-image_nodes, Proper, is_fork_empty, is_fork_true, proper-is_fork}
use Rattle.image.proofs.PreorderLaws.{append_bit, Filled, forks_in-refs}
use Rattle.image.proofs.LookupLaws.{look}
use Rattle.image.proofs.WholeLaws.{live, Solid, Whole, depth}

-- the leaves that hold a number, of a trie at p, in the order of their strings
abbrev pub leaves : Bits → Trie → Map
leaves p (leaf none) = []
leaves p (leaf (some z)) = record { key = p; zone = z } ∷ []
leaves p (fork l r) = leaves (p ++ (false ∷ [])) l ++ leaves (p ++ (true ∷ [])) r

-- their strings
abbrev tips : Bits → Trie → List Bits
tips p (leaf none) = []
tips p (leaf (some z)) = p ∷ []
tips p (fork l r) = tips (p ++ (false ∷ [])) l ++ tips (p ++ (true ∷ [])) r

-- ---- tips

keys-leaves : (p : Bits) (t : Trie) → keys (leaves p t) ≡ tips p t
unfolding keys
keys-leaves p (leaf none) = refl
keys-leaves p (leaf (some z)) = refl
keys-leaves p (fork l r) =
    keys-append (leaves (p ++ (false ∷ [])) l) (leaves (p ++ (true ∷ [])) r)
    ∙ ap₂ ◌++◌ (keys-leaves (p ++ (false ∷ [])) l) (keys-leaves (p ++ (true ∷ [])) r)

begin-tips : (p : Bits) (t : Trie) (k : Bits) → Memᴰ k (tips p t) → T (is_prefix p k)
begin-tips p (leaf none) k i = absurd (Memᴰ.not-nil i)
begin-tips p (leaf (some z)) k (Memᴰ.head e) = rw e (is_prefix_refl p)
begin-tips p (leaf (some z)) k (Memᴰ.tail i) = absurd (Memᴰ.not-nil i)
begin-tips p (fork l r) k i =
    elim (Memᴰ.append_cases (tips (p ++ (false ∷ [])) l) i) [
      | inl j ↦ is_prefix_trans p (p ++ (false ∷ [])) k (is_prefix-append p (false ∷ [])) (begin-tips (p ++ (false ∷ [])) l k j)
      | inr j ↦ is_prefix_trans p (p ++ (true ∷ [])) k (is_prefix-append p (true ∷ [])) (begin-tips (p ++ (true ∷ [])) r k j)
    ]

rising-tips : (p : Bits) (t : Trie) → T (rising (tips p t))
rising-tips p (leaf none) = tt
rising-tips p (leaf (some z)) = tt
rising-tips p (fork l r) =
    rising-append (tips (p ++ (false ∷ [])) l) (tips (p ++ (true ∷ [])) r) (rising-tips (p ++ (false ∷ [])) l) (rising-tips (p ++ (true ∷ [])) r)
    (λ a b i j. before_split p a b (begin-tips (p ++ (false ∷ [])) l a i) (begin-tips (p ++ (true ∷ [])) r b j))

within-tips : (p : Bits) (t : Trie) → Within (length p + depth t) (tips p t)
within-tips p (leaf none) k i = absurd (Memᴰ.not-nil i)
within-tips p (leaf (some z)) k (Memᴰ.head e) = omega (arith, ap length e)
within-tips p (leaf (some z)) k (Memᴰ.tail i) = absurd (Memᴰ.not-nil i)
within-tips p (fork l r) k i =
    elim (Memᴰ.append_cases (tips (p ++ (false ∷ [])) l) i) [
      | inl j ↦ omega (arith, within-tips (p ++ (false ∷ [])) l k j, length-append p (false ∷ []))
      | inr j ↦ omega (arith, within-tips (p ++ (true ∷ [])) r k j, length-append p (true ∷ []))
    ]

-- ---- every fork is a proper prefix of a tip

some-tip : (p : Bits) (t : Trie) → T (live t) → (k : Bits) × Memᴰ k (tips p t)
some-tip p (leaf (some z)) h = (p, Memᴰ.head refl)
some-tip p (fork l r) h =
    elim (or_cases (live l) (live r) h) [
      | inl j ↦ let u = some-tip (p ++ (false ∷ [])) l j in (u.0, Memᴰ.append_left (tips (p ++ (true ∷ [])) r) u.1)
      | inr j ↦ let u = some-tip (p ++ (true ∷ [])) r j in (u.0, Memᴰ.append_right (tips (p ++ (false ∷ [])) l) u.1)
    ]
some-tip p (leaf none) h = elim h [ ]

module _ (p : Bits) (l r : Trie) where
  in_left : (k : Bits) → Memᴰ k (tips (p ++ (false ∷ [])) l) → Memᴰ k (tips p (fork l r))
  in_left k i = Memᴰ.append_left (tips (p ++ (true ∷ [])) r) i

  in_right : (k : Bits) → Memᴰ k (tips (p ++ (true ∷ [])) r) → Memᴰ k (tips p (fork l r))
  in_right k i = Memᴰ.append_right (tips (p ++ (false ∷ [])) l) i

  proper_top : T (live l || live r) → Proper (tips p (fork l r)) p
  proper_top h =
      elim (or_cases (live l) (live r) h) [
        | inl j ↦ (let u = some-tip (p ++ (false ∷ [])) l j in
            record { whole = u.0; bit = false; stored = in_left u.0 u.1; prefix = begin-tips (p ++ (false ∷ [])) l u.0 u.1 })
        | inr j ↦ (let u = some-tip (p ++ (true ∷ [])) r j in
            record { whole = u.0; bit = true; stored = in_right u.0 u.1; prefix = begin-tips (p ++ (true ∷ [])) r u.0 u.1 })
      ]

proper-wider : (q : Bits) (ks js : List Bits) → ((k : Bits) → Memᴰ k ks → Memᴰ k js) → Proper ks q → Proper js q
proper-wider q ks js f o = record { whole = o.whole; bit = o.bit; stored = f o.whole o.stored; prefix = o.prefix }

mem-forks-proper : (p : Bits) (t : Trie) → Solid t → (q : Bits) → Memᴰ q (forks p t) → Proper (tips p t) q
mem-forks-proper p (leaf o) g q i = absurd (Memᴰ.not-nil i)
mem-forks-proper p (fork l r) g q (Memᴰ.head e) = subst (λ (x : Bits). Proper (tips p (fork l r)) x) (sym e) (proper_top p l r g.0)
mem-forks-proper p (fork l r) g q (Memᴰ.tail i) =
    elim (Memᴰ.append_cases (forks (p ++ (false ∷ [])) l) i) [
      | inl j ↦ proper-wider q (tips (p ++ (false ∷ [])) l) (tips p (fork l r)) (in_left p l r) (mem-forks-proper (p ++ (false ∷ [])) l g.1 q j)
      | inr j ↦ proper-wider q (tips (p ++ (true ∷ [])) r) (tips p (fork l r)) (in_right p l r) (mem-forks-proper (p ++ (true ∷ [])) r g.2 q j)
    ]

-- ---- every proper prefix of a tip is a fork

-- a tip that begins with a side is on that side
tips_left : (p : Bits) (l r : Trie) (k : Bits) → Memᴰ k (tips p (fork l r)) → T (is_prefix (p ++ (false ∷ [])) k)
    → Memᴰ k (tips (p ++ (false ∷ [])) l)
tips_left p l r k i h =
    elim (Memᴰ.append_cases (tips (p ++ (false ∷ [])) l) i) [
      | inl j ↦ j
      | inr j ↦ absurd (one_side p k false h (begin-tips (p ++ (true ∷ [])) r k j))
    ]

tips_right : (p : Bits) (l r : Trie) (k : Bits) → Memᴰ k (tips p (fork l r)) → T (is_prefix (p ++ (true ∷ [])) k)
    → Memᴰ k (tips (p ++ (true ∷ [])) r)
tips_right p l r k i h =
    elim (Memᴰ.append_cases (tips (p ++ (false ∷ [])) l) i) [
      | inl j ↦ absurd (one_side p k true h (begin-tips (p ++ (false ∷ [])) l k j))
      | inr j ↦ j
    ]

proper_mem-forks : (p : Bits) (t : Trie) (q k : Bits) (x : Bool) → Memᴰ k (tips p t) → T (is_prefix p q) → T (is_prefix (q ++ (x ∷ [])) k)
    → Memᴰ q (forks p t)
proper_mem-forks p (leaf none) q k x i h j = absurd (Memᴰ.not-nil i)
proper_mem-forks p (leaf (some z)) q k x (Memᴰ.tail i) h j = absurd (Memᴰ.not-nil i)
proper_mem-forks p (leaf (some z)) q k x (Memᴰ.head e) h j =
    absurd (longer_irrefl q x (is_prefix_trans (q ++ (x ∷ [])) p q (rw e at j) h))
proper_mem-forks p (fork l r) q k x i h j =
    let u : T (is_prefix q k) = is_prefix_trans q (q ++ (x ∷ [])) k (is_prefix-append q (x ∷ [])) j in
    mem-fork p q l r
    (λ b. proper_mem-forks (p ++ (false ∷ [])) l q k x (tips_left p l r k i (is_prefix_trans (p ++ (false ∷ [])) q k b u)) b j)
    (λ b. proper_mem-forks (p ++ (true ∷ [])) r q k x (tips_right p l r k i (is_prefix_trans (p ++ (true ∷ [])) q k b u)) b j)
    (next p q h)

-- ---- so the image nodes of the leaves are the forks

is_fork-tips : (t : Trie) → Whole t → (q : Bits) → T (is_fork (tips [] t) q) → Memᴰ q (forks [] t)
is_fork-tips (fork l r) g q h =
    elim (is_fork_true (tips [] (fork l r)) q h) [
      | inl e ↦ Memᴰ.head e
      | inr o ↦ proper_mem-forks [] (fork l r) q o.whole o.bit o.stored tt o.prefix
    ]
is_fork-tips (leaf _) g q h = elim g [ ]

forks-is_fork : (t : Trie) → Whole t → (q : Bits) → Memᴰ q (forks [] t) → T (is_fork (tips [] t) q)
forks-is_fork (fork l r) g q (Memᴰ.head e) = rw e (is_fork_empty (tips [] (fork l r)))
forks-is_fork (fork l r) g q (Memᴰ.tail i) =
    proper-is_fork (tips [] (fork l r)) q
    (elim (Memᴰ.append_cases (forks (false ∷ []) l) i) [
      | inl j ↦ proper-wider q (tips (false ∷ []) l) (tips [] (fork l r)) (in_left [] l r) (mem-forks-proper (false ∷ []) l g.0 q j)
      | inr j ↦ proper-wider q (tips (true ∷ []) r) (tips [] (fork l r)) (in_right [] l r) (mem-forks-proper (true ∷ []) r g.1 q j)
    ])
forks-is_fork (leaf _) g q _ = elim g [ ]

pub image_nodes-leaves : (t : Trie) → Whole t → image_nodes (keys (leaves [] t)) ≡ forks [] t
unfolding image_nodes member
image_nodes-leaves t g =
    ap image_nodes (keys-leaves [] t)
    ∙ rising_ext (image_nodes (tips [] t)) (forks [] t) (rising-in_order ([] ∷ each proper_prefixes (tips [] t))) (rising-forks [] t)
    (λ q. member-image_nodes (tips [] t) q ∙ test_ext (is_fork (tips [] t) q) (any (equal q) (forks [] t))
    (λ h. mem-any (equal q) (forks [] t) q (is_fork-tips t g q h) (equal_refl q))
    (λ h. forks-is_fork t g q (member_mem q (forks [] t) h)))

-- ---- the longest match at a leaf

begin-leaves : (p : Bits) (t : Trie) (e : Entry) → Memᴰ e (leaves p t) → T (is_prefix p e.key)
begin-leaves p t e i = begin-tips p t e.key (rw (keys-leaves p t) at (mem-keys (leaves p t) e i))

-- no leaf on the other side, and none below, is a prefix
keep_other : (p : Bits) (x : Bool) (q : Bits) (t : Trie) → keep (λ e. is_prefix e.key (p ++ (x ∷ q))) (leaves (p ++ (not x ∷ [])) t) ≡ []
keep_other p x q t =
    let on : T (is_prefix (p ++ (x ∷ [])) (p ++ (x ∷ q))) = rw (append_bit p x q) (is_prefix-append (p ++ (x ∷ [])) q) in
    keep-none (λ e. is_prefix e.key (p ++ (x ∷ q))) (leaves (p ++ (not x ∷ [])) t)
    (λ e i h. one_side p (p ++ (x ∷ q)) x on (is_prefix_trans (p ++ (not x ∷ [])) e.key (p ++ (x ∷ q)) (begin-leaves (p ++ (not x ∷ [])) t e i) h))

keep-lower : (p : Bits) (x : Bool) (t : Trie) → keep (λ e. is_prefix e.key p) (leaves (p ++ (x ∷ [])) t) ≡ []
keep-lower p x t =
    keep-none (λ e. is_prefix e.key p) (leaves (p ++ (x ∷ [])) t)
    (λ e i h. longer_irrefl p x (is_prefix_trans (p ++ (x ∷ [])) e.key p (begin-leaves (p ++ (x ∷ [])) t e i) h))

pub look-leaves : (p : Bits) (t : Trie) (q : Bits) → look t q ≡ zone_at (leaves p t) (p ++ q)
unfolding zone_at longest_match
look-leaves p (leaf none) q = refl
look-leaves p (leaf (some z)) q = rw (T_true (is_prefix p (p ++ q)) (is_prefix-append p q))
look-leaves p (fork l r) [] =
    rw (
      append-nil,
      keep_append (λ e. is_prefix e.key p) (leaves (p ++ (false ∷ [])) l) (leaves (p ++ (true ∷ [])) r),
      keep-lower p false l,
      keep-lower p true r,
    )
look-leaves p (fork l r) (false ∷ q) =
    rw (
      keep_append (λ e. is_prefix e.key (p ++ (false ∷ q))) (leaves (p ++ (false ∷ [])) l) (leaves (p ++ (true ∷ [])) r),
      keep_other p false q r,
      append-nil,
      append_bit p false q,
    )
    (look-leaves (p ++ (false ∷ [])) l q)
look-leaves p (fork l r) (true ∷ q) =
    rw (
      keep_append (λ e. is_prefix e.key (p ++ (true ∷ q))) (leaves (p ++ (false ∷ [])) l) (leaves (p ++ (true ∷ [])) r),
      keep_other p true q l,
      append_bit p true q,
    )
    (look-leaves (p ++ (true ∷ [])) r q)

filled-look : (v : Bits → Option ℕ) (p : Bits) (t : Trie) → ((q : Bits) → look t q ≡ v (p ++ q)) → Filled v p t
filled-look v p (leaf o) h = h [] ∙ ap v (append-nil p)
filled-look v p (fork l r) h = (
  filled-look v (p ++ (false ∷ [])) l (λ q. h (false ∷ q) ∙ ap v (append_bit p false q)),
  filled-look v (p ++ (true ∷ [])) r (λ q. h (true ∷ q) ∙ ap v (append_bit p true q)),
)

-- ---- the list of a whole trie

pub forks_of-leaves : (t : Trie) → Whole t → forks_of (leaves [] t) ≡ refs 0 t
unfolding forks_of
forks_of-leaves t g =
    ap (forks_in (leaves [] t)) (image_nodes-leaves t g)
    ∙ forks_in-refs (leaves [] t) t (filled-look (zone_at (leaves [] t)) [] t (look-leaves [] t))

pub ascending-leaves : (t : Trie) → T (ascending (leaves [] t))
unfolding ascending
ascending-leaves t = rw (keys-leaves [] t) (rising-tips [] t)

pub within-leaves : (n : ℕ) (t : Trie) → depth t ≤ n → Within n (keys (leaves [] t))
within-leaves n t h k i = omega (arith, within-tips [] t k (rw (keys-leaves [] t) at i))
