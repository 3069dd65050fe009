-- The bytes of a way of single steps in the search tree.
-- Paper 01, "The image": each proper prefix of a stored string is a node, though the table's tree keeps none
-- where only one way goes on.
-- Internal: what the writer's own functions are held to; no public contract cites it.
--   way_in xs m t      the record that leads to a way by the bits xs whose first node is m, and then to t
--   step_bytes         a node on the way: it goes on by one side, and the other holds what is above
--   stalk_bytes        all its nodes
--   PutStalk           the contract of `put_stalk`
-- Assumes nothing.
use Rattle.std.specs.Prelude.{ℕ, suc, ◌*◌, ◌≡◌, Bool, true, false, List, [], ◌∷◌, ◌++◌}
use Rattle.std.proofs.lemmas.List.Edits.{sets}
use Rattle.bits.specs.Bits.{Bits}
use Rattle.image.specs.Image.{size24, node_bytes}

abbrev pub way_in : Bits → ℕ → ℕ → ℕ
way_in [] m t = t
way_in (x ∷ xs) m t = m

abbrev pub step_bytes : Bool → ℕ → ℕ → List ℕ
step_bytes false on above = node_bytes size24 on above
step_bytes true on above = node_bytes size24 above on

abbrev pub stalk_bytes : Bits → ℕ → ℕ → ℕ → List ℕ
stalk_bytes [] m above t = []
stalk_bytes (x ∷ xs) m above t = step_bytes x (way_in xs (suc m) t) above ++ stalk_bytes xs (suc m) above t

-- ---- what `put_stalk` promises

pub record PutStalk (xs : Bits) (m above t : ℕ) (out : List ℕ) (r : ℕ) (after : List ℕ) : Type 0 where
  pub answer : r ≡ way_in xs m t
  pub bytes : after ≡ sets out (6 * m) (stalk_bytes xs m above t)
