-- The answers of the checker's parts by their fields, as the laws name them. No contract cites this file.
-- Assumes nothing.
use Prim.Native.Nat.{ℕ}
use mathlib.Core.Path.{◌≡◌, ap}
use mathlib.Core.Bool.{Bool}
use Rattle.std.specs.Prelude.{Option, Some}
use Rattle.metadata.specs.declared.Tail.{Tail}
use Rattle.image_verify.specs.declared.Entry.{Entry}
use Rattle.image_verify.specs.declared.Numbered.{Numbered}

abbrev pub Reads : ℕ → ℕ → Option Entry
Reads next z = Some (record { next = next; zone = z })

abbrev pub To : ℕ → Bool → Option Numbered
To next b = Some (record { next = next; has_data = b })

abbrev pub Ends : ℕ → ℕ → ℕ → Option Tail
Ends n end epoch = Some (record { nodes = n; start = end; epoch = epoch })

-- what is alike in whole is alike in each field
pub reads_same : (n z m y : ℕ) → Reads n z ≡ Reads m y → (n ≡ m) × (z ≡ y)
reads_same n z m y e =
    let r : ◌≡◌ {A = Entry} (record { next = n; zone = z }) (record { next = m; zone = y }) = cc in
    (ap (λ (x : Entry). x.next) r, ap (λ (x : Entry). x.zone) r)

pub to_same : (i j : ℕ) (a b : Bool) → To i a ≡ To j b → (i ≡ j) × (a ≡ b)
to_same i j a b e =
    let r : ◌≡◌ {A = Numbered} (record { next = i; has_data = a }) (record { next = j; has_data = b }) = cc in
    (ap (λ (x : Numbered). x.next) r, ap (λ (x : Numbered). x.has_data) r)
