-- What the search for the shortest decimal keeps.
use Rattle.std.specs.Prelude.{◌≡◌, ◌<◌, ◌⊎◌, ℕ, ◌+◌, ◌-◌, ◌*◌, ◌/◌, ◌%◌, Bool}
use Rattle.std.specs.Ordering.{nat_cmp}
use Rattle.std.specs.declared.cmp.Ordering.{Ordering}
use Rattle.std.specs.Float.Ieee.{Format}
use Rattle.float_text.specs.Shortest.{scaled_num, scaled_den, reads_as}

-- how twice the float compares with so many halves of a unit at this power
abbrev pub IsOrder : Format → ℕ → ℕ → ℕ → Ordering → Type 0
IsOrder f bits halves power order = order ≡ nat_cmp (2 * scaled_num f bits) (halves * scaled_den f power)

-- the next digits up are no better: they are farther, or as far and these are even, or they don't read back
abbrev pub IsBestUp : Format → ℕ → ℕ → ℕ → Type 0
IsBestUp f bits digits power =
    (2 * scaled_num f bits < (2 * digits + 1) * scaled_den f power)
    ⊎ (((2 * scaled_num f bits ≡ (2 * digits + 1) * scaled_den f power) × (digits % 2 ≡ 0)) ⊎ (reads_as f bits (digits + 1) power ≡ Bool.false))

-- and the next ones down
abbrev pub IsBestDown : Format → ℕ → ℕ → ℕ → Type 0
IsBestDown f bits digits power =
    ((2 * digits - 1) * scaled_den f power < 2 * scaled_num f bits)
    ⊎ (((2 * scaled_num f bits ≡ (2 * digits - 1) * scaled_den f power) × (digits % 2 ≡ 0)) ⊎ (reads_as f bits (digits - 1) power ≡ Bool.false))

-- neither of the decimals next to it reads back, and none at the next power does
pub record IsAlone (f : Format) (bits digits power : ℕ) : Type 0 where
  pub up : reads_as f bits (digits + 1) power ≡ Bool.false
  pub down : reads_as f bits (digits - 1) power ≡ Bool.false
  pub below : reads_as f bits (digits / 10) (power + 1) ≡ Bool.false
  pub above : reads_as f bits (digits / 10 + 1) (power + 1) ≡ Bool.false
