-- A decimal as two numbers, the one in front of the point and the one behind it.
use Rattle.std.specs.Prelude.{ℕ, ◌≡◌, ◌<◌, ◌-◌, ◌/◌, ◌%◌, ◌^◌, List, ◌++◌, length, Option, Some}
use Rattle.binlog_table.specs.Decimal.{Decimal, ◌and_then◌, digits_of, group_at, nines_at}

-- how many digits stand in front of the point
abbrev pub front_len : Decimal → ℕ
front_len d = length d.digits - d.scale

-- the digits of both numbers are those of the decimal
pub record IsSplit (d : Decimal) (whole fraction : ℕ) : Type 0 where
  pub digits : d.digits ≡ digits_of (front_len d) whole ++ digits_of d.scale fraction
  pub front : whole < 10 ^ front_len d
  pub behind : fraction < 10 ^ d.scale

-- the digits in front of the point, and the bytes after them
unfoldable pub front_at : ℕ → List ℕ → Option (List ℕ × List ℕ)
front_at d bytes = group_at (d % 9) bytes and_then λ a. nines_at (d / 9) a.1 and_then λ b. Some (a.0 ++ b.0, b.1)

-- the digits behind the point
unfoldable pub behind_at : ℕ → List ℕ → Option (List ℕ)
behind_at d bytes = nines_at (d / 9) bytes and_then λ a. group_at (d % 9) a.1 and_then λ b. Some (a.0 ++ b.0)
