-- Numbers in decimal digits.
use Rattle.std.specs.Prelude.{◌≢◌, ℕ, ◌<◌, ◌^◌, Bool, List, Option, Some, None, if◌then◌else◌, length, nat_lt, ◌&&◌, decimal}
use Rattle.std.specs.Str.{all_ascii_digits}
use Rattle.std.specs.Str.Parse.{digits_value}

-- one digit or more, of a value below 2^64
abbrev pub is_number : List ℕ → Bool
is_number digits = nat_lt 0 (length digits) && (all_ascii_digits digits && nat_lt (digits_value 10 digits) (2 ^ 64))

-- the number that digits write, leading zeros aside
abbrev pub number_of : List ℕ → Option ℕ
number_of digits = if is_number digits then Some (digits_value 10 digits) else None

-- they are not what a number below 2^64 is in decimal digits, without leading zeros
abbrev pub IsNoDecimal : List ℕ → Type 0
IsNoDecimal digits = (n : ℕ) → n < 2 ^ 64 → digits ≢ decimal n
