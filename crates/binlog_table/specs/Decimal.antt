-- Decimals as MySQL stores them (decimal.cc, decimal2bin): the integer digits, then those after the point,
-- in groups of nine digits of four bytes. What is left over of the integer part stands first, what is
-- left over of the fraction last.
use Rattle.std.specs.Prelude.{ℕ, zero, suc, ◌+◌, ◌-◌, ◌*◌, ◌/◌, ◌%◌, ◌^◌, min, Bool, List, [], ◌∷◌, ◌++◌, length, drop, map, slice_index, Option, Some, None, option_and_then, option_map, nat_lt, nat_le, if◌then◌else◌}
use Rattle.byteorder.specs.Endian.{big_number}

-- how many bytes a group of up to nine digits takes
abbrev pub group_len : ℕ → ℕ
group_len digits = min 4 ((digits + 1) / 2)

abbrev pub decimal_len : ℕ → ℕ → ℕ
decimal_len precision scale =
    group_len ((precision - scale) % 9) + 4 * ((precision - scale) / 9) + 4 * (scale / 9) + group_len (scale % 9)

-- a byte, complemented in a negative number
abbrev pub plain_byte : Bool → ℕ → ℕ
plain_byte negative byte = if negative then 255 - byte else byte

-- The top bit is flipped, and a negative number has all bytes complemented: so its top bit is 0 as it stands.
abbrev pub plain : List ℕ → List ℕ
plain [] = []
plain (first ∷ others) = (plain_byte (nat_lt first 128) first - 128) ∷ map (plain_byte (nat_lt first 128)) others

abbrev pub is_negative : List ℕ → Bool
is_negative text = nat_lt (slice_index text 0) 128

-- the last digits of a number, the highest first
abbrev pub digits_of : ℕ → ℕ → List ℕ
digits_of zero n = []
digits_of (suc d) n = n / 10 ^ d % 10 ∷ digits_of d n

infixl 10 ◌and_then◌
abbrev pub ◌and_then◌ : {A B : Type 0} → Option A → (A → Option B) → Option B
o and_then f = option_and_then f o

-- the digits of the group at the front, and the bytes after it; a number with more digits is no group
unfoldable pub group_at : ℕ → List ℕ → Option (List ℕ × List ℕ)
group_at d bytes =
    if nat_le (group_len d) (length bytes)
    then (if nat_lt (big_number (group_len d) bytes) (10 ^ d) then Some (digits_of d (big_number (group_len d) bytes), drop (group_len d) bytes) else None)
    else None

-- the digits of so many groups of nine
unfoldable pub nines_at : ℕ → List ℕ → Option (List ℕ × List ℕ)
nines_at zero bytes = Some ([], bytes)
nines_at (suc n) bytes = group_at 9 bytes and_then λ g. nines_at n g.1 and_then λ r. Some (g.0 ++ r.0, r.1)

-- all digits of plain bytes
unfoldable pub digits_at : ℕ → ℕ → List ℕ → Option (List ℕ)
digits_at precision scale bytes =
    group_at ((precision - scale) % 9) bytes and_then λ a. nines_at ((precision - scale) / 9) a.1 and_then λ b. nines_at (scale / 9) b.1 and_then λ c. group_at (scale % 9) c.1 and_then λ d.
    Some (a.0 ++ b.0 ++ c.0 ++ d.0)

-- A number: its sign as it is stored, its digits, the highest first, and how many of them stand after the point.
pub record Decimal : Type 0 where
  pub negative : Bool
  pub digits : List ℕ
  pub scale : ℕ

-- what the whole text of a decimal means
unfoldable pub decimal_of : ℕ → ℕ → List ℕ → Option Decimal
decimal_of precision scale text =
    option_map (λ digits. record { negative = is_negative text; digits = digits; scale = scale }) (digits_at precision scale (plain text))

-- digits that are read behind others
abbrev pub appended : List ℕ → Option (List ℕ × List ℕ) → Option (List ℕ × List ℕ)
appended front read = option_map (λ x. (front ++ x.0, x.1)) read

abbrev pub both : List ℕ → List ℕ → List ℕ × List ℕ
both digits rest = (digits, rest)

-- ---- the bytes after groups, without their digits

unfoldable pub after_group : ℕ → List ℕ → Option (List ℕ)
after_group d bytes = option_map (λ x. x.1) (group_at d bytes)

unfoldable pub after_nines : ℕ → List ℕ → Option (List ℕ)
after_nines n bytes = option_map (λ x. x.1) (nines_at n bytes)

unfoldable pub after_digits : ℕ → ℕ → List ℕ → Option (List ℕ)
after_digits precision scale bytes =
    after_group ((precision - scale) % 9) bytes and_then λ a. after_nines ((precision - scale) / 9) a and_then λ b. after_nines (scale / 9) b and_then λ c. after_group (scale % 9) c
