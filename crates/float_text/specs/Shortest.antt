-- The shortest decimal that reads back as a float, and of those the closest: what Steele and White print in "How to print
-- floating-point numbers accurately". Reading is the rounding of IEEE 754 to the nearest float, ties to even, in exact naturals.
-- A decimal is digits * 10 ^ power / 10 ^ 400: each power that counts is then a natural.
use Rattle.std.specs.Prelude.{◌<◌, ℕ, zero, suc, ◌+◌, ◌-◌, ◌*◌, ◌/◌, ◌%◌, ◌^◌, Bool, false, ◌&&◌, ◌||◌, cond, ◌==◌, nat_lt, to_bits}
use Rattle.std.specs.Float.Ieee.{Format, low, hid, ones, round}

-- bits above 0 and below those of infinity, without a sign
pub record IsFinite (f : Format) (bits : ℕ) : Type 0 where
  pub some : 0 < bits
  pub below : bits < ones f * hid f

-- the size of the float with these bits, in units of the least float above 0, which is 1 / 2 ^ low
abbrev pub size_in_units : Format → ℕ → ℕ
size_in_units f bits = cond (nat_lt bits (hid f)) bits ((hid f + bits % hid f) * 2 ^ (bits / hid f - 1))

-- the float nearest to the decimal has these bits
abbrev pub reads_as : Format → ℕ → ℕ → ℕ → Bool
reads_as f bits digits power = to_bits f (round f false (digits * 10 ^ power) (10 ^ 400)) == bits

-- the float over 10 ^ (power - 400), as a fraction
abbrev pub scaled_num : Format → ℕ → ℕ
scaled_num f bits = size_in_units f bits * 10 ^ 400

abbrev pub scaled_den : Format → ℕ → ℕ
scaled_den f power = 2 ^ low f * 10 ^ power

-- that fraction cut off
abbrev pub floor_at : Format → ℕ → ℕ → ℕ
floor_at f bits power = scaled_num f bits / scaled_den f power

-- num / den is closer to floor + 1 than to floor, or as close to both, and floor is odd
abbrev pub is_above_half : ℕ → ℕ → ℕ → Bool
is_above_half num den floor = nat_lt ((2 * floor + 1) * den) (2 * num) || ((2 * floor + 1) * den == 2 * num && floor % 2 == 1)

-- of floor and floor + 1, which read back or not, the closer that does, and 0 where none does
abbrev pub closest_that_reads : ℕ → Bool → Bool → Bool → ℕ
closest_that_reads floor floor_reads next_reads next_is_closer =
    cond (next_is_closer && next_reads) (floor + 1) (cond floor_reads floor (cond next_reads (floor + 1) 0))

-- The digits at this power: the closest that read back, of two as close the even ones, and 0 where none do. Only the two next to
-- the float can be the closest.
abbrev pub digits_at : Format → ℕ → ℕ → ℕ
digits_at f bits power =
    let floor = floor_at f bits power in
    closest_that_reads floor (reads_as f bits floor power) (reads_as f bits (floor + 1) power) (is_above_half (scaled_num f bits) (scaled_den f power) floor)

-- from this power down, the first that has digits, and those at this power are given
unfoldable pub coarsest : Format → ℕ → ℕ → ℕ → ℕ × ℕ
coarsest f bits zero digits = (digits, 0)
coarsest f bits (suc power) zero = coarsest f bits power (digits_at f bits power)
coarsest f bits (suc power) (suc digits) = (suc digits, suc power)

-- The digits and the power of the shortest decimal: those at the greatest power at which a decimal reads back. No decimal from
-- 10 ^ 309 on reads as a finite float.
abbrev pub shortest : Format → ℕ → ℕ × ℕ
shortest f bits = coarsest f bits 709 (digits_at f bits 709)
