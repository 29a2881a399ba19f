-- The text of a float: its shortest decimal, laid out as Python's `repr` does. It is a number of JSON.
use Rattle.std.specs.Prelude.{ℕ, ◌+◌, ◌-◌, ◌%◌, ◌&&◌, ◌==◌, nat_lt, nat_le, List, [], ◌∷◌, ◌++◌, length, take, drop, codes, decimal, if◌then◌else◌}
use Rattle.std.specs.Float.Ieee.{Format, top}
use Rattle.float_text.specs.Shortest.{shortest}

-- at most 16 zeros
abbrev pub zeros : ℕ → List ℕ
zeros count = take count (codes "0000000000000000")

-- The point stands place - 400 digits behind the place where the digits begin: `1.5`, `150.0`, `0.0015`.
abbrev pub pointed_text : List ℕ → ℕ → List ℕ
pointed_text digits place = take (place - 400) digits ++ (46 ∷ [] ++ drop (place - 400) digits)

abbrev pub whole_text : List ℕ → ℕ → List ℕ
whole_text digits power = digits ++ (zeros (power - 400) ++ codes ".0")

abbrev pub small_text : List ℕ → ℕ → List ℕ
small_text digits place = codes "0." ++ (zeros (400 - place) ++ digits)

-- one digit, and the others behind the point: `1`, `1.5`
abbrev pub mantissa_text : List ℕ → List ℕ
mantissa_text digits = take 1 digits ++ (if nat_lt 1 (length digits) then 46 ∷ [] ++ drop 1 digits else [])

-- two digits at least
abbrev pub exponent_digits : ℕ → List ℕ
exponent_digits exponent = if nat_lt exponent 10 then 48 ∷ [] ++ decimal exponent else decimal exponent

-- `e+22`, `e-07`
abbrev pub exponent_text : ℕ → List ℕ
exponent_text place = if nat_lt 400 place then codes "e+" ++ exponent_digits (place - 401) else codes "e-" ++ exponent_digits (401 - place)

-- an exponent from 1e16 on, and below 1e-04
abbrev pub layout : List ℕ → ℕ → List ℕ
layout digits power =
    let place = length digits + power in
    if nat_lt 400 place && nat_lt place 417 then (if nat_lt power 400 then pointed_text digits place else whole_text digits power)
    else (if nat_lt 396 place && nat_lt place 401 then small_text digits place else mantissa_text digits ++ exponent_text place)

-- the text of a float that isn't negative, by its bits
abbrev pub size_text : Format → ℕ → List ℕ
size_text f bits = if bits == 0 then codes "0.0" else layout (decimal (shortest f bits).0) (shortest f bits).1

-- the text of a finite float by its bits, with `-` where its sign is set, of a zero, too
abbrev pub number_text : Format → ℕ → List ℕ
number_text f bits = (if nat_le (top f) bits then codes "-" else []) ++ size_text f (bits % top f)
