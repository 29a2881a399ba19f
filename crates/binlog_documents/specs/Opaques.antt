-- The texts of values of MySQL's other types, as MySQL shows them in JSON (json_dom.cc, wrapper_to_string).
use Rattle.std.specs.Prelude.{ℕ, ◌+◌, ◌-◌, ◌/◌, ◌%◌, ◌^◌, min, List, [], ◌∷◌, ◌++◌, length, take, drop, map, replicate, slice_index, Bool, not, ◌==◌, ◌&&◌, ◌||◌, nat_lt, nat_le, if◌then◌else◌, Option, Some, None, option_map, unwrap_or, codes, decimal}
use Rattle.std.specs.List.{list_all}
use Rattle.json.specs.Print.{quoted}
use Rattle.base64.specs.Engines.{standard}
use Rattle.base64.specs.GeneralPurpose.{encode_of}
use Rattle.byteorder.specs.Endian.{little_number, big_number}

-- the bytes in base64, and the type
abbrev pub encoded_text : ℕ → List ℕ → List ℕ
encoded_text kind bytes = codes "{\"base64\":" ++ (quoted (encode_of standard bytes) ++ (codes ",\"type\":" ++ (decimal kind ++ codes "}")))

-- a number with zeros in front of it, up to the width
abbrev pub padded : ℕ → ℕ → List ℕ
padded width n = replicate (width - length (decimal n)) 48 ++ decimal n

-- ---- dates and times (my_time.cc, TIME_from_longlong_datetime_packed and TIME_from_longlong_time_packed): 24 bits of microseconds,
-- and above them 6 bits of seconds and 6 of minutes

-- what stands above the microseconds
abbrev pub above_micros : ℕ → ℕ
above_micros n = n / 2 ^ 24

-- yyyy-mm-dd: 5 bits of hours, 5 of days, and year * 13 + month
abbrev pub day_text : ℕ → List ℕ
day_text n =
    let days = above_micros n / 2 ^ 17 in
    padded 4 (days / 32 / 13) ++ (45 ∷ (padded 2 (days / 32 % 13) ++ (45 ∷ padded 2 (days % 32))))

-- hh:mm:ss.ffffff, of which the hour is given
abbrev pub clock_text : ℕ → ℕ → List ℕ
clock_text hour n =
    padded 2 hour ++ (58 ∷ (padded 2 (above_micros n / 64 % 64) ++ (58 ∷ (padded 2 (above_micros n % 64) ++ (46 ∷ padded 6 (n % 2 ^ 24))))))

abbrev pub in_quotes : List ℕ → List ℕ
in_quotes text = 34 ∷ (text ++ 34 ∷ [])

-- A TIME: 10 bits of hours; all of it in two's complement.
abbrev pub span_text : ℕ → List ℕ
span_text n = clock_text (above_micros n / 2 ^ 12 % 1024) n

abbrev pub time_text : ℕ → List ℕ
time_text n = if nat_lt n (2 ^ 63) then span_text n else 45 ∷ span_text (2 ^ 64 - n)

-- a DATE (10), a DATETIME (12) or a TIMESTAMP (7), none of which is below zero
abbrev pub moment_text : ℕ → ℕ → List ℕ
moment_text kind n = if kind == 10 then day_text n else day_text n ++ (32 ∷ clock_text (above_micros n / 2 ^ 12 % 32) n)

abbrev pub shown_text : ℕ → ℕ → List ℕ
shown_text kind n = if kind == 11 then time_text n else moment_text kind n

abbrev pub is_shown : ℕ → ℕ → Bool
is_shown kind n = (kind == 11) || nat_lt n (2 ^ 63)

unfoldable pub time_opaque : ℕ → List ℕ → Option (List ℕ)
time_opaque kind bytes =
    let n = little_number 8 bytes in if (length bytes == 8) && is_shown kind n then Some (in_quotes (shown_text kind n)) else None

-- ---- decimals (decimal.cc, decimal2bin): a byte for how many digits there are, one for how many of them stand behind the point, and the
-- digits in groups of nine, those in front of the point apart from those behind it. What is left over of the digits in front of the
-- point is the first group, of those behind it the last.

-- how many bytes a group of up to nine digits takes
abbrev pub group_len : ℕ → ℕ
group_len digits = min 4 ((digits + 1) / 2)

abbrev pub groups : ℕ → ℕ → List ℕ
groups front behind = (front % 9) ∷ (replicate (front / 9 + behind / 9) 9 ++ (behind % 9) ∷ [])

-- the digits of a group as text
abbrev pub group_text : ℕ → ℕ → List ℕ
group_text digits n = if digits == 0 then [] else padded digits n

-- the digits of groups that take all bytes, where no group's number has more digits
unfoldable pub digits_in : List ℕ → List ℕ → Option (List ℕ)
digits_in [] bytes = if length bytes == 0 then Some [] else None
digits_in (digits ∷ more) bytes =
    if nat_le digits 9 && (nat_le (group_len digits) (length bytes) && nat_lt (big_number (group_len digits) bytes) (10 ^ digits))
    then option_map (λ rest. group_text digits (big_number (group_len digits) bytes) ++ rest) (digits_in more (drop (group_len digits) bytes))
    else None

-- The top bit is turned, and below zero all bits are: there it is 0 as it stands.
abbrev pub plain : Bool → List ℕ → List ℕ
plain negative [] = []
plain negative (first ∷ others) =
    if negative then (127 - first) ∷ map (λ b. 255 - b) others else (first - 128) ∷ others

-- without the zeros in front, but at least one digit
abbrev pub without_zeros : List ℕ → List ℕ
without_zeros [] = 48 ∷ []
without_zeros (d ∷ ds) = if d == 48 then without_zeros ds else d ∷ ds

abbrev pub point_text : List ℕ → List ℕ
point_text [] = []
point_text (d ∷ ds) = 46 ∷ d ∷ ds

-- digits with a point behind so many of them; zero has no sign
abbrev pub scaled_text : Bool → ℕ → List ℕ → List ℕ
scaled_text negative front digits =
    (if negative && not (list_all (λ d. d == 48) digits) then 45 ∷ [] else []) ++ (without_zeros (take front digits) ++ point_text (drop front digits))

-- At most 81 digits, and any of them behind the point. A column has at most 65 and 30, but SQL computes with more (DECIMAL_BUFF_LENGTH).
abbrev pub has_precision : ℕ → ℕ → Bool
has_precision precision scale = nat_le 1 precision && (nat_le precision 81 && nat_le scale precision)

unfoldable pub decimal_opaque : List ℕ → Option (List ℕ)
decimal_opaque [] = None
decimal_opaque (precision ∷ []) = None
decimal_opaque (precision ∷ scale ∷ bytes) =
    if has_precision precision scale
    then (let negative = nat_lt (slice_index bytes 0) 128 in
    option_map (scaled_text negative (precision - scale)) (digits_in (groups (precision - scale) scale) (plain negative bytes)))
    else None

-- ---- all of them: what isn't in its type's form is shown as those of other types are

abbrev pub opaque_text : ℕ → List ℕ → List ℕ
opaque_text kind bytes =
    if kind == 246 then unwrap_or (decimal_opaque bytes) (encoded_text kind bytes)
    else (if (kind == 7) || ((kind == 10) || ((kind == 11) || (kind == 12))) then unwrap_or (time_opaque kind bytes) (encoded_text kind bytes)
    else encoded_text kind bytes)
