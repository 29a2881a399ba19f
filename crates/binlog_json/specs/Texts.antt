-- The texts of numbers, decimals, dates and times.
use Rattle.std.specs.Prelude.{ℕ, ◌+◌, ◌-◌, ◌*◌, List, [], ◌∷◌, ◌++◌, Bool, not, ◌&&◌, ◌==◌, if◌then◌else◌, length, map, replicate, take, drop, decimal}
use Rattle.std.specs.List.{list_all}
use Rattle.binlog_table.specs.declared.cell.Date.{Date}
use Rattle.binlog_table.specs.declared.cell.DateTime.{DateTime}
use Rattle.binlog_table.specs.declared.cell.Time.{Time}
use Rattle.binlog_table.specs.declared.cell.Timestamp.{Timestamp}
use Rattle.binlog_table.specs.Decimal.{Decimal, digits_of}
use Rattle.binlog_table.specs.DecimalParts.{front_len}
use Rattle.binlog_table.specs.Extent.{fraction_len}

-- a number with zeros in front of it, up to the width
abbrev pub padded : ℕ → ℕ → List ℕ
padded width n = replicate (width - length (decimal n)) 48 ++ decimal n

-- digits as text
abbrev pub digits_text : List ℕ → List ℕ
digits_text = map (λ d. 48 + d)

-- the digits in front of a point, without leading zeros, at least one
abbrev pub whole_text : List ℕ → List ℕ
whole_text [] = 48 ∷ []
whole_text (d ∷ ds) = if d == 0 then whole_text ds else digits_text (d ∷ ds)

-- a point and the digits after it, or nothing where there are none
abbrev pub point_text : List ℕ → List ℕ
point_text [] = []
point_text (d ∷ ds) = 46 ∷ digits_text (d ∷ ds)

abbrev pub sign_text : Bool → List ℕ
sign_text is_negative = if is_negative then 45 ∷ [] else []

-- zero has no sign, however it is stored
abbrev pub is_below_zero : Decimal → Bool
is_below_zero d = d.negative && not (list_all (λ digit. digit == 0) d.digits)

abbrev pub decimal_text : Decimal → List ℕ
decimal_text d = sign_text (is_below_zero d) ++ (whole_text (take (front_len d) d.digits) ++ point_text (drop (front_len d) d.digits))

-- digits, of which so many stand behind the point
abbrev pub with_point : List ℕ → ℕ → List ℕ
with_point digits scale = whole_text (take (length digits - scale) digits) ++ point_text (drop (length digits - scale) digits)

-- the digits of a fraction of a second that a column's precision shows
abbrev pub fraction_digits : ℕ → ℕ → List ℕ
fraction_digits precision fraction = take precision (digits_of (2 * fraction_len precision) fraction)

-- A fraction of a second: as many digits as the column's precision, of the 2, 4 or 6 that are stored.
abbrev pub fraction_text : ℕ → ℕ → List ℕ
fraction_text precision fraction = point_text (fraction_digits precision fraction)

-- yyyy-mm-dd
abbrev pub day_text : ℕ → ℕ → ℕ → List ℕ
day_text year month day = padded 4 year ++ (45 ∷ (padded 2 month ++ (45 ∷ padded 2 day)))

-- hh:mm:ss
abbrev pub clock_text : ℕ → ℕ → ℕ → List ℕ
clock_text hour minute second = padded 2 hour ++ (58 ∷ (padded 2 minute ++ (58 ∷ padded 2 second)))

abbrev pub date_text : Date → List ℕ
date_text d = day_text d.year d.month d.day

abbrev pub date_time_text : DateTime → List ℕ
date_time_text t = day_text t.year t.month t.day ++ (32 ∷ (clock_text t.hour t.minute t.second ++ fraction_text t.precision t.fraction))

abbrev pub time_text : Time → List ℕ
time_text t = sign_text t.negative ++ (clock_text t.hour t.minute t.second ++ fraction_text t.precision t.fraction)

abbrev pub timestamp_text : Timestamp → List ℕ
timestamp_text t = decimal t.seconds ++ fraction_text t.precision t.fraction
