-- What the bytes of a value mean, by the column's layout.
use Rattle.std.specs.Prelude.{ℕ, ◌+◌, ◌-◌, ◌*◌, ◌/◌, ◌%◌, ◌^◌, ℤ, Bool, true, false, List, drop, slice_index, Option, Some, None, option_map, nat_lt, nat_le, ◌==◌, if◌then◌else◌}
use Rattle.byteorder.specs.Endian.{big_number, little_number, twos_complement}
use Rattle.binlog_table.specs.declared.cell.Cell.{Cell}
use Rattle.binlog_table.specs.declared.cell.Cell.TheVariants as cells
use Rattle.binlog_table.specs.declared.cell.Date.{Date}
use Rattle.binlog_table.specs.declared.cell.DateTime.{DateTime}
use Rattle.binlog_table.specs.declared.cell.Time.{Time}
use Rattle.binlog_table.specs.declared.cell.Timestamp.{Timestamp}
use Rattle.binlog_table.specs.declared.column.Column.{Column}
use Rattle.binlog_table.specs.declared.column.Layout.{Layout}
use Rattle.binlog_table.specs.declared.column.Layout.TheVariants as layouts
use Rattle.binlog_table.specs.Extent.{fraction_len}
use Rattle.binlog_table.specs.Decimal.{Decimal, decimal_of}
use Rattle.binlog_table.specs.DecimalShown.{decimal_view}

-- a cell without where its bytes lie in memory
pub data Content : Type 0 where
  absent : Content
  null : Content
  int : ℤ → Content
  uint : ℕ → Content
  decimal : Decimal → Content
  year : ℕ → Content
  date : Date → Content
  date_time : DateTime → Content
  time : Time → Content
  timestamp : Timestamp → Content
  bits : ℕ → Content
  enum : ℕ → Content
  set : ℕ → Content
  bytes : List ℕ → Content
  raw : List ℕ → Content

abbrev pub view : Cell → Content
view cells.Absent = absent
view cells.Null = null
view (cells.Int z) = int z
view (cells.UInt n) = uint n
view (cells.Decimal d) = decimal (decimal_view d)
view (cells.Year n) = year n
view (cells.Date d) = date d
view (cells.DateTime d) = date_time d
view (cells.Time t) = time t
view (cells.Timestamp t) = timestamp t
view (cells.Bits n) = bits n
view (cells.Enum n) = enum n
view (cells.Set n) = set n
view (cells.Bytes b) = bytes b.now
view (cells.Raw b) = raw b.now

-- YEAR: 0 is the year 0000, else years from 1900
abbrev pub year_of : ℕ → ℕ
year_of byte = if byte == 0 then 0 else 1900 + byte

-- DATE: five bits of day, four of month, the rest the year
abbrev pub date_of : ℕ → Date
date_of n = record { year = n / 512; month = n / 32 % 16; day = n % 32 }

-- A fraction of a second: hundredths, ten-thousandths or millionths, in as many bytes as pairs of digits.
unfoldable pub fraction_of : ℕ → List ℕ → Option ℕ
fraction_of precision text =
    let n = big_number (fraction_len precision) text in if nat_lt n (100 ^ fraction_len precision) then Some n else None

-- TIMESTAMP2: seconds since 1970, then the fraction
unfoldable pub timestamp_of : ℕ → List ℕ → Option Timestamp
timestamp_of precision text =
    option_map (λ n. record { seconds = big_number 4 text; fraction = n; precision = precision }) (fraction_of precision (drop 4 text))

-- DATETIME2: the parts of the low 39 bits, of which 17 are year * 13 + month
abbrev pub date_time_parts : ℕ → ℕ → ℕ → DateTime
date_time_parts precision n fraction = record {
  year = n / 2 ^ 22 / 13;
  month = n / 2 ^ 22 % 13;
  day = n / 2 ^ 17 % 32;
  hour = n / 2 ^ 12 % 32;
  minute = n / 2 ^ 6 % 64;
  second = n % 64;
  fraction = fraction;
  precision = precision;
}

-- the top one of the 40 bits is 1
unfoldable pub date_time_of : ℕ → List ℕ → Option DateTime
date_time_of precision text =
    let n = big_number 5 text in
    if nat_le (2 ^ 39) n then option_map (date_time_parts precision (n - 2 ^ 39)) (fraction_of precision (drop 5 text)) else None

-- TIME2: the parts of a magnitude, above the fraction's bytes ten bits of hour, six of minute, six of second
abbrev pub time_parts : Bool → ℕ → ℕ → Time
time_parts negative precision magnitude =
    let above = magnitude / 2 ^ (8 * fraction_len precision) in
    record {
      negative = negative;
      hour = above / 2 ^ 12;
      minute = above / 64 % 64;
      second = above % 64;
      fraction = magnitude % 2 ^ (8 * fraction_len precision);
      precision = precision;
    }

abbrev pub is_time : Time → Bool
is_time t = if nat_lt t.hour 1024 then nat_lt t.fraction (100 ^ fraction_len t.precision) else false

abbrev pub checked_time : Time → Option Time
checked_time t = if is_time t then Some t else None

-- The bytes are one number; less 2 ^ (23 + 8 k), where k bytes are the fraction's, it is the time.
unfoldable pub time_of : ℕ → List ℕ → Option Time
time_of precision text =
    let k = fraction_len precision in
    let n = big_number (3 + k) text in
    let zero_is = 2 ^ (23 + 8 * k) in
    checked_time (if nat_lt n zero_is then time_parts true precision (zero_is - n) else time_parts false precision (n - zero_is))

abbrev pub layout_value : Layout → Bool → List ℕ → Option Content
layout_value (layouts.Integer w) true text = Some (uint (little_number w text))
layout_value (layouts.Integer w) false text = Some (int (twos_complement w (little_number w text)))
layout_value layouts.Year unsigned text = Some (year (year_of (slice_index text 0)))
layout_value layouts.Date unsigned text = Some (date (date_of (little_number 3 text)))
layout_value (layouts.Text w) unsigned text = Some (bytes (drop w text))
layout_value (layouts.Raw w) unsigned text = Some (raw (drop w text))
layout_value (layouts.Float w) unsigned text = Some (raw text)
layout_value (layouts.Bits w) unsigned text = Some (bits (big_number w text))
layout_value (layouts.Timestamp f) unsigned text = option_map timestamp (timestamp_of f text)
layout_value (layouts.DateTime f) unsigned text = option_map date_time (date_time_of f text)
layout_value (layouts.Time f) unsigned text = option_map time (time_of f text)
layout_value (layouts.Decimal d) unsigned text = option_map decimal (decimal_of d.precision d.scale text)
layout_value (layouts.Enum w) unsigned text = Some (enum (little_number w text))
layout_value (layouts.Set w) unsigned text = Some (set (little_number w text))

-- what a whole text of a column means, where it means anything
unfoldable pub value_of : Column → List ℕ → Option Content
value_of column text = layout_value column.layout column.unsigned text
