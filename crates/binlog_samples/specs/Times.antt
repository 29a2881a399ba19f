-- Dates and times, and what their bytes say.
use Rattle.std.specs.Prelude.{ℕ, Bool, true, false}
use Rattle.binlog_table.specs.Value.{Content}
use Rattle.binlog_samples.specs.ColumnTypes as types
use Rattle.binlog_samples.specs.Values.{Is, IsNone}

abbrev pub day_of : ℕ → ℕ → ℕ → Content
day_of year month day = Content.date (record { year = year; month = month; day = day })

abbrev pub Dates : Type 0
Dates =
    Is types.year "" "7c" (Content.year 2024) × Is types.year "" "00" (Content.year 0) × Is types.year "" "01" (Content.year 1901)
    × Is types.year "" "ff" (Content.year 2155)
    × Is types.date "" "a6 d0 0f" (day_of 2024 5 6) × Is types.date "" "ff ff ff" (day_of 32767 15 31)

-- ---- DATETIME

-- of 6 May 2024, a time with a fraction of so many digits, in pairs
abbrev pub in_may : ℕ → ℕ → ℕ → ℕ → ℕ → Content
in_may hour minute second fraction precision = Content.date_time (record {
  year = 2024;
  month = 5;
  day = 6;
  hour = hour;
  minute = minute;
  second = second;
  fraction = fraction;
  precision = precision;
})

abbrev pub first_moment : Content
first_moment =
    Content.date_time (record { year = 0; month = 0; day = 0; hour = 0; minute = 0; second = 0; fraction = 0; precision = 0 })

-- the greatest that the bits can say
abbrev pub last_moment : Content
last_moment =
    Content.date_time (record { year = 10082; month = 5; day = 31; hour = 31; minute = 63; second = 63; fraction = 0; precision = 0 })

-- the fraction is a number of as many whole pairs of digits; a value of a hundred to the power of those is none, nor is one whose first bit is 0
abbrev pub DateTimes : Type 0
DateTimes =
    Is types.datetime2 "00" "99 b3 4c 72 09" (in_may 7 8 9 0 0) × Is types.datetime2 "00" "80 00 00 00 00" first_moment
    × Is types.datetime2 "00" "ff ff ff ff ff" last_moment × Is types.datetime2 "01" "99 b3 4c 72 09 63" (in_may 7 8 9 99 1)
    × Is types.datetime2 "03" "99 b3 4c 72 09 04 ce" (in_may 7 8 9 1230 3) × Is types.datetime2 "04" "99 b3 4c 72 09 27 0f" (in_may 7 8 9 9999 4)
    × Is types.datetime2 "06" "99 b3 4c 72 09 0f 42 3f" (in_may 7 8 9 999999 6)
    × IsNone types.datetime2 "02" "99 b3 4c 72 09 64" × IsNone types.datetime2 "04" "99 b3 4c 72 09 27 10"
    × IsNone types.datetime2 "06" "99 b3 4c 72 09 0f 42 40" × IsNone types.datetime2 "00" "7f ff ff ff ff"

-- ---- TIME

abbrev pub span : Bool → ℕ → ℕ → ℕ → ℕ → ℕ → Content
span negative hour minute second fraction precision = Content.time (record {
  negative = negative;
  hour = hour;
  minute = minute;
  second = second;
  fraction = fraction;
  precision = precision;
})

abbrev pub Times : Type 0
Times =
    Is types.time2 "00" "80 c8 b8" (span false 12 34 56 0 0) × Is types.time2 "03" "80 c8 b8 00 0a" (span false 12 34 56 10 3)
    × Is types.time2 "06" "80 c8 b8 09 fb f1" (span false 12 34 56 654321 6) × Is types.time2 "06" "80 00 00 00 00 00" (span false 0 0 0 0 6)
    × IsNone types.time2 "02" "80 00 00 64" × IsNone types.time2 "00" "c0 00 00"

-- what is below zero is the number of the same time above it, taken from the number of no time at all
abbrev pub TimesBelowZero : Type 0
TimesBelowZero =
    Is types.time2 "00" "4b 91 05" (span true 838 59 59 0 0) × Is types.time2 "00" "7f ff ff" (span true 0 0 1 0 0)
    × Is types.time2 "00" "40 00 01" (span true 1023 63 63 0 0) × Is types.time2 "02" "7f ff ff ff" (span true 0 0 0 1 2)
    × Is types.time2 "02" "7f ff ff 9d" (span true 0 0 0 99 2) × Is types.time2 "04" "7f 37 47 d8 f1" (span true 12 34 56 9999 4)
    × Is types.time2 "06" "7f ff ff ff ff ff" (span true 0 0 0 1 6) × Is types.time2 "06" "7f ff fe f0 bd c1" (span true 0 0 1 999999 6)
    × Is types.time2 "06" "4b 91 05 ff ff ff" (span true 838 59 58 1 6)
    × IsNone types.time2 "02" "7f ff ff 9c" × IsNone types.time2 "00" "40 00 00"

-- ---- TIMESTAMP

abbrev pub since_1970 : ℕ → ℕ → ℕ → Content
since_1970 seconds fraction precision = Content.timestamp (record { seconds = seconds; fraction = fraction; precision = precision })

abbrev pub Timestamps : Type 0
Timestamps =
    Is types.timestamp2 "00" "ff ff ff ff" (since_1970 4294967295 0 0) × Is types.timestamp2 "01" "65 53 f1 00 14" (since_1970 1700000000 20 1)
    × Is types.timestamp2 "02" "65 53 f1 00 19" (since_1970 1700000000 25 2) × Is types.timestamp2 "05" "65 53 f1 00 01 02 03" (since_1970 1700000000 66051 5)
    × IsNone types.timestamp2 "02" "00 00 00 00 64"
