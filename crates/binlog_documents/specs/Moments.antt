-- Dates and times as MySQL packs them into a number (my_time.cc, TIME_to_longlong_datetime_packed and TIME_to_longlong_time_packed).
use Rattle.std.specs.Prelude.{◌≡◌, ◌⊎◌, ℕ, ◌+◌, ◌-◌, ◌*◌, ◌^◌, ◌<◌, ◌≤◌, List, ◌∷◌, ◌++◌}
use Rattle.binlog_documents.specs.Opaques.{padded, shown_text}

-- a time of day, or a span of time
pub record Clock : Type 0 where
  pub hour : ℕ
  pub minute : ℕ
  pub second : ℕ
  pub micros : ℕ

pub record Day : Type 0 where
  pub year : ℕ
  pub month : ℕ
  pub day : ℕ

-- what fits into the bits
pub record IsDay (d : Day) : Type 0 where
  pub month : d.month ≤ 12
  pub day : d.day < 32

pub record IsClock (hours : ℕ) (c : Clock) : Type 0 where
  pub hour : c.hour < hours
  pub minute : c.minute < 60
  pub second : c.second < 60
  pub micros : c.micros < 1000000

-- ((hour << 12) | (minute << 6) | second) << 24 | micros
abbrev pub packed_clock : Clock → ℕ
packed_clock c = (c.hour * 4096 + (c.minute * 64 + c.second)) * 16777216 + c.micros

-- ((year * 13 + month) << 5 | day) << 17, above the time of day
abbrev pub packed_day : Day → ℕ
packed_day d = ((d.year * 13 + d.month) * 32 + d.day) * 131072 * 16777216

-- `2024-01-15`
abbrev pub day_shown : Day → List ℕ
day_shown d = padded 4 d.year ++ (45 ∷ (padded 2 d.month ++ (45 ∷ padded 2 d.day)))

-- `12:34:56.000789`
abbrev pub clock_shown : Clock → List ℕ
clock_shown c = padded 2 c.hour ++ (58 ∷ (padded 2 c.minute ++ (58 ∷ (padded 2 c.second ++ (46 ∷ padded 6 c.micros)))))

-- A DATE is shown as its day, a DATETIME (12) or a TIMESTAMP (7) as its day and its time of day.
abbrev pub DatesAreShown : Type 0
DatesAreShown = (d : Day) → IsDay d → shown_text 10 (packed_day d) ≡ day_shown d

abbrev pub MomentsAreShown : Type 0
MomentsAreShown =
    (kind : ℕ) (d : Day) (c : Clock) → (kind ≡ 7) ⊎ (kind ≡ 12) → IsDay d → IsClock 24 c → shown_text kind (packed_day d + packed_clock c) ≡ day_shown d ++ (32 ∷ clock_shown c)

-- A TIME is shown as its span; one below zero, which is stored as two's complement, with a minus.
abbrev pub SpansAreShown : Type 0
SpansAreShown =
    (c : Clock) → IsClock 1024 c → (shown_text 11 (packed_clock c) ≡ clock_shown c) × (0 < packed_clock c → shown_text 11 (2 ^ 64 - packed_clock c) ≡ 45 ∷ clock_shown c)
