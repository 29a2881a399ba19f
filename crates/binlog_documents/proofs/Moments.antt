-- What a packed date or time is shown as: the parts come back from the number.
use Rattle.std.proofs.Common.{◌≡◌, inl, inr, ℕ, ◌+◌, ◌-◌, ◌*◌, ◌/◌, ◌%◌, ◌^◌, ◌<◌, ◌≤◌, ◌∷◌, ◌++◌, true, false, nat_lt, refl, arith}
use Rattle.std.proofs.lemmas.Bool.Decides.{nat_tests}
use Rattle.binlog_documents.specs.Opaques.{above_micros, clock_text, day_text}
use Rattle.binlog_documents.specs.Moments.{Clock, Day, IsClock, IsDay, packed_clock, packed_day, clock_shown, day_shown, DatesAreShown, MomentsAreShown, SpansAreShown}

days_above : (days low : ℕ) → low < 131072 * 16777216 → (days * 131072 * 16777216 + low) / 2 ^ 24 / 2 ^ 17 ≡ days
days_above days low small = omega arith

day_parts : (year month day : ℕ) → month ≤ 12 → day < 32
    → let days = (year * 13 + month) * 32 + day in (days / 32 / 13 ≡ year) × (days / 32 % 13 ≡ month) × (days % 32 ≡ day)
day_parts year month day m d = (omega arith, omega arith, omega arith)

clock_low : (hours hour minute second micros : ℕ) → hour < 32 → minute < 60 → second < 60 → micros < 1000000 → (hour * 4096 + (minute * 64 + second)) * 16777216 + micros < 131072 * 16777216
clock_low hours hour minute second micros h m s u = omega arith

clock_parts : (days hour minute second micros : ℕ) → minute < 60 → second < 60 → micros < 1000000
    → let n = days * 131072 * 16777216 + ((hour * 4096 + (minute * 64 + second)) * 16777216 + micros) in
    (n / 2 ^ 24 ≡ days * 131072 + (hour * 4096 + (minute * 64 + second))) × (n % 2 ^ 24 ≡ micros)
clock_parts days hour minute second micros m s u = (omega arith, omega arith)

time_parts : (days hour minute second : ℕ) → minute < 60 → second < 60
    → let above = days * 131072 + (hour * 4096 + (minute * 64 + second)) in (above / 2 ^ 12 ≡ days * 32 + hour) × (above / 64 % 64 ≡ minute) × (above % 64 ≡ second)
time_parts days hour minute second m s = (omega arith, omega arith, omega arith)

hour_of : (days hour : ℕ) → hour < 32 → (days * 32 + hour) % 32 ≡ hour
hour_of days hour h = omega arith

-- the day of a number
day_is : (d : Day) (low : ℕ) → IsDay d → low < 131072 * 16777216 → day_text (packed_day d + low) ≡ day_shown d
day_is d low is small =
    let days = (d.year * 13 + d.month) * 32 + d.day in
    let p = day_parts d.year d.month d.day is.month is.day in
    rw (days_above days low small, p.0, p.1, p.2) refl

-- its time of day, whose hour is given
clock_is : (days : ℕ) (c : Clock) → c.minute < 60 → c.second < 60 → c.micros < 1000000 → clock_text c.hour (days * 131072 * 16777216 + packed_clock c) ≡ clock_shown c
clock_is days c m s u =
    let n = clock_parts days c.hour c.minute c.second c.micros m s u in
    let p = time_parts days c.hour c.minute c.second m s in
    rw (n.0, n.1, p.1, p.2) refl

pub dates_are_shown : DatesAreShown
dates_are_shown d is =
    let none : packed_day d + 0 ≡ packed_day d = omega arith in
    rw none at (day_is d 0 is (omega arith))

moment_is : (d : Day) (c : Clock) → IsDay d → IsClock 24 c
    → day_text (packed_day d + packed_clock c) ++ (32 ∷ clock_text (above_micros (packed_day d + packed_clock c) / 2 ^ 12 % 32) (packed_day d + packed_clock c)) ≡ day_shown d ++ (32 ∷ clock_shown c)
moment_is d c is_day is_clock =
    let days = (d.year * 13 + d.month) * 32 + d.day in
    let hour = is_clock.hour in
    let n = clock_parts days c.hour c.minute c.second c.micros is_clock.minute is_clock.second is_clock.micros in
    let p = time_parts days c.hour c.minute c.second is_clock.minute is_clock.second in
    let hours : above_micros (packed_day d + packed_clock c) / 2 ^ 12 % 32 ≡ c.hour = rw (n.0, p.0) (hour_of days c.hour (omega arith)) in
    let low = clock_low 24 c.hour c.minute c.second c.micros (omega arith) is_clock.minute is_clock.second is_clock.micros in
    rw (hours, day_is d (packed_clock c) is_day low, clock_is days c is_clock.minute is_clock.second is_clock.micros) refl

pub moments_are_shown : MomentsAreShown
moments_are_shown kind d c (inl e) is_day is_clock = rw e (moment_is d c is_day is_clock)
moments_are_shown kind d c (inr e) is_day is_clock = rw e (moment_is d c is_day is_clock)

span_low : (hour minute second micros : ℕ) → hour < 1024 → minute < 60 → second < 60 → micros < 1000000 → (hour * 4096 + (minute * 64 + second)) * 16777216 + micros < 2 ^ 63
span_low hour minute second micros h m s u = omega arith

span_parts : (hour minute second micros : ℕ) → hour < 1024 → minute < 60 → second < 60 → micros < 1000000
    → let n = (hour * 4096 + (minute * 64 + second)) * 16777216 + micros in
    (n / 2 ^ 24 ≡ hour * 4096 + (minute * 64 + second)) × (n % 2 ^ 24 ≡ micros)
span_parts hour minute second micros h m s u = (omega arith, omega arith)

span_times : (hour minute second : ℕ) → hour < 1024 → minute < 60 → second < 60
    → let above = hour * 4096 + (minute * 64 + second) in (above / 2 ^ 12 % 1024 ≡ hour) × (above / 64 % 64 ≡ minute) × (above % 64 ≡ second)
span_times hour minute second h m s = (omega arith, omega arith, omega arith)

span_is : (c : Clock) → IsClock 1024 c → clock_text (above_micros (packed_clock c) / 2 ^ 12 % 1024) (packed_clock c) ≡ clock_shown c
span_is c is =
    let n = span_parts c.hour c.minute c.second c.micros is.hour is.minute is.second is.micros in
    let p = span_times c.hour c.minute c.second is.hour is.minute is.second in
    rw (n.0, n.1, p.0, p.1, p.2) refl

pub spans_are_shown : SpansAreShown
spans_are_shown c is =
    let low = span_low c.hour c.minute c.second c.micros is.hour is.minute is.second is.micros in
    let below : nat_lt (packed_clock c) (2 ^ 63) ≡ true = grind (arith, nat_tests, low) in (
      rw below (span_is c is),
      λ some.
          let above : nat_lt (2 ^ 64 - packed_clock c) (2 ^ 63) ≡ false = grind (arith, nat_tests, low) in
          let back : 2 ^ 64 - (2 ^ 64 - packed_clock c) ≡ packed_clock c = omega (arith, low) in
          rw (above, back) (rw (span_is c is) refl),
    )
