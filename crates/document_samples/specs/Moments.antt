-- Numbers into which MySQL packs dates and times, and what two laws say of one value each.
use Rattle.std.specs.Prelude.{◌≡◌, ◌+◌, ◌-◌, ◌^◌, codes, Some}
use Rattle.std.specs.Float.{binary64}
use Rattle.std.specs.Float.Ieee.{of_bits}
use Rattle.std.specs.Float.Parse.{parse_float}
use Rattle.byteorder.specs.Endian.{little_number}
use Rattle.float_text.specs.ReadBack.{TextsReadBack}
use Rattle.binlog_documents.specs.Moments.{Clock, Day, packed_clock, packed_day, MomentsAreShown}
use Rattle.binlog_documents.specs.Opaques.{shown_text}
use Rattle.document_samples.specs.Bytes.{hex}

abbrev pub fifteenth : Day
fifteenth = record { year = 2024; month = 1; day = 15 }

abbrev pub last_day : Day
last_day = record { year = 2024; month = 1; day = 31 }

abbrev pub afternoon : Clock
afternoon = record { hour = 12; minute = 34; second = 56; micros = 789 }

abbrev pub last_second : Clock
last_second = record { hour = 23; minute = 59; second = 59; micros = 0 }

abbrev pub longest : Clock
longest = record { hour = 838; minute = 59; second = 59; micros = 0 }

-- 2024-01-15, 2024-01-15 12:34:56.000789, 2024-01-31 23:59:59, and 838:59:59 above and below zero
abbrev pub PackedMoments : Type 0
PackedMoments =
    (packed_day fifteenth ≡ little_number 8 (hex "00 00 00 00 00 5e b2 19"))
    × (packed_day fifteenth + packed_clock afternoon ≡ little_number 8 (hex "15 03 00 b8 c8 5e b2 19"))
    × (packed_day last_day + packed_clock last_second ≡ little_number 8 (hex "00 00 00 fb 7e 7f b2 19"))
    × (packed_clock longest ≡ little_number 8 (hex "00 00 00 fb 6e 34 00 00")) × (2 ^ 64 - packed_clock longest ≡ little_number 8 (hex "00 00 00 05 91 cb ff ff"))

abbrev pub MomentByLaw : Type 0
MomentByLaw = MomentsAreShown → shown_text 12 (little_number 8 (hex "00 00 00 fb 7e 7f b2 19")) ≡ codes "2024-01-31 23:59:59.000000"

-- the double nearest to 0.1
abbrev pub TextByLaw : Type 0
TextByLaw = TextsReadBack → parse_float binary64 (codes "0.1") ≡ Some (of_bits binary64 0x3fb999999999999a)
