-- Values of MySQL's other types: 0f, the type, a length, the bytes.
use Rattle.document_samples.specs.Bytes.{Says, IsNone}

-- precision, scale, and the digits
abbrev pub Decimals : Type 0
Decimals =
    Says "0f f6 07 0a 02 80 00 00 03 0e ff" "3.14" × Says "0f f6 07 0a 02 7f ff ff fc f1" "-3.14" × Says "0f f6 07 0a 02 80 00 00 00 00" "0.00" × Says "0f f6 07 0a 02 7f ff ff ff ff" "0.00"
    × Says "0f f6 07 0a 02 7f ff ff ff cd" "-0.50" × Says "0f f6 03 01 00 87" "7" × Says "0f f6 03 01 00 78" "-7" × Says "0f f6 03 01 01 85" "0.5"
    × Says "0f f6 0b 13 09 81 00 00 00 02 00 00 00 03" "1000000002.000000003"

-- One to nine digits that are left over take one byte, one, two, two, three, three, four, four and four (decimal.cc, dig2bytes), in front
-- of the point and behind it.
abbrev pub LeftoverDigits : Type 0
LeftoverDigits =
    Says "0f f6 03 01 00 81" "1" × Says "0f f6 03 02 00 8c" "12" × Says "0f f6 04 03 00 80 7b" "123" × Says "0f f6 04 04 00 84 d2" "1234" × Says "0f f6 05 05 00 80 30 39" "12345"
    × Says "0f f6 05 06 00 81 e2 40" "123456" × Says "0f f6 06 07 00 80 12 d6 87" "1234567" × Says "0f f6 06 08 00 80 bc 61 4e" "12345678" × Says "0f f6 06 09 00 87 5b cd 15" "123456789"
    × Says "0f f6 06 07 07 80 12 d6 87" "0.1234567" × Says "0f f6 06 07 00 7f ed 29 78" "-1234567" × Says "0f f6 0a 0e 07 80 12 d6 87 00 96 b4 3f" "1234567.9876543"

-- more digits than a column has: of an arithmetic result, and as many as there can be
abbrev pub LongDecimals : Type 0
LongDecimals =
    Says "0f f6 11 20 1f 80 07 5b cd 15 00 bc 61 4e 35 b7 bf 87 22 c5" "0.1234567890123456789012345678901"
    × Says "0f f6 26 51 00 44 65 36 00 c4 65 36 00 c4 65 36 00 c4 65 36 00 c4 65 36 00 c4 65 36 00 c4 65 36 00 c4 65 36 00 c4 65 36 00"
    "-999999999999999999999999999999999999999999999999999999999999999999999999999999999"

-- digits beyond the group, a byte too many, one too few, a precision or a scale that no decimal has, 82 digits
abbrev pub NoDecimals : Type 0
NoDecimals =
    Says "0f f6 03 01 00 8a" "{\"base64\":\"AQCK\",\"type\":246}" × Says "0f f6 04 01 00 87 00" "{\"base64\":\"AQCHAA==\",\"type\":246}" × Says "0f f6 02 01 00" "{\"base64\":\"AQA=\",\"type\":246}"
    × Says "0f f6 02 00 00" "{\"base64\":\"AAA=\",\"type\":246}" × Says "0f f6 03 01 02 87" "{\"base64\":\"AQKH\",\"type\":246}" × Says "0f f6 01 01" "{\"base64\":\"AQ==\",\"type\":246}" × Says "0f f6 00" "{\"base64\":\"\",\"type\":246}"
    × Says "0f f6 27 52 00 89 3b 9a c9 ff 3b 9a c9 ff 3b 9a c9 ff 3b 9a c9 ff 3b 9a c9 ff 3b 9a c9 ff 3b 9a c9 ff 3b 9a c9 ff 3b 9a c9 ff"
    "{\"base64\":\"UgCJO5rJ/zuayf87msn/O5rJ/zuayf87msn/O5rJ/zuayf87msn/\",\"type\":246}"

abbrev pub DatesAndTimes : Type 0
DatesAndTimes =
    Says "0f 0a 08 00 00 00 00 00 5e b2 19" "\"2024-01-15\"" × Says "0f 0a 08 00 00 00 00 00 00 00 00" "\"0000-00-00\""
    × Says "0f 0c 08 15 03 00 b8 c8 5e b2 19" "\"2024-01-15 12:34:56.000789\"" × Says "0f 07 08 00 00 00 05 31 c4 02 19" "\"1970-01-02 03:04:05.000000\""
    × Says "0f 0b 08 00 00 00 b8 c8 00 00 00" "\"12:34:56.000000\"" × Says "0f 0b 08 ff ff ff 04 91 cb ff ff" "\"-838:59:59.000001\""
    × Says "0f 0a 08 ff ff ff ff ff ff ff ff" "{\"base64\":\"//////////8=\",\"type\":10}" × Says "0f 0b 07 00 00 00 b8 c8 00 00" "{\"base64\":\"AAAAuMgAAA==\",\"type\":11}"

-- The last second of a month, in 5 bits of days and 5 of hours. Hours of a TIME have 10 bits, though 838 are the most that a server stores.
abbrev pub LastSeconds : Type 0
LastSeconds =
    Says "0f 0c 08 00 00 00 fb 7e 7f b2 19" "\"2024-01-31 23:59:59.000000\"" × Says "0f 0a 08 00 00 00 00 00 7e b2 19" "\"2024-01-31\""
    × Says "0f 07 08 3f 42 0f fb 7e 3f b5 19" "\"2024-12-31 23:59:59.999999\"" × Says "0f 0b 08 00 00 00 fb 6e 34 00 00" "\"838:59:59.000000\""
    × Says "0f 0b 08 00 00 00 05 91 cb ff ff" "\"-838:59:59.000000\"" × Says "0f 0b 08 00 00 00 00 80 3e 00 00" "\"1000:00:00.000000\""
    × Says "0f 0b 08 3f 42 0f fb fe 3f 00 00" "\"1023:59:59.999999\""

-- a date and time below zero, and nine bytes
abbrev pub NoDatesAndTimes : Type 0
NoDatesAndTimes =
    Says "0f 0c 08 00 00 00 05 81 80 4d e6" "{\"base64\":\"AAAABYGATeY=\",\"type\":12}" × Says "0f 07 08 ff ff ff ff ff ff ff ff" "{\"base64\":\"//////////8=\",\"type\":7}"
    × Says "0f 0b 09 00 00 00 b8 c8 00 00 00 00" "{\"base64\":\"AAAAuMgAAAAA\",\"type\":11}" × Says "0f 0a 09 00 00 00 00 00 5e b2 19 00" "{\"base64\":\"AAAAAABeshkA\",\"type\":10}"

-- a byte of an own type is no decimal's, and a length that doesn't fit is no document's
abbrev pub OtherTypes : Type 0
OtherTypes =
    Says "0f fc 03 61 ff 62 07" "{\"base64\":\"Yf9i\",\"type\":252}" × Says "0f 10 01 05" "{\"base64\":\"BQ==\",\"type\":16}" × IsNone "0f fc 03 61 ff" × IsNone "0f fc" × IsNone "0f"
