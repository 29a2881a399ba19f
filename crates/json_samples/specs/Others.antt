-- FLOAT, DOUBLE, JSON and VECTOR in full lines, and values that full lines have as plain lines do.
use Prim.Native.String.{String}
use Rattle.std.specs.Prelude.{◌≡◌, ℕ, ◌-◌, true, false, List, [], map, None, codes}
use Rattle.binlog_json.specs.Json.{compact_text}
use Rattle.binlog_table.specs.Value as cell
use Rattle.binlog_table.specs.Value.{Content}
use Rattle.binlog_json.specs.Values.{content_data}
use Rattle.binlog_json.specs.FullValues.{full_data}
use Rattle.json_samples.specs.Bytes.{hex}
use Rattle.json_samples.specs.Texts.{text_type}

-- a value of a type has this JSON in both
abbrev pub Both : ℕ → Content → String → Type 0
Both code content json = (compact_text (full_data (text_type code 0 None) None content) ≡ codes json) × (compact_text (content_data None content) ≡ codes json)

-- two years, a date, a time below zero, a date and time, and seconds since 1970
abbrev pub Times : Type 0
Times =
    Both 13 (cell.year 2024) "\"2024\"" × Both 13 (cell.year 0) "\"0000\"" × Both 10 (cell.date (record { year = 2024; month = 2; day = 3 })) "\"2024-02-03\""
    × Both 19 (cell.time (record { negative = true; hour = 1; minute = 2; second = 3; fraction = 0; precision = 0 })) "\"-01:02:03\""
    × Both 18 (cell.date_time (record { year = 2024; month = 1; day = 2; hour = 3; minute = 4; second = 5; fraction = 6780; precision = 3 })) "\"2024-01-02 03:04:05.678\""
    × Both 17 (cell.timestamp (record { seconds = 1714982400; fraction = 0; precision = 0 })) "\"1714982400\""

abbrev pub digits : String → List ℕ
digits text = map (λ code. code - 48) (codes text)

-- a zero that is stored with a sign has none
abbrev pub Decimals : Type 0
Decimals =
    Both 246 (cell.decimal (record { negative = false; digits = digits "0000000314"; scale = 2 })) "\"3.14\""
    × Both 246 (cell.decimal (record { negative = true; digits = digits "0005"; scale = 2 })) "\"-0.05\""
    × Both 246 (cell.decimal (record { negative = true; digits = digits "0000"; scale = 2 })) "\"0.00\""
    × Both 246 (cell.decimal (record { negative = false; digits = digits "120"; scale = 0 })) "\"120\""

-- a value of a type has this JSON in full lines, and that in plain ones
abbrev pub Each : ℕ → Content → String → String → Type 0
Each code content full plain = (compact_text (full_data (text_type code 0 None) None content) ≡ codes full) × (compact_text (content_data None content) ≡ codes plain)

-- the FLOATs 1.5, 0.1 and 1e-07, and the DOUBLEs 0.1, 1e+22 and a zero with a sign
abbrev pub Floats : Type 0
Floats =
    Each 4 (cell.raw (hex "00 00 c0 3f")) "1.5" "{\"raw\":\"AADAPw==\"}"
    × Each 4 (cell.raw (hex "cd cc cc 3d")) "0.1" "{\"raw\":\"zczMPQ==\"}"
    × Each 4 (cell.raw (hex "95 bf d6 33")) "1e-07" "{\"raw\":\"lb/WMw==\"}"
    × Each 5 (cell.raw (hex "9a 99 99 99 99 99 b9 3f")) "0.1" "{\"raw\":\"mpmZmZmZuT8=\"}"
    × Each 5 (cell.raw (hex "92 d5 4d 06 cf f0 80 44")) "1e+22" "{\"raw\":\"ktVNBs/wgEQ=\"}"
    × Each 5 (cell.raw (hex "00 00 00 00 00 00 00 80")) "-0.0" "{\"raw\":\"AAAAAAAAAIA=\"}"

-- an infinity and a NaN of each
abbrev pub NoNumbers : Type 0
NoNumbers =
    Both 4 (cell.raw (hex "00 00 80 7f")) "{\"raw\":\"AACAfw==\"}"
    × Both 4 (cell.raw (hex "00 00 c0 ff")) "{\"raw\":\"AADA/w==\"}"
    × Both 5 (cell.raw (hex "00 00 00 00 00 00 f0 7f")) "{\"raw\":\"AAAAAAAA8H8=\"}"
    × Both 5 (cell.raw (hex "01 00 00 00 00 00 f0 ff")) "{\"raw\":\"AQAAAAAA8P8=\"}"

-- {"a":1}, [null,"x"], a DECIMAL, a DATE, a VAR_STRING, null, and the empty value
abbrev pub Documents : Type 0
Documents =
    Each 245 (cell.raw (hex "00 01 00 0c 00 0b 00 01 00 05 01 00 61")) "{\"a\":1}" "{\"raw\":\"AAEADAALAAEABQEAYQ==\"}"
    × Each 245 (cell.raw (hex "02 02 00 0c 00 04 00 00 0c 0a 00 01 78")) "[null,\"x\"]" "{\"raw\":\"AgIADAAEAAAMCgABeA==\"}"
    × Each 245 (cell.raw (hex "0f f6 04 04 02 80 05")) "0.05" "{\"raw\":\"D/YEBAKABQ==\"}"
    × Each 245 (cell.raw (hex "0f 0a 08 00 00 00 00 00 1e 95 19")) "\"2015-01-15\"" "{\"raw\":\"DwoIAAAAAAAelRk=\"}"
    × Each 245 (cell.raw (hex "0f fd 01 ff")) "{\"base64\":\"/w==\",\"type\":253}" "{\"raw\":\"D/0B/w==\"}"
    × Each 245 (cell.raw (hex "04 00")) "null" "{\"raw\":\"BAA=\"}" × Each 245 (cell.raw []) "null" "{\"raw\":\"\"}"

-- a number that is cut, a literal that is none, and {"a":1} whose one value lies in front of its key
abbrev pub NoDocuments : Type 0
NoDocuments =
    Both 245 (cell.raw (hex "05 01")) "{\"raw\":\"BQE=\"}" × Both 245 (cell.raw (hex "04 03")) "{\"raw\":\"BAM=\"}"
    × Both 245 (cell.raw (hex "00 01 00 0c 00 0b 00 01 00 0c 04 00 61")) "{\"raw\":\"AAEADAALAAEADAQAYQ==\"}"

-- Three FLOATs, as a server stored them; both zeros; one number, and none
abbrev pub Vectors : Type 0
Vectors =
    Each 242 (cell.raw (hex "00 00 80 3f 00 00 20 40 00 00 40 c0")) "[1.0,2.5,-3.0]" "{\"raw\":\"AACAPwAAIEAAAEDA\"}"
    × Each 242 (cell.raw (hex "00 00 00 00 00 00 00 80")) "[0.0,-0.0]" "{\"raw\":\"AAAAAAAAAIA=\"}"
    × Each 242 (cell.raw (hex "cd cc cc 3d")) "[0.1]" "{\"raw\":\"zczMPQ==\"}" × Each 242 (cell.raw []) "[]" "{\"raw\":\"\"}"

-- a byte more than a FLOAT has, and one less; an infinity behind a number, and a NaN in front of one
abbrev pub NoVectors : Type 0
NoVectors =
    Both 242 (cell.raw (hex "00 00 80 3f 00")) "{\"raw\":\"AACAPwA=\"}" × Both 242 (cell.raw (hex "00 00 80")) "{\"raw\":\"AACA\"}"
    × Both 242 (cell.raw (hex "00 00 80 3f 00 00 80 7f")) "{\"raw\":\"AACAPwAAgH8=\"}"
    × Both 242 (cell.raw (hex "00 00 c0 7f 00 00 80 3f")) "{\"raw\":\"AADAfwAAgD8=\"}"

-- BIT(9), the bytes of {"a":1} in a GEOMETRY, and null
abbrev pub RawValues : Type 0
RawValues =
    Both 16 (cell.bits 257) "257" × Both 255 (cell.raw (hex "00 01 00 0c 00 0b 00 01 00 05 01 00 61")) "{\"raw\":\"AAEADAALAAEABQEAYQ==\"}" × Both 15 cell.null "null"
