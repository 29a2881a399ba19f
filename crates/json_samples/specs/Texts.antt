-- Texts by the character sets of their columns.
use Prim.Native.String.{String}
use Rattle.std.specs.Prelude.{◌≡◌, ℕ, false, Option, Some, None}
use Rattle.binlog_json.specs.Json.{string, compact_text}
use Rattle.binlog_table.specs.Value as cell
use Rattle.binlog_types.specs.declared.charsets.Charset.{Charset}
use Rattle.binlog_types.specs.declared.charsets.Charset.TheVariants.{Ascii, Binary, Cp1250, Cp1251, Cp850, Gbk, Greek, Hebrew, Koi8r, Latin1, Latin2, Macroman, Swe7, Tis620, Ucs2, Utf16, Utf16le, Utf32, Utf8mb3, Utf8mb4}
use Rattle.binlog_types.specs.declared.column_type.ColumnType.{ColumnType}
use Rattle.binlog_json.specs.FullValues.{full_data}
use Rattle.json_samples.specs.Bytes.{hex, utf8}

abbrev pub text_type : ℕ → ℕ → Option Charset → ColumnType
text_type code size charset = record { code = code; size = size; scale = 0; unsigned = false; charset = charset }

-- bytes in a VARCHAR are this string
abbrev pub Reads : Charset → String → String → Type 0
Reads charset bytes text = full_data (text_type 15 80 (Some charset)) None (cell.bytes (hex bytes)) ≡ string (utf8 text)

-- bytes in a column have this JSON
abbrev pub WritesValue : ColumnType → String → String → Type 0
WritesValue t bytes json = compact_text (full_data t None (cell.bytes (hex bytes))) ≡ utf8 json

-- bytes in a VARCHAR stay bytes
abbrev pub Keeps : Charset → String → String → Type 0
Keeps charset bytes json = WritesValue (text_type 15 80 (Some charset)) bytes json

-- ---- latin1

-- é, a blank and the euro sign; what would be é in UTF-8; the last letter
abbrev pub Latin1Texts : Type 0
Latin1Texts =
    Reads Latin1 "" "" × Reads Latin1 "61 7f" "a\u{7f}" × Reads Latin1 "e9 20 80" "é €" × Reads Latin1 "c3 a9" "Ã©" × Reads Latin1 "a0 ff" "\u{a0}ÿ"
    × WritesValue (text_type 252 2 (Some Latin1)) "22 e9" "\"\\\"é\"" × WritesValue (text_type 254 4 (Some Latin1)) "e9" "\"é\""

-- the bytes 80 to 9f by Windows-1252, and its five gaps
abbrev pub Windows1252 : Type 0
Windows1252 =
    Reads Latin1 "80 82 83 84 85 86 87 88 89 8a 8b 8c 8e" "€‚ƒ„…†‡ˆ‰Š‹ŒŽ" × Reads Latin1 "91 92 93 94 95 96 97 98 99 9a 9b 9c 9e 9f" "‘’“”•–—˜™š›œžŸ"
    × Reads Latin1 "81 8d 8f 90 9d" "\u{81}\u{8d}\u{8f}\u{90}\u{9d}"

-- ---- other sets of one byte for each character

-- the same word in two sets; letters of other scripts; swe7 has letters at the places of brackets and braces
abbrev pub OneByteTexts : Type 0
OneByteTexts =
    Reads Cp1251 "cf f0 e8 e2 e5 f2" "Привет" × Reads Koi8r "f0 d2 c9 d7 c5 d4" "Привет" × Reads Greek "" "" × Reads Greek "61 e1 e2 f9" "aαβω"
    × Reads Hebrew "f9 ec e5 ed" "\u{5e9}\u{5dc}\u{5d5}\u{5dd}" × Reads Tis620 "a1 e3 df" "กใ฿" × Reads Latin2 "b1 b6 bf" "ąśż" × Reads Cp1250 "80 9c 9f" "€śź" × Reads Cp850 "82 e1 c4" "éß─"
    × Reads Macroman "8e ca ff" "é\u{a0}ˇ" × Reads Swe7 "41 5b 5c 5d 7b 7c 7d" "AÄÖÅäöå" × WritesValue (text_type 252 2 (Some Swe7)) "22 60" "\"\\\"é\""

-- a byte without a character, alone, behind a letter and between two; swe7 has none for 7f
abbrev pub NoOneByteTexts : Type 0
NoOneByteTexts =
    Keeps Cp1250 "81" "{\"base64\":\"gQ==\",\"charset\":\"cp1250\"}" × Keeps Cp1250 "61 81 62" "{\"base64\":\"YYFi\",\"charset\":\"cp1250\"}"
    × Keeps Greek "e1 ff" "{\"base64\":\"4f8=\",\"charset\":\"greek\"}" × Keeps Hebrew "a1" "{\"base64\":\"oQ==\",\"charset\":\"hebrew\"}"
    × Keeps Tis620 "a1 db" "{\"base64\":\"ods=\",\"charset\":\"tis620\"}" × Keeps Swe7 "7f" "{\"base64\":\"fw==\",\"charset\":\"swe7\"}"
    × Keeps Swe7 "80" "{\"base64\":\"gA==\",\"charset\":\"swe7\"}"

-- ---- UTF-8

abbrev pub Utf8Texts : Type 0
Utf8Texts =
    Reads Utf8mb4 "" "" × Reads Utf8mb4 "f0 9f 98 80 c3 a9" "😀é" × Reads Utf8mb3 "c3 a9" "é" × Reads Ascii "61 62" "ab"
    × WritesValue (text_type 254 4 (Some Utf8mb4)) "61 62" "\"ab\""

-- no UTF-8 at all; a cut character; a surrogate; a long spelling; beyond the last character; one bad byte among good ones
abbrev pub NoUtf8 : Type 0
NoUtf8 =
    Keeps Utf8mb4 "ff" "{\"base64\":\"/w==\",\"charset\":\"utf8mb4\"}" × Keeps Utf8mb4 "c3" "{\"base64\":\"ww==\",\"charset\":\"utf8mb4\"}"
    × Keeps Utf8mb4 "ed a0 80" "{\"base64\":\"7aCA\",\"charset\":\"utf8mb4\"}" × Keeps Utf8mb3 "c0 80" "{\"base64\":\"wIA=\",\"charset\":\"utf8mb3\"}"
    × Keeps Utf8mb4 "f4 90 80 80" "{\"base64\":\"9JCAgA==\",\"charset\":\"utf8mb4\"}" × Keeps Ascii "61 e9 62" "{\"base64\":\"Yeli\",\"charset\":\"ascii\"}"

-- ---- UTF-16

abbrev pub Utf16Texts : Type 0
Utf16Texts =
    Reads Utf16 "" "" × Reads Utf16 "00 61" "a" × Reads Utf16 "00 e9 20 ac" "é€" × Reads Utf16 "d8 3d de 00" "😀"
    × Reads Utf16 "00 61 d8 3d de 00 00 62" "a😀b" × Reads Ucs2 "00 61 00 e9" "aé" × Reads Ucs2 "d8 3d de 00" "😀"
    × Reads Utf16le "61 00" "a" × Reads Utf16le "3d d8 00 de" "😀" × Reads Utf16le "00 61" "愀"

-- a high surrogate alone, also with a letter behind it; a low one alone; both the wrong way round; an odd number of bytes
abbrev pub NoUtf16 : Type 0
NoUtf16 =
    Keeps Utf16 "d8 3d" "{\"base64\":\"2D0=\",\"charset\":\"utf16\"}" × Keeps Utf16 "d8 3d 00 61" "{\"base64\":\"2D0AYQ==\",\"charset\":\"utf16\"}"
    × Keeps Utf16 "de 00" "{\"base64\":\"3gA=\",\"charset\":\"utf16\"}" × Keeps Utf16 "de 00 d8 3d" "{\"base64\":\"3gDYPQ==\",\"charset\":\"utf16\"}"
    × Keeps Utf16 "00 61 00" "{\"base64\":\"AGEA\",\"charset\":\"utf16\"}" × Keeps Utf16 "61" "{\"base64\":\"YQ==\",\"charset\":\"utf16\"}"
    × Keeps Ucs2 "d8 3d" "{\"base64\":\"2D0=\",\"charset\":\"ucs2\"}" × Keeps Utf16le "00 de" "{\"base64\":\"AN4=\",\"charset\":\"utf16le\"}"
    × Keeps Utf16le "3d d8" "{\"base64\":\"Pdg=\",\"charset\":\"utf16le\"}"

-- ---- UTF-32

-- the last characters before and after the surrogates, and the last one of all
abbrev pub Utf32Texts : Type 0
Utf32Texts =
    Reads Utf32 "" "" × Reads Utf32 "00 00 00 61 00 01 f6 00" "a😀" × Reads Utf32 "00 00 d7 ff 00 00 e0 00" "\u{d7ff}\u{e000}"
    × Reads Utf32 "00 10 ff ff" "\u{10ffff}"

-- the first and the last surrogate; beyond the last character; three bytes, alone and behind a character
abbrev pub NoUtf32 : Type 0
NoUtf32 =
    Keeps Utf32 "00 00 d8 00" "{\"base64\":\"AADYAA==\",\"charset\":\"utf32\"}" × Keeps Utf32 "00 00 df ff" "{\"base64\":\"AADf/w==\",\"charset\":\"utf32\"}"
    × Keeps Utf32 "00 11 00 00" "{\"base64\":\"ABEAAA==\",\"charset\":\"utf32\"}" × Keeps Utf32 "01 00 00 61" "{\"base64\":\"AQAAYQ==\",\"charset\":\"utf32\"}"
    × Keeps Utf32 "00 00 00" "{\"base64\":\"AAAA\",\"charset\":\"utf32\"}" × Keeps Utf32 "00 00 00 61 00 00 61" "{\"base64\":\"AAAAYQAAYQ==\",\"charset\":\"utf32\"}"

-- ---- bytes

-- a character set that isn't read, also where the bytes are ASCII or none
abbrev pub OtherCharsets : Type 0
OtherCharsets =
    Keeps Gbk "d6 d0" "{\"base64\":\"1tA=\",\"charset\":\"gbk\"}" × Keeps Gbk "61" "{\"base64\":\"YQ==\",\"charset\":\"gbk\"}"
    × Keeps Gbk "" "{\"base64\":\"\",\"charset\":\"gbk\"}"

-- BINARY(4) with its zeros, whole, and empty; VARBINARY and BLOB as they stand
abbrev pub Binaries : Type 0
Binaries =
    WritesValue (text_type 254 4 (Some Binary)) "00 ff" "{\"base64\":\"AP8AAA==\"}" × WritesValue (text_type 254 4 (Some Binary)) "61 62 63 64" "{\"base64\":\"YWJjZA==\"}"
    × WritesValue (text_type 254 4 (Some Binary)) "" "{\"base64\":\"AAAAAA==\"}" × WritesValue (text_type 15 10 (Some Binary)) "00 ff 00" "{\"base64\":\"AP8A\"}"
    × WritesValue (text_type 15 10 (Some Binary)) "61 62" "{\"base64\":\"YWI=\"}" × WritesValue (text_type 252 2 (Some Binary)) "c3 a9" "{\"base64\":\"w6k=\"}"

-- no character set, so that nothing is known of zeros either
abbrev pub NoCharset : Type 0
NoCharset =
    WritesValue (text_type 15 80 None) "61" "{\"base64\":\"YQ==\"}" × WritesValue (text_type 254 4 None) "61" "{\"base64\":\"YQ==\"}"
    × WritesValue (text_type 252 2 None) "" "{\"base64\":\"\"}"
