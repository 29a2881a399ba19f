-- Values of ENUM and SET columns, whose names are read by the columns' character sets.
use Prim.Native.String.{String}
use Rattle.std.specs.Prelude.{◌≡◌, ℕ, List, [], ◌∷◌, map, Option, Some, None}
use Rattle.binlog_json.specs.Json.{compact_text}
use Rattle.binlog_table.specs.Value as cell
use Rattle.binlog_types.specs.declared.charsets.Charset.{Charset}
use Rattle.binlog_types.specs.declared.charsets.Charset.TheVariants.{Binary, Cp1250, Cp1251, Gbk, Greek, Latin1, Ucs2, Utf16, Utf16le, Utf32, Utf8mb4}
use Rattle.binlog_json.specs.FullValues.{full_data}
use Rattle.json_samples.specs.Bytes.{hex, utf8}
use Rattle.json_samples.specs.Texts.{text_type}

-- a value of an ENUM of one byte with these names has this JSON
abbrev pub EnumIs : Option Charset → List String → ℕ → String → Type 0
EnumIs charset names n json = compact_text (full_data (text_type 247 1 charset) (Some (map hex names)) (cell.enum n)) ≡ utf8 json

-- and one of a SET
abbrev pub SetIs : Option Charset → List String → ℕ → String → Type 0
SetIs charset names n json = compact_text (full_data (text_type 248 1 charset) (Some (map hex names)) (cell.set n)) ≡ utf8 json

-- where the map has no names
abbrev pub Unnamed : Type 0
Unnamed =
    (compact_text (full_data (text_type 247 1 (Some Latin1)) None (cell.enum 2)) ≡ utf8 "2") × (compact_text (full_data (text_type 248 1 (Some Latin1)) None (cell.set 3)) ≡ utf8 "3")
    × (compact_text (full_data (text_type 247 1 None) None (cell.enum 0)) ≡ utf8 "0")

-- ---- ENUM

abbrev pub Enums : Type 0
Enums =
    EnumIs (Some Latin1) ("61" ∷ "e9" ∷ []) 0 "\"\"" × EnumIs (Some Latin1) ("61" ∷ "e9" ∷ []) 1 "\"a\"" × EnumIs (Some Latin1) ("61" ∷ "e9" ∷ []) 2 "\"é\""
    × EnumIs (Some Latin1) ("61" ∷ "e9" ∷ []) 3 "3" × EnumIs (Some Utf16) ("00 61" ∷ "d8 3d" ∷ []) 1 "\"a\""
    × EnumIs (Some Cp1251) ("ed e5 f2" ∷ "e4 e0" ∷ []) 2 "\"да\""

-- names that aren't well formed, in a character set that isn't read, of character set binary, and of none
abbrev pub EnumBytes : Type 0
EnumBytes =
    EnumIs (Some Utf16) ("00 61" ∷ "d8 3d" ∷ []) 2 "{\"base64\":\"2D0=\",\"charset\":\"utf16\"}" × EnumIs (Some Utf8mb4) ("e9" ∷ []) 1 "{\"base64\":\"6Q==\",\"charset\":\"utf8mb4\"}"
    × EnumIs (Some Gbk) ("d6 d0" ∷ []) 1 "{\"base64\":\"1tA=\",\"charset\":\"gbk\"}" × EnumIs (Some Gbk) ("d6 d0" ∷ []) 0 "{\"base64\":\"\",\"charset\":\"gbk\"}"
    × EnumIs (Some Gbk) ("d6 d0" ∷ []) 2 "2" × EnumIs (Some Binary) ("61 62" ∷ []) 1 "{\"base64\":\"YWI=\"}" × EnumIs (Some Binary) ("61 62" ∷ []) 0 "{\"base64\":\"\"}"
    × EnumIs None ("d6 d0" ∷ []) 1 "{\"base64\":\"1tA=\"}"

-- ---- SET

-- none, each alone, both, and a bit that has no name
abbrev pub Sets : Type 0
Sets =
    SetIs (Some Latin1) ("e4" ∷ "62" ∷ []) 0 "\"\"" × SetIs (Some Latin1) ("e4" ∷ "62" ∷ []) 1 "\"ä\"" × SetIs (Some Latin1) ("e4" ∷ "62" ∷ []) 2 "\"b\""
    × SetIs (Some Latin1) ("e4" ∷ "62" ∷ []) 3 "\"ä,b\"" × SetIs (Some Latin1) ("e4" ∷ "62" ∷ []) 4 "4" × SetIs (Some Latin1) ("e4" ∷ "62" ∷ []) 7 "7"
    × SetIs (Some Greek) ("e1" ∷ "e2" ∷ []) 3 "\"α,β\""

-- a comma of one byte in the string, whatever the names' one has
abbrev pub WideSets : Type 0
WideSets =
    SetIs (Some Utf16) ("00 61" ∷ "00 62" ∷ []) 3 "\"a,b\"" × SetIs (Some Utf16) ("00 61" ∷ "00 62" ∷ []) 0 "\"\"" × SetIs (Some Utf16) ("00 61" ∷ "00 62" ∷ "00 63" ∷ []) 5 "\"a,c\""
    × SetIs (Some Ucs2) ("00 61" ∷ "00 62" ∷ []) 3 "\"a,b\"" × SetIs (Some Utf16le) ("61 00" ∷ "62 00" ∷ []) 3 "\"a,b\""
    × SetIs (Some Utf32) ("00 00 00 61" ∷ "00 00 00 62" ∷ []) 3 "\"a,b\""

-- of two names one is no text: the bytes of both, where its bit is set, with a comma of the character set between them
abbrev pub MalformedSets : Type 0
MalformedSets =
    SetIs (Some Utf16) ("00 61" ∷ "d8 3d" ∷ []) 1 "\"a\"" × SetIs (Some Utf16) ("00 61" ∷ "d8 3d" ∷ []) 2 "{\"base64\":\"2D0=\",\"charset\":\"utf16\"}"
    × SetIs (Some Utf16) ("00 61" ∷ "d8 3d" ∷ []) 3 "{\"base64\":\"AGEALNg9\",\"charset\":\"utf16\"}"
    × SetIs (Some Ucs2) ("00 61" ∷ "d8 3d" ∷ []) 3 "{\"base64\":\"AGEALNg9\",\"charset\":\"ucs2\"}"
    × SetIs (Some Utf16le) ("61 00" ∷ "3d d8" ∷ []) 3 "{\"base64\":\"YQAsAD3Y\",\"charset\":\"utf16le\"}"
    × SetIs (Some Utf32) ("00 00 00 61" ∷ "00 00 d8 00" ∷ []) 3 "{\"base64\":\"AAAAYQAAACwAANgA\",\"charset\":\"utf32\"}"
    × SetIs (Some Cp1250) ("61" ∷ "81" ∷ []) 3 "{\"base64\":\"YSyB\",\"charset\":\"cp1250\"}" × SetIs (Some Utf8mb4) ("61" ∷ "e9" ∷ []) 3 "{\"base64\":\"YSzp\",\"charset\":\"utf8mb4\"}"

-- a character set that isn't read, of which no name is a string; binary and none, also for no members
abbrev pub SetBytes : Type 0
SetBytes =
    SetIs (Some Gbk) ("d6 d0" ∷ "62" ∷ []) 3 "{\"base64\":\"1tAsYg==\",\"charset\":\"gbk\"}" × SetIs (Some Gbk) ("d6 d0" ∷ "62" ∷ []) 2 "{\"base64\":\"Yg==\",\"charset\":\"gbk\"}"
    × SetIs (Some Gbk) ("d6 d0" ∷ "62" ∷ []) 0 "\"\"" × SetIs (Some Gbk) ("d6 d0" ∷ "62" ∷ []) 4 "4"
    × SetIs (Some Binary) ("61" ∷ "62" ∷ []) 3 "{\"base64\":\"YSxi\"}" × SetIs (Some Binary) ("61" ∷ "62" ∷ []) 0 "{\"base64\":\"\"}"
    × SetIs None ("d6 d0" ∷ "62" ∷ []) 3 "{\"base64\":\"1tAsYg==\"}" × SetIs None ("d6 d0" ∷ "62" ∷ []) 0 "{\"base64\":\"\"}"
