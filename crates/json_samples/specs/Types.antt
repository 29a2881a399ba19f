-- The types of columns that table maps declare, as the server's own statements name them.
use Prim.Native.String.{String}
use Rattle.std.specs.Prelude.{◌≡◌, ℕ, false, List, [], ◌∷◌, ◌++◌, map, replicate, Some, Result, Ok, Err, codes}
use Rattle.binlog_profile.specs.declared.profile.Profile.TheVariants.{Server}
use Rattle.binlog_table.specs.Map.{Map, map_at, map_at_by}
use Rattle.binlog_table.specs.declared.fault.MapFault.{MapFault}
use Rattle.binlog_types.specs.declared.charsets.Charset.TheVariants as charsets
use Rattle.binlog_types.specs.declared.column_type.ColumnType.{ColumnType}
use Rattle.binlog_types.specs.ColumnTypes.{types_of}
use Rattle.binlog_json.specs.TypeTexts.{type_text}
use Rattle.json_samples.specs.Bytes.{hex}

abbrev pub types_in : Result Map MapFault → List ColumnType
types_in (Err fault) = []
types_in (Ok map) = types_of map.sections

-- the columns of a map that has this body have these types
abbrev pub Declares : List ℕ → List String → Type 0
Declares body texts = map type_text (types_in (map_at body)) ≡ map codes texts

-- the same by the server's profile
abbrev pub ServerDeclares : List ℕ → List String → Type 0
ServerDeclares body texts = map type_text (types_in (map_at_by Server body)) ≡ map codes texts

-- ---- maps that a MySQL 9.7.4 wrote

-- a INT UNSIGNED, y YEAR, b INT UNSIGNED, c BIGINT, d TINYINT UNSIGNED: the bits are 1, 1, 1, 0 and 1
abbrev pub behind_year : List ℕ
behind_year = hex "6d 00 00 00 00 00 01 00 04 66 75 6c 6c 00 01 79 00 05 03 0d 03 08 01 00 1f 01 01 e8 04 0a 01 61 01 79 01 62 01 63 01 64 0c 01 f8"

abbrev pub BehindYear : Type 0
BehindYear = Declares behind_year ("int unsigned" ∷ "year" ∷ "int unsigned" ∷ "bigint" ∷ "tinyint unsigned" ∷ [])

-- a collation for each column of text
abbrev pub charsets_of_each : List ℕ
charsets_of_each = hex "6f 00 00 00 00 00 01 00 04 66 75 6c 6c 00 01 74 00 0b 03 0f 0f 0f 0f 0f 0f fe 0f fc fc 12 14 00 28 00 50 00 50 00 3c 00 14 00 fe 04 0a 00 02 02 fe 07 01 01 80 03 0c 08 1c 36 fc ff 00 21 0b 3f 3f 3f 08 04 1e 02 69 64 01 6c 01 67 03 75 31 36 02 75 38 02 75 33 01 61 01 62 02 76 62 02 62 6c 02 74 78 08 01 00 0c 02 ff e0"

abbrev pub CharsetsOfEach : Type 0
CharsetsOfEach =
    Declares charsets_of_each
    ("int unsigned" ∷ "varchar latin1" ∷ "varchar gbk" ∷ "varchar utf16" ∷ "varchar utf8mb4" ∷ "varchar utf8mb3" ∷ "varchar ascii" ∷ "binary(4)" ∷ "varbinary(10)"
    ∷ "blob" ∷ "text latin1" ∷ [])

-- a usual collation, and one for each ENUM and SET
abbrev pub CharsetsOfNames : Type 0
CharsetsOfNames =
    Declares
    (hex "70 00 00 00 00 00 01 00 04 66 75 6c 6c 00 01 73 00 06 0f 03 fe fe fe fe 0a 28 00 f7 01 f8 01 f7 01 f8 01 3c 01 01 00 02 03 fc ff 00 04 11 02 6b 31 02 6b 32 01 65 01 73 02 65 67 03 73 31 36 0b 04 08 08 1c 36 05 0c 02 01 e4 01 62 02 02 00 61 02 00 62 06 09 02 01 61 01 e9 01 02 d6 d0 08 02 01 00 0c 01 fc")
    ("varchar utf8mb4" ∷ "int" ∷ "enum latin1" ∷ "set latin1" ∷ "enum gbk" ∷ "set utf16" ∷ [])

-- sizes and fractions
abbrev pub Sizes : Type 0
Sizes =
    Declares
    (hex "71 00 00 00 00 00 01 00 04 66 75 6c 6c 00 01 66 00 09 04 05 f6 12 13 11 f5 10 0a 0a 04 08 0a 02 03 00 06 04 01 01 ff 01 01 01 00 04 18 01 66 01 64 02 64 63 02 64 74 02 74 6d 02 74 73 01 6a 02 62 74 02 64 61 0c 02 ff 80")
    ("float" ∷ "double" ∷ "decimal(10,2)" ∷ "datetime(3)" ∷ "time" ∷ "timestamp(6)" ∷ "json" ∷ "bit(9)" ∷ "date" ∷ [])

-- two VECTORs, which have one usual collation, and the dimensions of each
abbrev pub ServerVectors : Type 0
ServerVectors =
    ServerDeclares
    (hex "6a 00 00 00 00 00 01 00 01 64 00 01 74 00 03 03 f2 f2 02 04 04 06 01 01 00 02 01 3f 0d 02 03 05 04 07 02 69 64 01 76 01 77 08 01 00 0c 01 e0")
    ("int" ∷ "vector(3)" ∷ "vector(5)" ∷ [])

-- ---- maps by hand

-- a map of s.t with the id 100, from the count of its columns on
abbrev pub body_with : String → List ℕ
body_with tail = hex "64 00 00 00 00 00 01 00 01 73 00 01 74 00" ++ hex tail

-- VARCHAR(80), CHAR(20), TEXT, ENUM and SET, by the optional fields behind the names
abbrev pub Texts : String → List String → Type 0
Texts fields = Declares (body_with "05 0f fe fc fe fe 09 50 00 fe 14 02 f7 01 f8 01 1f 04 0a 01 61 01 62 01 63 01 64 01 65" ++ hex fields)

abbrev pub NoCharsets : Type 0
NoCharsets = Texts "" ("varchar" ∷ "char" ∷ "text" ∷ "enum" ∷ "set" ∷ [])

-- field 2: for all; with another one for the second; for the first and the third, by the first pair that is for a column; field 3
abbrev pub FieldsOfTexts : Type 0
FieldsOfTexts =
    Texts "02 03 fc ff 00" ("varchar utf8mb4" ∷ "char utf8mb4" ∷ "text utf8mb4" ∷ "enum" ∷ "set" ∷ [])
    × Texts "02 05 fc ff 00 01 08" ("varchar utf8mb4" ∷ "char latin1" ∷ "text utf8mb4" ∷ "enum" ∷ "set" ∷ [])
    × Texts "02 09 fc ff 00 02 1c 00 3f 02 08" ("varbinary(80)" ∷ "char utf8mb4" ∷ "text gbk" ∷ "enum" ∷ "set" ∷ [])
    × Texts "03 03 08 3f 1c" ("varchar latin1" ∷ "binary(20)" ∷ "text gbk" ∷ "enum" ∷ "set" ∷ [])

-- fields 10 and 11, which have the same form
abbrev pub FieldsOfNames : Type 0
FieldsOfNames =
    Texts "0a 03 fc ff 00" ("varchar" ∷ "char" ∷ "text" ∷ "enum utf8mb4" ∷ "set utf8mb4" ∷ [])
    × Texts "0a 05 fc ff 00 01 08" ("varchar" ∷ "char" ∷ "text" ∷ "enum utf8mb4" ∷ "set latin1" ∷ [])
    × Texts "0b 02 36 1c" ("varchar" ∷ "char" ∷ "text" ∷ "enum utf16" ∷ "set gbk" ∷ [])
    × Texts "0b 02 3f 3f" ("varchar" ∷ "char" ∷ "text" ∷ "enum binary" ∷ "set binary" ∷ [])

-- 9999, 0 and 17 are no collations
abbrev pub UnknownCollations : Type 0
UnknownCollations =
    Texts "03 05 fc 0f 27 00 11 0b 02 00 11" ("varchar" ∷ "char" ∷ "text" ∷ "enum" ∷ "set" ∷ [])
    × Texts "02 07 fc 0f 27 00 08 02 21" ("varchar latin1" ∷ "char" ∷ "text utf8mb3" ∷ "enum" ∷ "set" ∷ [])

-- of two fields of a type the last counts
abbrev pub TwoFields : Type 0
TwoFields =
    Texts "03 03 08 08 08 03 03 3f 1c 21" ("varbinary(80)" ∷ "char gbk" ∷ "text utf8mb3" ∷ "enum" ∷ "set" ∷ [])
    × Texts "02 01 08 02 01 21" ("varchar utf8mb3" ∷ "char utf8mb3" ∷ "text utf8mb3" ∷ "enum" ∷ "set" ∷ [])
    × Texts "0a 01 08 0a 01 21" ("varchar" ∷ "char" ∷ "text" ∷ "enum utf8mb3" ∷ "set utf8mb3" ∷ [])
    × Texts "0b 02 08 08 0b 02 3f 1c" ("varchar" ∷ "char" ∷ "text" ∷ "enum binary" ∷ "set gbk" ∷ [])

-- Field 3 has a number for the first column alone, and then one that can't be read: field 2, where it stands, has that of the others.
abbrev pub ShortFields : Type 0
ShortFields =
    Texts "03 03 08 fb 08" ("varchar latin1" ∷ "char" ∷ "text" ∷ "enum" ∷ "set" ∷ [])
    × Texts "02 01 21 03 01 08" ("varchar latin1" ∷ "char utf8mb3" ∷ "text utf8mb3" ∷ "enum" ∷ "set" ∷ [])

-- seven VARCHARs, of which those with the numbers 5 and 6 have another collation
abbrev pub Exceptions : Type 0
Exceptions =
    map type_text (types_in (map_at (body_with "07 0f 0f 0f 0f 0f 0f 0f 0e 50 00 50 00 50 00 50 00 50 00 50 00 50 00 7f 02 07 fc ff 00 05 08 06 08 04 0e 01 61 01 62 01 63 01 64 01 65 01 66 01 67")))
    ≡ replicate 5 (codes "varchar utf8mb4") ++ replicate 2 (codes "varchar latin1")

-- ---- signs

-- TINY, SHORT, INT24, LONG, LONGLONG, FLOAT, DOUBLE, NEWDECIMAL, YEAR and TINY, by their bits
abbrev pub Signs : String → List String → Type 0
Signs bits =
    Declares
    (body_with "0a 01 02 09 03 08 04 05 f6 0d 01 04 04 08 0a 02 ff 03 04 14 01 61 01 62 01 63 01 64 01 65 01 66 01 67 01 68 01 69 01 6a 01 02" ++ hex bits)

-- all bits; none; the first and each second one; the others; that of YEAR alone, of which nothing is said
abbrev pub SignBits : Type 0
SignBits =
    Signs "ff c0"
    ("tinyint unsigned" ∷ "smallint unsigned" ∷ "mediumint unsigned" ∷ "int unsigned" ∷ "bigint unsigned" ∷ "float unsigned" ∷ "double unsigned"
    ∷ "decimal(10,2) unsigned" ∷ "year" ∷ "tinyint unsigned" ∷ [])
    × Signs "00 00" ("tinyint" ∷ "smallint" ∷ "mediumint" ∷ "int" ∷ "bigint" ∷ "float" ∷ "double" ∷ "decimal(10,2)" ∷ "year" ∷ "tinyint" ∷ [])
    × Signs "aa 80"
    ("tinyint unsigned" ∷ "smallint" ∷ "mediumint unsigned" ∷ "int" ∷ "bigint unsigned" ∷ "float" ∷ "double unsigned" ∷ "decimal(10,2)" ∷ "year" ∷ "tinyint" ∷ [])
    × Signs "55 40"
    ("tinyint" ∷ "smallint unsigned" ∷ "mediumint" ∷ "int unsigned" ∷ "bigint" ∷ "float unsigned" ∷ "double" ∷ "decimal(10,2) unsigned" ∷ "year" ∷ "tinyint unsigned" ∷ [])
    × Signs "00 80" ("tinyint" ∷ "smallint" ∷ "mediumint" ∷ "int" ∷ "bigint" ∷ "float" ∷ "double" ∷ "decimal(10,2)" ∷ "year" ∷ "tinyint" ∷ [])

-- YEAR has the first bit, so of eight bits none is left for the last TINY
abbrev pub LastSign : Type 0
LastSign =
    Declares (body_with "09 0d 01 01 01 01 01 01 01 01 00 ff 01 04 12 01 61 01 62 01 63 01 64 01 65 01 66 01 67 01 68 01 69 01 01 7f")
    ("year" ∷ "tinyint unsigned" ∷ "tinyint unsigned" ∷ "tinyint unsigned" ∷ "tinyint unsigned" ∷ "tinyint unsigned" ∷ "tinyint unsigned" ∷ "tinyint unsigned"
    ∷ "tinyint" ∷ [])

-- All other types, with a TINY behind them that has the first bit. JSON and GEOMETRY have no collation, nor do ENUM and SET among texts.
abbrev pub OtherTypes : Type 0
OtherTypes =
    Declares
    (body_with "0d 0a 0f 10 11 12 13 f5 fc fe ff fe fe 01 10 50 00 01 00 00 03 06 04 03 fe 14 04 f7 01 f8 01 ff 1f 01 01 80 03 03 21 3f 1c 0b 02 08 36 04 1a 01 61 01 62 01 63 01 64 01 65 01 66 01 67 01 68 01 69 01 6a 01 6b 01 6c 01 6d")
    ("date" ∷ "varchar utf8mb3" ∷ "bit(1)" ∷ "timestamp" ∷ "datetime(3)" ∷ "time(6)" ∷ "json" ∷ "mediumblob" ∷ "char gbk" ∷ "geometry" ∷ "enum latin1"
    ∷ "set utf16" ∷ "tinyint unsigned" ∷ [])

-- VECTOR, VARCHAR(80), VECTOR and TINYINT, with a collation for each but the last
abbrev pub Dimensions : String → List String → Type 0
Dimensions fields = ServerDeclares (body_with "04 f2 0f f2 01 04 04 50 00 04 0f 01 01 80 03 03 3f 08 3f 04 08 01 61 01 62 01 63 01 64" ++ hex fields)

-- Each has its own dimensions, of which the greatest take two bytes: 16384 and 5; 65535 and 65536; one number, a cut one, and none; one
-- too many; of two fields the last.
abbrev pub VectorDimensions : Type 0
VectorDimensions =
    Dimensions "0d 04 fc 00 40 05" ("vector(16384)" ∷ "varchar latin1" ∷ "vector(5)" ∷ "tinyint unsigned" ∷ [])
    × Dimensions "0d 07 fc ff ff fd 00 00 01" ("vector(65535)" ∷ "varchar latin1" ∷ "vector" ∷ "tinyint unsigned" ∷ [])
    × Dimensions "0d 01 07" ("vector(7)" ∷ "varchar latin1" ∷ "vector" ∷ "tinyint unsigned" ∷ [])
    × Dimensions "0d 03 07 fc 08" ("vector(7)" ∷ "varchar latin1" ∷ "vector" ∷ "tinyint unsigned" ∷ [])
    × Dimensions "" ("vector" ∷ "varchar latin1" ∷ "vector" ∷ "tinyint unsigned" ∷ [])
    × Dimensions "0d 03 01 02 03" ("vector(1)" ∷ "varchar latin1" ∷ "vector(2)" ∷ "tinyint unsigned" ∷ [])
    × Dimensions "0d 02 01 02 0d 02 03 04" ("vector(3)" ∷ "varchar latin1" ∷ "vector(4)" ∷ "tinyint unsigned" ∷ [])

-- A DECIMAL(8,2) behind a VECTOR: a VECTOR has one byte of metadata, and no bit among the signs.
abbrev pub BehindVector : Type 0
BehindVector =
    ServerDeclares (body_with "02 f2 f6 03 04 08 02 03 01 01 80 0d 01 03") ("vector(3)" ∷ "decimal(8,2) unsigned" ∷ [])
    × ServerDeclares (body_with "02 f2 f6 03 04 08 02 03 01 01 40 0d 01 03") ("vector(3)" ∷ "decimal(8,2)" ∷ [])

-- ---- sizes

-- BLOBs by the width of their lengths, and TEXTs; VAR_STRING is a VARCHAR
abbrev pub Widths : Type 0
Widths =
    Declares
    (body_with "08 fc fc fc fc fc fc fc fc 08 01 02 03 04 01 02 03 04 ff 03 08 3f 3f 3f 3f 21 21 21 21 04 10 01 61 01 62 01 63 01 64 01 65 01 66 01 67 01 68")
    ("tinyblob" ∷ "blob" ∷ "mediumblob" ∷ "longblob" ∷ "tinytext utf8mb3" ∷ "text utf8mb3" ∷ "mediumtext utf8mb3" ∷ "longtext utf8mb3" ∷ [])
    × Declares (body_with "02 fd fd 04 50 00 2c 01 03 03 02 08 3f 04 04 01 61 01 62") ("varchar latin1" ∷ "varbinary(300)" ∷ [])

-- BIT(1), BIT(8), BIT(9), BIT(64); DECIMAL(65,30) UNSIGNED
abbrev pub Digits : Type 0
Digits =
    Declares (body_with "05 10 10 10 10 f6 0a 01 00 00 01 01 01 00 08 41 1e 1f 01 01 80 04 0a 01 61 01 62 01 63 01 64 01 65")
    ("bit(1)" ∷ "bit(8)" ∷ "bit(9)" ∷ "bit(64)" ∷ "decimal(65,30) unsigned" ∷ [])

-- CHAR(255) of utf8mb4: the higher bits of its 1,020 bytes stand in the byte of its type
abbrev pub LongChar : Type 0
LongChar =
    types_in (map_at (body_with "01 fe 02 ce fc 01 02 03 fc ff 00 04 02 01 61"))
    ≡ record { code = 254; size = 1020; scale = 0; unsigned = false; charset = Some charsets.Utf8mb4 } ∷ []

-- FLOAT, DOUBLE, JSON, GEOMETRY, an ENUM of one byte and one of two, a SET of eight, and INT, which has no metadata: their texts have no sizes
abbrev pub UntoldSizes : Type 0
UntoldSizes =
    map (λ (t : ColumnType). t.size) (types_in (map_at
    (body_with "08 04 05 f5 ff fe fe fe 03 0a 04 08 04 04 f7 01 f7 02 f8 08 00 01 01 00 04 10 01 61 01 62 01 63 01 64 01 65 01 66 01 67 01 68")))
    ≡ 4 ∷ 8 ∷ 4 ∷ 4 ∷ 1 ∷ 2 ∷ 8 ∷ 0 ∷ []

-- ---- all kinds of columns in one map

-- INT, YEAR, VARCHAR(80), ENUM, SET, CHAR(20), BLOB, BIT(9), DECIMAL(10,2), TINYINT and VARCHAR(40): the metadata has no byte for the
-- first two and for TINYINT, one for BLOB, and two for each of the others. INT, YEAR, DECIMAL and TINYINT have bits of signs, the texts
-- 0 to 3 are VARCHAR, CHAR, BLOB and VARCHAR, and ENUM and SET are 0 and 1 among themselves.
abbrev pub Mixed : String → List String → Type 0
Mixed fields =
    Declares
    (body_with "0b 03 0d 0f fe fe fe fc 10 f6 01 0f 0f 50 00 f7 01 f8 01 fe 14 02 01 01 0a 02 28 00 ff 07 04 16 01 61 01 62 01 63 01 64 01 65 01 66 01 67 01 68 01 69 01 6a 01 6b" ++ hex fields)

-- The bits 1, 1, 0 and 1. Field 2: utf8mb4, but binary for text 2, of whose two pairs the first counts, and gbk for text 3, whose pair
-- stands behind one for a text 12, which there is not. Field 11: latin1 and utf8mb3.
-- Then the bits 0, 0, 1 and 0. Field 3: latin1, binary, utf8mb3 and gbk. Field 10: utf16, but latin1 for SET, of whose two pairs the
-- first counts.
abbrev pub MixedColumns : Type 0
MixedColumns =
    Mixed "01 01 d0 02 0b fc ff 00 02 3f 0c 08 02 08 03 1c 0b 02 08 21"
    ("int unsigned" ∷ "year" ∷ "varchar utf8mb4" ∷ "enum latin1" ∷ "set utf8mb3" ∷ "char utf8mb4" ∷ "blob" ∷ "bit(9)" ∷ "decimal(10,2)"
    ∷ "tinyint unsigned" ∷ "varchar gbk" ∷ [])
    × Mixed "01 01 20 03 04 08 3f 21 1c 0a 05 36 01 08 01 21"
    ("int" ∷ "year" ∷ "varchar latin1" ∷ "enum utf16" ∷ "set latin1" ∷ "binary(20)" ∷ "text utf8mb3" ∷ "bit(9)" ∷ "decimal(10,2) unsigned" ∷ "tinyint"
    ∷ "varchar gbk" ∷ [])
