-- Bodies of rows events, and the rows that they say.
use Prim.Native.String.{String}
use Rattle.std.specs.Prelude.{◌≡◌, ℕ, pos, negsuc, List, [], ◌∷◌, ◌++◌, map, replicate, Option, Some, None, Result, Ok, Err}
use Rattle.binlog_profile.specs.declared.profile.Profile.TheVariants.{Strict}
use Rattle.binlog_table.specs.Columns.{columns_at}
use Rattle.binlog_table.specs.Rows.{Row, rows_of}
use Rattle.binlog_table.specs.Value.{Content}
use Rattle.binlog_table.specs.Value.Content.{absent, null, int, uint, year, raw}
use Rattle.binlog_table.specs.declared.column.Column.{Column}
use Rattle.binlog_table.specs.declared.fault.MapFault.{MapFault}
use Rattle.binlog_samples.specs.ColumnTypes as types
use Rattle.binlog_samples.specs.Hex.{hex}
use Rattle.binlog_samples.specs.Values.{digits}

-- ---- rows under columns

abbrev pub write : ℕ
write = 30

abbrev pub update : ℕ
update = 31

abbrev pub delete : ℕ
delete = 32

abbrev pub under : ℕ → Result (List Column × (List ℕ × ℕ)) MapFault → List ℕ → Option (List Row)
under kind (Err fault) body = None
under kind (Ok read) body = rows_of kind read.0 body

-- what a body says under columns of these types, metadata and signs: a table id, flags and no extra data, then the text
abbrev pub rows_by : ℕ → List ℕ → String → String → String → Option (List Row)
rows_by kind types metadata signs text =
    under kind (columns_at Strict types (hex metadata) (hex signs) 0) (hex "64 00 00 00 00 00 01 00 02 00" ++ hex text)

-- under so many columns of TINY UNSIGNED
abbrev pub of_tiny : ℕ → ℕ → String → Option (List Row)
of_tiny kind count text = rows_by kind (replicate count types.tiny) "" "ff ff ff" text

abbrev pub HasRows : Option (List Row) → List Row → Type 0
HasRows read rows = read ≡ Some rows

abbrev pub HasNone : Option (List Row) → Type 0
HasNone read = read ≡ None

abbrev pub new : List Content → Row
new cells = record { before = None; after = Some cells }

abbrev pub old : List Content → Row
old cells = record { before = Some cells; after = None }

abbrev pub changed : List Content → List Content → Row
changed before after = record { before = Some before; after = Some after }

abbrev pub absents : ℕ → List Content
absents n = replicate n absent

-- the numbers from 2 to 7
abbrev pub two_to_seven : List Content
two_to_seven = uint 2 ∷ uint 3 ∷ uint 4 ∷ uint 5 ∷ uint 6 ∷ uint 7 ∷ []

-- ---- the bytes of bitmaps

-- no null; the first and the last are; the first and the last aren't there, and the last of the others is null; a byte is wanting, or left
abbrev pub RowsOfEight : Type 0
RowsOfEight =
    HasRows (of_tiny write 8 "08 ff 00 01 02 03 04 05 06 07 08") (new (uint 1 ∷ two_to_seven ++ uint 8 ∷ []) ∷ [])
    × HasRows (of_tiny write 8 "08 ff 81 02 03 04 05 06 07") (new (null ∷ two_to_seven ++ null ∷ []) ∷ [])
    × HasRows (of_tiny delete 8 "08 7e 20 02 03 04 05 06") (old (absent ∷ uint 2 ∷ uint 3 ∷ uint 4 ∷ uint 5 ∷ uint 6 ∷ null ∷ absent ∷ []) ∷ [])
    × HasNone (of_tiny write 8 "08 ff 00 01 02 03 04 05 06 07") × HasNone (of_tiny write 8 "08 ff 00 01 02 03 04 05 06 07 08 00")

-- no null; the ninth is; the first isn't there, and the ninth, the eighth of those that are, is null; a byte is wanting; another width
abbrev pub RowsOfNine : Type 0
RowsOfNine =
    HasRows (of_tiny write 9 "09 ff 01 00 00 01 02 03 04 05 06 07 08 09") (new (uint 1 ∷ two_to_seven ++ uint 8 ∷ uint 9 ∷ []) ∷ [])
    × HasRows (of_tiny write 9 "09 ff 01 00 01 01 02 03 04 05 06 07 08") (new (uint 1 ∷ two_to_seven ++ uint 8 ∷ null ∷ []) ∷ [])
    × HasRows (of_tiny write 9 "09 fe 01 80 02 03 04 05 06 07 08") (new (absent ∷ two_to_seven ++ uint 8 ∷ null ∷ []) ∷ [])
    × HasNone (of_tiny write 9 "09 ff 01 00 00 01 02 03 04 05 06 07 08") × HasNone (of_tiny write 9 "08 ff 01 00 00 01 02 03 04 05 06 07 08 09")

-- two rows of the first and the ninth; an update from the ninth to the first
abbrev pub FewOfNine : Type 0
FewOfNine =
    HasRows (of_tiny write 9 "09 01 01 00 01 09 02 01") (new (uint 1 ∷ absents 7 ++ uint 9 ∷ []) ∷ new (uint 1 ∷ absents 7 ++ null ∷ []) ∷ [])
    × HasRows (of_tiny update 9 "09 00 01 01 00 00 09 00 01") (changed (absents 8 ++ uint 9 ∷ []) (uint 1 ∷ absents 8) ∷ [])

-- the first, the tenth and the last are null; few are there; an update from the 9th, 10th and 17th to the first, the 16th and the 17th
abbrev pub RowsOfSeventeen : Type 0
RowsOfSeventeen =
    HasRows (of_tiny write 17 "11 ff ff 01 01 02 01 02 03 04 05 06 07 08 09 0b 0c 0d 0e 0f 10")
    (new (null ∷ two_to_seven ++ uint 8 ∷ uint 9 ∷ null ∷ uint 11 ∷ uint 12 ∷ uint 13 ∷ uint 14 ∷ uint 15 ∷ uint 16 ∷ null ∷ []) ∷ [])
    × HasRows (of_tiny write 17 "11 01 80 01 02 01 11") (new (uint 1 ∷ absents 14 ++ null ∷ uint 17 ∷ []) ∷ [])
    × HasRows (of_tiny update 17 "11 00 03 01 01 80 01 04 09 0a 01 10 11")
    (changed (absents 8 ++ uint 9 ∷ uint 10 ∷ absents 6 ++ null ∷ []) (null ∷ absents 14 ++ uint 16 ∷ uint 17 ∷ []) ∷ [])

-- bits above the last column's say nothing
abbrev pub UnusedBits : Type 0
UnusedBits =
    HasRows (of_tiny write 9 "09 ff ff 00 fe 01 02 03 04 05 06 07 08 09") (new (uint 1 ∷ two_to_seven ++ uint 8 ∷ uint 9 ∷ []) ∷ [])
    × HasRows (of_tiny write 1 "01 ff fe 01") (new (uint 1 ∷ []) ∷ [])

-- where no column is there, there is no row, and no byte for one
abbrev pub NoColumns : Type 0
NoColumns = HasRows (of_tiny write 9 "09 00 00") [] × HasNone (of_tiny write 9 "09 00 00 00") × HasRows (of_tiny write 9 "09 00 fe") []

-- extra data, whose length counts its own two bytes
abbrev pub ExtraData : Type 0
ExtraData =
    HasRows (under write (columns_at Strict (types.tiny ∷ []) [] (hex "80") 0) (hex "64 00 00 00 00 00 01 00 05 00 aa bb cc 01 ff 00 07")) (new (uint 7 ∷ []) ∷ [])
    × HasNone (under write (columns_at Strict (types.tiny ∷ []) [] (hex "80") 0) (hex "64 00 00 00 00 00 01 00 01 00 01 ff 00 07"))

-- ---- signedness

-- nine of TINY, of which the ninth alone is unsigned; and of which the eighth alone is
abbrev pub NinthUnsigned : Type 0
NinthUnsigned =
    HasRows (rows_by write (replicate 9 types.tiny) "" "00 80" "09 ff 01 00 00 80 81 82 83 84 85 86 87 88")
    (new (map int (negsuc 127 ∷ negsuc 126 ∷ negsuc 125 ∷ negsuc 124 ∷ negsuc 123 ∷ negsuc 122 ∷ negsuc 121 ∷ negsuc 120 ∷ []) ++ uint 136 ∷ []) ∷ [])
    × HasRows (rows_by write (replicate 9 types.tiny) "" "01 00" "09 80 01 00 ff ff") (new (absents 7 ++ uint 255 ∷ int (negsuc 0) ∷ []) ∷ [])

-- FLOAT, DOUBLE and DECIMAL have a bit
abbrev pub SignsBehindOthers : Type 0
SignsBehindOthers =
    HasRows (rows_by write (types.float ∷ types.long ∷ []) "04" "40" "02 ff 00 00 00 c0 3f ff ff ff ff") (new (raw (hex "00 00 c0 3f") ∷ uint 4294967295 ∷ []) ∷ [])
    × HasRows (rows_by write (types.double ∷ types.long ∷ []) "08" "80" "02 02 00 ff ff ff ff") (new (absent ∷ int (negsuc 0) ∷ []) ∷ [])
    × HasRows (rows_by write (types.newdecimal ∷ types.tiny ∷ []) "01 00" "40" "02 ff 00 89 ff") (new (digits "9" 0 ∷ uint 255 ∷ []) ∷ [])

-- YEAR, DATE, VARCHAR, BIT and ENUM have none
abbrev pub SignsBehindNone : Type 0
SignsBehindNone =
    HasRows (rows_by write (types.long ∷ types.year ∷ types.long ∷ []) "" "40" "03 ff f8 ff ff ff ff 7c ff ff ff ff")
    (new (int (negsuc 0) ∷ year 2024 ∷ uint 4294967295 ∷ []) ∷ [])
    × HasRows (rows_by write (types.date ∷ types.varchar ∷ types.bit ∷ types.string ∷ types.tiny ∷ []) "50 00 01 00 f7 01" "80" "05 10 00 ff") (new (absents 4 ++ uint 255 ∷ []) ∷ [])
    × HasRows (rows_by write (types.date ∷ types.varchar ∷ types.bit ∷ types.string ∷ types.tiny ∷ []) "50 00 01 00 f7 01" "40" "05 10 00 ff") (new (absents 4 ++ int (negsuc 0) ∷ []) ∷ [])

-- two rows of a DECIMAL(7,0) and what stands behind it
abbrev pub BehindDecimal : Type 0
BehindDecimal =
    HasRows (rows_by write (types.newdecimal ∷ types.tiny ∷ []) "07 00" "00" "02 ff 00 80 12 d6 87 01 00 80 00 00 05 02")
    (new (digits "1234567" 0 ∷ int (pos 1) ∷ []) ∷ new (digits "0000005" 0 ∷ int (pos 2) ∷ []) ∷ [])
