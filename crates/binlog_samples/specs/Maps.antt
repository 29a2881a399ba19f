-- Bodies of table maps, and what they say.
use Prim.Native.String.{String}
use Rattle.std.specs.Prelude.{◌≡◌, ℕ, true, false, List, [], ◌∷◌, ◌++◌, map, replicate, Option, Some, None, Result, Ok, Err, codes}
use Rattle.binlog_table.specs.Map.{Map, map_at, no_sections}
use Rattle.binlog_table.specs.declared.column.Column.{Column}
use Rattle.binlog_table.specs.declared.column.Layout.{Layout}
use Rattle.binlog_table.specs.declared.column.Layout.TheVariants.{Integer, Year, Date, Text, Decimal, Enum, Set}
use Rattle.binlog_table.specs.declared.fault.MapFault.{MapFault}
use Rattle.binlog_table.specs.declared.fault.MapFault.TheVariants.{BadMap, TypeOutOfProfile, NoColumnNames}
use Rattle.binlog_samples.specs.Hex.{hex}

-- what a map says but for its sections, which are the bytes as they stand
abbrev pub says : Result Map MapFault → Result Map MapFault
says (Ok map) = Ok (record map { sections = no_sections })
says (Err fault) = Err fault

-- a map of s.t with the id 100, from the count of its columns on
abbrev pub map_with : List ℕ → Result Map MapFault
map_with tail = says (map_at (hex "64 00 00 00 00 00 01 00 01 73 00 01 74 00" ++ tail))

abbrev pub signed : Layout → Column
signed layout = record { layout = layout; unsigned = false }

abbrev pub unsigned : Layout → Column
unsigned layout = record { layout = layout; unsigned = true }

abbrev pub table_of : List Column → List (List ℕ) → List ℕ → List (Option (List (List ℕ))) → Map
table_of columns names key value_names = record {
  table_id = 100;
  schema = codes "s";
  table = codes "t";
  columns = columns;
  names = names;
  key = key;
  value_names = value_names;
  sections = no_sections;
}

-- ---- two columns: id LONG and v VARCHAR(80)

-- count, types, metadata and bits of null, then optional fields
abbrev pub of_two : String → Result Map MapFault
of_two fields = map_with (hex "02 03 0f 02 50 00 02" ++ hex fields)

abbrev pub two_are : Column → List ℕ → Map
two_are id key = table_of (id ∷ signed (Text 1) ∷ []) (codes "id" ∷ codes "v" ∷ []) key (None ∷ None ∷ [])

-- with a key of id; with an unsigned id; without a key; with another field beside; with a second bit and byte of signedness
abbrev pub TwoColumns : Type 0
TwoColumns =
    (of_two "01 01 00 04 05 02 69 64 01 76 08 01 00" ≡ Ok (two_are (signed (Integer 4)) (0 ∷ [])))
    × (of_two "01 01 80 04 05 02 69 64 01 76 08 01 00" ≡ Ok (two_are (unsigned (Integer 4)) (0 ∷ [])))
    × (of_two "01 01 00 04 05 02 69 64 01 76" ≡ Ok (two_are (signed (Integer 4)) []))
    × (of_two "02 01 08 01 01 00 04 05 02 69 64 01 76 08 01 00" ≡ Ok (two_are (signed (Integer 4)) (0 ∷ [])))
    × (of_two "01 02 7f ff 04 05 02 69 64 01 76 08 01 00" ≡ Ok (two_are (signed (Integer 4)) (0 ∷ [])))

-- keys in key order, whole or by prefixes
abbrev pub Keys : Type 0
Keys =
    (of_two "01 01 00 04 05 02 69 64 01 76 08 02 01 00" ≡ Ok (two_are (signed (Integer 4)) (1 ∷ 0 ∷ [])))
    × (of_two "01 01 00 04 05 02 69 64 01 76 09 04 01 05 00 00" ≡ Ok (two_are (signed (Integer 4)) (1 ∷ 0 ∷ [])))
    × (of_two "01 01 00 04 05 02 69 64 01 76 09 06 01 fc 05 00 00 00" ≡ Ok (two_are (signed (Integer 4)) (1 ∷ 0 ∷ [])))

-- numbers in longer spellings than needed
abbrev pub LongSpellings : Type 0
LongSpellings =
    map_with (hex "fc 02 00 03 0f fd 02 00 00 50 00 02 01 fc 01 00 00 04 fe 05 00 00 00 00 00 00 00 02 69 64 01 76 08 01 00")
    ≡ Ok (two_are (signed (Integer 4)) (0 ∷ []))

-- no fields of names; no field of signedness, or none of a bit; an index that is none, or one twice; one field twice, or both of keys; a
-- name too many, too few, or twice; a field that is cut; metadata that is left
abbrev pub NoMapOfTwo : Type 0
NoMapOfTwo =
    (of_two "01 01 00 08 01 00" ≡ Err NoColumnNames)
    × (of_two "04 05 02 69 64 01 76 08 01 00" ≡ Err BadMap) × (of_two "01 00 04 05 02 69 64 01 76 08 01 00" ≡ Err BadMap)
    × (of_two "01 01 00 04 05 02 69 64 01 76 08 01 02" ≡ Err BadMap) × (of_two "01 01 00 04 05 02 69 64 01 76 08 02 00 00" ≡ Err BadMap)
    × (of_two "01 01 00 01 01 00 04 05 02 69 64 01 76" ≡ Err BadMap) × (of_two "01 01 00 04 05 02 69 64 01 76 08 01 00 09 02 00 00" ≡ Err BadMap)
    × (of_two "01 01 00 04 07 02 69 64 01 76 01 77" ≡ Err BadMap) × (of_two "01 01 00 04 03 02 69 64" ≡ Err BadMap)
    × (of_two "01 01 00 04 06 02 69 64 02 69 64" ≡ Err BadMap) × (of_two "01 01 00 04 05 02 69 64 01 76 08 02 00" ≡ Err BadMap)
    × (map_with (hex "02 03 0f 03 50 00 00 02 01 01 00 04 05 02 69 64 01 76") ≡ Err BadMap)

-- ---- many columns

-- so many TINY, with the bytes behind the types: metadata, bits of null, signs, and names from a on
abbrev pub map_of_tiny : String → ℕ → String → Result Map MapFault
map_of_tiny count columns text = map_with (hex count ++ replicate columns 1 ++ hex text)

abbrev pub letters : List ℕ → List (List ℕ)
letters = map (λ (letter : ℕ). letter ∷ [])

abbrev pub nones : ℕ → List (Option (List (List ℕ)))
nones n = replicate n None

-- a bit of null for each column
abbrev pub EightColumns : Type 0
EightColumns =
    (map_of_tiny "08" 8 "00 ff 01 01 01 04 10 01 61 01 62 01 63 01 64 01 65 01 66 01 67 01 68"
    ≡ Ok (table_of (replicate 7 (signed (Integer 1)) ++ unsigned (Integer 1) ∷ []) (letters (codes "abcdefgh")) [] (nones 8)))
    × (map_of_tiny "08" 8 "00 ff ff 01 01 01 04 10 01 61 01 62 01 63 01 64 01 65 01 66 01 67 01 68" ≡ Err BadMap)

-- the ninth alone is unsigned, and is the key; nine columns have no room in eight bits
abbrev pub NineColumns : Type 0
NineColumns =
    (map_of_tiny "09" 9 "00 ff 01 01 02 00 80 04 12 01 61 01 62 01 63 01 64 01 65 01 66 01 67 01 68 01 69 08 01 08"
    ≡ Ok (table_of (replicate 8 (signed (Integer 1)) ++ unsigned (Integer 1) ∷ []) (letters (codes "abcdefghi")) (8 ∷ []) (nones 9)))
    × (map_of_tiny "09" 9 "00 ff 01 01 01 00 04 12 01 61 01 62 01 63 01 64 01 65 01 66 01 67 01 68 01 69" ≡ Err BadMap)

-- the first, the tenth and the last are unsigned
abbrev pub SeventeenColumns : Type 0
SeventeenColumns =
    map_of_tiny "11" 17 "00 ff ff 01 01 03 80 40 80 04 22 01 61 01 62 01 63 01 64 01 65 01 66 01 67 01 68 01 69 01 6a 01 6b 01 6c 01 6d 01 6e 01 6f 01 70 01 71"
    ≡ Ok (table_of
    (unsigned (Integer 1) ∷ replicate 8 (signed (Integer 1)) ++ unsigned (Integer 1) ∷ replicate 6 (signed (Integer 1)) ++ unsigned (Integer 1) ∷ [])
    (letters (codes "abcdefghijklmnopq")) [] (nones 17))

-- ---- types

-- LONG, YEAR, LONG; LONG, DATE, DECIMAL(4,2)
abbrev pub ThreeColumns : Type 0
ThreeColumns =
    (map_with (hex "03 03 0d 03 00 07 01 01 40 04 06 01 61 01 62 01 63")
    ≡ Ok (table_of (signed (Integer 4) ∷ signed Year ∷ unsigned (Integer 4) ∷ []) (letters (codes "abc")) [] (nones 3)))
    × (map_with (hex "03 03 0a f6 02 04 02 06 01 01 00 04 07 02 69 64 01 64 01 6e 08 01 00")
    ≡ Ok (table_of (signed (Integer 4) ∷ signed Date ∷ signed (Decimal (record { precision = 4; scale = 2 })) ∷ []) (codes "id" ∷ letters (codes "dn")) (0 ∷ []) (nones 3)))

-- id LONG, e ENUM and s SET, with the names of their values
abbrev pub of_values : String → Result Map MapFault
of_values fields = map_with (hex "03 03 fe fe 04 f7 01 f8 01 06 01 01 00 04 07 02 69 64 01 65 01 73" ++ hex fields)

abbrev pub values_are : Option (List (List ℕ)) → Option (List (List ℕ)) → Map
values_are enums sets =
    table_of (signed (Integer 4) ∷ signed (Enum 1) ∷ signed (Set 1) ∷ []) (codes "id" ∷ letters (codes "es")) (0 ∷ []) (None ∷ enums ∷ sets ∷ [])

abbrev pub ValueNames : Type 0
ValueNames =
    (of_values "05 05 02 01 78 01 79 06 09 02 03 72 65 64 03 74 61 6e 08 01 00"
    ≡ Ok (values_are (Some (codes "red" ∷ codes "tan" ∷ [])) (Some (letters (codes "xy")))))
    × (of_values "08 01 00" ≡ Ok (values_are None None))
    × (of_values "05 05 02 01 78 01 79 06 01 00 08 01 00" ≡ Ok (values_are (Some []) (Some (letters (codes "xy")))))

-- the first column without a reading, from the left: by its type, its real type, or its metadata
abbrev pub NoLayouts : Type 0
NoLayouts =
    (map_with (hex "02 03 0c 02 50 00 02 01 01 00 08 01 00") ≡ Err (TypeOutOfProfile 12))
    × (map_with (hex "01 fe 02 0f 01 01 04 02 01 63") ≡ Err (TypeOutOfProfile 63)) × (map_with (hex "02 fe 0c 02 f7 03 03 04 04 01 61 01 62") ≡ Err BadMap)
    × (map_with (hex "01 f6 02 42 00 01 01 01 00 04 02 01 6e") ≡ Err BadMap) × (map_with (hex "01 f6 02 02 03 01 01 01 00 04 02 01 6e") ≡ Err BadMap)
    × (map_with (hex "01 12 01 07 01 04 02 01 64") ≡ Err BadMap) × (map_with (hex "01 fc 01 05 01 04 02 01 64") ≡ Err BadMap)
    × (map_with (hex "01 10 02 08 00 01 04 02 01 62") ≡ Err BadMap) × (map_with (hex "01 fe 02 f8 05 01 04 02 01 62") ≡ Err BadMap)
