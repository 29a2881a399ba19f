-- Table maps and small files by the two profiles, and what the laws of profiles say of them.
use Prim.Native.String.{String}
use Rattle.std.specs.Prelude.{◌≡◌, ℕ, List, [], ◌∷◌, ◌++◌, drop, replicate, Option, Some, None, Result, Ok, Err, codes}
use Rattle.binlog_frame.specs.Cutting.{Event}
use Rattle.binlog_profile.specs.declared.profile.Profile.TheVariants.{Strict, Server}
use Rattle.binlog_table.specs.Map.{Map, map_at, map_at_by}
use Rattle.binlog_table.specs.Names.{number_names}
use Rattle.binlog_table.specs.ProfileMaps.{NamedIsStrict}
use Rattle.binlog_table.specs.declared.column.Layout.TheVariants.{Integer, Text, Raw, Enum, Set}
use Rattle.binlog_table.specs.declared.column.Column.{Column}
use Rattle.binlog_table.specs.declared.fault.MapFault.{MapFault}
use Rattle.binlog_table.specs.declared.fault.MapFault.TheVariants.{BadMap, TypeOutOfProfile, NoColumnNames}
use Rattle.binlog_select.specs.declared.kind.ChangeKind.TheVariants.{Insert}
use Rattle.binlog_feed.specs.Changes.{RowChange}
use Rattle.binlog_feed.specs.Contents.{map_with}
use Rattle.binlog_feed.specs.Feeds.{changes, end_of_changes}
use Rattle.binlog_units.specs.Parsing.{LogFile}
use Rattle.feed_laws.specs.ProfileLaws.{StrictMaps, ProfilesAgree, named_map_with, read_by}
use Rattle.binlog_units.specs.declared.what.What.TheVariants as faults
use Rattle.binlog_samples.specs.Hex.{hex}
use Rattle.binlog_samples.specs.Files.{xid_event, front, alone, fault_at}
use Rattle.binlog_samples.specs.Changes.{map_event, first_map, image, inserted, begun, one_row, Brief, change_at, first_change, cells, Has}
use Rattle.binlog_samples.specs.Maps.{says, map_with as strict_map, of_two, two_are, signed, unsigned, table_of, letters, nones, values_are}

-- ---- table maps by the server's profile

-- a map of s.t with the id 100, from the count of its columns on
abbrev pub server_map : List ℕ → Result Map MapFault
server_map tail = says (map_at_by Server (hex "64 00 00 00 00 00 01 00 01 73 00 01 74 00" ++ tail))

-- two columns, a LONG and a VARCHAR(80), with optional fields
abbrev pub server_of_two : String → Result Map MapFault
server_of_two fields = server_map (hex "02 03 0f 02 50 00 02" ++ hex fields)

-- the names of two columns without names
abbrev pub numbered : Map → Map
numbered map = record map { names = codes "@1" ∷ codes "@2" ∷ [] }

-- without names: with a key, with one by a prefix, without one; with an unsigned number
abbrev pub TwoUnnamed : Type 0
TwoUnnamed =
    (server_of_two "01 01 00 08 01 00" ≡ Ok (numbered (two_are (signed (Integer 4)) (0 ∷ []))))
    × (server_of_two "01 01 00 09 04 01 05 00 00" ≡ Ok (numbered (two_are (signed (Integer 4)) (1 ∷ 0 ∷ []))))
    × (server_of_two "01 01 00" ≡ Ok (numbered (two_are (signed (Integer 4)) [])))
    × (server_of_two "01 01 80" ≡ Ok (numbered (two_are (unsigned (Integer 4)) [])))

-- each of these maps is refused by the strict profile
abbrev pub StrictRefuses : Type 0
StrictRefuses =
    (of_two "01 01 00 08 01 00" ≡ Err NoColumnNames) × (of_two "01 01 00 09 04 01 05 00 00" ≡ Err NoColumnNames)
    × (of_two "01 01 00" ≡ Err NoColumnNames) × (of_two "01 01 80" ≡ Err NoColumnNames)

-- names that are there are taken, and are refused as by the strict profile: a name too many, too few, or twice
abbrev pub ServerNames : Type 0
ServerNames =
    (server_of_two "01 01 00 04 05 02 69 64 01 76 08 01 00" ≡ Ok (two_are (signed (Integer 4)) (0 ∷ [])))
    × (server_of_two "01 01 00 04 07 02 69 64 01 76 01 77" ≡ Err BadMap) × (server_of_two "01 01 00 04 03 02 69 64" ≡ Err BadMap)
    × (server_of_two "01 01 00 04 06 02 69 64 02 69 64" ≡ Err BadMap)

-- Without names, too: no field of signedness, or none of a bit; an index that is none, or one twice; both keys; a cut field; metadata that
-- is left; a type that isn't read. The strict profile looks for names before signs, and behind types and metadata.
abbrev pub ServerRefuses : Type 0
ServerRefuses =
    (server_of_two "" ≡ Err BadMap) × (server_of_two "08 01 00" ≡ Err BadMap) × (server_of_two "01 00 08 01 00" ≡ Err BadMap)
    × (server_of_two "01 01 00 08 01 02" ≡ Err BadMap) × (server_of_two "01 01 00 08 02 00 00" ≡ Err BadMap)
    × (server_of_two "01 01 00 08 01 00 09 02 00 00" ≡ Err BadMap) × (server_of_two "01 01 00 08 02 00" ≡ Err BadMap)
    × (server_map (hex "02 03 0f 03 50 00 00 02 01 01 00") ≡ Err BadMap) × (server_map (hex "02 03 0c 02 50 00 02 01 01 00") ≡ Err (TypeOutOfProfile 12))
    × (of_two "" ≡ Err NoColumnNames) × (of_two "08 01 00" ≡ Err NoColumnNames)
    × (strict_map (hex "02 03 0f 03 50 00 00 02 01 01 00") ≡ Err BadMap) × (strict_map (hex "02 03 0c 02 50 00 02 01 01 00") ≡ Err (TypeOutOfProfile 12))

-- a LONG and a column of a type, in the map of both
abbrev pub beside : String → String → List ℕ
beside type metadata = hex "02 03" ++ hex type ++ hex metadata ++ hex "02 01 01 00 04 05 02 69 64 01 76"

abbrev pub raw_behind : ℕ → Map
raw_behind width = table_of (signed (Integer 4) ∷ signed (Raw width) ∷ []) (codes "id" ∷ codes "v" ∷ []) [] (nones 2)

-- A VECTOR has a length of one byte to four, as its metadata says. The type behind it isn't read, and the strict profile doesn't read it.
abbrev pub Vectors : Type 0
Vectors =
    (server_map (beside "f2" "01 04") ≡ Ok (raw_behind 4)) × (server_map (beside "f2" "01 01") ≡ Ok (raw_behind 1))
    × (server_map (beside "f2" "01 00") ≡ Err BadMap) × (server_map (beside "f2" "01 05") ≡ Err BadMap) × (server_map (beside "f2" "00") ≡ Err BadMap)
    × (server_map (beside "f2" "02 04 04") ≡ Err BadMap) × (server_map (beside "f3" "01 04") ≡ Err (TypeOutOfProfile 243))
    × (strict_map (beside "f2" "01 04") ≡ Err (TypeOutOfProfile 242)) × (strict_map (beside "f2" "00") ≡ Err (TypeOutOfProfile 242))
    × (strict_map (hex "02 f2 0c 01 05 02") ≡ Err (TypeOutOfProfile 242)) × (server_map (hex "02 f2 0c 01 05 02") ≡ Err BadMap)

-- what a map has in the field of dimensions
abbrev pub dimensions_said : Result Map MapFault → Option (List ℕ)
dimensions_said (Err fault) = None
dimensions_said (Ok map) = map.sections.fields.dimensions

-- A server's map of an INT, a VECTOR(3) and a VECTOR(5). Of two fields of dimensions the last is read, and none is refused.
abbrev pub Dimensions : Type 0
Dimensions =
    let map = hex "6a 00 00 00 00 00 01 00 01 64 00 01 74 00 03 03 f2 f2 02 04 04 06 01 01 00 02 01 3f 0d 02 03 05 04 07 02 69 64 01 76 01 77 08 01 00 0c 01 e0" in
    (dimensions_said (map_at_by Server map) ≡ Some (hex "03 05")) × (map_at map ≡ Err (TypeOutOfProfile 242))
    × (dimensions_said (map_at_by Server (map ++ hex "0d 03 fc 01 02")) ≡ Some (hex "fc 01 02"))
    × (dimensions_said (map_at_by Server (map ++ hex "0d 00")) ≡ Some []) × (map_at_by Server (map ++ hex "0d 01") ≡ Err BadMap)

-- ENUM and SET, with the names of their values and without them
abbrev pub server_values : String → Result Map MapFault
server_values fields = server_map (hex "03 03 fe fe 04 f7 01 f8 01 06 01 01 00 08 01 00" ++ hex fields)

abbrev pub unnamed_values : Option (List (List ℕ)) → Option (List (List ℕ)) → Map
unnamed_values enums sets = record (values_are enums sets) { names = codes "@1" ∷ codes "@2" ∷ codes "@3" ∷ [] }

abbrev pub ServerValues : Type 0
ServerValues =
    (server_values "" ≡ Ok (unnamed_values None None))
    × (server_values "05 05 02 01 78 01 79 06 09 02 03 72 65 64 03 74 61 6e"
    ≡ Ok (unnamed_values (Some (codes "red" ∷ codes "tan" ∷ [])) (Some (letters (codes "xy")))))
    × (server_values "05 05 02 01 78 01 79" ≡ Ok (unnamed_values None (Some (letters (codes "xy")))))
    × (server_values "05 05 01 01 78 01 79" ≡ Err BadMap)

-- eleven TINY, of which the last is unsigned
abbrev pub ElevenUnnamed : Type 0
ElevenUnnamed =
    server_map (hex "0b" ++ replicate 11 1 ++ hex "00 ff 07 01 02 00 20")
    ≡ Ok (table_of (replicate 10 (signed (Integer 1)) ++ unsigned (Integer 1) ∷ []) (number_names 1 9 ++ codes "@10" ∷ codes "@11" ∷ []) [] (nones 11))

abbrev pub Numbers : Type 0
Numbers = (number_names 1 3 ≡ codes "@1" ∷ codes "@2" ∷ codes "@3" ∷ []) × (number_names 99 2 ≡ codes "@99" ∷ codes "@100" ∷ []) × (number_names 1 0 ≡ [])

-- ---- files by both profiles

-- a map of 46 bytes without names, signed, with the first column as the key
abbrev pub unnamed_map : List ℕ
unnamed_map = map_event 100 (codes "t") (1 ∷ 1 ∷ 0 ∷ 8 ∷ 1 ∷ 0 ∷ [])

-- a transaction whose map has names, and at 371 one whose map has none
abbrev pub named_and_unnamed : List ℕ
named_and_unnamed = one_row ++ begun 2 ++ unnamed_map ++ inserted 100 (image 2 (codes "b")) ++ xid_event

abbrev pub unnamed_change : Brief
unnamed_change = record (change_at 2 371 1 Insert None (Some (cells 2 (codes "b")))) { names = codes "@1" ∷ codes "@2" ∷ [] }

abbrev pub ByProfiles : Type 0
ByProfiles =
    Has (read_by Strict (alone named_and_unnamed)) (first_change ∷ []) (fault_at 0 471 faults.NoColumnNames)
    × Has (read_by Server (alone named_and_unnamed)) (first_change ∷ unnamed_change ∷ []) None
    × Has (read_by Server (alone one_row)) (first_change ∷ []) None

-- a map without names, and then one with them, for one id in one transaction
abbrev pub renamed : List ℕ
renamed = front ++ begun 1 ++ unnamed_map ++ inserted 100 (image 1 (codes "a")) ++ first_map ++ inserted 100 (image 2 (codes "b")) ++ xid_event

abbrev pub NamedLater : Type 0
NamedLater =
    Has (read_by Server (alone renamed)) (record first_change { names = codes "@1" ∷ codes "@2" ∷ [] } ∷ change_at 1 153 2 Insert None (Some (cells 2 (codes "b"))) ∷ []) None

-- ---- laws

-- the body of a map of s.t, with the id 100
abbrev pub body_of : List ℕ → List ℕ
body_of event = drop 19 event

abbrev pub event_with : List ℕ → Event
event_with body = record { place = 253; header = record { timestamp = 0; server_id = 1; kind = 19; flags = 0; length = 53; next_position = 0 }; body = body }

-- a map with names governs as it is; one without them would give nothing
abbrev pub GovernsNamed : Type 0
GovernsNamed =
    (StrictMaps → map_with 100 (event_with (body_of first_map)) ≡ named_map_with 100 (event_with (body_of first_map)))
    × (named_map_with 100 (event_with (body_of unnamed_map)) ≡ None)

-- the strict profile reads the map with names that the server's reads
abbrev pub ReadsNamed : Type 0
ReadsNamed = NamedIsStrict → (map : Map) → map_at_by Server (body_of first_map) ≡ Ok map → map_at (body_of first_map) ≡ Ok map

-- what the strict profile gives of two transactions stands first; where it finds no fault, it gives all
abbrev pub AgreesOnBoth : Type 0
AgreesOnBoth = ProfilesAgree
    → ((more : List RowChange) × (changes (read_by Server (alone named_and_unnamed)) ≡ changes (read_by Strict (alone named_and_unnamed)) ++ more))
    × (changes (read_by Server (alone one_row)) ≡ changes (read_by Strict (alone one_row))) × (end_of_changes (read_by Server (alone one_row)) ≡ None)
