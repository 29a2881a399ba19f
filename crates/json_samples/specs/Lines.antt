-- Lines of a change, plain and full, and the table maps that they need.
use Prim.Native.String.{String}
use Rattle.std.specs.Prelude.{◌≡◌, ℕ, pos, negsuc, List, [], ◌∷◌, ◌++◌, Option, Some, None, Result, Ok, Err, codes}
use Rattle.binlog_select.specs.declared.kind.ChangeKind.{ChangeKind}
use Rattle.binlog_select.specs.declared.kind.ChangeKind.TheVariants.{Insert, Update, Delete, Statement}
use Rattle.binlog_table.specs.Map.{Map, map_at, no_sections}
use Rattle.binlog_table.specs.Rows.{Row}
use Rattle.binlog_table.specs.Value.{Content}
use Rattle.binlog_table.specs.Value.Content.{absent, null, int, uint, year, bytes, raw}
use Rattle.binlog_table.specs.declared.fault.MapFault.{MapFault}
use Rattle.binlog_units.specs.Statements.{StatementText}
use Rattle.binlog_feed.specs.Changes.{RowChange}
use Rattle.binlog_feed.specs.Subjects.{no_row, no_table}
use Rattle.binlog_json.specs.declared.style.Style.{Style}
use Rattle.binlog_json.specs.declared.style.Style.TheVariants.{Plain, Full}
use Rattle.binlog_json.specs.FullLine.{text_as}
use Rattle.json_samples.specs.Bytes.{hex, utf8}
use Rattle.json_samples.specs.Types.{behind_year, charsets_of_each, body_with}

abbrev pub map_or_none : Result Map MapFault → Map
map_or_none (Ok map) = map
map_or_none (Err fault) =
    record { table_id = 0; schema = []; table = []; columns = []; names = []; key = []; value_names = []; sections = no_sections }

abbrev pub table_in : List ℕ → Map
table_in body = map_or_none (map_at body)

-- the server's own identity
abbrev pub source : List ℕ
source = hex "c0 c3 ab b2 e9 92 11 f1 b8 61 02 fc 00 00 00 01"

abbrev pub inserted : List Content → Row
inserted cells = record { before = None; after = Some cells }

abbrev pub Writes : Style → RowChange → String → Type 0
Writes style change line = text_as style change ≡ utf8 line

-- ---- a line with a YEAR column

-- The row is 4000000000, 2024, 4000000000, -5 and 200. The plain reading takes the bit of YEAR for b, that of b for c, and that of c for d.
abbrev pub year_change : RowChange
year_change = record {
  file = codes "binlog.000001";
  position = 573;
  number = 1;
  gtid = Some (source, 3);
  committed = Some 1795695202123456;
  kind = Insert;
  timestamp = 1795695202;
  table = table_in behind_year;
  row = inserted (uint 4000000000 ∷ year 2024 ∷ uint 4000000000 ∷ uint 18446744073709551611 ∷ int (negsuc 55) ∷ []);
  statements = [];
}

abbrev pub LineWithYear : Type 0
LineWithYear =
    Writes Full year_change
    "{\"after\":{\"a\":4000000000,\"b\":4000000000,\"c\":-5,\"d\":200,\"y\":\"2024\"},\"before\":null,\"committed\":1795695202123456,\"gtid\":\"c0c3abb2-e992-11f1-b861-02fc00000001:3\",\"key\":[],\"types\":{\"a\":\"int unsigned\",\"y\":\"year\",\"b\":\"int unsigned\",\"c\":\"bigint\",\"d\":\"tinyint unsigned\"},\"kind\":\"insert\",\"schema\":\"full\",\"table\":\"y\",\"timestamp\":1795695202,\"token\":\"573.1@binlog.000001\"}"
    × Writes Plain year_change
    "{\"after\":{\"a\":4000000000,\"b\":4000000000,\"c\":18446744073709551611,\"d\":-56,\"y\":\"2024\"},\"before\":null,\"gtid\":\"c0c3abb2-e992-11f1-b861-02fc00000001:3\",\"kind\":\"insert\",\"schema\":\"full\",\"table\":\"y\",\"timestamp\":1795695202,\"token\":\"573.1@binlog.000001\"}"

-- ---- a line with character sets

-- the second row of a table with a text of each
abbrev pub charsets_change : RowChange
charsets_change = record {
  file = codes "binlog.000001";
  position = 1367;
  number = 2;
  gtid = Some (source, 5);
  committed = None;
  kind = Insert;
  timestamp = 1795695203;
  table = table_in charsets_of_each;
  row = inserted
      (uint 2 ∷ bytes (hex "e9 20 80") ∷ bytes (hex "d6 d0") ∷ bytes (hex "00 e9 20 ac") ∷ bytes (hex "f0 9f 98 80 c3 a9") ∷ bytes (hex "c3 a9") ∷ bytes (hex "61")
      ∷ bytes (hex "00 ff") ∷ bytes (hex "00 ff 00") ∷ bytes (hex "c3 a9") ∷ bytes (hex "c3 a9") ∷ []);
  statements = [];
}

abbrev pub LineWithCharsets : Type 0
LineWithCharsets =
    Writes Full charsets_change
    "{\"after\":{\"a\":\"a\",\"b\":{\"base64\":\"AP8AAA==\"},\"bl\":{\"base64\":\"w6k=\"},\"g\":{\"base64\":\"1tA=\",\"charset\":\"gbk\"},\"id\":2,\"l\":\"é €\",\"tx\":\"Ã©\",\"u16\":\"é€\",\"u3\":\"é\",\"u8\":\"😀é\",\"vb\":{\"base64\":\"AP8A\"}},\"before\":null,\"gtid\":\"c0c3abb2-e992-11f1-b861-02fc00000001:5\",\"key\":[\"id\"],\"types\":{\"id\":\"int unsigned\",\"l\":\"varchar latin1\",\"g\":\"varchar gbk\",\"u16\":\"varchar utf16\",\"u8\":\"varchar utf8mb4\",\"u3\":\"varchar utf8mb3\",\"a\":\"varchar ascii\",\"b\":\"binary(4)\",\"vb\":\"varbinary(10)\",\"bl\":\"blob\",\"tx\":\"text latin1\"},\"kind\":\"insert\",\"schema\":\"full\",\"table\":\"t\",\"timestamp\":1795695203,\"token\":\"1367.2@binlog.000001\"}"
    × Writes Plain charsets_change
    "{\"after\":{\"a\":\"a\",\"b\":{\"base64\":\"AP8=\"},\"bl\":\"é\",\"g\":{\"base64\":\"1tA=\"},\"id\":2,\"l\":{\"base64\":\"6SCA\"},\"tx\":\"é\",\"u16\":{\"base64\":\"AOkgrA==\"},\"u3\":\"é\",\"u8\":\"😀é\",\"vb\":{\"base64\":\"AP8A\"}},\"before\":null,\"gtid\":\"c0c3abb2-e992-11f1-b861-02fc00000001:5\",\"kind\":\"insert\",\"schema\":\"full\",\"table\":\"t\",\"timestamp\":1795695203,\"token\":\"1367.2@binlog.000001\"}"

-- ---- an update with a key

-- y YEAR, v INT, l VARCHAR(20) of latin1, b BINARY(4) and n TINYINT UNSIGNED; the bits are 1, 0 and 1, and the key is l, v, b, y
abbrev pub keyed_body : List ℕ
keyed_body = body_with "05 0d 03 0f fe 01 04 14 00 fe 04 1f 01 01 a0 03 02 08 3f 04 0a 01 79 01 76 01 6c 01 62 01 6e 08 04 02 01 03 00"

abbrev pub keyed_change : Option (List Content) → Option (List Content) → RowChange
keyed_change before after = record {
  file = codes "binlog.000002";
  position = 4;
  number = 7;
  gtid = None;
  committed = Some 1;
  kind = Update;
  timestamp = 1;
  table = table_in keyed_body;
  row = record { before = before; after = after };
  statements = [];
}

-- From 2024, -5, é, 00 ff 00 00 and 200 to 2025 and null. The plain reading takes the bit of YEAR for v, and that of v for n. The new
-- image has no l, v and b.
abbrev pub keyed_update : RowChange
keyed_update =
    keyed_change (Some (year 2024 ∷ uint 4294967291 ∷ bytes (hex "e9") ∷ bytes (hex "00 ff") ∷ int (negsuc 55) ∷ []))
    (Some (year 2025 ∷ absent ∷ absent ∷ absent ∷ null ∷ []))

-- `types` has the columns that an image lacks, in the order of the table
abbrev pub LineWithKey : Type 0
LineWithKey =
    Writes Full keyed_update
    "{\"after\":{\"n\":null,\"y\":\"2025\"},\"before\":{\"b\":{\"base64\":\"AP8AAA==\"},\"l\":\"é\",\"n\":200,\"v\":-5,\"y\":\"2024\"},\"committed\":1,\"gtid\":null,\"key\":[\"l\",\"v\",\"b\",\"y\"],\"types\":{\"y\":\"year\",\"v\":\"int\",\"l\":\"varchar latin1\",\"b\":\"binary(4)\",\"n\":\"tinyint unsigned\"},\"kind\":\"update\",\"schema\":\"s\",\"table\":\"t\",\"timestamp\":1,\"token\":\"4.7@binlog.000002\"}"
    × Writes Plain keyed_update
    "{\"after\":{\"n\":null,\"y\":\"2025\"},\"before\":{\"b\":{\"base64\":\"AP8=\"},\"l\":{\"base64\":\"6Q==\"},\"n\":-56,\"v\":4294967291,\"y\":\"2024\"},\"gtid\":null,\"kind\":\"update\",\"schema\":\"s\",\"table\":\"t\",\"timestamp\":1,\"token\":\"4.7@binlog.000002\"}"
    × (Writes Full keyed_update "{}" → ⊥)

-- ---- an update of a JSON column

-- id INT, the key, and d JSON
abbrev pub document_body : List ℕ
document_body = body_with "02 03 f5 01 04 03 01 01 00 04 05 02 69 64 01 64 08 01 00"

-- from {"a":1} to the first three of its bytes
abbrev pub document_change : RowChange
document_change = record {
  file = codes "binlog.000002";
  position = 4;
  number = 7;
  gtid = None;
  committed = None;
  kind = Update;
  timestamp = 1;
  table = table_in document_body;
  row = record {
    before = Some (int (pos 1) ∷ raw (hex "00 01 00 0c 00 0b 00 01 00 05 01 00 61") ∷ []);
    after = Some (int (pos 1) ∷ raw (hex "00 01 00") ∷ []);
  };
  statements = [];
}

-- bytes that are no document stand as they do in plain lines
abbrev pub LineWithDocument : Type 0
LineWithDocument =
    Writes Full document_change
    "{\"after\":{\"d\":{\"raw\":\"AAEA\"},\"id\":1},\"before\":{\"d\":{\"a\":1},\"id\":1},\"gtid\":null,\"key\":[\"id\"],\"types\":{\"id\":\"int\",\"d\":\"json\"},\"kind\":\"update\",\"schema\":\"s\",\"table\":\"t\",\"timestamp\":1,\"token\":\"4.7@binlog.000002\"}"
    × Writes Plain document_change
    "{\"after\":{\"d\":{\"raw\":\"AAEA\"},\"id\":1},\"before\":{\"d\":{\"raw\":\"AAEADAALAAEABQEAYQ==\"},\"id\":1},\"gtid\":null,\"kind\":\"update\",\"schema\":\"s\",\"table\":\"t\",\"timestamp\":1,\"token\":\"4.7@binlog.000002\"}"

-- ---- JSON nulls

-- b JSON, a JSON, and id INT, the key
abbrev pub nulls_body : List ℕ
nulls_body = body_with "03 f5 f5 03 02 04 04 03 01 01 00 04 07 01 62 01 61 02 69 64 08 01 02"

abbrev pub nulls_change : List ℕ → ChangeKind → Option (List Content) → Option (List Content) → RowChange
nulls_change body kind before after = record {
  file = codes "binlog.000002";
  position = 4;
  number = 7;
  gtid = None;
  committed = None;
  kind = kind;
  timestamp = 1;
  table = table_in body;
  row = record { before = before; after = after };
  statements = [];
}

abbrev pub row_of : Content → Content → Option (List Content)
row_of b a = Some (b ∷ a ∷ int (pos 1) ∷ [])

-- the type of a literal, and the literal
abbrev pub json_null : Content
json_null = raw (hex "04 00")

abbrev pub json_true : Content
json_true = raw (hex "04 01")

-- In both images: where one column has the JSON null, the other one is NULL. The types stand in the order of the table, the members of
-- images in that of the names.
abbrev pub NullsInBoth : Type 0
NullsInBoth =
    Writes Full (nulls_change nulls_body Update (row_of json_null null) (row_of null json_null))
    "{\"after\":{\"a\":null,\"b\":null,\"id\":1},\"before\":{\"a\":null,\"b\":null,\"id\":1},\"gtid\":null,\"json_null\":[\"after.a\",\"before.b\"],\"key\":[\"id\"],\"types\":{\"b\":\"json\",\"a\":\"json\",\"id\":\"int\"},\"kind\":\"update\",\"schema\":\"s\",\"table\":\"t\",\"timestamp\":1,\"token\":\"4.7@binlog.000002\"}"
    × Writes Plain (nulls_change nulls_body Update (row_of json_null null) (row_of null json_null))
    "{\"after\":{\"a\":{\"raw\":\"BAA=\"},\"b\":null,\"id\":1},\"before\":{\"a\":null,\"b\":{\"raw\":\"BAA=\"},\"id\":1},\"gtid\":null,\"kind\":\"update\",\"schema\":\"s\",\"table\":\"t\",\"timestamp\":1,\"token\":\"4.7@binlog.000002\"}"

-- In the new row alone: both columns have it, of which one has no bytes. The names stand in their own order.
abbrev pub NullsInAfter : Type 0
NullsInAfter =
    Writes Full (nulls_change nulls_body Insert None (row_of json_null (raw [])))
    "{\"after\":{\"a\":null,\"b\":null,\"id\":1},\"before\":null,\"gtid\":null,\"json_null\":[\"after.a\",\"after.b\"],\"key\":[\"id\"],\"types\":{\"b\":\"json\",\"a\":\"json\",\"id\":\"int\"},\"kind\":\"insert\",\"schema\":\"s\",\"table\":\"t\",\"timestamp\":1,\"token\":\"4.7@binlog.000002\"}"

-- in the old row alone; bytes behind the literal are ignored
abbrev pub NullsInBefore : Type 0
NullsInBefore =
    Writes Full (nulls_change nulls_body Delete (row_of (raw (hex "04 00 01")) json_true) None)
    "{\"after\":null,\"before\":{\"a\":true,\"b\":null,\"id\":1},\"gtid\":null,\"json_null\":[\"before.b\"],\"key\":[\"id\"],\"types\":{\"b\":\"json\",\"a\":\"json\",\"id\":\"int\"},\"kind\":\"delete\",\"schema\":\"s\",\"table\":\"t\",\"timestamp\":1,\"token\":\"4.7@binlog.000002\"}"

-- In none: NULL isn't it, nor are [null], a literal that is cut, true and a column that the image lacks. The line has no such member.
abbrev pub NoNulls : Type 0
NoNulls =
    Writes Full (nulls_change nulls_body Update (row_of null (raw (hex "02 01 00 07 00 04 00 00"))) (row_of (raw (hex "04")) json_true))
    "{\"after\":{\"a\":true,\"b\":{\"raw\":\"BA==\"},\"id\":1},\"before\":{\"a\":[null],\"b\":null,\"id\":1},\"gtid\":null,\"key\":[\"id\"],\"types\":{\"b\":\"json\",\"a\":\"json\",\"id\":\"int\"},\"kind\":\"update\",\"schema\":\"s\",\"table\":\"t\",\"timestamp\":1,\"token\":\"4.7@binlog.000002\"}"
    × Writes Full (nulls_change nulls_body Update (row_of absent json_true) (row_of absent null))
    "{\"after\":{\"a\":null,\"id\":1},\"before\":{\"a\":true,\"id\":1},\"gtid\":null,\"key\":[\"id\"],\"types\":{\"b\":\"json\",\"a\":\"json\",\"id\":\"int\"},\"kind\":\"update\",\"schema\":\"s\",\"table\":\"t\",\"timestamp\":1,\"token\":\"4.7@binlog.000002\"}"

-- a column whose name needs an escape: q" JSON
abbrev pub NullsEscaped : Type 0
NullsEscaped =
    Writes Full (nulls_change (body_with "01 f5 01 04 01 04 03 02 71 22") Insert None (Some (json_null ∷ [])))
    "{\"after\":{\"q\\\"\":null},\"before\":null,\"gtid\":null,\"json_null\":[\"after.q\\\"\"],\"key\":[],\"types\":{\"q\\\"\":\"json\"},\"kind\":\"insert\",\"schema\":\"s\",\"table\":\"t\",\"timestamp\":1,\"token\":\"4.7@binlog.000002\"}"

-- ---- statements

abbrev pub stated_change : Option (List ℕ × ℕ) → List StatementText → RowChange
stated_change gtid statements = record {
  file = codes "binlog.000001";
  position = 154;
  number = 0;
  gtid = gtid;
  committed = Some 1700000000123456;
  kind = Statement;
  timestamp = 1700000000;
  table = no_table;
  row = no_row;
  statements = statements;
}

abbrev pub another_gtid : Option (List ℕ × ℕ)
another_gtid = Some (hex "3e 11 fa 47 71 ca 11 e1 9e 33 c8 0a a9 42 95 62", 5)

abbrev pub stated : ℕ → List ℕ → List ℕ → StatementText
stated timestamp schema text = record { timestamp = timestamp; schema = schema; text = text }

-- the line of statements is the same in each style
abbrev pub WritesBoth : RowChange → String → Type 0
WritesBoth change line = Writes Plain change line × Writes Full change line

abbrev pub LineWithStatement : Type 0
LineWithStatement =
    WritesBoth (stated_change another_gtid (stated 1700000000 (codes "shop") (codes "TRUNCATE TABLE orders") ∷ []))
    "{\"gtid\":\"3e11fa47-71ca-11e1-9e33-c80aa9429562:5\",\"kind\":\"statement\",\"statements\":[{\"schema\":\"shop\",\"text\":\"TRUNCATE TABLE orders\",\"timestamp\":1700000000}],\"timestamp\":1700000000,\"token\":\"154.0@binlog.000001\"}"

-- no GTID and no schema; the text has quotation marks and a line feed
abbrev pub LineWithQuotedStatement : Type 0
LineWithQuotedStatement =
    WritesBoth (stated_change None (stated 1700000000 [] (codes "ALTER TABLE t COMMENT \"a" ++ 10 ∷ codes "b\"") ∷ []))
    "{\"gtid\":null,\"kind\":\"statement\",\"statements\":[{\"schema\":\"\",\"text\":\"ALTER TABLE t COMMENT \\\"a\\nb\\\"\",\"timestamp\":1700000000}],\"timestamp\":1700000000,\"token\":\"154.0@binlog.000001\"}"

-- the schema is UTF-8; the text, DROP and é in latin1, isn't
abbrev pub LineWithStatementInLatin1 : Type 0
LineWithStatementInLatin1 =
    WritesBoth (stated_change another_gtid (stated 1700000000 (utf8 "é") (hex "44 52 4f 50 20 e9") ∷ []))
    "{\"gtid\":\"3e11fa47-71ca-11e1-9e33-c80aa9429562:5\",\"kind\":\"statement\",\"statements\":[{\"schema\":\"é\",\"text\":{\"base64\":\"RFJPUCDp\"},\"timestamp\":1700000000}],\"timestamp\":1700000000,\"token\":\"154.0@binlog.000001\"}"

-- each of two statements has its own time, and the schema of the second isn't UTF-8
abbrev pub two_statements : RowChange
two_statements = stated_change None (stated 1700000000 (codes "a") (codes "DROP VIEW v") ∷ stated 1700000001 (hex "ff") (utf8 "DROP VIEW é") ∷ [])

abbrev pub LineWithStatements : Type 0
LineWithStatements =
    WritesBoth two_statements
    "{\"gtid\":null,\"kind\":\"statement\",\"statements\":[{\"schema\":\"a\",\"text\":\"DROP VIEW v\",\"timestamp\":1700000000},{\"schema\":{\"base64\":\"/w==\"},\"text\":\"DROP VIEW é\",\"timestamp\":1700000001}],\"timestamp\":1700000000,\"token\":\"154.0@binlog.000001\"}"
