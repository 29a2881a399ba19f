-- Texts of any length, and keys of many columns.
use Prim.Native.String.{String}
use Rattle.std.specs.Prelude.{◌≡◌, ℕ, zero, suc, pos, List, [], ◌∷◌, replicate, Some, None, Bool, true, false, codes}
use Rattle.binlog_json.specs.Json.{string}
use Rattle.binlog_select.specs.declared.kind.ChangeKind.TheVariants.{Insert}
use Rattle.binlog_table.specs.Value as cell
use Rattle.binlog_table.specs.Value.{Content}
use Rattle.binlog_table.specs.declared.row_view.Side.TheVariants.{Before, After}
use Rattle.binlog_feed.specs.Changes.{RowChange}
use Rattle.binlog_types.specs.declared.charsets.Charset.TheVariants.{Latin1, Utf8mb4}
use Rattle.binlog_json.specs.FullValues.{full_data}
use Rattle.binlog_json.specs.Keys.{key_text_of, has_key}
use Rattle.binlog_json.specs.declared.style.Style.TheVariants.{Plain}
use Rattle.binlog_json.specs.Values.{bytes_data}
use Rattle.json_samples.specs.Bytes.{utf8}
use Rattle.json_samples.specs.Lines.{keyed_update, inserted, table_in}
use Rattle.json_samples.specs.Texts.{text_type}
use Rattle.json_samples.specs.Types.{body_with}

-- ---- texts

-- the letter é, so many times, in UTF-8
abbrev pub letters : ℕ → List ℕ
letters zero = []
letters (suc n) = 0xc3 ∷ 0xa9 ∷ letters n

-- A text is a string, however long it is: in a plain line, and in a full one by its character set.
abbrev pub TextsOfAnyLength : Type 0
TextsOfAnyLength = (n : ℕ)
    → (bytes_data (letters n) ≡ string (letters n))
    × (full_data (text_type 252 4 (Some Utf8mb4)) None (cell.bytes (letters n)) ≡ string (letters n))
    × (full_data (text_type 252 4 (Some Latin1)) None (cell.bytes (replicate n 0xe9)) ≡ string (letters n))

-- ---- keys

-- a row that was inserted into a table of TINYINTs, by the body of the table's map
abbrev pub numbers : String → List Content → RowChange
numbers tail cells = record {
  file = codes "binlog.000001";
  position = 4;
  number = 1;
  gtid = None;
  committed = None;
  kind = Insert;
  timestamp = 1;
  table = table_in (body_with tail);
  row = inserted cells;
  statements = [];
}

abbrev pub five_cells : List Content
five_cells = cell.int (pos 11) ∷ cell.int (pos 12) ∷ cell.int (pos 13) ∷ cell.int (pos 14) ∷ cell.int (pos 15) ∷ []

-- the key is all five columns, in their order, and the other way round
abbrev pub five_columns : RowChange
five_columns = numbers "05 01 01 01 01 01 00 00 01 01 00 04 0a 01 61 01 62 01 63 01 64 01 65 08 05 00 01 02 03 04" five_cells

abbrev pub five_from_the_last : RowChange
five_from_the_last = numbers "05 01 01 01 01 01 00 00 01 01 00 04 0a 01 61 01 62 01 63 01 64 01 65 08 05 04 03 02 01 00" five_cells

-- nine columns, of which the last is the first one of the key
abbrev pub nine_columns : RowChange
nine_columns =
    numbers "09 01 01 01 01 01 01 01 01 01 00 00 00 01 02 00 00 04 12 01 61 01 62 01 63 01 64 01 65 01 66 01 67 01 68 01 69 08 09 08 00 01 02 03 04 05 06 07"
    (cell.int (pos 1) ∷ cell.int (pos 2) ∷ cell.int (pos 3) ∷ cell.int (pos 4) ∷ cell.int (pos 5) ∷ cell.int (pos 6) ∷ cell.int (pos 7) ∷ cell.int (pos 8) ∷ cell.null ∷ [])

-- a key has_plain all its columns' values, however many they are
abbrev pub KeysOfManyColumns : Type 0
KeysOfManyColumns =
    (key_text_of keyed_update Before ≡ Some (utf8 "[{\"base64\":\"6Q==\"},4294967291,{\"base64\":\"AP8=\"},\"2024\"]"))
    × (key_text_of five_columns After ≡ Some (utf8 "[11,12,13,14,15]")) × (key_text_of five_columns Before ≡ None)
    × (key_text_of five_from_the_last After ≡ Some (utf8 "[15,14,13,12,11]"))
    × (key_text_of nine_columns After ≡ Some (utf8 "[null,1,2,3,4,5,6,7,8]"))

abbrev pub has_plain : String → RowChange → Bool
has_plain key change = has_key Plain (codes "s") (codes "t") (utf8 key) change

-- and is found by all of them
abbrev pub ManyColumnsFound : Type 0
ManyColumnsFound =
    (has_plain "[11,12,13,14,15]" five_columns ≡ true) × (has_plain "[11,12,13,14]" five_columns ≡ false) × (has_plain "[11,12,13,14,16]" five_columns ≡ false)
    × (has_plain "[null,1,2,3,4,5,6,7,8]" nine_columns ≡ true) × (has_plain "[null,1,2,3,4,5,6,7,9]" nine_columns ≡ false)
