-- What a column's value is in a full line: by the type that the server declared, with the sign and the character set.
use Rattle.std.specs.Prelude.{ℕ, ◌-◌, ◌/◌, ℤ, pos, negsuc, Bool, List, [], ◌∷◌, ◌++◌, length, replicate, slice_index_or, ◌||◌, Option, Some, None, option_map, option_and_then, nat_le, ◌==◌, codes, if◌then◌else◌}
use Rattle.base64.specs.Engines.{standard}
use Rattle.base64.specs.GeneralPurpose.{encode_of}
use Rattle.binlog_json.specs.Json.{Data, number, written, string, object, member, no_members}
use Rattle.serde_json.specs.Find.{of_integer}
use Rattle.serde_json.specs.Written.{comma_if}
use Rattle.binlog_table.specs.Map.{Map}
use Rattle.binlog_table.specs.MapWords.{value_names_in}
use Rattle.binlog_table.specs.RowImage.{RowImage}
use Rattle.binlog_table.specs.Value as cell
use Rattle.binlog_table.specs.Value.{Content}
use Rattle.binlog_types.specs.ColumnTypes.{types_of}
use Rattle.binlog_table.specs.TypeCodes as type_code
use Rattle.binlog_types.specs.Charsets.{charset_name, encoding_of}
use Rattle.binlog_types.specs.declared.column_type.ColumnType.{ColumnType}
use Rattle.binlog_types.specs.declared.charsets.Charset.{Charset}
use Rattle.binlog_types.specs.declared.charsets.Encoding.{Encoding}
use Rattle.binlog_types.specs.declared.charsets.Encoding.TheVariants.{Binary}
use Rattle.float_text.specs.Stored.{stored_text}
use Rattle.binlog_documents.specs.Values.{value_text}
use Rattle.binlog_json.specs.Images.{cell_in}
use Rattle.binlog_json.specs.Encodings.{decoded, comma_in, joined_by, joined_text}
use Rattle.binlog_json.specs.Values.{encoded_data, whole_number, enum_by, set_by, content_data}

abbrev pub unknown_type : ColumnType
unknown_type = record { code = 0; size = 0; scale = 0; unsigned = Bool.false; charset = None }

-- the type of a column, counted from 0
abbrev pub type_in : Map → ℕ → ColumnType
type_in map column = slice_index_or (types_of map.sections) column unknown_type

-- ---- integers by the sign that the server declared

-- the greatest number of an integer type's bytes
abbrev pub greatest_of : ℕ → ℕ
greatest_of code =
    if code == type_code.tiny then 255 else (if code == type_code.short then 65535 else (if code == type_code.int24 then 16777215 else (if code == type_code.long then 4294967295 else 18446744073709551615)))

-- a number below zero says the bytes of one from the top
abbrev pub as_unsigned : ℕ → ℤ → ℕ
as_unsigned greatest (pos n) = n
as_unsigned greatest (negsuc n) = greatest - n

abbrev pub as_signed : ℕ → ℕ → ℤ
as_signed greatest n = if nat_le n (greatest / 2) then pos n else negsuc (greatest - n)

abbrev pub int_data : ColumnType → ℤ → Data
int_data t z = if t.unsigned then whole_number (as_unsigned (greatest_of t.code) z) else number (of_integer z)

abbrev pub uint_data : ColumnType → ℕ → Data
uint_data t n = if t.unsigned then whole_number n else number (of_integer (as_signed (greatest_of t.code) n))

-- ---- texts by the character set

-- the bytes, and the name of the character set that they are in
abbrev pub named_bytes : List ℕ → List ℕ → Data
named_bytes name bytes = object (member (codes "base64") (string (encode_of standard bytes)) (member (codes "charset") (string name) no_members))

abbrev pub in_charset : Charset → List ℕ → Data
in_charset charset bytes = named_bytes (charset_name charset) bytes

-- the text of bytes in a character set, where they are one
abbrev pub text_or_bytes : Charset → List ℕ → Option (List ℕ) → Data
text_or_bytes charset bytes None = in_charset charset bytes
text_or_bytes charset bytes (Some text) = string text

-- the text that they are in the encoding, or else the bytes
abbrev pub data_in : Encoding → Charset → List ℕ → Data
data_in encoding charset bytes = text_or_bytes charset bytes (decoded encoding bytes)

abbrev pub in_base64 : List ℕ → Data
in_base64 bytes = encoded_data (codes "base64") bytes

abbrev pub is_binary : Encoding → Bool
is_binary Binary = Bool.true
is_binary _ = Bool.false

-- BINARY is stored without the zeros at its end
abbrev pub whole_bytes : ColumnType → List ℕ → List ℕ
whole_bytes t bytes = if t.code == type_code.string then bytes ++ replicate (t.size - length bytes) 0 else bytes

-- a text of no known character set is its bytes
abbrev pub text_in : Option Charset → ColumnType → List ℕ → Data
text_in None t bytes = in_base64 bytes
text_in (Some charset) t bytes =
    if is_binary (encoding_of charset) then in_base64 (whole_bytes t bytes)
    else data_in (encoding_of charset) charset bytes

abbrev pub text_data : ColumnType → List ℕ → Data
text_data t bytes = text_in t.charset t bytes

-- the members of a SET: each is read by the character set
abbrev pub members_as : Charset → List (List ℕ) → Data
members_as charset members =
    text_or_bytes charset (joined_by (comma_in (encoding_of charset)) members) (joined_text (encoding_of charset) members)

abbrev pub members_text : Option Charset → List (List ℕ) → Data
members_text None members = in_base64 (joined_by (44 ∷ []) members)
members_text (Some charset) members =
    if is_binary (encoding_of charset) then in_base64 (joined_by (44 ∷ []) members) else members_as charset members

-- ---- FLOAT, DOUBLE, JSON and VECTOR

abbrev pub is_float : ℕ → Bool
is_float code = code == type_code.float || code == type_code.double

abbrev pub is_json : ℕ → Bool
is_json code = code == type_code.json

abbrev pub is_vector : ℕ → Bool
is_vector code = code == type_code.vector

-- the texts of FLOATs that stand one behind another; none where a FLOAT has none, or bytes are left
unfoldable pub float_texts : List ℕ → Option (List (List ℕ))
float_texts [] = Some []
float_texts (a ∷ (b ∷ (c ∷ (d ∷ bytes)))) =
    option_and_then (λ text. option_map (λ more. text ∷ more) (float_texts bytes)) (stored_text (a ∷ b ∷ c ∷ d ∷ []))
float_texts other = None

abbrev pub vector_text : List ℕ → Option (List ℕ)
vector_text bytes = option_map (λ texts. 91 ∷ (joined_by (44 ∷ []) texts ++ 93 ∷ [])) (float_texts bytes)

-- The text of a value of JSON that the bytes say: of a FLOAT or DOUBLE the shortest number that reads back, of a JSON column the document,
-- of a VECTOR the array of its FLOATs. NaN and the infinities have none, nor have bytes that are no document or are left behind the last
-- FLOAT, nor has a value of another type.
abbrev pub raw_text : ℕ → List ℕ → Option (List ℕ)
raw_text code bytes =
    if is_float code then stored_text bytes else (if is_json code then value_text bytes else (if is_vector code then vector_text bytes else None))

-- what has no such text is its bytes
abbrev pub written_or_raw : List ℕ → Option (List ℕ) → Data
written_or_raw bytes None = encoded_data (codes "raw") bytes
written_or_raw bytes (Some text) = written text

abbrev pub raw_data : ColumnType → List ℕ → Data
raw_data t bytes = written_or_raw bytes (raw_text t.code bytes)

-- ---- values

abbrev pub full_data : ColumnType → Option (List (List ℕ)) → Content → Data
full_data t names (cell.int z) = int_data t z
full_data t names (cell.uint n) = uint_data t n
full_data t names (cell.bytes b) = text_data t b
full_data t names (cell.enum n) = enum_by (text_data t) names n
full_data t names (cell.set n) = set_by (members_text t.charset) names n
full_data t names (cell.raw b) = raw_data t b
full_data t names other = content_data names other

-- the value of a column, counted from 0
abbrev pub full_value : RowImage → ℕ → Data
full_value image column = full_data (type_in image.table column) (value_names_in image.table column) (cell_in image column)
