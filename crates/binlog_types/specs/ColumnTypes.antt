-- The types of a table's columns as a server declares them, by the sections of the body of its table map. Which field has what:
-- `Optional_metadata_field_type` in MySQL's `Table_map_event`; how a server writes them: `sql/log_event.cc`.
use Rattle.std.specs.Prelude.{ℕ, zero, suc, ◌+◌, ◌*◌, Bool, ◌&&◌, ◌||◌, List, [], ◌∷◌, length, drop, take, map, count_by, sum_by, slice_get, slice_index, Option, Some, None, option_map, option_and_then, unwrap_or, nat_lt, ◌==◌, if◌then◌else◌}
use Rattle.std.specs.List.{range_with_len}
use Rattle.std.specs.Option.{option_or}
use Rattle.binlog_table.specs.Packed.{packed_at}
use Rattle.binlog_table.specs.Columns.{has_byte, has_pair, is_numeric, high_bit, real_type, string_len}
use Rattle.binlog_table.specs.Fields.{Fields}
use Rattle.binlog_table.specs.Map.{Sections}
use Rattle.binlog_table.specs.TypeCodes.{year, varchar, bit_type, newdecimal, enum, set, blob, var_string, string, vector}
use Rattle.binlog_types.specs.Charsets.{charset_of}
use Rattle.binlog_types.specs.declared.column_type.ColumnType.{ColumnType}

-- ---- character sets

-- packed numbers one after another, as many as can be read, and no more than the first number
unfoldable pub numbers_from : ℕ → List ℕ → List ℕ
numbers_from zero bytes = []
numbers_from (suc fuel) bytes = unwrap_or (option_map (λ x. x.0 ∷ numbers_from fuel (drop x.1 bytes)) (packed_at bytes)) []

abbrev pub numbers_in : List ℕ → List ℕ
numbers_in bytes = numbers_from (length bytes) bytes

-- The numbers of two fields: a collation for each column; or else a usual one, and behind it pairs of a column's place among those that
-- have a collation, and its own one.
pub record Collations : Type 0 where
  pub each : List ℕ
  pub usual : List ℕ

-- the number that stands behind an index, in the first of the pairs that is for it
abbrev pub other_for : ℕ → List ℕ → Option ℕ
other_for index [] = None
other_for index (i ∷ []) = None
other_for index (i ∷ (collation ∷ pairs)) = if i == index then Some collation else other_for index pairs

-- the collation of a column that is so many-th among those that have one, from 0
abbrev pub collation_at : Collations → ℕ → Option ℕ
collation_at c index = option_or (slice_get c.each index) (option_or (other_for index (drop 1 c.usual)) (slice_get c.usual 0))

abbrev pub collations_of : List ℕ → List ℕ → Collations
collations_of each usual = record { each = numbers_in each; usual = numbers_in usual }

-- those of columns of text, and those of ENUM and SET
abbrev pub text_collations : Fields → Collations
text_collations fields = collations_of (unwrap_or fields.column_charset []) (unwrap_or fields.default_charset [])

abbrev pub name_collations : Fields → Collations
name_collations fields = collations_of (unwrap_or fields.column_name_charset []) (unwrap_or fields.default_name_charset [])

-- ---- what a type and its metadata say

abbrev pub is_vector : ℕ → Bool
is_vector t = t == vector

-- how many bytes of metadata a type has
abbrev pub metadata_len : ℕ → ℕ
metadata_len t = if has_byte t || is_vector t then 1 else (if has_pair t then 2 else 0)

-- Real servers give a bit of signedness to the numeric types and to YEAR.
abbrev pub has_sign : ℕ → Bool
has_sign t = is_numeric t || t == year

-- VARCHAR, VAR_STRING, BLOB and STRING have a character set, and so has a VECTOR, whose one is binary; ENUM and SET have theirs
abbrev pub is_text : ℕ → Bool
is_text real = real == varchar || (real == var_string || (real == blob || (real == string || is_vector real)))

abbrev pub is_named : ℕ → Bool
is_named real = real == enum || real == set

-- the type, which for CHAR, BINARY, ENUM and SET stands in the metadata
abbrev pub code_of : ℕ → List ℕ → ℕ
code_of t metadata = if t == string then real_type (slice_index metadata 0) else t

-- The greatest length of CHAR, BINARY and VARCHAR in bytes, the bytes of a value of ENUM and SET, the bits of BIT; of other types the
-- first byte of metadata: the digits of DECIMAL, those of a fraction of a second, the bytes of the length of a BLOB.
abbrev pub size_of : ℕ → List ℕ → ℕ
size_of t metadata =
    let first = slice_index metadata 0 in
    let second = slice_index metadata 1 in
    if t == string then string_len first second else
    (if t == varchar || t == var_string then first + 256 * second else
    (if t == bit_type then first + 8 * second else
    (if has_byte t || has_pair t then first else 0)))

-- the digits of a DECIMAL behind the point
abbrev pub scale_of : ℕ → List ℕ → ℕ
scale_of t metadata = if t == newdecimal then slice_index metadata 1 else 0

-- how many numbers a VECTOR has; 0 says that this isn't known
abbrev pub in_two_bytes : ℕ → ℕ
in_two_bytes dimensions = if nat_lt dimensions 65536 then dimensions else 0

abbrev pub column_type : ℕ → List ℕ → ℕ → Bool → Option ℕ → ColumnType
column_type t metadata dimensions unsigned collation = record {
  code = code_of t metadata;
  size = if is_vector t then in_two_bytes dimensions else size_of t metadata;
  scale = scale_of t metadata;
  unsigned = unsigned;
  charset = option_and_then charset_of collation;
}

-- ---- columns, from 0

-- A column's metadata, and that of the columns behind it: it stands behind that of the columns in front.
abbrev pub metadata_at : Sections → ℕ → List ℕ
metadata_at s n = drop (sum_by metadata_len (take n s.types)) s.metadata

abbrev pub code_at : Sections → ℕ → ℕ
code_at s n = code_of (slice_index s.types n) (metadata_at s n)

-- A column that has a bit of signedness has the one behind those of the columns in front (`Table_map_log_event::init_signedness_field`).
abbrev pub is_unsigned : Sections → ℕ → Bool
is_unsigned s n = has_sign (slice_index s.types n) && high_bit (unwrap_or s.fields.signs []) (count_by has_sign (take n s.types))

-- Columns of text have their collations in order, and so have those of ENUM and SET: each of the two kinds is counted by itself
-- (`Table_map_log_event::init_charset_field`, which is called for each).
abbrev pub collation_of : Sections → ℕ → Option ℕ
collation_of s n =
    let front = map (code_at s) (range_with_len 0 n) in
    if is_text (code_at s n) then collation_at (text_collations s.fields) (count_by is_text front) else
    (if is_named (code_at s n) then collation_at (name_collations s.fields) (count_by is_named front) else None)

-- The field of dimensions has a number for each VECTOR, in order.
abbrev pub dimensions_in : Option (List ℕ) → List ℕ
dimensions_in field = numbers_in (unwrap_or field [])

abbrev pub dimensions_of : Sections → ℕ → ℕ
dimensions_of s n = slice_index (dimensions_in s.fields.dimensions) (count_by is_vector (take n s.types))

abbrev pub type_at : Sections → ℕ → ColumnType
type_at s n = column_type (slice_index s.types n) (metadata_at s n) (dimensions_of s n) (is_unsigned s n) (collation_of s n)

-- the types of all columns
unfoldable pub types_of : Sections → List ColumnType
types_of s = map (type_at s) (range_with_len 0 (length s.types))
