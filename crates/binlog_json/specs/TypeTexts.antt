-- The texts of columns' types, as a server's own statements name them.
use Rattle.std.specs.Prelude.{ℕ, List, [], ◌∷◌, ◌++◌, length, Bool, ◌==◌, ◌||◌, ◌&&◌, not, Option, Some, None, decimal, codes, if◌then◌else◌}
use Rattle.std.specs.List.{range_with_len}
use Rattle.std.specs.Option.{option_map_or}
use Rattle.binlog_json.specs.Json.{Data, Members, string, object, member, no_members}
use Rattle.binlog_table.specs.Map.{Map}
use Rattle.binlog_table.specs.NameOrder.{name_of}
use Rattle.binlog_types.specs.Charsets.{charset_name, encoding_of}
use Rattle.binlog_table.specs.TypeCodes as type_code
use Rattle.binlog_types.specs.ColumnTypes.{is_named}
use Rattle.binlog_types.specs.declared.column_type.ColumnType.{ColumnType}
use Rattle.binlog_types.specs.declared.charsets.Charset.{Charset}
use Rattle.binlog_json.specs.FullValues.{type_in, is_binary}

-- a blank and the character set, where there is one that is known
abbrev pub charset_text : Option Charset → List ℕ
charset_text None = []
charset_text (Some charset) = 32 ∷ charset_name charset

abbrev pub size_text : ℕ → List ℕ
size_text n = 40 ∷ (decimal n ++ 41 ∷ [])

-- 0 is no size: no digits of a fraction, or dimensions that aren't known
abbrev pub size_if_any : ℕ → List ℕ
size_if_any n = if n == 0 then [] else size_text n

abbrev pub sign_of : Bool → List ℕ
sign_of unsigned = if unsigned then codes " unsigned" else []

-- TEXT and BLOB, by the bytes of their length
abbrev pub lob_size : ℕ → List ℕ
lob_size n = if n == 1 then codes "tiny" else (if n == 3 then codes "medium" else (if n == 4 then codes "long" else []))

abbrev pub number_name : ℕ → List ℕ
number_name code =
    if code == type_code.tiny then codes "tinyint" else (if code == type_code.short then codes "smallint" else (if code == type_code.int24 then codes "mediumint" else
    (if code == type_code.long then codes "int" else (if code == type_code.longlong then codes "bigint" else (if code == type_code.float then codes "float" else codes "double")))))

abbrev pub is_number : ℕ → Bool
is_number code = code == type_code.tiny || (code == type_code.short || (code == type_code.int24 || (code == type_code.long || (code == type_code.longlong || (code == type_code.float || code == type_code.double)))))

abbrev pub other_name : ColumnType → List ℕ
other_name t =
    if t.code == type_code.date then codes "date" else (if t.code == type_code.year then codes "year" else (if t.code == type_code.json then codes "json" else
    (if t.code == type_code.geometry then codes "geometry" else (if t.code == type_code.bit_type then codes "bit" ++ size_text t.size else
    (if t.code == type_code.timestamp2 then codes "timestamp" ++ size_if_any t.size else (if t.code == type_code.datetime2 then codes "datetime" ++ size_if_any t.size else
    (if t.code == type_code.time2 then codes "time" ++ size_if_any t.size else
    (if t.code == type_code.vector then codes "vector" ++ size_if_any t.size else codes "unknown"))))))))

abbrev pub bytes_name : ColumnType → List ℕ
bytes_name t =
    if t.code == type_code.blob then lob_size t.size ++ codes "blob" else
    (if t.code == type_code.string then codes "binary" ++ size_text t.size else codes "varbinary" ++ size_text t.size)

abbrev pub text_name : ColumnType → List ℕ
text_name t =
    if t.code == type_code.blob then lob_size t.size ++ codes "text" else
    (if t.code == type_code.string then codes "char" else (if t.code == type_code.enum then codes "enum" else (if t.code == type_code.set then codes "set" else codes "varchar")))

abbrev pub has_charset : ℕ → Bool
has_charset code = code == type_code.blob || (code == type_code.string || (code == type_code.enum || (code == type_code.set || (code == type_code.varchar || code == type_code.var_string))))

-- bytes are named by types of their own; an ENUM or a SET stays one
abbrev pub is_bytes : ColumnType → Bool
is_bytes t = option_map_or (λ charset. is_binary (encoding_of charset) && not (is_named t.code)) t.charset Bool.false

abbrev pub charset_type : ColumnType → List ℕ
charset_type t = if is_bytes t then bytes_name t else text_name t ++ charset_text t.charset

abbrev pub type_text : ColumnType → List ℕ
type_text t =
    if is_number t.code then number_name t.code ++ sign_of t.unsigned else
    (if t.code == type_code.newdecimal then codes "decimal(" ++ (decimal t.size ++ (44 ∷ (decimal t.scale ++ (41 ∷ sign_of t.unsigned)))) else
    (if has_charset t.code then charset_type t else other_name t))

abbrev pub type_of_column : Map → ℕ → Data
type_of_column table column = string (type_text (type_in table column))

-- the types of these columns, in this order
abbrev pub types_of_columns : Map → List ℕ → Members
types_of_columns table [] = no_members
types_of_columns table (column ∷ columns) = member (name_of table.names column) (type_of_column table column) (types_of_columns table columns)

-- the types of all columns, in the order in which the table has them
abbrev pub types_data : Map → Data
types_data table = object (types_of_columns table (range_with_len 0 (length table.names)))
