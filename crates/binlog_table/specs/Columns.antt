-- The columns of a table map: types, metadata, signedness (Table_map_event, "Table_table_map_event column types").
use Rattle.std.specs.Prelude.{ℕ, ◌+◌, ◌*◌, ◌/◌, ◌%◌, ◌^◌, ◌-◌, Bool, ◌&&◌, ◌||◌, List, [], ◌∷◌, drop, slice_index, Option, Some, None, Result, Ok, Err, nat_le, ◌==◌, if◌then◌else◌}
use Rattle.std.specs.Int.RustNames.{bit_and, bit_or, bit_xor}
use Rattle.binlog_profile.specs.declared.profile.Profile.{Profile}
use Rattle.binlog_profile.specs.declared.profile.Profile.TheVariants.{Strict, Server}
use Rattle.binlog_table.specs.declared.fault.MapFault.{MapFault}
use Rattle.binlog_table.specs.declared.fault.MapFault.TheVariants.{BadMap, TypeOutOfProfile}
use Rattle.binlog_table.specs.declared.column.Column.{Column}
use Rattle.binlog_table.specs.declared.column.Layout.{Layout}
use Rattle.binlog_table.specs.declared.column.Layout.TheVariants.{Integer, Year, Date, Text, Raw, Float, Bits, Timestamp, DateTime, Time, Decimal, Enum, Set}
use Rattle.binlog_table.specs.MapResult.{◌>>=◌}
use Rattle.binlog_table.specs.TypeCodes.{tiny, short, long, float, double, longlong, int24, date, year, varchar, bit_type, timestamp2, datetime2, time2, json, newdecimal, enum, set, blob, var_string, string, geometry, vector}

-- ---- the layout of a type, by its metadata

-- TINY, SHORT, INT24, LONG, LONGLONG, YEAR and DATE have no metadata
abbrev pub plain_layout : ℕ → Option Layout
plain_layout t =
    if t == tiny then Some (Integer 1) else (if t == short then Some (Integer 2) else (if t == int24 then Some (Integer 3) else
    (if t == long then Some (Integer 4) else (if t == longlong then Some (Integer 8) else
    (if t == year then Some Year else (if t == date then Some Date else None))))))

-- FLOAT, DOUBLE, TIMESTAMP2, DATETIME2, TIME2, BLOB, JSON and GEOMETRY have one byte
abbrev pub has_byte : ℕ → Bool
has_byte t = t == float || (t == double || (t == timestamp2 || (t == datetime2 || (t == time2 || (t == blob || (t == json || t == geometry))))))

abbrev pub some_if : Bool → Layout → Option Layout
some_if test layout = if test then Some layout else None

abbrev pub is_length_width : ℕ → Bool
is_length_width byte = nat_le 1 byte && nat_le byte 4

abbrev pub byte_layout : ℕ → ℕ → Option Layout
byte_layout t byte =
    if t == float then Some (Float 4) else (if t == double then Some (Float 8) else
    (if t == timestamp2 then some_if (nat_le byte 6) (Timestamp byte) else (if t == datetime2 then some_if (nat_le byte 6) (DateTime byte) else
    (if t == time2 then some_if (nat_le byte 6) (Time byte) else
    (if t == blob then some_if (is_length_width byte) (Text byte) else some_if (is_length_width byte) (Raw byte))))))

-- VARCHAR, VAR_STRING, BIT, NEWDECIMAL and STRING have two
abbrev pub has_pair : ℕ → Bool
has_pair t = t == varchar || (t == var_string || (t == bit_type || (t == newdecimal || t == string)))

-- a length up to the greatest one takes one byte up to 255, else two
abbrev pub prefix_len : ℕ → ℕ
prefix_len greatest = if nat_le greatest 255 then 1 else 2

-- BIT: a whole byte for each eight bits, and one for the odd ones
abbrev pub bits_layout : ℕ → ℕ → Option Layout
bits_layout odd whole =
    let width = whole + (odd + 7) / 8 in some_if (nat_le odd 7 && (nat_le 1 width && nat_le width 8)) (Bits width)

abbrev pub decimal_layout : ℕ → ℕ → Option Layout
decimal_layout precision scale =
    some_if (nat_le 1 precision && (nat_le precision 65 && (nat_le scale 30 && nat_le scale precision))) (Decimal (record { precision = precision; scale = scale }))

-- STRING: its real type, and its length, of which two bits may stand in the first byte
abbrev pub real_type : ℕ → ℕ
real_type first = if bit_and first 48 == 48 then first else bit_or first 48

abbrev pub string_len : ℕ → ℕ → ℕ
string_len first second = if bit_and first 48 == 48 then second else bit_or second (bit_xor (bit_and first 48) 48 * 16)

abbrev pub or_bad : {A : Type 0} → Option A → Result A MapFault
or_bad None = Err BadMap
or_bad (Some x) = Ok x

-- CHAR and BINARY, ENUM, SET; other real types aren't read
abbrev pub string_layout : ℕ → ℕ → Result Layout MapFault
string_layout real len =
    if real == string then Ok (Text (prefix_len len)) else
    (if real == enum then or_bad (some_if (len == 1 || len == 2) (Enum len)) else
    (if real == set then or_bad (some_if (len == 1 || (len == 2 || (len == 3 || (len == 4 || len == 8)))) (Set len)) else
    Err (TypeOutOfProfile real)))

abbrev pub pair_layout : ℕ → ℕ → ℕ → Result Layout MapFault
pair_layout t first second =
    if t == bit_type then or_bad (bits_layout first second) else (if t == newdecimal then or_bad (decimal_layout first second) else
    (if t == string then string_layout (real_type first) (string_len first second) else Ok (Text (prefix_len (first + 256 * second)))))

abbrev pub byte_at : List ℕ → Result ℕ MapFault
byte_at [] = Err BadMap
byte_at (byte ∷ rest) = Ok byte

abbrev pub pair_at : List ℕ → Result (ℕ × ℕ) MapFault
pair_at [] = Err BadMap
pair_at (first ∷ []) = Err BadMap
pair_at (first ∷ second ∷ rest) = Ok (first, second)

abbrev pub metadata_layout : ℕ → List ℕ → Result (Layout × ℕ) MapFault
metadata_layout t metadata =
    if has_byte t then (byte_at metadata >>= λ b. or_bad (byte_layout t b) >>= λ l. Ok (l, 1)) else
    (if has_pair t then (pair_at metadata >>= λ p. pair_layout t p.0 p.1 >>= λ l. Ok (l, 2)) else Err (TypeOutOfProfile t))

abbrev pub plain_or : Option Layout → Result (Layout × ℕ) MapFault → Result (Layout × ℕ) MapFault
plain_or (Some l) other = Ok (l, 0)
plain_or None other = other

-- the layout of a type, and how many bytes of the metadata it takes
unfoldable pub layout_at : ℕ → List ℕ → Result (Layout × ℕ) MapFault
layout_at t metadata = plain_or (plain_layout t) (metadata_layout t metadata)

-- By the server's profile a VECTOR stands in a row as a GEOMETRY does: bytes behind a length whose width is the metadata. The strict
-- profile doesn't read the type.
abbrev pub stored_as : Profile → ℕ → ℕ
stored_as Strict t = t
stored_as Server t = if t == vector then geometry else t

-- ---- signedness

-- The types that have a bit of signedness: TINY, SHORT, LONG, FLOAT, DOUBLE, LONGLONG, INT24 and NEWDECIMAL.
-- YEAR isn't among them.
abbrev pub is_numeric : ℕ → Bool
is_numeric t = t == tiny || (t == short || (t == long || (t == float || (t == double || (t == longlong || (t == int24 || t == newdecimal))))))

-- bit j, the highest of each byte first
abbrev pub high_bit : List ℕ → ℕ → Bool
high_bit bytes j = slice_index bytes (j / 8) / 2 ^ (7 - j % 8) % 2 == 1

abbrev pub next_numeric : ℕ → ℕ → ℕ
next_numeric t j = if is_numeric t then j + 1 else j

-- the columns of these types, where j numeric ones stand in front of them; the metadata that is left, and how many are numeric
unfoldable pub columns_at : Profile → List ℕ → List ℕ → List ℕ → ℕ → Result (List Column × (List ℕ × ℕ)) MapFault
columns_at profile [] metadata signs j = Ok ([], (metadata, j))
columns_at profile (t ∷ ts) metadata signs j =
    layout_at (stored_as profile t) metadata >>= λ l. columns_at profile ts (drop l.1 metadata) signs (next_numeric t j) >>= λ r.
    Ok (record { layout = l.0; unsigned = is_numeric t && high_bit signs j } ∷ r.0, r.1)
