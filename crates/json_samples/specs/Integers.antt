-- Integers by the sign that the server declared, whatever sign the row was read with.
use Prim.Native.String.{String}
use Rattle.std.specs.Prelude.{◌≡◌, ℕ, ℤ, pos, negsuc, Bool, true, false, None, codes}
use Rattle.binlog_json.specs.Json.{compact_text}
use Rattle.binlog_table.specs.Value as cell
use Rattle.binlog_table.specs.Value.{Content}
use Rattle.binlog_types.specs.declared.column_type.ColumnType.{ColumnType}
use Rattle.binlog_json.specs.FullValues.{full_data}

abbrev pub integer : ℕ → Bool → ColumnType
integer code unsigned = record { code = code; size = 0; scale = 0; unsigned = unsigned; charset = None }

-- a value of an integer type has this text
abbrev pub Is : ColumnType → Content → String → Type 0
Is t content text = compact_text (full_data t None content) ≡ codes text

-- it was read with its sign, and is declared as unsigned
abbrev pub Unsigned : ℕ → ℤ → String → Type 0
Unsigned code z text = Is (integer code true) (cell.int z) text

-- it was read without a sign, and is declared as signed
abbrev pub Signed : ℕ → ℕ → String → Type 0
Signed code n text = Is (integer code false) (cell.uint n) text

-- it was read as it is declared
abbrev pub Kept : ℕ → ℤ → ℕ → String → String → Type 0
Kept code z n below above = Is (integer code false) (cell.int z) below × Is (integer code true) (cell.uint n) above

-- ---- TINYINT, SMALLINT, MEDIUMINT, INT, BIGINT: zero, the greatest signed number and the number after it, the greatest number

abbrev pub Tiny : Type 0
Tiny =
    Unsigned 1 (pos 0) "0" × Unsigned 1 (pos 127) "127" × Unsigned 1 (negsuc 127) "128" × Unsigned 1 (negsuc 55) "200" × Unsigned 1 (negsuc 0) "255"
    × Signed 1 0 "0" × Signed 1 127 "127" × Signed 1 128 "-128" × Signed 1 200 "-56" × Signed 1 255 "-1" × Kept 1 (negsuc 127) 255 "-128" "255"

abbrev pub Small : Type 0
Small =
    Unsigned 2 (pos 0) "0" × Unsigned 2 (pos 32767) "32767" × Unsigned 2 (negsuc 32767) "32768" × Unsigned 2 (negsuc 0) "65535" × Signed 2 0 "0"
    × Signed 2 32767 "32767" × Signed 2 32768 "-32768" × Signed 2 65535 "-1" × Kept 2 (negsuc 32767) 65535 "-32768" "65535"

abbrev pub Medium : Type 0
Medium =
    Unsigned 9 (pos 0) "0" × Unsigned 9 (pos 8388607) "8388607" × Unsigned 9 (negsuc 8388607) "8388608" × Unsigned 9 (negsuc 0) "16777215" × Signed 9 0 "0"
    × Signed 9 8388607 "8388607" × Signed 9 8388608 "-8388608" × Signed 9 16777215 "-1" × Kept 9 (negsuc 8388607) 16777215 "-8388608" "16777215"

-- among them 4,000,000,000
abbrev pub Long : Type 0
Long =
    Unsigned 3 (pos 0) "0" × Unsigned 3 (pos 2147483647) "2147483647" × Unsigned 3 (negsuc 2147483647) "2147483648" × Unsigned 3 (negsuc 294967295) "4000000000"
    × Unsigned 3 (negsuc 0) "4294967295" × Signed 3 0 "0" × Signed 3 2147483647 "2147483647" × Signed 3 2147483648 "-2147483648" × Signed 3 4294967295 "-1"
    × Kept 3 (negsuc 2147483647) 4294967295 "-2147483648" "4294967295"

-- among them -5
abbrev pub LongLong : Type 0
LongLong =
    Unsigned 8 (pos 0) "0" × Unsigned 8 (pos 9223372036854775807) "9223372036854775807" × Unsigned 8 (negsuc 9223372036854775807) "9223372036854775808"
    × Unsigned 8 (negsuc 0) "18446744073709551615" × Signed 8 0 "0" × Signed 8 9223372036854775807 "9223372036854775807"
    × Signed 8 9223372036854775808 "-9223372036854775808" × Signed 8 18446744073709551611 "-5" × Signed 8 18446744073709551615 "-1"
    × Kept 8 (negsuc 9223372036854775807) 18446744073709551615 "-9223372036854775808" "18446744073709551615"
