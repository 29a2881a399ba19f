-- Values of columns, alone, and what their bytes say.
use Prim.Native.String.{String}
use Rattle.std.specs.Prelude.{◌≡◌, ℕ, ◌-◌, pos, negsuc, true, false, List, [], ◌∷◌, ◌++◌, length, take, map, Option, Some, None, Result, Ok, Err, codes}
use Rattle.binlog_profile.specs.declared.profile.Profile.TheVariants.{Strict}
use Rattle.binlog_table.specs.Columns.{columns_at}
use Rattle.binlog_table.specs.Image.{value_at}
use Rattle.binlog_table.specs.Value.{Content}
use Rattle.binlog_table.specs.declared.column.Column.{Column}
use Rattle.binlog_table.specs.declared.fault.MapFault.{MapFault}
use Rattle.binlog_samples.specs.ColumnTypes as types
use Rattle.binlog_samples.specs.Hex.{hex}

-- ---- a column alone

abbrev pub by_first : List Column → List ℕ → Option (Content × ℕ)
by_first [] bytes = None
by_first (column ∷ columns) bytes = value_at column bytes

abbrev pub by_columns : Result (List Column × (List ℕ × ℕ)) MapFault → List ℕ → Option (Content × ℕ)
by_columns (Err fault) bytes = None
by_columns (Ok read) bytes = by_first read.0 bytes

-- what a column of this type, metadata and signedness reads from the front of the bytes, and how many of them it takes
abbrev pub read_by : ℕ → String → List ℕ → List ℕ → Option (Content × ℕ)
read_by type metadata signs bytes = by_columns (columns_at Strict (type ∷ []) (hex metadata) signs 0) bytes

-- these bytes are the value, whatever stands behind them, and with one byte less they are none
abbrev pub Reads : ℕ → String → List ℕ → List ℕ → Content → Type 0
Reads type metadata signs bytes value =
    (read_by type metadata signs (bytes ++ 0xff ∷ []) ≡ Some (value, length bytes)) × (read_by type metadata signs (take (length bytes - 1) bytes) ≡ None)

-- of a type that is signed, or has no sign
abbrev pub Is : ℕ → String → String → Content → Type 0
Is type metadata text value = Reads type metadata (0x00 ∷ []) (hex text) value

abbrev pub IsUnsigned : ℕ → String → String → Content → Type 0
IsUnsigned type metadata text value = Reads type metadata (0x80 ∷ []) (hex text) value

-- there are enough bytes, and they are no value
abbrev pub IsNone : ℕ → String → String → Type 0
IsNone type metadata text = read_by type metadata (0x00 ∷ []) (hex text ++ 0xff ∷ []) ≡ None

-- ---- numbers

abbrev pub Integers : Type 0
Integers =
    Is types.tiny "" "80" (Content.int (negsuc 127)) × IsUnsigned types.tiny "" "80" (Content.uint 128)
    × Is types.short "" "ff ff" (Content.int (negsuc 0)) × IsUnsigned types.short "" "ff ff" (Content.uint 65535)
    × Is types.short "" "01 02" (Content.int (pos 513)) × IsUnsigned types.short "" "01 82" (Content.uint 33281)
    × Is types.int24 "" "00 00 80" (Content.int (negsuc 8388607)) × IsUnsigned types.int24 "" "00 00 80" (Content.uint 8388608)
    × Is types.int24 "" "01 02 03" (Content.int (pos 197121))

abbrev pub WideIntegers : Type 0
WideIntegers =
    Is types.long "" "00 00 00 80" (Content.int (negsuc 2147483647)) × IsUnsigned types.long "" "00 00 00 80" (Content.uint 2147483648)
    × Is types.long "" "01 02 03 04" (Content.int (pos 67305985))
    × Is types.longlong "" "ff ff ff ff ff ff ff ff" (Content.int (negsuc 0))
    × IsUnsigned types.longlong "" "ff ff ff ff ff ff ff ff" (Content.uint 18446744073709551615)
    × Is types.longlong "" "01 02 03 04 05 06 07 08" (Content.int (pos 578437695752307201))
    × Is types.longlong "" "00 00 00 00 00 00 00 80" (Content.int (negsuc 9223372036854775807))

-- their bits as they stand
abbrev pub Floats : Type 0
Floats =
    Is types.float "04" "00 00 c0 3f" (Content.raw (hex "00 00 c0 3f"))
    × Is types.double "08" "00 00 00 00 00 00 f8 3f" (Content.raw (hex "00 00 00 00 00 00 f8 3f"))

-- the odd bits take a byte more; BIT(10), BIT(9), BIT(8), BIT(1) and BIT(64)
abbrev pub BitFields : Type 0
BitFields =
    Is types.bit "02 01" "03 ff" (Content.bits 1023) × Is types.bit "01 01" "01 02" (Content.bits 258) × Is types.bit "00 01" "80" (Content.bits 128)
    × Is types.bit "01 00" "01" (Content.bits 1) × Is types.bit "00 08" "80 00 00 00 00 00 00 01" (Content.bits 9223372036854775809)

-- the lowest byte first
abbrev pub Enums : Type 0
Enums =
    Is types.string "f7 01" "02" (Content.enum 2) × Is types.string "f7 02" "01 02" (Content.enum 513)
    × Is types.string "f7 02" "00 01" (Content.enum 256)

abbrev pub Sets : Type 0
Sets =
    Is types.string "f8 01" "05" (Content.set 5) × Is types.string "f8 02" "01 02" (Content.set 513)
    × Is types.string "f8 03" "01 02 03" (Content.set 197121) × Is types.string "f8 04" "01 02 03 04" (Content.set 67305985)
    × Is types.string "f8 08" "01 02 03 04 05 06 07 88" (Content.set 9801809732607083009)
    × Is types.string "f8 08" "00 00 00 00 00 00 00 80" (Content.set 9223372036854775808)

-- ---- decimals

-- the digits, of which so many stand after the point
abbrev pub digits : String → ℕ → Content
digits text scale = Content.decimal (record { negative = false; digits = map (λ code. code - 48) (codes text); scale = scale })

abbrev pub below_zero : String → ℕ → Content
below_zero text scale = Content.decimal (record { negative = true; digits = map (λ code. code - 48) (codes text); scale = scale })

abbrev pub Decimals : Type 0
Decimals =
    Is types.newdecimal "0e 04" "81 0d fb 38 d2 04 d2" (digits "12345678901234" 4)
    × Is types.newdecimal "0e 04" "7e f2 04 c7 2d fb 2d" (below_zero "12345678901234" 4)
    × Is types.newdecimal "04 02" "80 00" (digits "0000" 2) × Is types.newdecimal "04 02" "7f fe" (below_zero "0001" 2)
    × Is types.newdecimal "02 02" "e3" (digits "99" 2) × Is types.newdecimal "02 02" "81" (digits "01" 2)
    × Is types.newdecimal "02 02" "1c" (below_zero "99" 2)
    × Is types.newdecimal "0a 02" "80 bc 61 4e 5a" (digits "1234567890" 2) × Is types.newdecimal "0a 02" "7f 43 9e b1 a5" (below_zero "1234567890" 2)

-- whole numbers of 1 to 9 digits take 1, 1, 2, 2, 3, 3, 4, 4 and 4 bytes
abbrev pub DecimalGroups : Type 0
DecimalGroups =
    Is types.newdecimal "01 00" "89" (digits "9" 0) × Is types.newdecimal "02 00" "e3" (digits "99" 0)
    × Is types.newdecimal "03 00" "83 e7" (digits "999" 0) × Is types.newdecimal "04 00" "a6 94" (digits "9876" 0)
    × Is types.newdecimal "05 00" "80 ff ff" (digits "65535" 0) × Is types.newdecimal "06 00" "8f 42 3f" (digits "999999" 0)
    × Is types.newdecimal "07 00" "80 12 d6 87" (digits "1234567" 0) × Is types.newdecimal "08 00" "80 bc 61 4e" (digits "12345678" 0)
    × Is types.newdecimal "09 00" "bb 9a c9 ff" (digits "999999999" 0)

abbrev pub DecimalGroupsBelowZero : Type 0
DecimalGroupsBelowZero =
    Is types.newdecimal "01 00" "76" (below_zero "9" 0) × Is types.newdecimal "03 00" "7c 18" (below_zero "999" 0)
    × Is types.newdecimal "05 00" "7f 00 00" (below_zero "65535" 0) × Is types.newdecimal "07 00" "7f ed 29 78" (below_zero "1234567" 0)
    × Is types.newdecimal "09 00" "44 65 36 00" (below_zero "999999999" 0)

-- 35 digits before the point, and 30 behind it
abbrev pub WideDecimals : Type 0
WideDecimals =
    Is types.newdecimal "41 1e" "80 bc 61 4e 35 b7 bf 87 35 0e 34 c0 2f 07 5f 79 28 77 35 f2 21 d9 50 cb 1b 3a 0c 14 01 59"
    (digits "12345678901234567890123456789012345678901234567890123456789012345" 30)
    × Is types.newdecimal "41 1e" "7f 43 9e b1 ca 48 40 78 ca f1 cb 3f d0 f8 a0 86 d7 88 ca 0d de 26 af 34 e4 c5 f3 eb fe a6"
    (below_zero "12345678901234567890123456789012345678901234567890123456789012345" 30)

-- a group that is greater than its digits can say: 100 of two digits, 10 of one, a thousand million of nine
abbrev pub BadDecimals : Type 0
BadDecimals =
    IsNone types.newdecimal "04 02" "e4 00" × IsNone types.newdecimal "04 02" "80 64" × IsNone types.newdecimal "02 02" "e4" × IsNone types.newdecimal "01 00" "8a"
    × IsNone types.newdecimal "09 00" "bb 9a ca 00" × IsNone types.newdecimal "09 00" "44 65 35 ff"

-- ---- texts

-- a prefix of one byte where the greatest length is at most 255, else of two: VARCHAR, VAR_STRING, CHAR, by 80, 255, 256 and 1,020 bytes
abbrev pub Texts : Type 0
Texts =
    Is types.varchar "50 00" "02 ff fe" (Content.bytes (hex "ff fe"))
    × Is types.varchar "ff 00" "01 61" (Content.bytes (codes "a")) × Is types.varchar "00 01" "01 00 61" (Content.bytes (codes "a"))
    × Is types.var_string "ff 00" "01 61" (Content.bytes (codes "a")) × Is types.var_string "00 01" "01 00 61" (Content.bytes (codes "a"))
    × Is types.string "fe ff" "01 61" (Content.bytes (codes "a")) × Is types.string "ee 00" "01 00 61" (Content.bytes (codes "a"))
    × Is types.string "ce fc" "01 00 61" (Content.bytes (codes "a"))

-- a prefix of 1 to 4 bytes
abbrev pub Blobs : Type 0
Blobs =
    Is types.blob "01" "01 61" (Content.bytes (codes "a")) × Is types.blob "02" "01 00 61" (Content.bytes (codes "a"))
    × Is types.blob "03" "01 00 00 61" (Content.bytes (codes "a")) × Is types.blob "04" "02 00 00 00 c3 a9" (Content.bytes (hex "c3 a9"))
    × Is types.json "04" "02 00 00 00 00 01" (Content.raw (hex "00 01")) × Is types.geometry "01" "00" (Content.raw [])
