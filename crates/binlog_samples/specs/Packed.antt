-- Packed numbers, and what their bytes say.
use Prim.Native.String.{String}
use Rattle.std.specs.Prelude.{◌≡◌, ℕ, ◌-◌, [], ◌∷◌, ◌++◌, length, take, Some, None}
use Rattle.binlog_table.specs.Packed.{packed_at}
use Rattle.binlog_samples.specs.Hex.{hex}

-- the bytes are the number, whatever stands behind them, and with one byte less they are none
abbrev pub IsNumber : String → ℕ → Type 0
IsNumber text n =
    (packed_at (hex text ++ 0x07 ∷ []) ≡ Some (n, length (hex text))) × (packed_at (take (length (hex text) - 1) (hex text)) ≡ None)

abbrev pub IsNoNumber : String → Type 0
IsNoNumber text = packed_at (hex text) ≡ None

-- of one byte, of three, four and nine
abbrev pub PackedNumbers : Type 0
PackedNumbers =
    IsNumber "00" 0 × IsNumber "fa" 250 × IsNumber "fc fb 00" 251 × IsNumber "fc 01 02" 513 × IsNumber "fd 01 02 03" 197121
    × IsNumber "fe 01 02 03 04 05 06 07 08" 578437695752307201

-- longer than they need be
abbrev pub LongNumbers : Type 0
LongNumbers = IsNumber "fc 01 00" 1 × IsNumber "fd 01 00 00" 1 × IsNumber "fe 01 00 00 00 00 00 00 00" 1

-- 251 and 255 begin none
abbrev pub NoNumbers : Type 0
NoNumbers = IsNoNumber "fb 01 02 03 04 05 06 07 08" × IsNoNumber "ff 01 02 03 04 05 06 07 08"
