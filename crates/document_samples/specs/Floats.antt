-- The texts of FLOATs by their four bytes, and bytes that have none.
use Prim.Native.String.{String}
use Rattle.std.specs.Prelude.{◌≡◌, codes, Some, None}
use Rattle.float_text.specs.Stored.{stored_text}
use Rattle.document_samples.specs.Bytes.{hex}

-- the bytes of a FLOAT, the lowest first, have this text
abbrev pub Prints : String → String → Type 0
Prints bytes text = stored_text (hex bytes) ≡ Some (codes text)

-- The limits of exponents are those of doubles, though a FLOAT's shortest decimal has fewer digits (Python's float_repr).
abbrev pub GreatFloats : Type 0
GreatFloats = Prints "00 00 16 43" "150.0" × Prints "a9 5f 63 58" "1000000000000000.0" × Prints "ca 1b 0e 5a" "1e+16"

abbrev pub GreatestFloats : Type 0
GreatestFloats = Prints "b4 49 4b 64" "1.5e+22" × Prints "ff ff 7f 7f" "3.4028235e+38"

abbrev pub SmallFloats : Type 0
SmallFloats = Prints "17 b7 d1 38" "0.0001" × Prints "ac c5 27 37" "1e-05" × Prints "cd cc cc bd" "-0.1" × Prints "00 00 00 80" "-0.0"

-- 2^21 + 0.25 and 2^21 + 0.75 lie halfway between two decimals that read back
abbrev pub FloatTies : Type 0
FloatTies = Prints "01 00 00 4a" "2097152.2" × Prints "03 00 00 4a" "2097152.8"

-- the infinities, a NaN, and other lengths
abbrev pub NoFloats : Type 0
NoFloats =
    (stored_text (hex "00 00 80 7f") ≡ None) × (stored_text (hex "00 00 80 ff") ≡ None) × (stored_text (hex "01 00 80 7f") ≡ None)
    × (stored_text (hex "00 00 16") ≡ None) × (stored_text (hex "00 00 16 43 00") ≡ None) × (stored_text (hex "") ≡ None)
