-- Values that have no parts, each behind its type. Many have a byte behind them that isn't theirs.
use Rattle.std.specs.Prelude.{◌≡◌, ℕ, List, [], ◌∷◌, ◌++◌, map, replicate, Some, None}
use Rattle.std.specs.List.{range_with_len}
use Rattle.binlog_documents.specs.Values.{value_text}
use Rattle.document_samples.specs.Bytes.{Says, IsNone}

-- no value at all is shown as null
abbrev pub Literals : Type 0
Literals =
    Says "" "null" × Says "04 00" "null" × Says "04 01" "true" × Says "04 02" "false" × Says "04 01 ff" "true"
    × IsNone "04 03" × IsNone "04"

-- no other byte is a literal: neither 3 nor 4, and so on to 255
abbrev pub NoLiterals : Type 0
NoLiterals = map (λ code. value_text (0x04 ∷ code ∷ [])) (range_with_len 3 253) ≡ replicate 253 None

abbrev pub Integers : Type 0
Integers =
    Says "05 ff ff 07" "-1" × Says "05 00 80" "-32768" × Says "05 ff 7f" "32767" × IsNone "05 ff"
    × Says "06 ff ff 07" "65535" × IsNone "06 ff"
    × Says "07 00 00 00 80 07" "-2147483648" × Says "07 70 11 01 00" "70000" × IsNone "07 ff ff ff"
    × Says "08 ff ff ff ff 07" "4294967295" × IsNone "08 ff ff ff"
    × Says "09 00 00 00 00 00 00 00 80 07" "-9223372036854775808" × Says "09 00 f2 05 2a 01 00 00 00" "5000000000" × IsNone "09 00 00 00 00 00 00 80"
    × Says "0a ff ff ff ff ff ff ff ff 07" "18446744073709551615" × IsNone "0a ff ff ff ff ff ff ff"

-- infinity and NaN are none
abbrev pub Doubles : Type 0
Doubles =
    Says "0b 00 00 00 00 00 00 f8 3f 07" "1.5" × Says "0b 9a 99 99 99 99 99 b9 3f" "0.1" × Says "0b 00 00 00 00 00 00 00 80" "-0.0"
    × Says "0b ff ff ff ff ff ff ef 7f" "1.7976931348623157e+308" × Says "0b ff ff ff ff ff ff ef ff" "-1.7976931348623157e+308"
    × IsNone "0b 00 00 00 00 00 00 f0 7f" × IsNone "0b 00 00 00 00 00 00 f0 ff" × IsNone "0b 01 00 00 00 00 00 f8 7f" × IsNone "0b 00 00 00 00 00 00 f8"

-- An exponent stands from 1e16 on and below 1e-04, and else `.0` behind a whole number (Python's float_repr).
abbrev pub PointedDoubles : Type 0
PointedDoubles = Says "0b 00 00 00 00 00 c0 62 40" "150.0" × Says "0b 77 be 9f 1a 2f dd 5e 40" "123.456"

abbrev pub GreatDoubles : Type 0
GreatDoubles = Says "0b 00 00 34 26 f5 6b 0c 43" "1000000000000000.0" × Says "0b ff 7f e0 37 79 c3 41 43" "9999999999999998.0"

abbrev pub GreaterDoubles : Type 0
GreaterDoubles = Says "0b 00 80 e0 37 79 c3 41 43" "1e+16" × Says "0b ff 9f d8 85 57 34 76 43" "9.999999999999998e+16" × Says "0b 00 a0 d8 85 57 34 76 43" "1e+17"

abbrev pub LongerExponents : Type 0
LongerExponents = Says "0b 5b c0 74 89 36 69 89 44" "1.5e+22"

abbrev pub SmallDoubles : Type 0
SmallDoubles = Says "0b 2d 43 1c eb e2 36 1a 3f" "0.0001" × Says "0b 69 1d 55 4d 10 75 1f 3f" "0.00012"

abbrev pub SmallerDoubles : Type 0
SmallerDoubles = Says "0b f1 68 e3 88 b5 f8 e4 3e" "1e-05" × Says "0b 76 6b 99 0c c7 f3 19 3f" "9.9e-05"

-- 2^50 + 0.25 and 2^50 + 0.75 lie halfway between two decimals that read back: the even one stands
abbrev pub DoubleTies : Type 0
DoubleTies = Says "0b 01 00 00 00 00 00 10 43" "1125899906842624.2" × Says "0b 03 00 00 00 00 00 10 43" "1125899906842624.8"

-- one letter, so many times
abbrev pub letters : ℕ → List ℕ
letters n = replicate n 97

-- Lengths of one byte to five, and no longer ones. A longer spelling than needed is read, too.
abbrev pub Lengths : Type 0
Lengths =
    Says "0c 00 61" "\"\"" × Says "0c 02 61 62 63" "\"ab\"" × IsNone "0c 03 61 62" × IsNone "0c"
    × (value_text (0x0c ∷ 0x7f ∷ letters 127) ≡ Some (34 ∷ (letters 127 ++ 34 ∷ [])))
    × (value_text (0x0c ∷ 0x80 ∷ 0x01 ∷ letters 129) ≡ Some (34 ∷ (letters 128 ++ 34 ∷ []))) × (value_text (0x0c ∷ 0x80 ∷ 0x01 ∷ letters 127) ≡ None)
    × Says "0c 81 00 61" "\"a\"" × Says "0c 81 80 80 80 00 61" "\"a\"" × IsNone "0c 81 80 80 80 80 00 61" × IsNone "0c 81"

abbrev pub Texts : Type 0
Texts =
    Says "0c 02 c3 a9" "\"é\"" × Says "0c 04 f0 9f 98 80" "\"😀\"" × IsNone "0c 01 c3" × IsNone "0c 01 ff" × IsNone "0c 02 c0 80"
    × Says "0c 0b 22 5c 08 09 0a 0c 0d 00 1f 7f 2f" "\"\\\"\\\\\\b\\t\\n\\f\\r\\u0000\\u001f\u{7f}/\""

abbrev pub NoTypes : Type 0
NoTypes = IsNone "0d 00 00" × IsNone "0e 00 00" × IsNone "10 00 00" × IsNone "ff 00 00"
