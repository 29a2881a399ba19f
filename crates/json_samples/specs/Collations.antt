-- The character sets of all collations that a MySQL 9.7.4 tells in `information_schema.collations`.
use Prim.Native.String.{String}
use Rattle.std.specs.Prelude.{◌≡◌, ℕ, List, [], ◌∷◌, ◌++◌, length, map, replicate, Option, Some, None, option_map, codes}
use Rattle.std.specs.List.{range_with_len}
use Rattle.binlog_types.specs.Charsets.{charset_of, charset_name}

abbrev pub names_of : List ℕ → List (Option (List ℕ))
names_of collations = map (λ collation. option_map charset_name (charset_of collation)) collations

-- each of the collations, which may be given from a number on by how many they are, has this character set
abbrev pub Named : String → List ℕ → Type 0
Named name collations = names_of collations ≡ replicate (length collations) (Some (codes name))

abbrev pub Unicode : Type 0
Unicode =
    Named "utf8mb4" (45 ∷ 46 ∷ (range_with_len 224 24 ++ range_with_len 255 69))
    × Named "utf8mb3" (33 ∷ 76 ∷ 83 ∷ range_with_len 192 32)
    × Named "utf16" (54 ∷ 55 ∷ range_with_len 101 24)
    × Named "utf16le" (56 ∷ 62 ∷ [])
    × Named "utf32" (60 ∷ 61 ∷ range_with_len 160 24)
    × Named "ucs2" (35 ∷ 90 ∷ range_with_len 128 32)

abbrev pub WesternLetters : Type 0
WesternLetters =
    Named "latin1" (5 ∷ 8 ∷ 15 ∷ 31 ∷ 47 ∷ 48 ∷ 49 ∷ 94 ∷ [])
    × Named "ascii" (11 ∷ 65 ∷ [])
    × Named "binary" (63 ∷ [])
    × Named "dec8" (3 ∷ 69 ∷ [])
    × Named "hp8" (6 ∷ 72 ∷ [])
    × Named "swe7" (10 ∷ 82 ∷ [])
    × Named "macroman" (39 ∷ 53 ∷ [])
    × Named "cp850" (4 ∷ 80 ∷ [])

abbrev pub OtherLetters : Type 0
OtherLetters =
    Named "latin2" (2 ∷ 9 ∷ 21 ∷ 27 ∷ 77 ∷ [])
    × Named "latin5" (30 ∷ 78 ∷ [])
    × Named "latin7" (20 ∷ 41 ∷ 42 ∷ 79 ∷ [])
    × Named "cp1250" (26 ∷ 34 ∷ 44 ∷ 66 ∷ 99 ∷ [])
    × Named "cp1251" (14 ∷ 23 ∷ 50 ∷ 51 ∷ 52 ∷ [])
    × Named "cp1256" (57 ∷ 67 ∷ [])
    × Named "cp1257" (29 ∷ 58 ∷ 59 ∷ [])
    × Named "cp852" (40 ∷ 81 ∷ [])
    × Named "cp866" (36 ∷ 68 ∷ [])
    × Named "koi8r" (7 ∷ 74 ∷ [])
    × Named "koi8u" (22 ∷ 75 ∷ [])
    × Named "greek" (25 ∷ 70 ∷ [])
    × Named "hebrew" (16 ∷ 71 ∷ [])
    × Named "armscii8" (32 ∷ 64 ∷ [])
    × Named "geostd8" (92 ∷ 93 ∷ [])
    × Named "keybcs2" (37 ∷ 73 ∷ [])
    × Named "macce" (38 ∷ 43 ∷ [])
    × Named "tis620" (18 ∷ 89 ∷ [])

abbrev pub EastAsian : Type 0
EastAsian =
    Named "big5" (1 ∷ 84 ∷ [])
    × Named "gb2312" (24 ∷ 86 ∷ [])
    × Named "gbk" (28 ∷ 87 ∷ [])
    × Named "gb18030" (248 ∷ 249 ∷ 250 ∷ [])
    × Named "sjis" (13 ∷ 88 ∷ [])
    × Named "cp932" (95 ∷ 96 ∷ [])
    × Named "ujis" (12 ∷ 91 ∷ [])
    × Named "eucjpms" (97 ∷ 98 ∷ [])
    × Named "euckr" (19 ∷ 85 ∷ [])

-- numbers that no collation has; those between collations of one character set count as its own
abbrev pub unknown : List ℕ
unknown = 0 ∷ 17 ∷ 100 ∷ 125 ∷ 126 ∷ 127 ∷ range_with_len 184 8 ++ 251 ∷ 252 ∷ 253 ∷ 254 ∷ 324 ∷ 325 ∷ 9999 ∷ 65535 ∷ []

abbrev pub Unknown : Type 0
Unknown = names_of unknown ≡ replicate (length unknown) None
