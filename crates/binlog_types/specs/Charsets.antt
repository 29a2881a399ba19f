-- The character sets of collations. MySQL's manual, "Supported Character Sets and Collations"; `information_schema.collations`.
use Rattle.std.specs.Prelude.{ℕ, List, [], ◌∷◌, Option, Some, None, nat_le, ◌&&◌, codes, if◌then◌else◌}
use Rattle.binlog_types.specs.declared.charsets.Charset.{Charset}
use Rattle.binlog_types.specs.declared.charsets.Charset.TheVariants as charsets
use Rattle.binlog_types.specs.declared.charsets.Encoding.{Encoding}
use Rattle.binlog_types.specs.declared.charsets.Encoding.TheVariants as encodings
use Rattle.binlog_types.specs.declared.charsets.TheConstants.{COLLATIONS}
use Rattle.binlog_types.specs.declared.character_tables.TheConstants.{ARMSCII8, CP1250, CP1251, CP1256, CP1257, CP850, CP852, CP866, DEC8, GEOSTD8, GREEK, HEBREW, HP8, KEYBCS2, KOI8R, KOI8U, LATIN1, LATIN2, LATIN5, LATIN7, MACCE, MACROMAN, SWE7, TIS620}

-- the first range that has the collation
abbrev pub charset_in : List (ℕ × ℕ × Charset) → ℕ → Option Charset
charset_in [] collation = None
charset_in (range ∷ ranges) collation =
    if nat_le range.0 collation && nat_le collation range.1 then Some range.2 else charset_in ranges collation

-- the character set of a collation, by the table of those that a server has
unfoldable pub charset_of : ℕ → Option Charset
charset_of collation = charset_in COLLATIONS collation

-- how texts are to be read: MySQL's utf8mb3 and ascii are read as UTF-8, and ucs2 as UTF-16; others by their table, where they have one
abbrev pub encoding_of : Charset → Encoding
encoding_of charsets.Utf8mb4 = encodings.Utf8
encoding_of charsets.Utf8mb3 = encodings.Utf8
encoding_of charsets.Ascii = encodings.Utf8
encoding_of charsets.Utf16 = encodings.Utf16
encoding_of charsets.Ucs2 = encodings.Utf16
encoding_of charsets.Utf16le = encodings.Utf16le
encoding_of charsets.Utf32 = encodings.Utf32
encoding_of charsets.Binary = encodings.Binary
encoding_of other = encodings.ByTable other

-- the code points of a set's bytes, where each of its characters has one byte
unfoldable pub character_table : Charset → Option (List ℕ)
character_table charsets.Armscii8 = Some ARMSCII8
character_table charsets.Cp1250 = Some CP1250
character_table charsets.Cp1251 = Some CP1251
character_table charsets.Cp1256 = Some CP1256
character_table charsets.Cp1257 = Some CP1257
character_table charsets.Cp850 = Some CP850
character_table charsets.Cp852 = Some CP852
character_table charsets.Cp866 = Some CP866
character_table charsets.Dec8 = Some DEC8
character_table charsets.Geostd8 = Some GEOSTD8
character_table charsets.Greek = Some GREEK
character_table charsets.Hebrew = Some HEBREW
character_table charsets.Hp8 = Some HP8
character_table charsets.Keybcs2 = Some KEYBCS2
character_table charsets.Koi8r = Some KOI8R
character_table charsets.Koi8u = Some KOI8U
character_table charsets.Latin1 = Some LATIN1
character_table charsets.Latin2 = Some LATIN2
character_table charsets.Latin5 = Some LATIN5
character_table charsets.Latin7 = Some LATIN7
character_table charsets.Macce = Some MACCE
character_table charsets.Macroman = Some MACROMAN
character_table charsets.Swe7 = Some SWE7
character_table charsets.Tis620 = Some TIS620
character_table other = None

abbrev pub charset_name : Charset → List ℕ
charset_name charsets.Armscii8 = codes "armscii8"
charset_name charsets.Ascii = codes "ascii"
charset_name charsets.Big5 = codes "big5"
charset_name charsets.Binary = codes "binary"
charset_name charsets.Cp1250 = codes "cp1250"
charset_name charsets.Cp1251 = codes "cp1251"
charset_name charsets.Cp1256 = codes "cp1256"
charset_name charsets.Cp1257 = codes "cp1257"
charset_name charsets.Cp850 = codes "cp850"
charset_name charsets.Cp852 = codes "cp852"
charset_name charsets.Cp866 = codes "cp866"
charset_name charsets.Cp932 = codes "cp932"
charset_name charsets.Dec8 = codes "dec8"
charset_name charsets.Eucjpms = codes "eucjpms"
charset_name charsets.Euckr = codes "euckr"
charset_name charsets.Gb18030 = codes "gb18030"
charset_name charsets.Gb2312 = codes "gb2312"
charset_name charsets.Gbk = codes "gbk"
charset_name charsets.Geostd8 = codes "geostd8"
charset_name charsets.Greek = codes "greek"
charset_name charsets.Hebrew = codes "hebrew"
charset_name charsets.Hp8 = codes "hp8"
charset_name charsets.Keybcs2 = codes "keybcs2"
charset_name charsets.Koi8r = codes "koi8r"
charset_name charsets.Koi8u = codes "koi8u"
charset_name charsets.Latin1 = codes "latin1"
charset_name charsets.Latin2 = codes "latin2"
charset_name charsets.Latin5 = codes "latin5"
charset_name charsets.Latin7 = codes "latin7"
charset_name charsets.Macce = codes "macce"
charset_name charsets.Macroman = codes "macroman"
charset_name charsets.Sjis = codes "sjis"
charset_name charsets.Swe7 = codes "swe7"
charset_name charsets.Tis620 = codes "tis620"
charset_name charsets.Ucs2 = codes "ucs2"
charset_name charsets.Ujis = codes "ujis"
charset_name charsets.Utf16 = codes "utf16"
charset_name charsets.Utf16le = codes "utf16le"
charset_name charsets.Utf32 = codes "utf32"
charset_name charsets.Utf8mb3 = codes "utf8mb3"
charset_name charsets.Utf8mb4 = codes "utf8mb4"
