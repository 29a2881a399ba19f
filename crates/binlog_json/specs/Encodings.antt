-- Texts by the encoding of their character set, as UTF-8.
-- MySQL's source: strings/ctype-simple.cc, strings/ctype-ucs2.cc and strings/ctype-utf8.cc.
use Rattle.std.specs.Prelude.{ℕ, ◌+◌, ◌*◌, List, [], ◌∷◌, ◌++◌, map, get_or, Option, Some, None, option_map, option_and_then, if◌then◌else◌}
use Rattle.std.specs.Borrow.{Bor}
use Rattle.std.specs.Char.{encode_utf8}
use Rattle.std.specs.Char.Utf16.{utf16_lossy_chars, has_unpaired_surrogate}
use Rattle.std.specs.Str.{encode_utf8_all, is_utf8}
use lib.Utf8.{scalar}
use Rattle.binlog_types.specs.Charsets.{character_table}
use Rattle.binlog_types.specs.declared.charsets.Encoding.{Encoding}
use Rattle.binlog_types.specs.declared.charsets.Encoding.TheVariants.{Utf8, Utf16, Utf16le, Utf32, Binary, ByTable}
use Rattle.binlog_json.specs.declared.encodings.ByteOrder.{ByteOrder}
use Rattle.binlog_json.specs.declared.encodings.ByteOrder.TheVariants.{HighFirst, LowFirst}

-- ---- one byte for each character

-- the characters of bytes, by the code points that a table has at their places, where each is a character's
unfoldable pub text_by : List ℕ → List ℕ → Option (List ℕ)
text_by table [] = Some []
text_by table (byte ∷ bytes) =
    if scalar (get_or table byte 0) then option_map (λ text. encode_utf8 (get_or table byte 0) ++ text) (text_by table bytes) else None

-- ---- UTF-16

-- the unit of two bytes, by the order in which they stand
abbrev pub unit_in : ByteOrder → ℕ → ℕ → ℕ
unit_in HighFirst first second = 256 * first + second
unit_in LowFirst first second = 256 * second + first

-- the units of two bytes each, where no byte is left
unfoldable pub units_of : ByteOrder → List ℕ → Option (List ℕ)
units_of order [] = Some []
units_of order (first ∷ []) = None
units_of order (first ∷ second ∷ bytes) = option_map (λ units. unit_in order first second ∷ units) (units_of order bytes)

-- their characters, where surrogates stand in pairs
abbrev pub utf16_text : List ℕ → Option (List ℕ)
utf16_text units = if has_unpaired_surrogate units then None else Some (encode_utf8_all (utf16_lossy_chars units))

abbrev pub utf16_in : ByteOrder → List ℕ → Option (List ℕ)
utf16_in order bytes = option_and_then utf16_text (units_of order bytes)

-- ---- UTF-32

abbrev pub utf32_code : ℕ → ℕ → ℕ → ℕ → ℕ
utf32_code a b c d = 16777216 * a + 65536 * b + 256 * c + d

-- the characters of four bytes each, where each of them is one, and no byte is left
unfoldable pub utf32_text : List ℕ → Option (List ℕ)
utf32_text [] = Some []
utf32_text (a ∷ b ∷ c ∷ d ∷ bytes) =
    if scalar (utf32_code a b c d) then option_map (λ text. encode_utf8 (utf32_code a b c d) ++ text) (utf32_text bytes) else None
utf32_text other = None

-- ---- all

-- the text of bytes in an encoding, where they are one
abbrev pub decoded : Encoding → List ℕ → Option (List ℕ)
decoded Utf8 bytes = if is_utf8 bytes then Some bytes else None
decoded Utf16 bytes = utf16_in HighFirst bytes
decoded Utf16le bytes = utf16_in LowFirst bytes
decoded Utf32 bytes = utf32_text bytes
decoded Binary bytes = None
decoded (ByTable charset) bytes = option_and_then (λ table. text_by table bytes) (character_table charset)

-- the texts of all, where each is one
abbrev pub all_decoded : Encoding → List (List ℕ) → Option (List (List ℕ))
all_decoded encoding [] = Some []
all_decoded encoding (bytes ∷ more) = option_and_then (λ text. option_map (λ texts. text ∷ texts) (all_decoded encoding more)) (decoded encoding bytes)

-- a comma in an encoding
abbrev pub comma_in : Encoding → List ℕ
comma_in Utf16 = 0 ∷ 44 ∷ []
comma_in Utf16le = 44 ∷ 0 ∷ []
comma_in Utf32 = 0 ∷ 0 ∷ 0 ∷ 44 ∷ []
comma_in _ = 44 ∷ []

-- with something between each two
abbrev pub joined_by : List ℕ → List (List ℕ) → List ℕ
joined_by between [] = []
joined_by between (first ∷ []) = first
joined_by between (first ∷ second ∷ more) = first ++ (between ++ joined_by between (second ∷ more))

-- the texts of all, parted by commas, where each is one
abbrev pub joined_text : Encoding → List (List ℕ) → Option (List ℕ)
joined_text encoding texts = option_map (joined_by (44 ∷ [])) (all_decoded encoding texts)

-- what lent texts say
abbrev pub texts_of : List (Bor (List ℕ)) → List (List ℕ)
texts_of lent = map (λ text. text.now) lent
