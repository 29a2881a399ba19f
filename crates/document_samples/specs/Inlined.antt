-- Numbers of arrays and objects: which of them stand in their entries, and which at a place that their entries say.
use Rattle.std.specs.Prelude.{pos}
use Rattle.binlog_documents.specs.Document.{Document, integer, array, no_elements, element}
use Rattle.binlog_documents.specs.Spelling.{Spells}
use Rattle.document_samples.specs.Bytes.{hex, Says, IsNone}

-- A number of 16 bits stands in its entry, in small ones and in large ones, where two bytes behind it belong to nothing.
abbrev pub NumbersOf16Bits : Type 0
NumbersOf16Bits =
    Says "02 01 00 07 00 06 ff ff" "[65535]" × Says "03 01 00 00 00 0d 00 00 00 06 ff ff 00 00" "[65535]" × Says "03 01 00 00 00 0d 00 00 00 06 0d 00 ff ff" "[13]"
    × Says "00 01 00 0c 00 0b 00 01 00 06 ff ff 61" "{\"a\":65535}" × Says "01 01 00 00 00 14 00 00 00 13 00 00 00 01 00 06 ff ff 00 00 61" "{\"a\":65535}"
    × Says "03 01 00 00 00 0d 00 00 00 05 ff ff 00 00" "[-1]"

-- It doesn't stand at a place: the entry's bytes are the number, also where they would be one.
abbrev pub NoPlaces : Type 0
NoPlaces =
    Says "02 01 00 09 00 06 07 00 ff ff" "[7]" × Says "03 01 00 00 00 0f 00 00 00 06 0d 00 00 00 ff ff" "[13]" × Says "02 01 00 09 00 05 07 00 ff ff" "[7]"
    × Says "03 01 00 00 00 11 00 00 00 08 0d 00 00 00 ff ff ff ff" "[13]" × Says "03 01 00 00 00 11 00 00 00 07 0d 00 00 00 ff ff ff ff" "[13]"

-- A number of 32 bits stands at a place in a small one, and one of 64 bits and a double do so in both.
abbrev pub Places : Type 0
Places =
    Says "02 01 00 0b 00 08 07 00 ff ff ff ff" "[4294967295]" × Says "02 01 00 0b 00 07 07 00 ff ff ff ff" "[-1]"
    × Says "02 01 00 0f 00 0a 07 00 ff ff ff ff ff ff ff ff" "[18446744073709551615]" × Says "03 01 00 00 00 15 00 00 00 0a 0d 00 00 00 ff ff ff ff ff ff ff ff" "[18446744073709551615]"
    × Says "02 01 00 0f 00 09 07 00 ff ff ff ff ff ff ff ff" "[-1]" × Says "03 01 00 00 00 15 00 00 00 09 0d 00 00 00 ff ff ff ff ff ff ff ff" "[-1]"
    × Says "03 01 00 00 00 15 00 00 00 0b 0d 00 00 00 00 00 00 00 00 00 f8 3f" "[1.5]"
    × IsNone "02 01 00 07 00 08 09 00" × IsNone "02 01 00 07 00 07 ff ff" × IsNone "03 01 00 00 00 0d 00 00 00 0a ff ff 00 00" × IsNone "03 01 00 00 00 0d 00 00 00 09 ff ff ff ff"

-- ---- what spells such an array

abbrev pub one_number : Document
one_number = array (element (integer (pos 65535)) no_elements)

abbrev pub SpelledInEntries : Type 0
SpelledInEntries = Spells one_number (hex "02 01 00 07 00 06 ff ff") × Spells one_number (hex "03 01 00 00 00 0d 00 00 00 06 ff ff 00 00")

-- not at a place, nor as a number with a sign
abbrev pub NotSpelledAtPlaces : Type 0
NotSpelledAtPlaces =
    (Spells one_number (hex "02 01 00 09 00 06 07 00 ff ff") → ⊥) × (Spells one_number (hex "03 01 00 00 00 0f 00 00 00 06 0d 00 00 00 ff ff") → ⊥)
    × (Spells one_number (hex "02 01 00 07 00 05 ff ff") → ⊥)
