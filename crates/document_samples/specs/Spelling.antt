-- What spells a document, part by part, and what spells none: a place, a length or a size that is one off.
use Rattle.std.specs.Prelude.{pos, codes, Bool, true, false}
use Rattle.binlog_documents.specs.DecimalDigits.{IsDecimal}
use Rattle.binlog_documents.specs.Document.{Document, boolean, integer, text, array, object, no_elements, element, no_members, member}
use Rattle.binlog_documents.specs.Spelling.{Spells}
use Rattle.document_samples.specs.Bytes.{hex}

-- [1,"x"]: 2 elements, 12 bytes; 1 in its entry, "x" at place 10
abbrev pub one_and_x : Document
one_and_x = array (element (integer (pos 1)) (element (text (codes "x")) no_elements))

abbrev pub SmallArray : Type 0
SmallArray = Spells one_and_x (hex "02 02 00 0c 00 05 01 00 0c 0a 00 01 78")

-- {"a":70000}: 1 member, 20 bytes; the key at place 19, its length is 1, and 70000 in its entry
abbrev pub a_is_70000 : Document
a_is_70000 = object (member (codes "a") (integer (pos 70000)) no_members)

abbrev pub LargeObject : Type 0
LargeObject = Spells a_is_70000 (hex "01 01 00 00 00 14 00 00 00 13 00 00 00 01 00 07 70 11 01 00 61")

-- {"a":[true]}: 1 member, 20 bytes; the key at place 11, a byte that is no value's, an array of 7 bytes at place 13, and a byte behind the object
abbrev pub a_is_true : Document
a_is_true = object (member (codes "a") (array (element (boolean Bool.true) no_elements)) no_members)

abbrev pub ObjectWithGap : Type 0
ObjectWithGap = Spells a_is_true (hex "00 01 00 14 00 0b 00 01 00 02 0d 00 61 ff 01 00 07 00 04 01 00 ff")

-- the place of "x" one more and one less, one byte too few in the size, one element too many, the literal 2, and the large layout's type
abbrev pub NotSpelled : Type 0
NotSpelled =
    (Spells one_and_x (hex "02 02 00 0c 00 05 01 00 0c 0b 00 01 78") → ⊥) × (Spells one_and_x (hex "02 02 00 0c 00 05 01 00 0c 09 00 01 78") → ⊥)
    × (Spells one_and_x (hex "02 02 00 0b 00 05 01 00 0c 0a 00 01 78") → ⊥) × (Spells one_and_x (hex "02 03 00 0c 00 05 01 00 0c 0a 00 01 78") → ⊥)
    × (Spells one_and_x (hex "02 02 00 0c 00 05 02 00 0c 0a 00 01 78") → ⊥) × (Spells one_and_x (hex "03 02 00 0c 00 05 01 00 0c 0a 00 01 78") → ⊥)

-- the place of the key one less, its length 2, another key, and the place of the array where the other byte stands
abbrev pub MembersNotSpelled : Type 0
MembersNotSpelled =
    (Spells a_is_70000 (hex "01 01 00 00 00 14 00 00 00 12 00 00 00 01 00 07 70 11 01 00 61") → ⊥)
    × (Spells a_is_70000 (hex "01 01 00 00 00 14 00 00 00 13 00 00 00 02 00 07 70 11 01 00 61") → ⊥)
    × (Spells a_is_70000 (hex "01 01 00 00 00 14 00 00 00 13 00 00 00 01 00 07 70 11 01 00 62") → ⊥)
    × (Spells a_is_true (hex "00 01 00 14 00 0b 00 01 00 02 0c 00 61 ff 01 00 07 00 04 01 00 ff") → ⊥)

-- 1234567.9876543 and -3.14 of ten digits, each in two groups; and the first with another last digit
abbrev pub SpelledDecimals : Type 0
SpelledDecimals =
    IsDecimal false 7 7 (codes "12345679876543") (hex "80 12 d6 87 00 96 b4 3f") × IsDecimal true 8 2 (codes "0000000314") (hex "7f ff ff fc f1")
    × (IsDecimal false 7 7 (codes "12345679876544") (hex "80 12 d6 87 00 96 b4 3f") → ⊥)
