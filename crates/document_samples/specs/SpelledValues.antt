-- What spells values of each type, containers of more than one member, and documents of any depth; and what is one off.
use Rattle.std.specs.Prelude.{pos, negsuc, codes, [], ◌∷◌, true, false}
use Rattle.binlog_documents.specs.Document.{Document, null, boolean, integer, double, text, opaque, array, object, no_elements, element, no_members, member}
use Rattle.binlog_documents.specs.Spelling.{Spells}
use Rattle.document_samples.specs.Bytes.{hex}
use Rattle.document_samples.specs.Shapes.{nested, nested_document}

-- ---- values that have no parts, some with a byte behind them

-- no value at all spells null, and no other literal does
abbrev pub SpelledLiterals : Type 0
SpelledLiterals =
    Spells null [] × Spells null (hex "04 00 07") × Spells (boolean true) (hex "04 01") × Spells (boolean false) (hex "04 02")
    × (Spells null (hex "04 01") → ⊥) × (Spells (boolean true) (hex "04 02") → ⊥) × (Spells (boolean false) (hex "04 03") → ⊥) × (Spells (boolean false) [] → ⊥)

abbrev pub SpelledIntegers : Type 0
SpelledIntegers =
    Spells (integer (negsuc 0)) (hex "05 ff ff 07") × Spells (integer (pos 65535)) (hex "06 ff ff 07") × Spells (integer (negsuc 2147483647)) (hex "07 00 00 00 80 07")
    × Spells (integer (pos 4294967295)) (hex "08 ff ff ff ff 07") × Spells (integer (negsuc 0)) (hex "09 ff ff ff ff ff ff ff ff 07")
    × Spells (integer (pos 18446744073709551615)) (hex "0a ff ff ff ff ff ff ff ff 07")

-- neither with the other sign nor without a byte
abbrev pub IntegersNotSpelled : Type 0
IntegersNotSpelled =
    (Spells (integer (pos 65535)) (hex "05 ff ff") → ⊥) × (Spells (integer (negsuc 0)) (hex "06 ff ff") → ⊥) × (Spells (integer (negsuc 0)) (hex "08 ff ff ff ff") → ⊥)
    × (Spells (integer (pos 65535)) (hex "06 ff") → ⊥) × (Spells (integer (pos 65535)) (hex "08 ff ff 00") → ⊥) × (Spells (integer (pos 65535)) (hex "0a ff ff 00 00 00 00 00") → ⊥)

-- 1.5; but infinity and NaN are no documents
abbrev pub SpelledDoubles : Type 0
SpelledDoubles =
    Spells (double 0x3ff8000000000000) (hex "0b 00 00 00 00 00 00 f8 3f 07") × (Spells (double 0x7ff0000000000000) (hex "0b 00 00 00 00 00 00 f0 7f") → ⊥)
    × (Spells (double 0x7ff8000000000001) (hex "0b 01 00 00 00 00 00 f8 7f") → ⊥)

-- Lengths of one byte, and longer spellings of it, up to five bytes. A text is UTF-8, and opaque bytes are any.
abbrev pub SpelledTexts : Type 0
SpelledTexts =
    Spells (text (codes "ab")) (hex "0c 02 61 62 07") × Spells (text (codes "ab")) (hex "0c 82 00 61 62") × Spells (text (codes "a")) (hex "0c 81 80 80 80 00 61")
    × Spells (opaque 252 (0x61 ∷ 0xff ∷ [])) (hex "0f fc 02 61 ff 07")
    × (Spells (text (codes "a")) (hex "0c 81 80 80 80 80 00 61") → ⊥) × (Spells (text (codes "ab")) (hex "0c 03 61 62") → ⊥) × (Spells (text (0xff ∷ [])) (hex "0c 01 ff") → ⊥)
    × (Spells (opaque 252 (0x61 ∷ 0xff ∷ [])) (hex "0f fc 03 61 ff") → ⊥)

-- ---- containers

abbrev pub minus_one : Document
minus_one = array (element (integer (negsuc 0)) no_elements)

abbrev pub two_members : Document
two_members = object (member (codes "a") (integer (pos 1)) (member (codes "b") (integer (pos 2)) no_members))

-- [-1]: 64 bits at place 13 of a large array of 21 bytes. {"a":1,"b":2}: keys at 18 and 20, and a byte between them that is no key's.
abbrev pub SpelledContainers : Type 0
SpelledContainers =
    Spells minus_one (hex "03 01 00 00 00 15 00 00 00 09 0d 00 00 00 ff ff ff ff ff ff ff ff")
    × Spells two_members (hex "00 02 00 15 00 12 00 01 00 14 00 01 00 05 01 00 05 02 00 61 ff 62") × Spells (array no_elements) (hex "03 00 00 00 00 08 00 00 00")
    × Spells (object no_members) (hex "00 00 00 04 00")

-- The value in its entry, which has no room for it, and one byte too far. The keys in the other order, at one place, and not UTF-8.
abbrev pub ContainersNotSpelled : Type 0
ContainersNotSpelled =
    (Spells minus_one (hex "03 01 00 00 00 0d 00 00 00 09 ff ff ff ff") → ⊥) × (Spells minus_one (hex "03 01 00 00 00 15 00 00 00 09 0e 00 00 00 ff ff ff ff ff ff ff ff") → ⊥)
    × (Spells two_members (hex "00 02 00 14 00 13 00 01 00 12 00 01 00 05 01 00 05 02 00 62 61") → ⊥)
    × (Spells (object (member (codes "a") (integer (pos 1)) (member (codes "a") (integer (pos 2)) no_members))) (hex "00 02 00 14 00 12 00 01 00 12 00 01 00 05 01 00 05 02 00 61 61") → ⊥)
    × (Spells (object (member (0xff ∷ []) (integer (pos 1)) no_members)) (hex "00 01 00 0c 00 0b 00 01 00 05 01 00 ff") → ⊥)

-- a hundred arrays in one another, and not one more
abbrev pub SpelledDepths : Type 0
SpelledDepths = Spells (nested_document 100) (nested 100) × (Spells (nested_document 101) (nested 101) → ⊥)
