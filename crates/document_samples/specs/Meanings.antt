-- What documents mean as JSON, and texts that are no JSON.
use Prim.Native.String.{String}
use Rattle.std.specs.Prelude.{◌≡◌, [], ◌∷◌, codes, Bool, Some, None, option_map}
use Rattle.json.specs.Json.{Json, null, boolean, number, string, array, object, no_items, item, no_members, member}
use Rattle.binlog_documents.specs.Containers.{document_at}
use Rattle.binlog_documents.specs.Document.{Document}
use Rattle.binlog_documents.specs.Texts.{document_text}
use Rattle.binlog_documents.specs.AsJson.{json_value, as_json, DocumentsAreJson}
use Rattle.document_samples.specs.Bytes.{hex, utf8, Says}

-- a column's value is a document with this text, JSON reads the text as this value, and the document is this value
abbrev pub Means : String → String → Json → Type 0
Means value text meaning = Says value text × (json_value (utf8 text) ≡ Some meaning) × (option_map as_json (document_at (hex value)) ≡ Some meaning)

abbrev pub JsonScalars : Type 0
JsonScalars =
    Means "" "null" null × Means "04 01" "true" (boolean Bool.true) × Means "04 02" "false" (boolean Bool.false)
    × Means "05 ff ff" "-1" (number (codes "-1")) × Means "0a ff ff ff ff ff ff ff ff" "18446744073709551615" (number (codes "18446744073709551615"))
    × Means "0b 00 00 00 00 00 00 f8 3f" "1.5" (number (codes "1.5")) × Means "0b 00 00 00 00 00 00 00 80" "-0.0" (number (codes "-0.0"))
    × Means "0c 00" "\"\"" (string []) × Means "0c 05 22 0a 1f c3 a9" "\"\\\"\\n\\u001fé\"" (string (0x22 ∷ 0x0a ∷ 0x1f ∷ 0xc3 ∷ 0xa9 ∷ []))

-- a decimal is a number, a date or a time a string, and bytes of other types an object
abbrev pub JsonOpaques : Type 0
JsonOpaques =
    Means "0f f6 07 0a 02 7f ff ff fc f1" "-3.14" (number (codes "-3.14")) × Means "0f f6 03 01 00 87" "7" (number (codes "7"))
    × Means "0f 0a 08 00 00 00 00 00 5e b2 19" "\"2024-01-15\"" (string (codes "2024-01-15"))
    × Means "0f 0b 08 ff ff ff 04 91 cb ff ff" "\"-838:59:59.000001\"" (string (codes "-838:59:59.000001"))
    × Means "0f fc 03 61 ff 62" "{\"base64\":\"Yf9i\",\"type\":252}"
    (object (member (codes "base64") (string (codes "Yf9i")) (member (codes "type") (number (codes "252")) no_members)))
    × Means "0f f6 03 01 00 8a" "{\"base64\":\"AQCK\",\"type\":246}"
    (object (member (codes "base64") (string (codes "AQCK")) (member (codes "type") (number (codes "246")) no_members)))

abbrev pub JsonContainers : Type 0
JsonContainers =
    Means "02 00 00 04 00" "[]" (array no_items) × Means "00 00 00 04 00" "{}" (object no_members)
    × Means "02 06 00 20 00 05 01 00 0c 16 00 02 18 00 04 00 00 07 1c 00 05 fb ff 01 78 00 00 04 00 70 11 01 00" "[1,\"x\",[],null,70000,-5]"
    (array (item (number (codes "1")) (item (string (codes "x")) (item (array no_items) (item null (item (number (codes "70000")) (item (number (codes "-5")) no_items)))))))
    × Means "00 03 00 42 00 19 00 01 00 1a 00 01 00 1b 00 02 00 00 1d 00 02 21 00 0c 3f 00 61 62 61 61 00 00 04 00 02 00 1e 00 04 01 00 00 0a 00 01 00 14 00 0b 00 01 00 0b 0c 00 63 00 00 00 00 00 00 04 40 02 c3 a9" "{\"a\":{},\"b\":[true,{\"c\":2.5}],\"aa\":\"é\"}"
    (object (member (codes "a") (object no_members)
    (member (codes "b") (array (item (boolean Bool.true) (item (object (member (codes "c") (number (codes "2.5")) no_members)) no_items)))
    (member (codes "aa") (string (0xc3 ∷ 0xa9 ∷ [])) no_members))))

abbrev pub NotJson : String → Type 0
NotJson text = json_value (utf8 text) ≡ None

-- texts against the grammar, and one that isn't UTF-8
abbrev pub NoMeanings : Type 0
NoMeanings =
    NotJson "" × NotJson "[1,]" × NotJson "[1 2]" × NotJson "[1" × NotJson "1]" × NotJson "1 2" × NotJson "{\"a\"1}" × NotJson "{\"a\":1,}" × NotJson "{a:1}" × NotJson "{1:1}"
    × NotJson "nul" × NotJson "True" × NotJson "NaN" × NotJson "01" × NotJson "-" × NotJson "+1" × NotJson ".5" × NotJson "1." × NotJson "1e" × NotJson "0x1"
    × NotJson "\"a" × NotJson "'a'" × NotJson "\"\\x\"" × NotJson "\"\n\""
    × (json_value (0x22 ∷ 0xff ∷ 0x22 ∷ []) ≡ None)

-- what the law says of one column's value
abbrev pub JsonByLaw : Type 0
JsonByLaw = DocumentsAreJson → (document : Document) → document_at (hex "05 ff ff") ≡ Some document → json_value (document_text document) ≡ Some (as_json document)
