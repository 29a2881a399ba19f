-- Documents as JSON values, in the words of the library `json`: what their texts are, by JSON's own grammar.
use Rattle.std.specs.Prelude.{◌≡◌, ℕ, ◌<◌, ◌^◌, List, ◌==◌, ◌&&◌, ◌||◌, if◌then◌else◌, All, drop, length, Option, Some, None, option_map, unwrap_or, codes, decimal}
use Rattle.std.specs.Str.{is_utf8}
use Rattle.std.specs.Fmt.{signed_decimal}
use Rattle.base64.specs.Engines.{standard}
use Rattle.base64.specs.GeneralPurpose.{encode_of}
use Rattle.byteorder.specs.Endian.{little_number}
use Rattle.json.specs.Json as json
use Rattle.json.specs.Json.{Json}
use Rattle.binlog_documents.specs.Document.{Document, null, boolean, integer, double, text, opaque, array, object, Elements, no_elements, element, Members, no_members, member}
use Rattle.binlog_documents.specs.Opaques.{is_shown, shown_text, decimal_opaque}
use Rattle.binlog_documents.specs.Texts.{double_text, document_text}
use Rattle.binlog_documents.specs.Containers.{document_at}

-- the value that a text is, where it is JSON: in UTF-8, and by the grammar
abbrev pub json_value : List ℕ → Option Json
json_value bytes = if is_utf8 bytes then json.document bytes else None

-- bytes in base64, and their type
abbrev pub encoded_json : ℕ → List ℕ → Json
encoded_json kind bytes =
    json.object
    (json.member (codes "base64") (json.string (encode_of standard bytes)) (json.member (codes "type") (json.number (decimal kind)) json.no_members))

-- a decimal is a number
abbrev pub decimal_json : List ℕ → Option Json
decimal_json bytes = option_map json.number (decimal_opaque bytes)

-- a date or a time is a string
abbrev pub time_json : ℕ → List ℕ → Option Json
time_json kind bytes =
    let n = little_number 8 bytes in
    if (length bytes == 8) && is_shown kind n then Some (json.string (shown_text kind n)) else None

abbrev pub opaque_json : ℕ → List ℕ → Json
opaque_json kind bytes =
    if kind == 246 then unwrap_or (decimal_json bytes) (encoded_json kind bytes)
    else (if (kind == 7) || ((kind == 10) || ((kind == 11) || (kind == 12))) then unwrap_or (time_json kind bytes) (encoded_json kind bytes)
    else encoded_json kind bytes)

abbrev mutual
  pub as_json : Document → Json
  as_json null = json.null
  as_json (boolean b) = json.boolean b
  as_json (integer z) = json.number (signed_decimal z)
  as_json (double bits) = json.number (double_text bits)
  as_json (text s) = json.string s
  as_json (opaque kind bytes) = opaque_json kind bytes
  as_json (array ds) = json.array (elements_json ds)
  as_json (object ms) = json.object (members_json ms)

  pub elements_json : Elements → json.Items
  elements_json no_elements = json.no_items
  elements_json (element d ds) = json.item (as_json d) (elements_json ds)

  pub members_json : Members → json.Members
  members_json no_members = json.no_members
  members_json (member k d ms) = json.member k (as_json d) (members_json ms)

-- The value that is read in a text is that of the document which a column's value is, and none is where it is no document.
abbrev pub IsJsonOf : List ℕ → List ℕ → Type 0
IsJsonOf value bytes = json_value bytes ≡ option_map as_json (document_at value)

-- the same of what was appended
abbrev pub AppendsJson : List ℕ → List ℕ → List ℕ → Type 0
AppendsJson value old new = IsJsonOf value (drop (length old) new)

-- The text of each document that bytes spell is JSON, and the value that is read there is the document's, as above. Of a double or a
-- decimal that says only that its text (`double_text`, `decimal_opaque`) is a number of JSON. DoublesReadBack and DecimalDigits say which.
abbrev pub DocumentsAreJson : Type 0
DocumentsAreJson =
    (bytes : List ℕ) (document : Document) → All (λ b. b < 2 ^ 8) bytes → document_at bytes ≡ Some document → json_value (document_text document) ≡ Some (as_json document)
