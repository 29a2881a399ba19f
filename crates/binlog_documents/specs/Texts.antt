-- A document as compact JSON.
use Rattle.std.specs.Prelude.{ℕ, List, [], ◌∷◌, ◌++◌, Bool, true, false, Option, option_map, codes, if◌then◌else◌}
use Rattle.std.specs.Fmt.{signed_decimal}
use Rattle.std.specs.Float.{binary64}
use Rattle.json.specs.Print.{quoted}
use Rattle.float_text.specs.Layout.{number_text}
use Rattle.binlog_documents.specs.Opaques.{opaque_text}
use Rattle.binlog_documents.specs.Scalars.{utf8_text}
use Rattle.binlog_documents.specs.Document.{Document, null, boolean, integer, double, text, opaque, array, object, Elements, no_elements, element, Members, no_members, member}

abbrev pub comma_if : Bool → List ℕ
comma_if later = if later then 44 ∷ [] else []

-- bytes as a string, and as a key with its colon, where they are UTF-8
abbrev pub string_text : List ℕ → Option (List ℕ)
string_text bytes = option_map quoted (utf8_text bytes)

abbrev pub key_text : List ℕ → Option (List ℕ)
key_text bytes = option_map (λ k. quoted k ++ 58 ∷ []) (utf8_text bytes)

abbrev pub double_text : ℕ → List ℕ
double_text bits = number_text binary64 bits

abbrev mutual
  pub document_text : Document → List ℕ
  document_text null = codes "null"
  document_text (boolean b) = if b then codes "true" else codes "false"
  document_text (integer z) = signed_decimal z
  document_text (double bits) = double_text bits
  document_text (text s) = quoted s
  document_text (opaque kind bytes) = opaque_text kind bytes
  document_text (array ds) = 91 ∷ (elements_text false ds ++ 93 ∷ [])
  document_text (object ms) = 123 ∷ (members_text false ms ++ 125 ∷ [])

  -- each behind a comma where one stands before it
  pub elements_text : Bool → Elements → List ℕ
  elements_text later no_elements = []
  elements_text later (element d ds) = comma_if later ++ (document_text d ++ elements_text true ds)

  pub members_text : Bool → Members → List ℕ
  members_text later no_members = []
  members_text later (member k d ms) = comma_if later ++ (quoted k ++ (58 ∷ (document_text d ++ members_text true ms)))
