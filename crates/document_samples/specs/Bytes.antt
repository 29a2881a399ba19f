-- Bytes and texts as samples write them.
use Prim.Native.String.{String}
use Rattle.std.specs.Prelude.{ℕ, ◌+◌, ◌-◌, ◌*◌, nat_le, if◌then◌else◌, List, [], ◌∷◌, codes, ◌≡◌, Some, None}
use Rattle.std.specs.Str.{encode_utf8_all}
use Rattle.binlog_documents.specs.Values.{value_text}

-- 0 to 9, then a to f
abbrev pub digit : ℕ → ℕ
digit code = if nat_le code 57 then code - 48 else code - 87

abbrev pub byte : ℕ → ℕ → ℕ
byte high low = digit high * 16 + digit low

-- two digits a byte, and a space between bytes
abbrev pub bytes_by : List ℕ → List ℕ
bytes_by (high ∷ low ∷ space ∷ more) = byte high low ∷ bytes_by more
bytes_by (high ∷ low ∷ []) = byte high low ∷ []
bytes_by (other ∷ []) = []
bytes_by [] = []

abbrev pub hex : String → List ℕ
hex text = bytes_by (codes text)

-- the characters as UTF-8
abbrev pub utf8 : String → List ℕ
utf8 text = encode_utf8_all (codes text)

-- a column's value is a document with this text
abbrev pub Says : String → String → Type 0
Says value json = value_text (hex value) ≡ Some (utf8 json)

-- it is no document
abbrev pub IsNone : String → Type 0
IsNone value = value_text (hex value) ≡ None
