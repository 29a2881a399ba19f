-- What a column's value is in JSON.
use Rattle.std.specs.Prelude.{ℕ, ◌-◌, ◌/◌, ◌%◌, ◌^◌, List, [], ◌∷◌, ◌==◌, Bool, if◌then◌else◌, nat_lt, length, codes, Option, Some, None, slice_get}
use Rattle.std.specs.List.{join_with_byte}
use Rattle.std.specs.Str.{is_utf8}
use Rattle.base64.specs.Engines.{standard}
use Rattle.base64.specs.GeneralPurpose.{encode_of}
use Rattle.binlog_json.specs.Json.{Data, null, number, string, object, member, no_members, unsigned}
use Rattle.serde_json.specs.Find.{of_integer}
use Rattle.binlog_table.specs.Value as cell
use Rattle.binlog_table.specs.Value.{Content}
use Rattle.binlog_json.specs.Texts.{padded, decimal_text, date_text, date_time_text, time_text, timestamp_text}

-- an object of one member, whose value is the bytes in base64, with padding
abbrev pub encoded_data : List ℕ → List ℕ → Data
encoded_data name bytes = object (member name (string (encode_of standard bytes)) no_members)

-- text where the bytes are UTF-8
abbrev pub bytes_data : List ℕ → Data
bytes_data bytes = if is_utf8 bytes then string bytes else encoded_data (codes "base64") bytes

abbrev pub whole_number : ℕ → Data
whole_number n = number (unsigned n)

-- the name where there is one, as names are given, else the number
abbrev pub name_by : (List ℕ → Data) → ℕ → Option (List ℕ) → Data
name_by given n None = whole_number n
name_by given n (Some name) = given name

-- A value of an ENUM whose names are known: 0 is the empty name, 1 the first name. A value without a name is its number.
abbrev pub enum_by : (List ℕ → Data) → Option (List (List ℕ)) → ℕ → Data
enum_by given None n = whole_number n
enum_by given (Some names) n = if n == 0 then given [] else name_by given n (slice_get names (n - 1))

abbrev pub enum_data : Option (List (List ℕ)) → ℕ → Data
enum_data names n = enum_by bytes_data names n

-- the names whose bit is set, of which the first has the lowest
abbrev pub members_in : List (List ℕ) → ℕ → List (List ℕ)
members_in [] n = []
members_in (name ∷ names) n = if n % 2 == 1 then name ∷ members_in names (n / 2) else members_in names (n / 2)

-- A value of a SET whose names are known: the names of its bits, as they are given together. A value with a bit that has no name
-- is its number.
abbrev pub set_by : (List (List ℕ) → Data) → Option (List (List ℕ)) → ℕ → Data
set_by given None n = whole_number n
set_by given (Some names) n = if nat_lt n (2 ^ length names) then given (members_in names n) else whole_number n

-- the names, parted by commas
abbrev pub set_data : Option (List (List ℕ)) → ℕ → Data
set_data names n = set_by (λ members. bytes_data (join_with_byte 44 members)) names n

-- The value under the names of its column's values, where there are some. An absent one, which is never asked for, is null.
abbrev pub content_data : Option (List (List ℕ)) → Content → Data
content_data names cell.absent = null
content_data names cell.null = null
content_data names (cell.int z) = number (of_integer z)
content_data names (cell.uint n) = whole_number n
content_data names (cell.decimal d) = string (decimal_text d)
content_data names (cell.year n) = string (padded 4 n)
content_data names (cell.date d) = string (date_text d)
content_data names (cell.date_time t) = string (date_time_text t)
content_data names (cell.time t) = string (time_text t)
content_data names (cell.timestamp t) = string (timestamp_text t)
content_data names (cell.bits n) = whole_number n
content_data names (cell.enum n) = enum_data names n
content_data names (cell.set n) = set_data names n
content_data names (cell.bytes b) = bytes_data b
content_data names (cell.raw b) = encoded_data (codes "raw") b

-- the image doesn't have the column
abbrev pub is_absent : Content → Bool
is_absent cell.absent = Bool.true
is_absent cell.null = Bool.false
is_absent (cell.int z) = Bool.false
is_absent (cell.uint n) = Bool.false
is_absent (cell.decimal d) = Bool.false
is_absent (cell.year n) = Bool.false
is_absent (cell.date d) = Bool.false
is_absent (cell.date_time t) = Bool.false
is_absent (cell.time t) = Bool.false
is_absent (cell.timestamp t) = Bool.false
is_absent (cell.bits n) = Bool.false
is_absent (cell.enum n) = Bool.false
is_absent (cell.set n) = Bool.false
is_absent (cell.bytes b) = Bool.false
is_absent (cell.raw b) = Bool.false
