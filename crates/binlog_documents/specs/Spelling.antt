-- The bytes that spell a document, as json_binary.h lays them out: what parts they have, one behind the other. Nothing here reads.
--   doc ::= type value
use Rattle.std.specs.Prelude.{◌≡◌, ℕ, suc, ℤ, pos, ◌+◌, ◌-◌, ◌*◌, ◌<◌, ◌≤◌, ◌⊎◌, max, List, [], ◌∷◌, ◌++◌, length, true, false, if◌then◌else◌}
use Rattle.byteorder.specs.Endian.{little_number, twos_complement}
use Rattle.binlog_documents.specs.Document.{Document, null, boolean, integer, double, text, opaque, array, object, Elements, no_elements, element, Members, no_members, member}
use Rattle.binlog_documents.specs.Scalars.{is_finite}
use Rattle.binlog_documents.specs.Containers.{is_inlined, greatest_depth}
use Rattle.std.specs.Str.{is_utf8}

-- ---- values that have no parts, by their types and bytes

--   literal ::= 0x00 | 0x01 | 0x02
abbrev pub IsLiteral : ℕ → ℕ → List ℕ → Type 0
IsLiteral code kind bytes = (kind ≡ 4) × (bytes ≡ code ∷ [])

-- a number of so many bytes, the lowest first, with a sign and without one
abbrev pub IsSigned : ℕ → ℤ → List ℕ → Type 0
IsSigned width z bytes = (length bytes ≡ width) × (z ≡ twos_complement width (little_number width bytes))

abbrev pub IsUnsigned : ℕ → ℤ → List ℕ → Type 0
IsUnsigned width z bytes = (length bytes ≡ width) × (z ≡ pos (little_number width bytes))

--   number ::= int16, uint16, int32, uint32, int64, uint64
abbrev pub IsInteger : ℤ → ℕ → List ℕ → Type 0
IsInteger z kind bytes =
    ((kind ≡ 5) × IsSigned 2 z bytes) ⊎ (((kind ≡ 6) × IsUnsigned 2 z bytes)
    ⊎ (((kind ≡ 7) × IsSigned 4 z bytes) ⊎ (((kind ≡ 8) × IsUnsigned 4 z bytes)
    ⊎ (((kind ≡ 9) × IsSigned 8 z bytes) ⊎ ((kind ≡ 10) × IsUnsigned 8 z bytes)))))

-- a double, by its bits: neither infinite nor NaN
abbrev pub IsDouble : ℕ → ℕ → List ℕ → Type 0
IsDouble bits kind bytes = (kind ≡ 11) × (length bytes ≡ 8) × (bits ≡ little_number 8 bytes) × (is_finite bits ≡ true)

--   data-length ::= uint8*
-- Seven bits a byte, the lowest first; the top bit says that more follow.
abbrev pub IsLength : ℕ → List ℕ → Type 0
IsLength n [] = ⊥
IsLength n (byte ∷ more) =
    ((byte < 128) × (n ≡ byte) × (more ≡ []))
    ⊎ ((above : ℕ) × (128 ≤ byte) × (n ≡ byte - 128 + 128 * above) × IsLength above more)

-- a length of at most five bytes, and as many bytes as it says
abbrev pub IsCounted : List ℕ → List ℕ → Type 0
IsCounted content bytes = (len : List ℕ) × (bytes ≡ len ++ content) × (length len ≤ 5) × IsLength (length content) len

--   string ::= data-length utf8mb4-data
abbrev pub IsText : List ℕ → ℕ → List ℕ → Type 0
IsText content kind bytes = (kind ≡ 12) × (is_utf8 content ≡ true) × IsCounted content bytes

--   custom-data ::= custom-type data-length binary-data
abbrev pub IsOpaque : ℕ → List ℕ → ℕ → List ℕ → Type 0
IsOpaque own_type content kind bytes = (counted : List ℕ) × (kind ≡ 15) × (bytes ≡ own_type ∷ counted) × IsCounted content counted

-- ---- objects and arrays: their numbers have two bytes in small ones and four in large ones

-- a type is that of the small ones, or that of the large ones, which is the next
abbrev pub HasWidth : ℕ → ℕ → ℕ → Type 0
HasWidth small kind width = ((kind ≡ small) × (width ≡ 2)) ⊎ ((kind ≡ small + 1) × (width ≡ 4))

abbrev pub IsNumber : ℕ → ℕ → List ℕ → Type 0
IsNumber width n bytes = (length bytes ≡ width) × (little_number width bytes ≡ n)

--   value-entry ::= type offset-or-inlined-value
-- The value itself, at the front of what stands behind its type: it takes nothing of the values.
pub record IsInlined (spells : ℕ → List ℕ → Type 0) (width place : ℕ) (entry values : List ℕ) (next : ℕ) (others : List ℕ) : Type 0 where
  pub kind : ℕ
  pub value : List ℕ
  pub unused : List ℕ
  pub whole : entry ≡ kind ∷ (value ++ unused)
  pub fills : length (value ++ unused) ≡ width
  pub small : is_inlined width kind ≡ true
  pub spelled : spells kind value
  pub stays : next ≡ place
  pub leaves : others ≡ values

-- Where the value stands: at the front of the values, behind bytes that belong to none.
pub record IsPlaced (spells : ℕ → List ℕ → Type 0) (width place : ℕ) (entry values : List ℕ) (next : ℕ) (others : List ℕ) : Type 0 where
  pub kind : ℕ
  pub offset : List ℕ
  pub gap : List ℕ
  pub value : List ℕ
  pub whole : entry ≡ kind ∷ offset
  pub large : is_inlined width kind ≡ false
  pub apart : values ≡ gap ++ (value ++ others)
  pub points : IsNumber width (place + length gap) offset
  pub spelled : spells kind value
  pub ends : next ≡ place + length gap + length value

-- The entry of a value, in front of the values from a place on, and the other values, from the next place on.
abbrev pub IsEntry : (ℕ → List ℕ → Type 0) → ℕ → ℕ → List ℕ → List ℕ → ℕ → List ℕ → Type 0
IsEntry spells width place entry values next others = IsInlined spells width place entry values next others ⊎ IsPlaced spells width place entry values next others

--   key-entry ::= key-offset key-length
-- Keys stand in the order of their entries, behind bytes that belong to none. The last one ends where the keys end. A server sorts them, the
-- shorter ones first; what it doesn't write, keys in another order and equal ones, is spelled, too.
abbrev pub AreKeys : List (List ℕ) → ℕ → ℕ → List ℕ → List ℕ → Type 0
AreKeys [] width place entries keys = (entries ≡ []) × (keys ≡ [])
AreKeys (key ∷ others) width place entries keys =
    (offset : List ℕ) × (len : List ℕ) × (more : List ℕ) × (gap : List ℕ) × (behind : List ℕ)
    × (entries ≡ offset ++ (len ++ more)) × (keys ≡ gap ++ (key ++ behind))
    × IsNumber width (place + length gap) offset × IsNumber 2 (length key) len × (is_utf8 key ≡ true)
    × AreKeys others width (place + length gap + length key) more behind

--   array ::= element-count size value-entry* value*
pub record IsArray (elements : ℕ → List ℕ → List ℕ → Type 0) (number width : ℕ) (bytes : List ℕ) : Type 0 where
  pub count : List ℕ
  pub size : List ℕ
  pub entries : List ℕ
  pub values : List ℕ
  pub whole : bytes ≡ count ++ (size ++ (entries ++ values))
  pub counts : IsNumber width number count
  pub sizes : IsNumber width (length bytes) size
  pub spelled : elements (2 * width + length entries) entries values

--   object ::= element-count size key-entry* value-entry* key* value*
pub record IsObject (names : List (List ℕ)) (members : ℕ → List ℕ → List ℕ → Type 0) (width : ℕ) (bytes : List ℕ) : Type 0 where
  pub count : List ℕ
  pub size : List ℕ
  pub key_entries : List ℕ
  pub entries : List ℕ
  pub keys : List ℕ
  pub values : List ℕ
  pub whole : bytes ≡ count ++ (size ++ (key_entries ++ (entries ++ (keys ++ values))))
  pub counts : IsNumber width (length names) count
  pub sizes : IsNumber width (length bytes) size
  pub named : AreKeys names width (2 * width + (length key_entries + length entries)) key_entries keys
  pub spelled : members (2 * width + (length key_entries + (length entries + length keys))) entries values

abbrev pub elements_count : Elements → ℕ
elements_count no_elements = 0
elements_count (element d ds) = suc (elements_count ds)

abbrev pub keys_of : Members → List (List ℕ)
keys_of no_members = []
keys_of (member k d ms) = k ∷ keys_of ms

-- ---- values, by their types and bytes

abbrev mutual
  pub SpellsValue : Document → ℕ → List ℕ → Type 0
  SpellsValue null kind bytes = IsLiteral 0 kind bytes
  SpellsValue (boolean b) kind bytes = IsLiteral (if b then 1 else 2) kind bytes
  SpellsValue (integer z) kind bytes = IsInteger z kind bytes
  SpellsValue (double bits) kind bytes = IsDouble bits kind bytes
  SpellsValue (text content) kind bytes = IsText content kind bytes
  SpellsValue (opaque own_type content) kind bytes = IsOpaque own_type content kind bytes
  SpellsValue (array ds) kind bytes = (width : ℕ) × HasWidth 2 kind width × IsArray (AreElements ds width) (elements_count ds) width bytes
  SpellsValue (object ms) kind bytes = (width : ℕ) × HasWidth 0 kind width × IsObject (keys_of ms) (AreMembers ms width) width bytes

  -- The elements of an array: their entries, and their values from a place on. Behind the last one may stand bytes that belong to none.
  pub AreElements : Elements → ℕ → ℕ → List ℕ → List ℕ → Type 0
  AreElements no_elements width place entries values = entries ≡ []
  AreElements (element d ds) width place entries values =
      (entry : List ℕ) × (more : List ℕ) × (next : ℕ) × (others : List ℕ)
      × (entries ≡ entry ++ more) × IsEntry (SpellsValue d) width place entry values next others × AreElements ds width next more others

  -- the values of an object's members in the same way
  pub AreMembers : Members → ℕ → ℕ → List ℕ → List ℕ → Type 0
  AreMembers no_members width place entries values = entries ≡ []
  AreMembers (member k d ms) width place entries values =
      (entry : List ℕ) × (more : List ℕ) × (next : ℕ) × (others : List ℕ)
      × (entries ≡ entry ++ more) × IsEntry (SpellsValue d) width place entry values next others × AreMembers ms width next more others

-- how many arrays and objects stand in one another
abbrev mutual
  pub nesting : Document → ℕ
  nesting null = 0
  nesting (boolean b) = 0
  nesting (integer z) = 0
  nesting (double bits) = 0
  nesting (text content) = 0
  nesting (opaque own_type content) = 0
  nesting (array ds) = suc (elements_nesting ds)
  nesting (object ms) = suc (members_nesting ms)

  pub elements_nesting : Elements → ℕ
  elements_nesting no_elements = 0
  elements_nesting (element d ds) = max (nesting d) (elements_nesting ds)

  pub members_nesting : Members → ℕ
  members_nesting no_members = 0
  members_nesting (member k d ms) = max (nesting d) (members_nesting ms)

-- A column's value: a type, the value, and behind it maybe bytes that belong to none. MySQL shows an empty value as null.
abbrev pub Spells : Document → List ℕ → Type 0
Spells document [] = document ≡ null
Spells document (kind ∷ bytes) =
    (value : List ℕ) × (behind : List ℕ) × (bytes ≡ value ++ behind) × (nesting document ≤ greatest_depth) × SpellsValue document kind value
