-- Objects and arrays, and whole documents (json_binary.h). Their numbers have two bytes in small ones and four in large ones.
-- Places in a container count from its first byte:
--   count, size, then for an object a key entry (place, length of two bytes) for each member, then for each element or member a
--   value entry (type, and the value or its place), then keys, then values.
use Rattle.std.specs.Prelude.{ℕ, zero, suc, ◌+◌, ◌*◌, List, [], ◌∷◌, length, take, drop, slice_index, ◌-◌, Bool, ◌==◌, ◌&&◌, ◌||◌, nat_le, if◌then◌else◌, Option, Some, None, option_map}
use Rattle.byteorder.specs.Endian.{little_number}
use Rattle.binlog_documents.specs.Document.{Document, null, array, object, Elements, no_elements, element, Members, no_members, member}
use Rattle.binlog_documents.specs.Scalars.{◌>>=◌, Reading, utf8_text, scalar_at}

-- How many elements or members there are, and the bytes, as many as the size says. What stands in them has to lie within.
pub record Container : Type 0 where
  pub count : ℕ
  pub bytes : List ℕ

-- how many bytes the entries of an element and of a member take together
abbrev pub element_entry : ℕ → ℕ
element_entry width = width + 1

abbrev pub member_entries : ℕ → ℕ
member_entries width = (width + 2) + (width + 1)

-- The container at the front, whose size has room for its entries and is no more than what is there.
unfoldable pub container_at : ℕ → ℕ → List ℕ → Option Container
container_at entry_len width bytes =
    if nat_le (2 * width) (length bytes)
    then (let count = little_number width bytes in let size = little_number width (drop width bytes) in
    if nat_le (2 * width + count * entry_len) size && nat_le size (length bytes) then Some (record { count = count; bytes = take size bytes }) else None)
    else None

-- the types whose values stand in their entries
abbrev pub is_inlined : ℕ → ℕ → Bool
is_inlined width kind = (kind == 4) || ((kind == 5) || ((kind == 6) || ((width == 4) && ((kind == 7) || (kind == 8)))))

-- where the value of the entry at a place stands, in the bytes and not in front of a place
unfoldable pub value_place : ℕ → List ℕ → ℕ → ℕ → Option ℕ
value_place width bytes entry from =
    let place = little_number width (drop (entry + 1) bytes) in if nat_le from place && nat_le place (length bytes) then Some place else None

-- The value of the entry at a place, and where the next value may begin: values stand in the order of their entries, with or without
-- gaps, from a place on.
unfoldable pub value_in : (ℕ → List ℕ → Reading) → ℕ → List ℕ → ℕ → ℕ → Reading
value_in value width bytes entry from =
    let kind = slice_index bytes entry in
    if is_inlined width kind then option_map (λ x. (x.0, from)) (scalar_at kind (drop (entry + 1) bytes))
    else (value_place width bytes entry from >>= λ place. option_map (λ x. (x.0, place + x.1)) (value kind (drop place bytes)))

-- where a key stands, by its entry, and its length
abbrev pub key_entry : ℕ → List ℕ → ℕ → ℕ × ℕ
key_entry width bytes entry = (little_number width (drop entry bytes), little_number 2 (drop (entry + width) bytes))

-- The key of the entry at a place, and where it ends: keys stand in the order of their entries, from a place on.
unfoldable pub key_in : ℕ → List ℕ → ℕ → ℕ → Option (List ℕ × ℕ)
key_in width bytes entry from =
    let place = (key_entry width bytes entry).0 in
    let len = (key_entry width bytes entry).1 in
    if nat_le from place && nat_le (place + len) (length bytes)
    then option_map (λ s. (s, place + len)) (utf8_text (take len (drop place bytes))) else None

-- so many elements, from an entry on
unfoldable pub elements_in : (ℕ → List ℕ → Reading) → ℕ → List ℕ → ℕ → ℕ → ℕ → Option Elements
elements_in value width bytes zero entry from = Some no_elements
elements_in value width bytes (suc n) entry from =
    value_in value width bytes entry from >>= λ x. option_map (element x.0) (elements_in value width bytes n (entry + (width + 1)) x.1)

-- so many members, from an entry of a key and one of a value on
unfoldable pub members_in : (ℕ → List ℕ → Reading) → ℕ → List ℕ → ℕ → ℕ → ℕ → ℕ → ℕ → Option Members
members_in value width bytes zero key_entry keys entry from = Some no_members
members_in value width bytes (suc n) key_entry keys entry from =
    key_in width bytes key_entry keys >>= λ k. value_in value width bytes entry from >>= λ x.
    option_map (member k.0 x.0) (members_in value width bytes n (key_entry + (width + 2)) k.1 (entry + (width + 1)) x.1)

-- all elements: the values stand behind the entries
abbrev pub elements_of : (ℕ → List ℕ → Reading) → ℕ → Container → Option Elements
elements_of value width c = elements_in value width c.bytes c.count (2 * width) (2 * width + c.count * element_entry width)

-- where the last of so many keys ends
abbrev pub keys_end : ℕ → List ℕ → ℕ → ℕ
keys_end width bytes count = let last = key_entry width bytes (2 * width + (count - 1) * (width + 2)) in if count == 0 then 0 else last.0 + last.1

-- all members: the entries of keys stand in front of those of values, the keys behind all entries, the values behind the last key
abbrev pub members_of : (ℕ → List ℕ → Reading) → ℕ → Container → Option Members
members_of value width c =
    members_in value width c.bytes c.count (2 * width) (2 * width + c.count * member_entries width) (2 * width + c.count * (width + 2)) (keys_end width c.bytes c.count)

unfoldable pub array_at : (ℕ → List ℕ → Reading) → ℕ → List ℕ → Reading
array_at value width bytes =
    container_at (element_entry width) width bytes >>= λ c. option_map (λ ds. (array ds, length c.bytes)) (elements_of value width c)

unfoldable pub object_at : (ℕ → List ℕ → Reading) → ℕ → List ℕ → Reading
object_at value width bytes =
    container_at (member_entries width) width bytes >>= λ c. option_map (λ ms. (object ms, length c.bytes)) (members_of value width c)

-- A value at the front of the bytes, by its type, with at most so many objects and arrays in one another.
unfoldable pub value_at : ℕ → ℕ → List ℕ → Reading
value_at zero kind bytes = scalar_at kind bytes
value_at (suc depth) kind bytes =
    if kind == 0 then object_at (value_at depth) 2 bytes else (if kind == 1 then object_at (value_at depth) 4 bytes else
    (if kind == 2 then array_at (value_at depth) 2 bytes else (if kind == 3 then array_at (value_at depth) 4 bytes else scalar_at kind bytes)))

-- MySQL nests no deeper (JSON_DOCUMENT_MAX_DEPTH).
abbrev pub greatest_depth : ℕ
greatest_depth = 100

-- The document that a column's value is: a type, and the value. MySQL shows an empty value, as an INSERT IGNORE leaves it, as null.
unfoldable pub document_at : List ℕ → Option Document
document_at [] = Some null
document_at (kind ∷ bytes) = option_map (λ x. x.0) (value_at greatest_depth kind bytes)
