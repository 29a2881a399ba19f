-- Values that have no parts (json_binary.h: literal, number, string, custom-data). Numbers have their lowest byte first.
use Rattle.std.specs.Prelude.{ℕ, zero, suc, pos, ◌+◌, ◌-◌, ◌*◌, ◌%◌, ◌^◌, List, [], ◌∷◌, length, take, drop, Bool, true, false, ◌==◌, nat_lt, nat_le, if◌then◌else◌, Option, Some, None, option_map, option_and_then}
use Rattle.std.specs.Str.{is_utf8}
use Rattle.byteorder.specs.Endian.{little_number, twos_complement}
use Rattle.binlog_documents.specs.Document.{Document, null, boolean, integer, double, text, opaque}

infixl 10 ◌>>=◌
abbrev pub ◌>>=◌ : {A B : Type 0} → Option A → (A → Option B) → Option B
o >>= f = option_and_then f o

-- a document, and how many bytes at the front it takes
abbrev pub Reading : Type 0
Reading = Option (Document × ℕ)

abbrev pub literal_of : ℕ → Option Document
literal_of code = if code == 0 then Some null else (if code == 1 then Some (boolean true) else (if code == 2 then Some (boolean false) else None))

unfoldable pub literal_at : List ℕ → Reading
literal_at [] = None
literal_at (code ∷ bytes) = option_map (λ d. (d, 1)) (literal_of code)

-- what is made of the number of so many bytes
unfoldable pub number_at : ℕ → (ℕ → Document) → List ℕ → Reading
number_at width made bytes = if nat_le width (length bytes) then Some (made (little_number width bytes), width) else None

abbrev pub signed : ℕ → ℕ → Document
signed width n = integer (twos_complement width n)

abbrev pub unsigned : ℕ → Document
unsigned n = integer (pos n)

-- the bits of a double that is neither infinite nor NaN, whatever its sign is
abbrev pub is_finite : ℕ → Bool
is_finite bits = nat_lt (bits % 2 ^ 63) (2047 * 2 ^ 52)

unfoldable pub double_at : List ℕ → Reading
double_at bytes =
    if nat_le 8 (length bytes) then (if is_finite (little_number 8 bytes) then Some (double (little_number 8 bytes), 8) else None) else None

-- A length of at most so many bytes, and how many it takes: seven bits a byte, the lowest first. The top bit says that more follow.
unfoldable pub length_at : ℕ → List ℕ → Option (ℕ × ℕ)
length_at zero bytes = None
length_at (suc n) [] = None
length_at (suc n) (b ∷ bytes) = if nat_lt b 128 then Some (b, 1) else option_map (λ l. (b - 128 + 128 * l.0, l.1 + 1)) (length_at n bytes)

-- the bytes behind their length, which has at most five bytes, and how many both take
unfoldable pub counted_at : List ℕ → Option (List ℕ × ℕ)
counted_at bytes =
    length_at 5 bytes >>= λ l. if nat_le (l.1 + l.0) (length bytes) then Some (take l.0 (drop l.1 bytes), l.1 + l.0) else None

-- the bytes, where they are UTF-8
unfoldable pub utf8_text : List ℕ → Option (List ℕ)
utf8_text bytes = if is_utf8 bytes then Some bytes else None

unfoldable pub text_at : List ℕ → Reading
text_at bytes = counted_at bytes >>= λ c. option_map (λ s. (text s, c.1)) (utf8_text c.0)

unfoldable pub opaque_at : List ℕ → Reading
opaque_at [] = None
opaque_at (kind ∷ bytes) = option_map (λ c. (opaque kind c.0, c.1 + 1)) (counted_at bytes)

-- The value at the front of the bytes, by its type.
unfoldable pub scalar_at : ℕ → List ℕ → Reading
scalar_at kind bytes =
    if kind == 4 then literal_at bytes else (if kind == 5 then number_at 2 (signed 2) bytes else (if kind == 6 then number_at 2 unsigned bytes else
    (if kind == 7 then number_at 4 (signed 4) bytes else (if kind == 8 then number_at 4 unsigned bytes else (if kind == 9 then number_at 8 (signed 8) bytes else
    (if kind == 10 then number_at 8 unsigned bytes else (if kind == 11 then double_at bytes else (if kind == 12 then text_at bytes else
    (if kind == 15 then opaque_at bytes else None)))))))))
