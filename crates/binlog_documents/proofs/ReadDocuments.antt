-- What bytes spell has a JSON value whose numbers are numbers and whose texts are UTF-8, and that isn't deep.
use Rattle.std.proofs.Common.{◌≡◌, ℕ, zero, suc, ◌+◌, ◌*◌, ◌-◌, ◌^◌, ◌<◌, ◌≤◌, ◌==◌, ◌&&◌, ◌||◌, Bool, true, false, cond, List, [], ◌∷◌, ◌++◌, length, take, drop, get_or, codes, nat_le, Option, Some, None, option_map, unwrap_or, refl, arith}
use Rattle.std.specs.Prelude.{slice_index}
use Rattle.std.specs.List.{AllByRecursion}
use Rattle.std.specs.Str.{IsUtf8, is_utf8}
use Rattle.std.proofs.lemmas.Str.{IsUtf8-from_ascii, IsUtf8-from_is_utf8}
use Rattle.byteorder.specs.Endian.{little_number, little_from, big_number}
use Rattle.base64.specs.Engines.{standard}
use Rattle.base64.proofs.EngineFacts.{IsAscii-encode_of}
use Rattle.json.specs.Token.{Token}
use Rattle.json.specs.Json as json
use Rattle.json.specs.Json.{Json}
use Rattle.json.specs.Print.{IsNumber, token_text}
use Rattle.json.specs.Tree.{json_tokens, items_tokens, members_tokens, depth, items_depth, members_depth, HasNumbers, ItemsHaveNumbers, MembersHaveNumbers}
use Rattle.json.proofs.Printed.Decimals.{IsNumber-decimal}
use Rattle.json.proofs.Printed.Utf8.{IsUtf8-are_ascii, IsUtf8-quoted, IsUtf8-key, IsUtf8-boolean}
use Rattle.binlog_documents.specs.Document.{Document, null, boolean, double, text, opaque, array, object, Elements, element, Members, member}
use Rattle.binlog_documents.specs.Scalars.{◌>>=◌, Reading, literal_at, number_at, signed, unsigned, is_finite, double_at, counted_at, utf8_text, text_at, opaque_at, scalar_at}
use Rattle.binlog_documents.specs.Opaques.{groups, group_len, digits_in, has_precision, scaled_text, decimal_opaque, shown_text, is_shown, padded}
use Rattle.binlog_documents.specs.Containers.{Container, element_entry, member_entries, container_at, is_inlined, value_place, value_in, key_in, elements_in, members_in, elements_of, members_of, array_at, object_at, value_at}
use Rattle.binlog_documents.specs.AsJson.{as_json, elements_json, members_json, encoded_json, decimal_json, time_json, opaque_json}
use Rattle.binlog_documents.proofs.Digits.{AreDigits, both, padded_digits}
use Rattle.binlog_documents.proofs.NumberTexts.{signed_number, scaled_number, number_ascii}
use Rattle.binlog_documents.proofs.PrintedDocuments.{shown_plain}
use Rattle.binlog_documents.proofs.FloatNumbers.{double_number}

-- ---- bytes, and numbers of few of them

abbrev pub AreBytes : List ℕ → Type 0
AreBytes bytes = AllByRecursion (λ b. b < 2 ^ 8) bytes

pub bytes_by_index : (bytes : List ℕ) → ((place : ℕ) → get_or bytes place 0 < 256) → AreBytes bytes
bytes_by_index [] each = tt
bytes_by_index (b ∷ bytes) each = (each 0, bytes_by_index bytes (λ place. each (suc place)))

front_bytes : (n : ℕ) (bytes : List ℕ) → AreBytes bytes → AreBytes (take n bytes)
front_bytes zero bytes p = tt
front_bytes (suc n) [] p = tt
front_bytes (suc n) (b ∷ bytes) p = (p.0, front_bytes n bytes p.1)

bytes_behind : (n : ℕ) (bytes : List ℕ) → AreBytes bytes → AreBytes (drop n bytes)
bytes_behind zero bytes p = p
bytes_behind (suc n) [] p = tt
bytes_behind (suc n) (b ∷ bytes) p = bytes_behind n bytes p.1

byte_at : (bytes : List ℕ) (place : ℕ) → AreBytes bytes → get_or bytes place 0 < 256
byte_at [] place p = omega arith
byte_at (b ∷ bytes) zero p = p.0
byte_at (b ∷ bytes) (suc place) p = byte_at bytes place p.1

two_bytes : (bytes : List ℕ) → AreBytes bytes → little_number 2 bytes ≤ 65535
two_bytes bytes p = omega (arith, byte_at bytes 0 p, byte_at bytes 1 p)

four_bytes : (bytes : List ℕ) (place : ℕ) → AreBytes bytes → little_from place 4 bytes ≤ 4294967295
four_bytes bytes place p =
    omega (arith, byte_at bytes place p, byte_at bytes (suc place) p, byte_at bytes (suc (suc place)) p, byte_at bytes (suc (suc (suc place))) p)

eight_bytes : (bytes : List ℕ) → AreBytes bytes → little_number 8 bytes ≤ 18446744073709551615
eight_bytes bytes p = omega (arith, four_bytes bytes 0 p, four_bytes bytes 4 p)

-- ---- values

abbrev pub AreTexts : List Token → Type 0
AreTexts [] = Unit {0}
AreTexts (t ∷ ts) = IsUtf8 (token_text t) × AreTexts ts

both_texts : (ts us : List Token) → AreTexts ts → AreTexts us → AreTexts (ts ++ us)
both_texts [] us p q = q
both_texts (t ∷ ts) us p q = (p.0, both_texts ts us p.1 q)

pub record IsSound (most : ℕ) (value : Json) : Type 0 where
  pub numbers : HasNumbers value
  pub shallow : depth value ≤ most
  pub texts : AreTexts (json_tokens value)

record AreSound (most : ℕ) (items : json.Items) : Type 0 where
  numbers : ItemsHaveNumbers items
  shallow : items_depth items ≤ most
  texts : AreTexts (items_tokens items)

record HasSound (most : ℕ) (members : json.Members) : Type 0 where
  numbers : MembersHaveNumbers members
  shallow : members_depth members ≤ most
  texts : AreTexts (members_tokens members)

pub sound_null : (most : ℕ) → IsSound most json.null
sound_null most = record { numbers = tt; shallow = omega arith; texts = (IsUtf8-are_ascii _ refl, tt) }

truth : (most : ℕ) (b : Bool) → IsSound most (json.boolean b)
truth most b = record { numbers = tt; shallow = omega arith; texts = (IsUtf8-boolean b, tt) }

number : (most : ℕ) (s : List ℕ) → IsNumber s → IsSound most (json.number s)
number most s p = record { numbers = p; shallow = omega arith; texts = (IsUtf8-from_ascii s (number_ascii s p), tt) }

string : (most : ℕ) (s : List ℕ) → IsUtf8 s → IsSound most (json.string s)
string most s p = record { numbers = tt; shallow = omega arith; texts = (IsUtf8-quoted s p, tt) }

no_items : (most : ℕ) → AreSound most json.no_items
no_items most = record { numbers = tt; shallow = omega arith; texts = (IsUtf8-are_ascii _ refl, tt) }

item : (most : ℕ) (v : Json) (vs : json.Items) → IsSound most v → AreSound most vs → AreSound most (json.item v vs)
item most v vs p q = record { numbers = (p.numbers, q.numbers); shallow = omega (arith, p.shallow, q.shallow); texts = both_texts _ _ p.texts q.texts }

no_members_sound : (most : ℕ) → HasSound most json.no_members
no_members_sound most = record { numbers = tt; shallow = omega arith; texts = (IsUtf8-are_ascii _ refl, tt) }

member_sound : (most : ℕ) (k : List ℕ) (v : Json) (vs : json.Members) → IsUtf8 k → IsSound most v → HasSound most vs → HasSound most (json.member k v vs)
member_sound most k v vs t p q = record {
  numbers = (p.numbers, q.numbers);
  shallow = omega (arith, p.shallow, q.shallow);
  texts = (IsUtf8-key k t, both_texts _ _ p.texts q.texts);
}

items_sound : (most : ℕ) (vs : json.Items) → AreSound most vs → IsSound (suc most) (json.array vs)
items_sound most vs p = record { numbers = p.numbers; shallow = omega (arith, p.shallow); texts = (IsUtf8-are_ascii _ refl, p.texts) }

object_of : (most : ℕ) (vs : json.Members) → HasSound most vs → IsSound (suc most) (json.object vs)
object_of most vs p = record { numbers = p.numbers; shallow = omega (arith, p.shallow); texts = (IsUtf8-are_ascii _ refl, p.texts) }

-- ---- values of other types

encoded : (most kind : ℕ) (bytes : List ℕ) → kind < 256 → IsSound (suc most) (encoded_json kind bytes)
encoded most kind bytes small =
    object_of most _
    (member_sound most (codes "base64") _ _ (IsUtf8-are_ascii _ refl) (string most _ (IsUtf8-from_ascii _ (IsAscii-encode_of standard bytes)))
    (member_sound most (codes "type") _ _ (IsUtf8-are_ascii _ refl) (number most _ (IsNumber-decimal kind (omega arith))) (no_members_sound most)))

abbrev OnDigits : Option (List ℕ) → Type 0
OnDigits None = Unit {0}
OnDigits (Some ds) = AreDigits ds

record DigitsIn (o : Option (List ℕ)) : Type 0 where
  has : OnDigits o

digits_behind : (ds : List ℕ) (o : Option (List ℕ)) → AreDigits ds → DigitsIn o → DigitsIn (option_map (λ more. ds ++ more) o)
digits_behind ds None p q = record { has = tt }
digits_behind ds (Some more) p q = record { has = both ds more p q.has }

digits_chosen : (b : Bool) (o : Option (List ℕ)) → DigitsIn o → DigitsIn (cond b o None)
digits_chosen true o p = p
digits_chosen false o p = record { has = tt }

group_digits : (empty : Bool) (count n : ℕ) → AreDigits (cond empty [] (padded count n))
group_digits true count n = tt
group_digits false count n = padded_digits count n

digits_found : (counts bytes : List ℕ) → DigitsIn (digits_in counts bytes)
unfolding digits_in
digits_found [] bytes = digits_chosen (length bytes == 0) (Some []) (record { has = tt })
digits_found (count ∷ more) bytes =
    digits_chosen _ _ (digits_behind _ _ (group_digits (count == 0) count (big_number (group_len count) bytes)) (digits_found more (drop (group_len count) bytes)))

abbrev OnValue : ℕ → Option Json → Type 0
OnValue most None = Unit {0}
OnValue most (Some v) = IsSound most v

record SoundValue (most : ℕ) (o : Option Json) : Type 0 where
  has : OnValue most o

value_chosen : (most : ℕ) (b : Bool) (o : Option Json) → SoundValue most o → SoundValue most (cond b o None)
value_chosen most true o p = p
value_chosen most false o p = record { has = tt }

scaled : (most : ℕ) (negative : Bool) (count : ℕ) (o : Option (List ℕ)) → DigitsIn o → SoundValue most (option_map json.number (option_map (scaled_text negative count) o))
scaled most negative count None p = record { has = tt }
scaled most negative count (Some ds) p = record { has = number most _ (scaled_number negative count ds p.has) }

precise : (most : ℕ) (b : Bool) (o : Option (List ℕ)) → SoundValue most (option_map json.number o) → SoundValue most (option_map json.number (cond b o None))
precise most true o p = p
precise most false o p = record { has = tt }

decimal_sound : (most : ℕ) (bytes : List ℕ) → SoundValue most (decimal_json bytes)
unfolding decimal_opaque
decimal_sound most [] = record { has = tt }
decimal_sound most (precision ∷ []) = record { has = tt }
decimal_sound most (precision ∷ scale ∷ bytes) = precise most (has_precision precision scale) _ (scaled most _ (precision - scale) _ (digits_found (groups (precision - scale) scale) _))

time_sound : (most kind : ℕ) (bytes : List ℕ) → SoundValue most (time_json kind bytes)
time_sound most kind bytes =
    let n = little_number 8 bytes in
    value_chosen most ((length bytes == 8) && is_shown kind n) (Some (json.string (shown_text kind n)))
    (record { has = string most (shown_text kind n) (IsUtf8-from_ascii _ (shown_plain kind n).ascii) })

value_or : (most : ℕ) (o : Option Json) (v : Json) → SoundValue most o → IsSound most v → IsSound most (unwrap_or o v)
value_or most None v p q = q
value_or most (Some found) v p q = p.has

either : (most : ℕ) (b : Bool) (v w : Json) → IsSound most v → IsSound most w → IsSound most (cond b v w)
either most true v w p q = p
either most false v w p q = q

opaque_value : (most kind : ℕ) (bytes : List ℕ) → kind < 256 → IsSound (suc most) (opaque_json kind bytes)
opaque_value most kind bytes small =
    let other = encoded most kind bytes small in
    either (suc most) (kind == 246) _ _ (value_or (suc most) (decimal_json bytes) _ (decimal_sound (suc most) bytes) other)
    (either (suc most) ((kind == 7) || ((kind == 10) || ((kind == 11) || (kind == 12)))) _ _ (value_or (suc most) (time_json kind bytes) _ (time_sound (suc most) kind bytes) other) other)

-- ---- values without parts

abbrev pub OnReading : ℕ → Reading → Type 0
OnReading most None = Unit {0}
OnReading most (Some x) = IsSound most (as_json x.0)

pub record Sound (most : ℕ) (r : Reading) : Type 0 where
  pub has : OnReading most r

nothing : (most : ℕ) → Sound most None
nothing most = record { has = tt }

chosen : (most : ℕ) (b : Bool) (x y : Reading) → Sound most x → Sound most y → Sound most (cond b x y)
chosen most true x y p q = p
chosen most false x y p q = q

moved : (most : ℕ) (f : ℕ → ℕ) (r : Reading) → Sound most r → Sound most (option_map (λ x. (x.0, f x.1)) r)
moved most f None p = nothing most
moved most f (Some x) p = record { has = p.has }

literal_sound : (most : ℕ) (bytes : List ℕ) → Sound most (literal_at bytes)
unfolding literal_at
literal_sound most [] = nothing most
literal_sound most (code ∷ bytes) = at (code == 0) (code == 1) (code == 2)
  where
    at : (a b c : Bool) → Sound most (option_map (λ d. (d, 1)) (cond a (Some null) (cond b (Some (boolean true)) (cond c (Some (boolean false)) None))))
    at true b c = record { has = sound_null most }
    at false true c = record { has = truth most true }
    at false false true = record { has = truth most false }
    at false false false = nothing most

number_sound : (most width : ℕ) (made : ℕ → Document) (bytes : List ℕ) → IsSound most (as_json (made (little_number width bytes))) → Sound most (number_at width made bytes)
unfolding number_at
number_sound most width made bytes p = chosen most (nat_le width (length bytes)) _ None (record { has = p }) (nothing most)

double_sound : (most : ℕ) (bytes : List ℕ) → Sound most (double_at bytes)
unfolding double_at
double_sound most bytes = chosen most (nat_le 8 (length bytes)) _ None (at (is_finite (little_number 8 bytes)) refl) (nothing most)
  where
    at : (b : Bool) → is_finite (little_number 8 bytes) ≡ b → Sound most (cond b (Some (double (little_number 8 bytes), 8)) None)
    at true e = record { has = number most _ (double_number (little_number 8 bytes) e) }
    at false e = nothing most

abbrev OnKey : Option (List ℕ × ℕ) → Type 0
OnKey None = Unit {0}
OnKey (Some k) = IsUtf8 k.0

record SoundKey (o : Option (List ℕ × ℕ)) : Type 0 where
  has : OnKey o

key_chosen : (b : Bool) (o : Option (List ℕ × ℕ)) → SoundKey o → SoundKey (cond b o None)
key_chosen true o p = p
key_chosen false o p = record { has = tt }

-- bytes that are text, and where they end
utf8_sound : (bytes : List ℕ) (end : ℕ) → SoundKey (option_map (λ s. (s, end)) (utf8_text bytes))
unfolding utf8_text
utf8_sound bytes end = at (is_utf8 bytes) refl
  where
    at : (b : Bool) → is_utf8 bytes ≡ b → SoundKey (option_map (λ s. (s, end)) (cond b (Some bytes) None))
    at true e = record { has = IsUtf8-from_is_utf8 bytes e }
    at false e = record { has = tt }

text_made : (most : ℕ) (o : Option (List ℕ)) (end : ℕ) → SoundKey (option_map (λ s. (s, end)) o) → Sound most (option_map (λ s. (text s, end)) o)
text_made most None end p = nothing most
text_made most (Some s) end p = record { has = string most s p.has }

text_sound : (most : ℕ) (bytes : List ℕ) → Sound most (text_at bytes)
unfolding text_at
text_sound most bytes = at (counted_at bytes)
  where
    at : (o : Option (List ℕ × ℕ)) → Sound most (o >>= λ c. option_map (λ s. (text s, c.1)) (utf8_text c.0))
    at None = nothing most
    at (Some c) = text_made most (utf8_text c.0) c.1 (utf8_sound c.0 c.1)

opaque_sound : (most : ℕ) (bytes : List ℕ) → AreBytes bytes → Sound (suc most) (opaque_at bytes)
unfolding opaque_at
opaque_sound most [] b = nothing (suc most)
opaque_sound most (kind ∷ bytes) b = at (counted_at bytes)
  where
    at : (o : Option (List ℕ × ℕ)) → Sound (suc most) (option_map (λ c. (opaque kind c.0, c.1 + 1)) o)
    at None = nothing (suc most)
    at (Some c) = record { has = opaque_value most kind c.0 b.0 }

scalar_sound : (most kind : ℕ) (bytes : List ℕ) → AreBytes bytes → Sound (suc most) (scalar_at kind bytes)
unfolding scalar_at
scalar_sound below kind bytes b =
    let most = suc below in
    let two = two_bytes bytes b in
    let four = four_bytes bytes 0 b in
    let eight = eight_bytes bytes b in
    chosen most (kind == 4) _ _ (literal_sound most bytes)
    (chosen most (kind == 5) _ _ (number_sound most 2 (signed 2) bytes (number most _ (signed_number (little_number 2 bytes) (2 ^ 15) 65535 two (omega arith) (omega arith))))
    (chosen most (kind == 6) _ _ (number_sound most 2 unsigned bytes (number most _ (IsNumber-decimal (little_number 2 bytes) (omega arith))))
    (chosen most (kind == 7) _ _ (number_sound most 4 (signed 4) bytes (number most _ (signed_number (little_number 4 bytes) (2 ^ 31) 4294967295 four (omega arith) (omega arith))))
    (chosen most (kind == 8) _ _ (number_sound most 4 unsigned bytes (number most _ (IsNumber-decimal (little_number 4 bytes) (omega arith))))
    (chosen most (kind == 9) _ _ (number_sound most 8 (signed 8) bytes (number most _ (signed_number (little_number 8 bytes) (2 ^ 63) 18446744073709551615 eight (omega arith) (omega arith))))
    (chosen most (kind == 10) _ _ (number_sound most 8 unsigned bytes (number most _ (IsNumber-decimal (little_number 8 bytes) (omega arith))))
    (chosen most (kind == 11) _ _ (double_sound most bytes) (chosen most (kind == 12) _ _ (text_sound most bytes)
    (chosen most (kind == 15) _ None (opaque_sound below bytes b) (nothing most))))))))))

-- ---- arrays and objects

key_sound : (width : ℕ) (bytes : List ℕ) (entry from : ℕ) → SoundKey (key_in width bytes entry from)
unfolding key_in
key_sound width bytes entry from = key_chosen _ _ (utf8_sound _ _)

-- a reader of values, all of which are so
record AllSound (most : ℕ) (value : ℕ → List ℕ → Reading) : Type 0 where
  each : (kind : ℕ) (bytes : List ℕ) → AreBytes bytes → Sound most (value kind bytes)

placed : (most : ℕ) (o : Option ℕ) (read : ℕ → Reading) → ((place : ℕ) → Sound most (read place)) → Sound most (o >>= read)
placed most None read p = nothing most
placed most (Some place) read p = p place

abbrev OnItems : ℕ → Option Elements → Type 0
OnItems most None = Unit {0}
OnItems most (Some ds) = AreSound most (elements_json ds)

record SoundElements (most : ℕ) (o : Option Elements) : Type 0 where
  has : OnItems most o

abbrev OnMembers : ℕ → Option Members → Type 0
OnMembers most None = Unit {0}
OnMembers most (Some ms) = HasSound most (members_json ms)

record SoundMembers (most : ℕ) (o : Option Members) : Type 0 where
  has : OnMembers most o

abbrev OnContainer : Option Container → Type 0
OnContainer None = Unit {0}
OnContainer (Some c) = AreBytes c.bytes

record SoundContainer (o : Option Container) : Type 0 where
  has : OnContainer o

container_sound : (entry_len width : ℕ) (bytes : List ℕ) → AreBytes bytes → SoundContainer (container_at entry_len width bytes)
unfolding container_at
container_sound entry_len width bytes b =
    let size = little_number width (drop width bytes) in
    chosen_twice (nat_le (2 * width) (length bytes)) (nat_le (2 * width + little_number width bytes * entry_len) size && nat_le size (length bytes)) _ (front_bytes size bytes b)
  where
    chosen_twice : (x y : Bool) (c : Container) → AreBytes c.bytes → SoundContainer (cond x (cond y (Some c) None) None)
    chosen_twice true true c p = record { has = p }
    chosen_twice true false c p = record { has = tt }
    chosen_twice false y c p = record { has = tt }

element_behind : (most : ℕ) (d : Document) (o : Option Elements) → IsSound most (as_json d) → SoundElements most o → SoundElements most (option_map (element d) o)
element_behind most d None h p = record { has = tt }
element_behind most d (Some ds) h p = record { has = item most (as_json d) (elements_json ds) h p.has }

element_then : (most : ℕ) (r : Reading) (next : ℕ → Option Elements) → Sound most r → ((end : ℕ) → SoundElements most (next end))
    → SoundElements most (r >>= λ x. option_map (element x.0) (next x.1))
element_then most None next p q = record { has = tt }
element_then most (Some x) next p q = element_behind most x.0 (next x.1) p.has (q x.1)

member_behind : (most : ℕ) (k : List ℕ) (d : Document) (o : Option Members) → IsUtf8 k → IsSound most (as_json d) → SoundMembers most o → SoundMembers most (option_map (member k d) o)
member_behind most k d None t h p = record { has = tt }
member_behind most k d (Some ms) t h p = record { has = member_sound most k (as_json d) (members_json ms) t h p.has }

value_then : (most : ℕ) (k : List ℕ) (r : Reading) (next : ℕ → Option Members) → IsUtf8 k → Sound most r → ((end : ℕ) → SoundMembers most (next end))
    → SoundMembers most (r >>= λ x. option_map (member k x.0) (next x.1))
value_then most k None next t p q = record { has = tt }
value_then most k (Some x) next t p q = member_behind most k x.0 (next x.1) t p.has (q x.1)

member_then : (most : ℕ) (key : Option (List ℕ × ℕ)) (r : Reading) (next : ℕ → ℕ → Option Members) → SoundKey key → Sound most r → ((keys end : ℕ) → SoundMembers most (next keys end))
    → SoundMembers most (key >>= λ k. r >>= λ x. option_map (member k.0 x.0) (next k.1 x.1))
member_then most None r next t p q = record { has = tt }
member_then most (Some k) r next t p q = value_then most k.0 r (λ end. next k.1 end) t.has p (λ end. q k.1 end)

module _ (below : ℕ) (value : ℕ → List ℕ → Reading) (sound : AllSound (suc below) value) (width : ℕ) where
  abbrev most : ℕ
  most = suc below

  value_in_sound : (bytes : List ℕ) (entry from : ℕ) → AreBytes bytes → Sound most (value_in value width bytes entry from)
  unfolding value_in
  value_in_sound bytes entry from b =
      let kind = slice_index bytes entry in
      chosen most (is_inlined width kind) _ _
      (moved most (λ _. from) (scalar_at kind (drop (entry + 1) bytes)) (scalar_sound below kind (drop (entry + 1) bytes) (bytes_behind (entry + 1) bytes b)))
      (placed most (value_place width bytes entry from) (λ place. option_map (λ x. (x.0, place + x.1)) (value kind (drop place bytes)))
      (λ place. moved most (λ len. place + len) (value kind (drop place bytes)) (sound.each kind (drop place bytes) (bytes_behind place bytes b))))

  elements_sound : (bytes : List ℕ) (n entry from : ℕ) → AreBytes bytes → SoundElements most (elements_in value width bytes n entry from)
  unfolding elements_in
  elements_sound bytes zero entry from b = record { has = no_items most }
  elements_sound bytes (suc n) entry from b =
      element_then most (value_in value width bytes entry from) (λ end. elements_in value width bytes n (entry + (width + 1)) end) (value_in_sound bytes entry from b)
      (λ end. elements_sound bytes n (entry + (width + 1)) end b)

  members_sound : (bytes : List ℕ) (n key_entry keys entry from : ℕ) → AreBytes bytes → SoundMembers most (members_in value width bytes n key_entry keys entry from)
  unfolding members_in
  members_sound bytes zero key_entry keys entry from b = record { has = no_members_sound most }
  members_sound bytes (suc n) key_entry keys entry from b =
      member_then most (key_in width bytes key_entry keys) (value_in value width bytes entry from)
      (λ k end. members_in value width bytes n (key_entry + (width + 2)) k (entry + (width + 1)) end)
      (key_sound width bytes key_entry keys) (value_in_sound bytes entry from b)
      (λ k end. members_sound bytes n (key_entry + (width + 2)) k (entry + (width + 1)) end b)

  array_made : (o : Option Elements) (end : ℕ) → SoundElements most o → Sound (suc most) (option_map (λ ds. (array ds, end)) o)
  array_made None end p = nothing (suc most)
  array_made (Some ds) end p = record { has = items_sound most (elements_json ds) p.has }

  array_of : (o : Option Container) → SoundContainer o → Sound (suc most) (o >>= λ c. option_map (λ ds. (array ds, length c.bytes)) (elements_of value width c))
  array_of None p = nothing (suc most)
  array_of (Some c) p = array_made (elements_of value width c) (length c.bytes) (elements_sound c.bytes c.count _ _ p.has)

  array_sound : (bytes : List ℕ) → AreBytes bytes → Sound (suc most) (array_at value width bytes)
  unfolding array_at
  array_sound bytes b = array_of (container_at (element_entry width) width bytes) (container_sound (element_entry width) width bytes b)

  object_made : (o : Option Members) (end : ℕ) → SoundMembers most o → Sound (suc most) (option_map (λ ms. (object ms, end)) o)
  object_made None end p = nothing (suc most)
  object_made (Some ms) end p = record { has = object_of most (members_json ms) p.has }

  objects_of : (o : Option Container) → SoundContainer o → Sound (suc most) (o >>= λ c. option_map (λ ms. (object ms, length c.bytes)) (members_of value width c))
  objects_of None p = nothing (suc most)
  objects_of (Some c) p = object_made (members_of value width c) (length c.bytes) (members_sound c.bytes c.count _ _ _ _ p.has)

  object_sound : (bytes : List ℕ) → AreBytes bytes → Sound (suc most) (object_at value width bytes)
  unfolding object_at
  object_sound bytes b = objects_of (container_at (member_entries width) width bytes) (container_sound (member_entries width) width bytes b)

-- A value with at most so many arrays and objects in one another has at most one more as JSON: that of a value of another type.
pub value_sound : (deep kind : ℕ) (bytes : List ℕ) → AreBytes bytes → Sound (suc deep) (value_at deep kind bytes)
unfolding value_at
value_sound zero kind bytes b = scalar_sound zero kind bytes b
value_sound (suc deep) kind bytes b =
    let sound : AllSound (suc deep) (value_at deep) = record { each = value_sound deep } in
    let most = suc (suc deep) in
    chosen most (kind == 0) _ _ (object_sound deep (value_at deep) sound 2 bytes b) (chosen most (kind == 1) _ _ (object_sound deep (value_at deep) sound 4 bytes b)
    (chosen most (kind == 2) _ _ (array_sound deep (value_at deep) sound 2 bytes b) (chosen most (kind == 3) _ _ (array_sound deep (value_at deep) sound 4 bytes b)
    (scalar_sound (suc deep) kind bytes b))))
