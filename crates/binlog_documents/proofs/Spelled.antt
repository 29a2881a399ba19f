-- What is spelled is read.
use Rattle.std.proofs.Common.{◌≡◌, ◌∙◌, ℕ, zero, suc, ℤ, ◌+◌, ◌-◌, ◌*◌, ◌≤◌, ◌==◌, inl, inr, Bool, true, false, nat_lt, nat_le, List, [], ◌∷◌, ◌++◌, length, drop, Some, refl, sym, ap, append_assoc, add-one, le-leb, length-drop, arith}
use Rattle.std.specs.Prelude.{slice_index}
use Rattle.std.specs.Str.{is_utf8}
use Rattle.std.proofs.lemmas.Bool.Decides.{nat_tests}
use Rattle.std.proofs.lemmas.List.{length-append, take_at, drop_at, drop-drop}
use Rattle.std.proofs.lemmas.Option.{same_Some}
use Rattle.byteorder.specs.Endian.{little_number}
use Rattle.byteorder.specs.Numbers.{little_from-append}
use Rattle.binlog_documents.specs.Document.{Document, null, boolean, integer, double, text, opaque, array, object, Elements, no_elements, element, Members, no_members, member}
use Rattle.binlog_documents.specs.Scalars.{literal_at, number_at, signed, unsigned, double_at, length_at, counted_at, utf8_text, text_at, opaque_at, scalar_at}
use Rattle.binlog_documents.specs.Containers.{element_entry, member_entries, container_at, is_inlined, value_place, value_in, key_entry, key_in, keys_end, elements_in, members_in, array_at, object_at, value_at, greatest_depth, document_at}
use Rattle.binlog_documents.specs.Spelling.{IsLiteral, IsInteger, IsDouble, IsLength, IsCounted, IsText, IsOpaque, HasWidth, IsNumber, IsInlined, IsPlaced, IsEntry, AreKeys, IsArray, IsObject, elements_count, keys_of, SpellsValue, AreElements, AreMembers, nesting, elements_nesting, members_nesting, Spells}

-- ---- values that have no parts

number_only : (width : ℕ) (made : ℕ → Document) (front rest : List ℕ) → length front ≡ width → number_at width made (front ++ rest) ≡ Some (made (little_number width front), width)
unfolding number_at
number_only width made front rest len =
    rw (le-leb width (length (front ++ rest)) (omega (arith, len, length-append front rest)), little_from-append width front rest (omega (arith, len))) refl

literal_only : (kind : ℕ) (front rest : List ℕ) → IsLiteral 0 kind front → scalar_at kind (front ++ rest) ≡ Some (null, length front)
unfolding scalar_at literal_at
literal_only kind front rest h = rw (h.0, h.1) refl

boolean_only : (b : Bool) (kind : ℕ) (front rest : List ℕ) → SpellsValue (boolean b) kind front → scalar_at kind (front ++ rest) ≡ Some (boolean b, length front)
unfolding scalar_at literal_at
boolean_only true kind front rest h = rw (h.0, h.1) refl
boolean_only false kind front rest h = rw (h.0, h.1) refl

integer_only : (z : ℤ) (kind : ℕ) (front rest : List ℕ) → IsInteger z kind front → scalar_at kind (front ++ rest) ≡ Some (integer z, length front)
unfolding scalar_at
integer_only z kind front rest (inl h) = rw (h.0, number_only 2 (signed 2) front rest h.1.0, h.1.0, h.1.1) refl
integer_only z kind front rest (inr (inl h)) = rw (h.0, number_only 2 unsigned front rest h.1.0, h.1.0, h.1.1) refl
integer_only z kind front rest (inr (inr (inl h))) = rw (h.0, number_only 4 (signed 4) front rest h.1.0, h.1.0, h.1.1) refl
integer_only z kind front rest (inr (inr (inr (inl h)))) = rw (h.0, number_only 4 unsigned front rest h.1.0, h.1.0, h.1.1) refl
integer_only z kind front rest (inr (inr (inr (inr (inl h))))) = rw (h.0, number_only 8 (signed 8) front rest h.1.0, h.1.0, h.1.1) refl
integer_only z kind front rest (inr (inr (inr (inr (inr h))))) = rw (h.0, number_only 8 unsigned front rest h.1.0, h.1.0, h.1.1) refl

double_only : (bits kind : ℕ) (front rest : List ℕ) → IsDouble bits kind front → scalar_at kind (front ++ rest) ≡ Some (double bits, length front)
unfolding scalar_at double_at
double_only bits kind front rest h =
    rw (h.0, le-leb 8 (length (front ++ rest)) (omega (arith, h.1, length-append front rest)), little_from-append 8 front rest (omega (arith, h.1)), ← h.2, h.3, h.1) refl

length_only : (most n : ℕ) (front rest : List ℕ) → IsLength n front → length front ≤ most → length_at most (front ++ rest) ≡ Some (n, length front)
unfolding length_at
length_only most n [] rest h le = absurd h
length_only zero n (b ∷ bs) rest h le = absurd (omega (arith, le))
length_only (suc most) n (b ∷ bs) rest (inl h) le =
    let small : nat_lt b 128 ≡ true = grind (arith, nat_tests, h.0) in
    rw (small, h.1, h.2) refl
length_only (suc most) n (b ∷ bs) rest (inr h) le =
    let large : nat_lt b 128 ≡ false = grind (arith, nat_tests, h.1) in
    rw (large, length_only most h.0 bs rest h.3 (omega (arith, le)), h.2, add-one) refl

counted_only : (content front rest : List ℕ) → IsCounted content front → counted_at (front ++ rest) ≡ Some (content, length front)
unfolding counted_at
counted_only content front rest h =
    let len = h.0 in
    let whole : front ++ rest ≡ len ++ (content ++ rest) = rw h.1 (append_assoc len content rest) in
    let read = length_only 5 (length content) len (content ++ rest) h.3 h.2 in
    let sum : length len + length content ≡ length front = rw h.1 (sym (length-append len content)) in
    let fits : nat_le (length len + length content) (length (len ++ (content ++ rest))) ≡ true = le-leb _ _ (omega (arith, length-append len (content ++ rest), length-append content rest)) in
    rw (whole, read, fits, drop_at len (content ++ rest) (length len) refl, take_at content rest (length content) refl, sum) refl

text_only : (content : List ℕ) (kind : ℕ) (bytes rest : List ℕ) → IsText content kind bytes → scalar_at kind (bytes ++ rest) ≡ Some (text content, length bytes)
unfolding scalar_at text_at utf8_text
text_only content kind bytes rest h = rw (h.0, counted_only content bytes rest h.2, h.1) refl

opaque_only : (own_type : ℕ) (content : List ℕ) (kind : ℕ) (bytes rest : List ℕ) → IsOpaque own_type content kind bytes → scalar_at kind (bytes ++ rest) ≡ Some (opaque own_type content, length bytes)
unfolding scalar_at opaque_at
opaque_only own_type content kind bytes rest h = rw (h.1, h.2, counted_only content h.0 rest h.3, add-one) refl

-- a type that is none of an object or an array
scalar_value : (deep kind : ℕ) (bytes : List ℕ) → 4 ≤ kind → value_at deep kind bytes ≡ scalar_at kind bytes
unfolding value_at
scalar_value zero kind bytes le = refl
scalar_value (suc deep) kind bytes le =
    let first : (kind == 0) ≡ false = grind (arith, nat_tests, le) in
    let second : (kind == 1) ≡ false = grind (arith, nat_tests, le) in
    let third : (kind == 2) ≡ false = grind (arith, nat_tests, le) in
    let fourth : (kind == 3) ≡ false = grind (arith, nat_tests, le) in
    rw (first, second, third, fourth) refl

integer_type : (z : ℤ) (kind : ℕ) (bytes : List ℕ) → IsInteger z kind bytes → 4 ≤ kind
integer_type z kind bytes (inl h) = omega (arith, h.0)
integer_type z kind bytes (inr (inl h)) = omega (arith, h.0)
integer_type z kind bytes (inr (inr (inl h))) = omega (arith, h.0)
integer_type z kind bytes (inr (inr (inr (inl h)))) = omega (arith, h.0)
integer_type z kind bytes (inr (inr (inr (inr (inl h))))) = omega (arith, h.0)
integer_type z kind bytes (inr (inr (inr (inr (inr h))))) = omega (arith, h.0)

-- ---- places in bytes

-- the byte at a place, and what stands behind it
pub byte_there : (bytes : List ℕ) (at b : ℕ) (rest : List ℕ) → drop at bytes ≡ b ∷ rest → slice_index bytes at ≡ b
byte_there [] zero b rest e = absurd cc
byte_there (x ∷ bytes) zero b rest e = cc
byte_there [] (suc at) b rest e = absurd cc
byte_there (x ∷ bytes) (suc at) b rest e = byte_there bytes at b rest e

pub behind_there : (bytes : List ℕ) (at : ℕ) (front rest : List ℕ) (n : ℕ) → drop at bytes ≡ front ++ rest → length front ≡ n → drop (at + n) bytes ≡ rest
behind_there bytes at front rest n e len = sym (drop-drop n at bytes) ∙ ap (drop n) e ∙ drop_at front rest n len

-- ---- entries

abbrev IsReadAs : ℕ → Document → Type 0
IsReadAs deep d = (kind : ℕ) (value rest : List ℕ) → SpellsValue d kind value → value_at deep kind (value ++ rest) ≡ Some (d, length value)

-- an entry that is read, and what is left behind it and behind its value
record EntryRead (deep width at place : ℕ) (d : Document) (bytes tail : List ℕ) (next : ℕ) (others : List ℕ) : Type 0 where
  read : value_in (value_at deep) width bytes at place ≡ Some (d, next)
  entries : drop (at + (width + 1)) bytes ≡ tail
  values : drop next bytes ≡ others
  within : next ≤ length bytes

inlined_type : (width kind : ℕ) → is_inlined width kind ≡ true → 4 ≤ kind
inlined_type width kind e = grind (arith, nat_tests, e)

inlined_only : (deep width at place : ℕ) (d : Document) (bytes entry tail values : List ℕ) (next : ℕ) (others : List ℕ) → IsInlined (SpellsValue d) width place entry values next others
    → drop at bytes ≡ entry ++ tail → drop place bytes ≡ values → place ≤ length bytes → IsReadAs deep d → EntryRead deep width at place d bytes tail next others
unfolding value_in
inlined_only deep width at place d bytes entry tail values next others i there values_there le value_read =
    let begins : drop at bytes ≡ i.kind ∷ (i.value ++ (i.unused ++ tail)) = there ∙ rw i.whole (ap (λ (x : List ℕ). i.kind ∷ x) (append_assoc i.value i.unused tail)) in
    let kind : slice_index bytes at ≡ i.kind = byte_there bytes at i.kind _ begins in
    let rest : drop (at + 1) bytes ≡ i.value ++ (i.unused ++ tail) = behind_there bytes at (i.kind ∷ []) (i.value ++ (i.unused ++ tail)) 1 begins refl in
    let scalar : scalar_at i.kind (i.value ++ (i.unused ++ tail)) ≡ Some (d, length i.value) =
    sym (scalar_value deep i.kind _ (inlined_type width i.kind i.small)) ∙ value_read i.kind i.value (i.unused ++ tail) i.spelled in
    let len : length entry ≡ width + 1 = ap length i.whole ∙ omega (arith, i.fills) in
    record {
      read = rw (kind, i.small, rest, scalar, i.stays) refl;
      entries = behind_there bytes at entry tail (width + 1) there len;
      values = rw (i.stays, i.leaves) values_there;
      within = omega (arith, i.stays, le);
    }

-- how many bytes stand from a place on
left_there : (bytes : List ℕ) (place : ℕ) (gap value others : List ℕ) → drop place bytes ≡ gap ++ (value ++ others) → place ≤ length bytes → place + length gap + length value ≤ length bytes
left_there bytes place gap value others there le =
    let left : length (gap ++ (value ++ others)) ≡ length bytes - place = ap length (sym there) ∙ length-drop place bytes in
    omega (arith, le, left, length-append gap (value ++ others), length-append value others)

place_only : (width at place : ℕ) (bytes offset tail gap : List ℕ) → drop (at + 1) bytes ≡ offset ++ tail → IsNumber width (place + length gap) offset → place + length gap ≤ length bytes
    → value_place width bytes at place ≡ Some (place + length gap)
unfolding value_place
place_only width at place bytes offset tail gap there points le =
    let number : little_number width (offset ++ tail) ≡ place + length gap = little_from-append width offset tail (omega (arith, points.0)) ∙ points.1 in
    let from : nat_le place (place + length gap) ≡ true = le-leb _ _ (omega arith) in
    let fits : nat_le (place + length gap) (length bytes) ≡ true = le-leb _ _ le in
    rw (there, number, from, fits) refl

placed_only : (deep width at place : ℕ) (d : Document) (bytes entry tail values : List ℕ) (next : ℕ) (others : List ℕ) → IsPlaced (SpellsValue d) width place entry values next others
    → drop at bytes ≡ entry ++ tail → drop place bytes ≡ values → place ≤ length bytes → IsReadAs deep d → EntryRead deep width at place d bytes tail next others
unfolding value_in
placed_only deep width at place d bytes entry tail values next others p there values_there le value_read =
    let begins : drop at bytes ≡ p.kind ∷ (p.offset ++ tail) = there ∙ rw p.whole refl in
    let kind : slice_index bytes at ≡ p.kind = byte_there bytes at p.kind _ begins in
    let rest : drop (at + 1) bytes ≡ p.offset ++ tail = behind_there bytes at (p.kind ∷ []) (p.offset ++ tail) 1 begins refl in
    let fits = left_there bytes place p.gap p.value others (values_there ∙ p.apart) le in
    let found = place_only width at place bytes p.offset tail p.gap rest p.points (omega (arith, fits)) in
    let value : drop (place + length p.gap) bytes ≡ p.value ++ others = behind_there bytes place p.gap (p.value ++ others) (length p.gap) (values_there ∙ p.apart) refl in
    let len : length entry ≡ width + 1 = ap length p.whole ∙ omega (arith, p.points.0) in
    record {
      read = rw (kind, p.large, found, value, value_read p.kind p.value others p.spelled, p.ends) refl;
      entries = behind_there bytes at entry tail (width + 1) there len;
      values = rw p.ends (behind_there bytes (place + length p.gap) p.value others (length p.value) value refl);
      within = omega (arith, p.ends, fits);
    }

entry_only : (deep width at place : ℕ) (d : Document) (bytes entry tail values : List ℕ) (next : ℕ) (others : List ℕ) → IsEntry (SpellsValue d) width place entry values next others
    → drop at bytes ≡ entry ++ tail → drop place bytes ≡ values → place ≤ length bytes → IsReadAs deep d → EntryRead deep width at place d bytes tail next others
entry_only deep width at place d bytes entry tail values next others (inl i) there values_there le read = inlined_only deep width at place d bytes entry tail values next others i there values_there le read
entry_only deep width at place d bytes entry tail values next others (inr p) there values_there le read = placed_only deep width at place d bytes entry tail values next others p there values_there le read

entry_length : (d : Document) (width place : ℕ) (entry values : List ℕ) (next : ℕ) (others : List ℕ) → IsEntry (SpellsValue d) width place entry values next others → length entry ≡ width + 1
entry_length d width place entry values next others (inl i) = ap length i.whole ∙ omega (arith, i.fills)
entry_length d width place entry values next others (inr p) = ap length p.whole ∙ omega (arith, p.points.0)

elements_length : (ds : Elements) (width place : ℕ) (entries values : List ℕ) → AreElements ds width place entries values → length entries ≡ elements_count ds * (width + 1)
elements_length no_elements width place entries values h = rw h (omega arith)
elements_length (element d ds) width place entries values h =
    let others = elements_length ds width h.2 h.1 h.3 h.6 in
    ap length h.4 ∙ omega (arith, length-append h.0 h.1, entry_length d width place h.0 values h.2 h.3 h.5, others)

members_length : (ms : Members) (width place : ℕ) (entries values : List ℕ) → AreMembers ms width place entries values → length entries ≡ length (keys_of ms) * (width + 1)
members_length no_members width place entries values h = rw h (omega arith)
members_length (member k d ms) width place entries values h =
    let others = members_length ms width h.2 h.1 h.3 h.6 in
    ap length h.4 ∙ omega (arith, length-append h.0 h.1, entry_length d width place h.0 values h.2 h.3 h.5, others)

-- ---- keys

key_only : (width at place : ℕ) (bytes key offset len tail gap : List ℕ) → drop at bytes ≡ offset ++ (len ++ tail)
    → IsNumber width (place + length gap) offset → IsNumber 2 (length key) len → key_entry width bytes at ≡ (place + length gap, length key)
key_only width at place bytes key offset len tail gap there starts counts =
    let first : little_number width (drop at bytes) ≡ place + length gap = ap (little_number width) there ∙ little_from-append width offset (len ++ tail) (omega (arith, starts.0)) ∙ starts.1 in
    let second : little_number 2 (drop (at + width) bytes) ≡ length key =
    ap (little_number 2) (behind_there bytes at offset (len ++ tail) width there starts.0) ∙ little_from-append 2 len tail (omega (arith, counts.0)) ∙ counts.1 in
    ap (λ (x : ℕ). (x, little_number 2 (drop (at + width) bytes))) first ∙ ap (λ (x : ℕ). (place + length gap, x)) second

key_read : (width at place : ℕ) (bytes key offset len tail gap behind : List ℕ) → drop at bytes ≡ offset ++ (len ++ tail) → drop place bytes ≡ gap ++ (key ++ behind) → place ≤ length bytes
    → IsNumber width (place + length gap) offset → IsNumber 2 (length key) len → is_utf8 key ≡ true → key_in width bytes at place ≡ Some (key, place + length gap + length key)
unfolding key_in utf8_text
key_read width at place bytes key offset len tail gap behind there keys_there le starts counts is_text =
    let entry = key_only width at place bytes key offset len tail gap there starts counts in
    let start : little_number width (drop at bytes) ≡ place + length gap = ap (λ (x : ℕ × ℕ). x.0) entry in
    let size : little_number 2 (drop (at + width) bytes) ≡ length key = ap (λ (x : ℕ × ℕ). x.1) entry in
    let from : nat_le place (place + length gap) ≡ true = le-leb _ _ (omega arith) in
    let fits : nat_le (place + length gap + length key) (length bytes) ≡ true = le-leb _ _ (left_there bytes place gap key behind keys_there le) in
    let found : drop (place + length gap) bytes ≡ key ++ behind = behind_there bytes place gap (key ++ behind) (length gap) keys_there refl in
    rw (start, size, from, fits, found, take_at key behind (length key) refl, is_text) refl

-- behind the entry of a key
keys_entry_there : (width at : ℕ) (bytes entries tail offset len more : List ℕ) → drop at bytes ≡ entries ++ tail → entries ≡ offset ++ (len ++ more) → drop at bytes ≡ offset ++ (len ++ (more ++ tail))
keys_entry_there width at bytes entries tail offset len more there is =
    there ∙ ap (λ (x : List ℕ). x ++ tail) is ∙ append_assoc offset (len ++ more) tail ∙ ap (λ (x : List ℕ). offset ++ x) (append_assoc len more tail)

more_keys_there : (width at : ℕ) (bytes offset len more : List ℕ) → drop at bytes ≡ offset ++ (len ++ more) → length offset ≡ width → length len ≡ 2 → drop (at + (width + 2)) bytes ≡ more
more_keys_there width at bytes offset len more there wide two =
    behind_there bytes at (offset ++ len) more (width + 2) (there ∙ sym (append_assoc offset len more)) (omega (arith, length-append offset len, wide, two))

key_texts_there : (place : ℕ) (bytes texts tail gap key behind : List ℕ) → drop place bytes ≡ texts ++ tail → texts ≡ gap ++ (key ++ behind) → drop place bytes ≡ gap ++ (key ++ (behind ++ tail))
key_texts_there place bytes texts tail gap key behind there is =
    there ∙ ap (λ (x : List ℕ). x ++ tail) is ∙ append_assoc gap (key ++ behind) tail ∙ ap (λ (x : List ℕ). gap ++ x) (append_assoc key behind tail)

more_texts_there : (place : ℕ) (bytes gap key behind : List ℕ) → drop place bytes ≡ gap ++ (key ++ behind) → drop (place + length gap + length key) bytes ≡ behind
more_texts_there place bytes gap key behind there =
    behind_there bytes (place + length gap) key behind (length key) (behind_there bytes place gap (key ++ behind) (length gap) there refl) refl

keys_length : (keys : List (List ℕ)) (width place : ℕ) (entries texts : List ℕ) → AreKeys keys width place entries texts → length entries ≡ length keys * (width + 2)
keys_length [] width place entries texts h = rw h.0 (omega arith)
keys_length (key ∷ others) width place entries texts h =
    let more = keys_length others width (place + length h.3 + length key) h.2 h.4 h.10 in
    ap length h.5 ∙ omega (arith, length-append h.0 (h.1 ++ h.2), length-append h.1 h.2, h.7.0, h.8.0, more)

-- where the last of the keys ends
last_ends : (key : List ℕ) (others : List (List ℕ)) (width at place i : ℕ) (bytes entries tail texts : List ℕ) → drop at bytes ≡ entries ++ tail → AreKeys (key ∷ others) width place entries texts
    → i ≡ at + length others * (width + 2) → (key_entry width bytes i).0 + (key_entry width bytes i).1 ≡ place + length texts
last_ends key [] width at place i bytes entries tail texts there h is =
    let same : i ≡ at = omega (arith, is) in
    let entry = key_only width at place bytes key h.0 h.1 (h.2 ++ tail) h.3 (keys_entry_there width at bytes entries tail h.0 h.1 h.2 there h.5) h.7 h.8 in
    let sum : length texts ≡ length h.3 + length key = ap length h.6 ∙ omega (arith, length-append h.3 (key ++ h.4), length-append key h.4, ap length h.10.1) in
    rw same (ap (λ (x : ℕ × ℕ). x.0 + x.1) entry ∙ omega (arith, sum))
last_ends key (next ∷ others) width at place i bytes entries tail texts there h is =
    let begins = keys_entry_there width at bytes entries tail h.0 h.1 h.2 there h.5 in
    let more = more_keys_there width at bytes h.0 h.1 (h.2 ++ tail) begins h.7.0 h.8.0 in
    let last = last_ends next others width (at + (width + 2)) (place + length h.3 + length key) i bytes h.2 tail h.4 more h.10 (omega (arith, is)) in
    let sum : length texts ≡ length h.3 + (length key + length h.4) = ap length h.6 ∙ omega (arith, length-append h.3 (key ++ h.4), length-append key h.4) in
    last ∙ omega (arith, sum)

-- a key that is read, and what is left behind it
record KeyRead (width key_at keys : ℕ) (key : List ℕ) (others : List (List ℕ)) (bytes more behind key_tail texts_tail : List ℕ) : Type 0 where
  next : ℕ
  read : key_in width bytes key_at keys ≡ Some (key, next)
  entries : drop (key_at + (width + 2)) bytes ≡ more ++ key_tail
  texts : drop next bytes ≡ behind ++ texts_tail
  within : next ≤ length bytes
  named : AreKeys others width next more behind

key_then : (width key_at keys : ℕ) (key : List ℕ) (others : List (List ℕ)) (bytes key_entries key_tail texts texts_tail : List ℕ) → drop key_at bytes ≡ key_entries ++ key_tail
    → drop keys bytes ≡ texts ++ texts_tail → keys ≤ length bytes → (h : AreKeys (key ∷ others) width keys key_entries texts) → KeyRead width key_at keys key others bytes h.2 h.4 key_tail texts_tail
key_then width key_at keys key others bytes key_entries key_tail texts texts_tail there texts_there within h =
    let begins = keys_entry_there width key_at bytes key_entries key_tail h.0 h.1 h.2 there h.5 in
    let named = key_texts_there keys bytes texts texts_tail h.3 key h.4 texts_there h.6 in
    record {
      next = keys + length h.3 + length key;
      read = key_read width key_at keys bytes key h.0 h.1 (h.2 ++ key_tail) h.3 (h.4 ++ texts_tail) begins named within h.7 h.8 h.9;
      entries = more_keys_there width key_at bytes h.0 h.1 (h.2 ++ key_tail) begins h.7.0 h.8.0;
      texts = more_texts_there keys bytes h.3 key (h.4 ++ texts_tail) named;
      within = left_there bytes keys h.3 key (h.4 ++ texts_tail) named within;
      named = h.10;
    }

-- ---- elements and members

abbrev ElementsAreRead : ℕ → ℕ → ℕ → ℕ → Elements → List ℕ → Type 0
ElementsAreRead deep width at place ds bytes = elements_in (value_at deep) width bytes (elements_count ds) at place ≡ Some ds

elements_ended : (deep width at place : ℕ) (bytes : List ℕ) → ElementsAreRead deep width at place no_elements bytes
unfolding elements_in
elements_ended deep width at place bytes = refl

element_then : (deep width at place next : ℕ) (d : Document) (ds : Elements) (bytes : List ℕ) → value_in (value_at deep) width bytes at place ≡ Some (d, next)
    → ElementsAreRead deep width (at + (width + 1)) next ds bytes → ElementsAreRead deep width at place (element d ds) bytes
unfolding elements_in
element_then deep width at place next d ds bytes first others = rw (first, others) refl

abbrev MembersAreRead : ℕ → ℕ → ℕ → ℕ → ℕ → ℕ → Members → List ℕ → Type 0
MembersAreRead deep width key_at keys at place ms bytes = members_in (value_at deep) width bytes (length (keys_of ms)) key_at keys at place ≡ Some ms

members_ended : (deep width key_at keys at place : ℕ) (bytes : List ℕ) → MembersAreRead deep width key_at keys at place no_members bytes
unfolding members_in
members_ended deep width key_at keys at place bytes = refl

member_then : (deep width key_at keys at place next_keys next : ℕ) (k : List ℕ) (d : Document) (ms : Members) (bytes : List ℕ) → key_in width bytes key_at keys ≡ Some (k, next_keys)
    → value_in (value_at deep) width bytes at place ≡ Some (d, next) → MembersAreRead deep width (key_at + (width + 2)) next_keys (at + (width + 1)) next ms bytes
    → MembersAreRead deep width key_at keys at place (member k d ms) bytes
unfolding members_in
member_then deep width key_at keys at place next_keys next k d ms bytes key first others = rw (key, first, others) refl

-- ---- containers

container_only : (entry_len width number : ℕ) (count size content front rest : List ℕ) → front ≡ count ++ (size ++ content) → IsNumber width number count → IsNumber width (length front) size
    → number * entry_len ≤ length content → container_at entry_len width (front ++ rest) ≡ Some (record { count = number; bytes = front })
unfolding container_at
container_only entry_len width number count size content front rest is counts sizes room =
    let len : length front ≡ 2 * width + length content = ap length is ∙ omega (arith, length-append count (size ++ content), length-append size content, counts.0, sizes.0) in
    let whole : front ++ rest ≡ count ++ (size ++ (content ++ rest)) =
    ap (λ (x : List ℕ). x ++ rest) is ∙ append_assoc count (size ++ content) rest ∙ ap (λ (x : List ℕ). count ++ x) (append_assoc size content rest) in
    let first : little_number width (front ++ rest) ≡ number = ap (little_number width) whole ∙ little_from-append width count (size ++ (content ++ rest)) (omega (arith, counts.0)) ∙ counts.1 in
    let second : little_number width (drop width (front ++ rest)) ≡ length front =
    ap (λ (x : List ℕ). little_number width (drop width x)) whole ∙ ap (little_number width) (drop_at count (size ++ (content ++ rest)) width counts.0)
    ∙ little_from-append width size (content ++ rest) (omega (arith, sizes.0)) ∙ sizes.1 in
    let enough : nat_le (2 * width) (length (front ++ rest)) ≡ true = le-leb _ _ (omega (arith, len, length-append front rest)) in
    let fits : nat_le (2 * width + number * entry_len) (length front) ≡ true = le-leb _ _ (omega (arith, len, room)) in
    let within : nat_le (length front) (length (front ++ rest)) ≡ true = le-leb _ _ (omega (arith, length-append front rest)) in
    rw (enough, first, second, fits, within, take_at front rest (length front) refl) refl

-- behind the count and the size
head_there : (width : ℕ) (front count size content : List ℕ) → front ≡ count ++ (size ++ content) → length count ≡ width → length size ≡ width → drop (2 * width) front ≡ content
head_there width front count size content is one other =
    ap (drop (2 * width)) (is ∙ sym (append_assoc count size content)) ∙ drop_at (count ++ size) content (2 * width) (omega (arith, length-append count size, one, other))

head_within : (width : ℕ) (front count size entries values : List ℕ) → front ≡ count ++ (size ++ (entries ++ values)) → length count ≡ width → length size ≡ width → 2 * width + length entries ≤ length front
head_within width front count size entries values is one other =
    let len : length front ≡ 2 * width + (length entries + length values) =
    ap length is ∙ omega (arith, length-append count (size ++ (entries ++ values)), length-append size (entries ++ values), length-append entries values, one, other) in
    omega (arith, len)

array_only : (ds : Elements) (deep width : ℕ) (front rest : List ℕ) → (a : IsArray (AreElements ds width) (elements_count ds) width front)
    → ElementsAreRead deep width (2 * width) (2 * width + length a.entries) ds front → array_at (value_at deep) width (front ++ rest) ≡ Some (array ds, length front)
unfolding array_at
array_only ds deep width front rest a read =
    let len : length a.entries ≡ elements_count ds * (width + 1) = elements_length ds width (2 * width + length a.entries) a.entries a.values a.spelled in
    let there = container_only (element_entry width) width (elements_count ds) a.count a.size (a.entries ++ a.values) front rest a.whole a.counts a.sizes (omega (arith, len, length-append a.entries a.values)) in
    let all : elements_in (value_at deep) width front (elements_count ds) (2 * width) (2 * width + elements_count ds * (width + 1)) ≡ Some ds =
    ap (λ (n : ℕ). elements_in (value_at deep) width front (elements_count ds) (2 * width) (2 * width + n)) (sym len) ∙ read in
    rw (there, all) refl

array_value : (deep kind width : ℕ) (bytes : List ℕ) → HasWidth 2 kind width → value_at (suc deep) kind bytes ≡ array_at (value_at deep) width bytes
unfolding value_at
array_value deep kind width bytes (inl h) = rw (h.0, h.1) refl
array_value deep kind width bytes (inr h) = rw (h.0, h.1) refl

object_value : (deep kind width : ℕ) (bytes : List ℕ) → HasWidth 0 kind width → value_at (suc deep) kind bytes ≡ object_at (value_at deep) width bytes
unfolding value_at
object_value deep kind width bytes (inl h) = rw (h.0, h.1) refl
object_value deep kind width bytes (inr h) = rw (h.0, h.1) refl

object_only : (ms : Members) (deep width : ℕ) (front rest : List ℕ) → (o : IsObject (keys_of ms) (AreMembers ms width) width front)
    → MembersAreRead deep width (2 * width) (2 * width + length (keys_of ms) * member_entries width) (2 * width + length (keys_of ms) * (width + 2)) (keys_end width front (length (keys_of ms))) ms front
    → object_at (value_at deep) width (front ++ rest) ≡ Some (object ms, length front)
unfolding object_at
object_only ms deep width front rest o read =
    let key_len = keys_length (keys_of ms) width _ o.key_entries o.keys o.named in
    let len = members_length ms width _ o.entries o.values o.spelled in
    let room : length (keys_of ms) * member_entries width ≤ length (o.key_entries ++ (o.entries ++ (o.keys ++ o.values))) =
    omega (arith, key_len, len, length-append o.key_entries (o.entries ++ (o.keys ++ o.values)), length-append o.entries (o.keys ++ o.values)) in
    let there = container_only (member_entries width) width (length (keys_of ms)) o.count o.size (o.key_entries ++ (o.entries ++ (o.keys ++ o.values))) front rest o.whole o.counts o.sizes room in
    rw (there, read) refl

-- how the members of an object are read, from where its entries begin on
abbrev AllMembersAreRead : Members → ℕ → ℕ → List ℕ → Type 0
AllMembersAreRead ms deep width bytes =
    MembersAreRead deep width (2 * width) (2 * width + length (keys_of ms) * member_entries width) (2 * width + length (keys_of ms) * (width + 2)) (keys_end width bytes (length (keys_of ms))) ms bytes

-- the same, where the parts of the object stand
abbrev MembersFollow : Members → ℕ → ℕ → List ℕ → Type 0
MembersFollow ms deep width bytes =
    (keys key_at : ℕ) (key_entries key_tail texts texts_tail : List ℕ) (at place : ℕ) (entries tail values : List ℕ)
    → drop key_at bytes ≡ key_entries ++ key_tail → drop keys bytes ≡ texts ++ texts_tail → keys ≤ length bytes → AreKeys (keys_of ms) width keys key_entries texts
    → drop at bytes ≡ entries ++ tail → drop place bytes ≡ values → place ≤ length bytes → AreMembers ms width place entries values
    → MembersAreRead deep width key_at keys at place ms bytes

keys_end_there : (width n i : ℕ) (bytes : List ℕ) → i ≡ 2 * width + n * (width + 2) → keys_end width bytes (suc n) ≡ (key_entry width bytes i).0 + (key_entry width bytes i).1
keys_end_there width n i bytes is =
    let some : (suc n == 0) ≡ false = grind (arith, nat_tests) in
    let less : suc n - 1 ≡ n = omega arith in
    rw (some, less, is) refl

members_from : (ms : Members) (deep width : ℕ) (bytes : List ℕ) → IsObject (keys_of ms) (AreMembers ms width) width bytes → MembersFollow ms deep width bytes → AllMembersAreRead ms deep width bytes
members_from no_members deep width bytes o follow = members_ended deep width (2 * width) _ _ _ bytes
members_from (member k d ms) deep width bytes o follow =
    let key_len = keys_length (k ∷ keys_of ms) width _ o.key_entries o.keys o.named in
    let len = members_length (member k d ms) width _ o.entries o.values o.spelled in
    let keys = 2 * width + (length o.key_entries + length o.entries) in
    let place = 2 * width + (length o.key_entries + (length o.entries + length o.keys)) in
    let first = head_there width bytes o.count o.size (o.key_entries ++ (o.entries ++ (o.keys ++ o.values))) o.whole o.counts.0 o.sizes.0 in
    let second = behind_there bytes (2 * width) o.key_entries (o.entries ++ (o.keys ++ o.values)) (length o.key_entries) first refl in
    let third = behind_there bytes (2 * width + length o.key_entries) o.entries (o.keys ++ o.values) (length o.entries) second refl in
    let fourth = behind_there bytes (2 * width + length o.key_entries + length o.entries) o.keys o.values (length o.keys) third refl in
    let whole : length bytes ≡ 2 * width + (length o.key_entries + (length o.entries + (length o.keys + length o.values))) =
    ap length o.whole
    ∙ omega (
      arith,
      length-append o.count (o.size ++ (o.key_entries ++ (o.entries ++ (o.keys ++ o.values)))),
      length-append o.size (o.key_entries ++ (o.entries ++ (o.keys ++ o.values))),
      length-append o.key_entries (o.entries ++ (o.keys ++ o.values)),
      length-append o.entries (o.keys ++ o.values),
      length-append o.keys o.values,
      o.counts.0,
      o.sizes.0,
    ) in
    let keys_at : keys ≡ 2 * width + length o.key_entries + length o.entries = omega arith in
    let place_at : place ≡ 2 * width + length o.key_entries + length o.entries + length o.keys = omega arith in
    let third_at : drop keys bytes ≡ o.keys ++ o.values = ap (λ (n : ℕ). drop n bytes) keys_at ∙ third in
    let fourth_at : drop place bytes ≡ o.values = ap (λ (n : ℕ). drop n bytes) place_at ∙ fourth in
    let read = follow keys (2 * width) o.key_entries (o.entries ++ (o.keys ++ o.values)) o.keys o.values (2 * width + length o.key_entries) place o.entries (o.keys ++ o.values) o.values
    first third_at (omega (arith, whole)) o.named second fourth_at (omega (arith, whole)) o.spelled in
    let one : 2 * width + suc (length (keys_of ms)) * member_entries width ≡ keys = omega (arith, key_len, len) in
    let other : 2 * width + suc (length (keys_of ms)) * (width + 2) ≡ 2 * width + length o.key_entries = omega (arith, key_len) in
    let last : keys_end width bytes (suc (length (keys_of ms))) ≡ place =
    keys_end_there width (length (keys_of ms)) (2 * width + length (keys_of ms) * (width + 2)) bytes refl
    ∙ last_ends k (keys_of ms) width (2 * width) keys _ bytes o.key_entries (o.entries ++ (o.keys ++ o.values)) o.keys first o.named refl ∙ omega arith in
    rw (one, other, last) read

-- ---- all values

mutual
  pub value_only : (d : Document) (deep kind : ℕ) (bytes rest : List ℕ) → nesting d ≤ deep → SpellsValue d kind bytes → value_at deep kind (bytes ++ rest) ≡ Some (d, length bytes)
  value_only null deep kind bytes rest le h = scalar_value deep kind (bytes ++ rest) (omega (arith, h.0)) ∙ literal_only kind bytes rest h
  value_only (boolean b) deep kind bytes rest le h = scalar_value deep kind (bytes ++ rest) (omega (arith, h.0)) ∙ boolean_only b kind bytes rest h
  value_only (integer z) deep kind bytes rest le h = scalar_value deep kind (bytes ++ rest) (integer_type z kind bytes h) ∙ integer_only z kind bytes rest h
  value_only (double bits) deep kind bytes rest le h = scalar_value deep kind (bytes ++ rest) (omega (arith, h.0)) ∙ double_only bits kind bytes rest h
  value_only (text content) deep kind bytes rest le h = scalar_value deep kind (bytes ++ rest) (omega (arith, h.0)) ∙ text_only content kind bytes rest h
  value_only (opaque own_type content) deep kind bytes rest le h = scalar_value deep kind (bytes ++ rest) (omega (arith, h.1)) ∙ opaque_only own_type content kind bytes rest h
  value_only (array ds) zero kind bytes rest le h = absurd (omega (arith, le))
  value_only (array ds) (suc deep) kind bytes rest le h =
      let width = h.0 in let a = h.2 in
      let entries = head_there width bytes a.count a.size (a.entries ++ a.values) a.whole a.counts.0 a.sizes.0 in
      let values = behind_there bytes (2 * width) a.entries a.values (length a.entries) entries refl in
      let within = head_within width bytes a.count a.size a.entries a.values a.whole a.counts.0 a.sizes.0 in
      array_value deep kind width (bytes ++ rest) h.1
      ∙ array_only ds deep width bytes rest a (elements_only ds deep width (2 * width) (2 * width + length a.entries) bytes a.entries a.values a.values (omega (arith, le)) entries values within a.spelled)
  value_only (object ms) zero kind bytes rest le h = absurd (omega (arith, le))
  value_only (object ms) (suc deep) kind bytes rest le h =
      let width = h.0 in
      object_value deep kind width (bytes ++ rest) h.1
      ∙ object_only ms deep width bytes rest h.2
      (members_from ms deep width bytes h.2 (λ keys key_at key_entries key_tail texts texts_tail at place entries tail values. members_only ms deep width key_at keys at place bytes key_entries key_tail texts texts_tail entries tail values (omega (arith, le))))

  elements_only : (ds : Elements) (deep width at place : ℕ) (bytes entries tail values : List ℕ) → elements_nesting ds ≤ deep → drop at bytes ≡ entries ++ tail → drop place bytes ≡ values → place ≤ length bytes
      → AreElements ds width place entries values → ElementsAreRead deep width at place ds bytes
  elements_only no_elements deep width at place bytes entries tail values le there values_there within h = elements_ended deep width at place bytes
  elements_only (element d ds) deep width at place bytes entries tail values le there values_there within h =
      let begins : drop at bytes ≡ h.0 ++ (h.1 ++ tail) = there ∙ ap (λ (x : List ℕ). x ++ tail) h.4 ∙ append_assoc h.0 h.1 tail in
      let first = entry_only deep width at place d bytes h.0 (h.1 ++ tail) values h.2 h.3 h.5 begins values_there within (λ kind value rest s. value_only d deep kind value rest (omega (arith, le)) s) in
      element_then deep width at place h.2 d ds bytes first.read
      (elements_only ds deep width (at + (width + 1)) h.2 bytes h.1 tail h.3 (omega (arith, le)) first.entries first.values first.within h.6)

  members_only : (ms : Members) (deep width key_at keys at place : ℕ) (bytes key_entries key_tail texts texts_tail entries tail values : List ℕ) → members_nesting ms ≤ deep
      → drop key_at bytes ≡ key_entries ++ key_tail → drop keys bytes ≡ texts ++ texts_tail → keys ≤ length bytes → AreKeys (keys_of ms) width keys key_entries texts
      → drop at bytes ≡ entries ++ tail → drop place bytes ≡ values → place ≤ length bytes → AreMembers ms width place entries values
      → MembersAreRead deep width key_at keys at place ms bytes
  members_only no_members deep width key_at keys at place bytes key_entries key_tail texts texts_tail entries tail values le keys_there texts_there keys_within named there values_there within h =
      members_ended deep width key_at keys at place bytes
  members_only (member k d ms) deep width key_at keys at place bytes key_entries key_tail texts texts_tail entries tail values le keys_there texts_there keys_within named there values_there within h =
      let key = key_then width key_at keys k (keys_of ms) bytes key_entries key_tail texts texts_tail keys_there texts_there keys_within named in
      let begins : drop at bytes ≡ h.0 ++ (h.1 ++ tail) = there ∙ ap (λ (x : List ℕ). x ++ tail) h.4 ∙ append_assoc h.0 h.1 tail in
      let first = entry_only deep width at place d bytes h.0 (h.1 ++ tail) values h.2 h.3 h.5 begins values_there within (λ kind value rest s. value_only d deep kind value rest (omega (arith, le)) s) in
      member_then deep width key_at keys at place key.next h.2 k d ms bytes key.read first.read
      (members_only ms deep width (key_at + (width + 2)) key.next (at + (width + 1)) h.2 bytes named.2 key_tail named.4 texts_tail h.1 tail h.3 (omega (arith, le))
      key.entries key.texts key.within key.named first.entries first.values first.within h.6)

pub document_only : (d : Document) (bytes : List ℕ) → Spells d bytes → document_at bytes ≡ Some d
unfolding document_at
document_only d [] h = rw h refl
document_only d (kind ∷ bytes) h = rw (h.2, value_only d greatest_depth kind h.0 h.1 h.3 h.4) refl

pub document_one : (d e : Document) (bytes : List ℕ) → Spells d bytes → Spells e bytes → d ≡ e
document_one d e bytes p q = same_Some d e (sym (document_only d bytes p) ∙ document_only e bytes q)
