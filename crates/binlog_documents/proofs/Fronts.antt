-- A value at the front of bytes is the one of their first bytes, too, where it ends among these; else these have none.
use Rattle.std.proofs.Common.{◌≡◌, ◌∙◌, ℕ, zero, suc, ◌+◌, ◌-◌, ◌*◌, ◌<◌, ◌≤◌, List, [], ◌∷◌, ◌++◌, length, take, drop, slice_index, Option, Some, None, option_map, unwrap_or, Bool, true, false, ◌==◌, ◌&&◌, nat_lt, nat_le, if◌then◌else◌, ◌⊎◌, inl, inr, refl, sym, ap, length-take-le, length-drop, le-leb, arith}
use Rattle.std.proofs.lemmas.Bool.{lt-leb}
use Rattle.std.proofs.lemmas.Bool.Decides.{leb_tells}
use Rattle.std.proofs.lemmas.List.{drop-take, take-take}
use Rattle.byteorder.specs.Endian.{little_number}
use Rattle.byteorder.specs.Numbers.{little_from-take}
use Rattle.binlog_documents.specs.Appended.{IsAppended, IsFrontOf}
use Rattle.binlog_documents.specs.Document.{Document, array, double, object, opaque, text}
use Rattle.binlog_documents.specs.Scalars.{◌>>=◌, Reading, counted_at, double_at, is_finite, length_at, literal_at, literal_of, number_at, opaque_at, scalar_at, signed, text_at, unsigned, utf8_text}
use Rattle.binlog_documents.specs.Containers.{Container, array_at, container_at, element_entry, elements_of, member_entries, is_inlined, members_of, object_at, value_at, value_in, value_place}
use Rattle.binlog_documents.specs.Texts.{document_text}

-- what is there, where it takes no more than so many bytes
abbrev pub within : {A : Type 0} → (A → ℕ) → ℕ → Option A → Option A
within size n o = o >>= λ x. if nat_le (size x) n then Some x else None

abbrev pub end_of : {A : Type 0} → A × ℕ → ℕ
end_of x = x.1

-- a test of two numbers, with what it tells
abbrev Tells : ℕ → ℕ → Type 0
Tells a b = ((nat_le a b ≡ true) × (a ≤ b)) ⊎ ((nat_le a b ≡ false) × (b < a))

stays : {A : Type 0} (size : A → ℕ) (n : ℕ) (x : A) (is_read : Bool) → size x ≤ n → (if is_read then Some x else None) ≡ within size n (if is_read then Some x else None)
stays size n x true le = rw (le-leb (size x) n le) refl
stays size n x false le = refl

goes : {A : Type 0} (size : A → ℕ) (n : ℕ) (x : A) (is_read : Bool) → n < size x → None ≡ within size n (if is_read then Some x else None)
goes size n x true past = rw (lt-leb (size x) n past) refl
goes size n x false past = refl

by_either : {A : Type 0} (size : A → ℕ) (n : ℕ) (test : Bool) (x y left right : Option A) → left ≡ within size n x → right ≡ within size n y
    → (if test then left else right) ≡ within size n (if test then x else y)
by_either size n true x y left right one other = one
by_either size n false x y left right one other = other

neither : {A : Type 0} (size : A → ℕ) (n : ℕ) (test : Bool) (x : Option A) → None ≡ within size n x → None ≡ within size n (if test then x else None)
neither size n true x none = none
neither size n false x none = refl

-- ---- what is made of what was read

-- with the same end
made-front : {A B C : Type 0} (size : A → ℕ) (n : ℕ) (make : A → Option B) (wrap : B → C) (o : Option A)
    → (within size n o >>= λ x. option_map (λ y. (wrap y, size x)) (make x)) ≡ within end_of n (o >>= λ x. option_map (λ y. (wrap y, size x)) (make x))
made-front size n make wrap None = refl
made-front {A = A} {B = B} {C = C} size n make wrap (Some x) = by_test (leb_tells (size x) n)
  where
    kept : (m : Option B) → size x ≤ n → option_map (λ y. (wrap y, size x)) m ≡ within end_of n (option_map (λ y. (wrap y, size x)) m)
    kept None le = refl
    kept (Some y) le = rw (le-leb (size x) n le) refl

    left_out : (m : Option B) → n < size x → None ≡ within end_of n (option_map (λ y. (wrap y, size x)) m)
    left_out None past = refl
    left_out (Some y) past = rw (lt-leb (size x) n past) refl

    by_test : Tells (size x) n → ((if nat_le (size x) n then Some x else None) >>= λ z. option_map (λ y. (wrap y, size z)) (make z)) ≡ within end_of n (option_map (λ y. (wrap y, size x)) (make x))
    by_test (inl t) = rw t.0 (kept (make x) t.1)
    by_test (inr t) = rw t.0 (left_out (make x) t.1)

-- behind one byte more
later-front : {A B : Type 0} (n : ℕ) (make : A × ℕ → B) (o : Option (A × ℕ))
    → option_map (λ x. (make x, x.1 + 1)) (within end_of n o) ≡ within end_of (suc n) (option_map (λ x. (make x, x.1 + 1)) o)
later-front n make None = refl
later-front {A = A} {B = B} n make (Some x) = by_test (leb_tells x.1 n)
  where
    by_test : Tells x.1 n → option_map {U = B × ℕ} (λ y. (make y, y.1 + 1)) (if nat_le x.1 n then Some x else None) ≡ (if nat_le (x.1 + 1) (suc n) then Some (make x, x.1 + 1) else None)
    by_test (inl t) = rw (t.0, le-leb (x.1 + 1) (suc n) (omega (arith, t.1))) refl
    by_test (inr t) = rw (t.0, lt-leb (x.1 + 1) (suc n) (omega (arith, t.1))) refl

-- of no bytes
none-front : {A B : Type 0} (make : A × ℕ → B) (o : Option (A × ℕ)) → None ≡ within end_of 0 (option_map (λ x. (make x, x.1 + 1)) o)
none-front make None = refl
none-front make (Some x) = rw (lt-leb (x.1 + 1) 0 (omega arith)) refl

-- ---- scalars

literal-front : (n : ℕ) (bytes : List ℕ) → n ≤ length bytes → literal_at (take n bytes) ≡ within end_of n (literal_at bytes)
unfolding literal_at
literal-front n [] le = let none : n ≡ 0 = omega arith in rw none refl
literal-front zero (code ∷ bytes) le = none_of (literal_of code)
  where
    none_of : (d : Option Document) → None ≡ within end_of 0 (option_map (λ d. (d, 1)) d)
    none_of None = refl
    none_of (Some d) = refl
literal-front (suc n) (code ∷ bytes) le = one_of (literal_of code)
  where
    one_of : (d : Option Document) → option_map (λ d. (d, 1)) d ≡ within end_of (suc n) (option_map (λ d. (d, 1)) d)
    one_of None = refl
    one_of (Some d) = rw (le-leb 1 (suc n) (omega arith)) refl

number-front : (width n : ℕ) (made : ℕ → Document) (bytes : List ℕ) → n ≤ length bytes → number_at width made (take n bytes) ≡ within end_of n (number_at width made bytes)
unfolding number_at
number-front width n made bytes le = rw (length-take-le n bytes le) (by_test (leb_tells width n))
  where
    by_test : Tells width n → (if nat_le width n then Some (made (little_number width (take n bytes)), width) else None) ≡ within end_of n (if nat_le width (length bytes) then Some (made (little_number width bytes), width) else None)
    by_test (inl t) = rw (t.0, little_from-take 0 width n bytes (omega (arith, t.1)), le-leb width (length bytes) (omega (arith, t.1))) (stays end_of n (made (little_number width bytes), width) true t.1)
    by_test (inr t) = rw t.0 (goes end_of n (made (little_number width bytes), width) (nat_le width (length bytes)) t.1)

double-front : (n : ℕ) (bytes : List ℕ) → n ≤ length bytes → double_at (take n bytes) ≡ within end_of n (double_at bytes)
unfolding double_at
double-front n bytes le = rw (length-take-le n bytes le) (by_test (leb_tells 8 n))
  where
    by_test : Tells 8 n → (if nat_le 8 n then (if is_finite (little_number 8 (take n bytes)) then Some (double (little_number 8 (take n bytes)), 8) else None) else None)
        ≡ within end_of n (if nat_le 8 (length bytes) then (if is_finite (little_number 8 bytes) then Some (double (little_number 8 bytes), 8) else None) else None)
    by_test (inl t) = rw (t.0, little_from-take 0 8 n bytes (omega (arith, t.1)), le-leb 8 (length bytes) (omega (arith, t.1))) (stays end_of n (double (little_number 8 bytes), 8) (is_finite (little_number 8 bytes)) t.1)
    by_test (inr t) = rw t.0 (neither end_of n (nat_le 8 (length bytes)) (if is_finite (little_number 8 bytes) then Some (double (little_number 8 bytes), 8) else None) (goes end_of n (double (little_number 8 bytes), 8) (is_finite (little_number 8 bytes)) t.1))

length-front : (most n : ℕ) (bytes : List ℕ) → n ≤ length bytes → length_at most (take n bytes) ≡ within end_of n (length_at most bytes)
unfolding length_at
length-front zero n bytes le = refl
length-front (suc most) n [] le = let none : n ≡ 0 = omega arith in rw none refl
length-front (suc most) zero (b ∷ bytes) le =
    neither_of (nat_lt b 128) (Some (b, 1)) (option_map (λ l. (b - 128 + 128 * l.0, l.1 + 1)) (length_at most bytes)) refl (none-front (λ l. b - 128 + 128 * l.0) (length_at most bytes))
  where
    neither_of : (test : Bool) (x y : Option (ℕ × ℕ)) → None ≡ within end_of 0 x → None ≡ within end_of 0 y → None ≡ within end_of 0 (if test then x else y)
    neither_of true x y one other = one
    neither_of false x y one other = other
length-front (suc most) (suc n) (b ∷ bytes) le =
    by_either end_of (suc n) (nat_lt b 128) (Some (b, 1)) (option_map (λ l. (b - 128 + 128 * l.0, l.1 + 1)) (length_at most bytes)) (Some (b, 1)) (option_map (λ l. (b - 128 + 128 * l.0, l.1 + 1)) (length_at most (take n bytes)))
    (rw (le-leb 1 (suc n) (omega arith)) refl)
    (rw (length-front most n bytes (omega arith)) (later-front n (λ l. b - 128 + 128 * l.0) (length_at most bytes)))

counted-front : (n : ℕ) (bytes : List ℕ) → n ≤ length bytes → counted_at (take n bytes) ≡ within end_of n (counted_at bytes)
unfolding counted_at
counted-front n bytes le = rw (length-front 5 n bytes le, length-take-le n bytes le) (of_length (length_at 5 bytes))
  where
    same : (len begin : ℕ) → begin + len ≤ n → take len (drop begin (take n bytes)) ≡ take len (drop begin bytes)
    same len begin fits =
        let parts : n ≡ begin + (n - begin) = omega (arith, fits) in
        ap (λ (k : ℕ). take len (drop begin (take k bytes))) parts ∙ ap (take len) (drop-take begin (n - begin) bytes) ∙ take-take len (n - begin) (drop begin bytes) (omega (arith, fits))

    by_tests : (l : ℕ × ℕ) → Tells l.1 n → Tells (l.1 + l.0) n
        → ((if nat_le l.1 n then Some l else None) >>= λ l. if nat_le (l.1 + l.0) n then Some (take l.0 (drop l.1 (take n bytes)), l.1 + l.0) else None)
        ≡ within end_of n (if nat_le (l.1 + l.0) (length bytes) then Some (take l.0 (drop l.1 bytes), l.1 + l.0) else None)
    by_tests l (inl s) (inl t) =
        rw (s.0, t.0, same l.0 l.1 t.1, le-leb (l.1 + l.0) (length bytes) (omega (arith, t.1))) (stays end_of n (take l.0 (drop l.1 bytes), l.1 + l.0) true t.1)
    by_tests l (inl s) (inr t) = rw (s.0, t.0) (goes end_of n (take l.0 (drop l.1 bytes), l.1 + l.0) (nat_le (l.1 + l.0) (length bytes)) t.1)
    by_tests l (inr s) t = rw s.0 (goes end_of n (take l.0 (drop l.1 bytes), l.1 + l.0) (nat_le (l.1 + l.0) (length bytes)) (omega (arith, s.1)))

    of_length : (o : Option (ℕ × ℕ))
        → (within end_of n o >>= λ l. if nat_le (l.1 + l.0) n then Some (take l.0 (drop l.1 (take n bytes)), l.1 + l.0) else None)
        ≡ within end_of n (o >>= λ l. if nat_le (l.1 + l.0) (length bytes) then Some (take l.0 (drop l.1 bytes), l.1 + l.0) else None)
    of_length None = refl
    of_length (Some l) = by_tests l (leb_tells l.1 n) (leb_tells (l.1 + l.0) n)

text-front : (n : ℕ) (bytes : List ℕ) → n ≤ length bytes → text_at (take n bytes) ≡ within end_of n (text_at bytes)
unfolding text_at
text-front n bytes le = rw (counted-front n bytes le) (made-front end_of n (λ c. utf8_text c.0) text (counted_at bytes))

opaque-front : (n : ℕ) (bytes : List ℕ) → n ≤ length bytes → opaque_at (take n bytes) ≡ within end_of n (opaque_at bytes)
unfolding opaque_at
opaque-front n [] le = let none : n ≡ 0 = omega arith in rw none refl
opaque-front zero (kind ∷ bytes) le = none-front (λ c. opaque kind c.0) (counted_at bytes)
opaque-front (suc n) (kind ∷ bytes) le = rw (counted-front n bytes (omega arith)) (later-front n (λ c. opaque kind c.0) (counted_at bytes))

scalar-front : (kind n : ℕ) (bytes : List ℕ) → n ≤ length bytes → scalar_at kind (take n bytes) ≡ within end_of n (scalar_at kind bytes)
unfolding scalar_at
scalar-front kind n bytes le =
    by_either end_of n (kind == 4) _ _ _ _ (literal-front n bytes le)
    (by_either end_of n (kind == 5) _ _ _ _ (number-front 2 n (signed 2) bytes le)
    (by_either end_of n (kind == 6) _ _ _ _ (number-front 2 n unsigned bytes le)
    (by_either end_of n (kind == 7) _ _ _ _ (number-front 4 n (signed 4) bytes le)
    (by_either end_of n (kind == 8) _ _ _ _ (number-front 4 n unsigned bytes le)
    (by_either end_of n (kind == 9) _ _ _ _ (number-front 8 n (signed 8) bytes le)
    (by_either end_of n (kind == 10) _ _ _ _ (number-front 8 n unsigned bytes le)
    (by_either end_of n (kind == 11) _ _ _ _ (double-front n bytes le)
    (by_either end_of n (kind == 12) _ _ _ _ (text-front n bytes le)
    (by_either end_of n (kind == 15) _ _ _ _ (opaque-front n bytes le) refl)))))))))

-- ---- arrays and objects

abbrev size_of : Container → ℕ
size_of c = length c.bytes

abbrev cut : ℕ → ℕ → List ℕ → Option Container
cut count size front = Some (record { count = count; bytes = take size front })

abbrev sized : ℕ → ℕ → ℕ → ℕ → List ℕ → ℕ → Option Container
sized entry width count size front room = if nat_le (2 * width + count * entry) size && nat_le size room then cut count size front else None

container-front : (entry width n : ℕ) (bytes : List ℕ) → n ≤ length bytes → container_at entry width (take n bytes) ≡ within size_of n (container_at entry width bytes)
unfolding container_at
container-front entry width n bytes le = rw (length-take-le n bytes le) (by_test (leb_tells (2 * width) n))
  where
    fits : (count size : ℕ) (enough : Bool) → size ≤ n → (if enough && true then cut count size bytes else None) ≡ within size_of n (if enough && true then cut count size bytes else None)
    fits count size true small = let len : length (take size bytes) ≡ size = length-take-le size bytes (omega (arith, small)) in rw (len, le-leb size n small) refl
    fits count size false small = refl

    past : (count size : ℕ) (enough : Bool) → Tells size (length bytes) → n < size → None ≡ within size_of n (if enough && nat_le size (length bytes) then cut count size bytes else None)
    past count size true (inl t) large = let len : length (take size bytes) ≡ size = length-take-le size bytes t.1 in rw (t.0, len, lt-leb size n large) refl
    past count size true (inr t) large = rw t.0 refl
    past count size false t large = refl

    by_size : (count size : ℕ) → Tells size n → sized entry width count size (take n bytes) n ≡ within size_of n (sized entry width count size bytes (length bytes))
    by_size count size (inl t) = rw (t.0, le-leb size (length bytes) (omega (arith, t.1)), take-take size n bytes t.1) (fits count size (nat_le (2 * width + count * entry) size) t.1)
    by_size count size (inr t) = rw t.0 (none_of (nat_le (2 * width + count * entry) size) ∙ past count size (nat_le (2 * width + count * entry) size) (leb_tells size (length bytes)) t.1)
      where
        none_of : (enough : Bool) → (if enough && false then cut count size (take n bytes) else None) ≡ None
        none_of true = refl
        none_of false = refl

    short : (count size : ℕ) → Tells (2 * width + count * entry) size → n < 2 * width → None ≡ within size_of n (sized entry width count size bytes (length bytes))
    short count size (inl t) few = rw t.0 (past count size true (leb_tells size (length bytes)) (omega (arith, t.1, few)))
    short count size (inr t) few = rw t.0 refl

    by_test : Tells (2 * width) n
        → (if nat_le (2 * width) n then sized entry width (little_number width (take n bytes)) (little_number width (drop width (take n bytes))) (take n bytes) n else None)
        ≡ within size_of n (if nat_le (2 * width) (length bytes) then sized entry width (little_number width bytes) (little_number width (drop width bytes)) bytes (length bytes) else None)
    by_test (inl t) =
        let parts : n ≡ width + (n - width) = omega (arith, t.1) in
        let behind_count : drop width (take n bytes) ≡ take (n - width) (drop width bytes) = ap (λ (k : ℕ). drop width (take k bytes)) parts ∙ drop-take width (n - width) bytes in
        rw (t.0, le-leb (2 * width) (length bytes) (omega (arith, t.1)), little_from-take 0 width n bytes (omega (arith, t.1)), behind_count, little_from-take 0 width (n - width) (drop width bytes) (omega (arith, t.1)))
        (by_size (little_number width bytes) (little_number width (drop width bytes)) (leb_tells (little_number width (drop width bytes)) n))
    by_test (inr t) =
        let count = little_number width bytes in
        let size = little_number width (drop width bytes) in
        rw t.0 (neither size_of n (nat_le (2 * width) (length bytes)) (sized entry width count size bytes (length bytes)) (short count size (leb_tells (2 * width + count * entry) size) t.1))

array-front : (value : ℕ → List ℕ → Reading) (width n : ℕ) (bytes : List ℕ) → n ≤ length bytes → array_at value width (take n bytes) ≡ within end_of n (array_at value width bytes)
unfolding array_at
array-front value width n bytes le = rw (container-front (element_entry width) width n bytes le) (made-front size_of n (elements_of value width) array (container_at (element_entry width) width bytes))

object-front : (value : ℕ → List ℕ → Reading) (width n : ℕ) (bytes : List ℕ) → n ≤ length bytes → object_at value width (take n bytes) ≡ within end_of n (object_at value width bytes)
unfolding object_at
object-front value width n bytes le = rw (container-front (member_entries width) width n bytes le) (made-front size_of n (members_of value width) object (container_at (member_entries width) width bytes))

value-front : (depth kind n : ℕ) (bytes : List ℕ) → n ≤ length bytes → value_at depth kind (take n bytes) ≡ within end_of n (value_at depth kind bytes)
unfolding value_at
value-front zero kind n bytes le = scalar-front kind n bytes le
value-front (suc depth) kind n bytes le =
    by_either end_of n (kind == 0) _ _ _ _ (object-front (value_at depth) 2 n bytes le)
    (by_either end_of n (kind == 1) _ _ _ _ (object-front (value_at depth) 4 n bytes le)
    (by_either end_of n (kind == 2) _ _ _ _ (array-front (value_at depth) 2 n bytes le)
    (by_either end_of n (kind == 3) _ _ _ _ (array-front (value_at depth) 4 n bytes le) (scalar-front kind n bytes le))))

-- ---- a value behind others

-- the bytes from a place on, as a front of those that are looked at
pub rest-front : (ahead bytes : List ℕ) (place : ℕ) → IsFrontOf ahead bytes → place ≤ length bytes → drop place bytes ≡ take (length bytes - place) (drop place ahead)
rest-front ahead bytes place front le =
    let parts : length bytes ≡ place + (length bytes - place) = omega (arith, le) in
    ap (drop place) (sym front.1) ∙ ap (λ (k : ℕ). drop place (take k ahead)) parts ∙ drop-take place (length bytes - place) ahead

same_reading : (x y : List ℕ × ℕ) → Some x ≡ Some y → x ≡ y
same_reading x y e = ap (λ (o : Option (List ℕ × ℕ)). unwrap_or o x) e

-- a reading that begins at a place
abbrev pub placed : ℕ → Reading → Reading
placed place reading = option_map (λ x. (x.0, place + x.1)) reading

reaches : (place n : ℕ) (old new : List ℕ) (len : ℕ) (r : Reading) → IsAppended old new r (Some len) → len ≤ n → IsAppended old new (placed place (within end_of n r)) (Some (place + len))
reaches place n old new len None read fits = absurd cc
reaches place n old new len (Some x) read fits =
    let same = same_reading (new, len) (old ++ document_text x.0, x.1) read in
    let ends : len ≡ x.1 = ap (λ (p : List ℕ × ℕ). p.1) same in
    rw (le-leb x.1 n (omega (arith, ends, fits))) (ap (λ (p : List ℕ × ℕ). Some (p.0, place + p.1)) same)

passes : (place n : ℕ) (old new : List ℕ) (len : ℕ) (r : Reading) → IsAppended old new r (Some len) → n < len → IsAppended old new (placed place (within end_of n r)) None
passes place n old new len None read large = absurd cc
passes place n old new len (Some x) read large =
    let ends : len ≡ x.1 = ap (λ (p : List ℕ × ℕ). p.1) (same_reading (new, len) (old ++ document_text x.0, x.1) read) in
    rw (lt-leb x.1 n (omega (arith, ends, large))) refl

none_there : (place n : ℕ) (old new : List ℕ) (r : Reading) → IsAppended old new r None → IsAppended old new (placed place (within end_of n r)) None
none_there place n old new None read = refl
none_there place n old new (Some x) read = absurd cc

-- the value of an entry that has its place
value-in_place : (value : ℕ → List ℕ → Reading) (width : ℕ) (bytes : List ℕ) (entry from place : ℕ) → is_inlined width (slice_index bytes entry) ≡ false → value_place width bytes entry from ≡ Some place
    → value_in value width bytes entry from ≡ placed place (value (slice_index bytes entry) (drop place bytes))
unfolding value_in
value-in_place value width bytes entry from place outside is = rw (outside, is) refl

front-of_rest : (depth kind place : ℕ) (ahead bytes : List ℕ) → IsFrontOf ahead bytes → place ≤ length bytes
    → value_at depth kind (drop place bytes) ≡ within end_of (length bytes - place) (value_at depth kind (drop place ahead))
front-of_rest depth kind place ahead bytes front le =
    rw (rest-front ahead bytes place front le) (value-front depth kind (length bytes - place) (drop place ahead) (omega (arith, front.0, le, length-drop place ahead)))

-- Of the value of an entry, which is looked for in more bytes than its container has: it is there where it ends in these.
pub value-reaches : (depth width entry from place : ℕ) (ahead bytes old new : List ℕ) (len : ℕ) → IsFrontOf ahead bytes → place ≤ length bytes
    → is_inlined width (slice_index bytes entry) ≡ false → value_place width bytes entry from ≡ Some place
    → IsAppended old new (value_at depth (slice_index bytes entry) (drop place ahead)) (Some len) → len ≤ length bytes - place
    → IsAppended old new (value_in (value_at depth) width bytes entry from) (Some (place + len))
value-reaches depth width entry from place ahead bytes old new len front le outside is read fits =
    let kind = slice_index bytes entry in
    rw (value-in_place (value_at depth) width bytes entry from place outside is, front-of_rest depth kind place ahead bytes front le)
    (reaches place (length bytes - place) old new len (value_at depth kind (drop place ahead)) read fits)

pub value-passes : (depth width entry from place : ℕ) (ahead bytes old new : List ℕ) (len : ℕ) → IsFrontOf ahead bytes → place ≤ length bytes
    → is_inlined width (slice_index bytes entry) ≡ false → value_place width bytes entry from ≡ Some place
    → IsAppended old new (value_at depth (slice_index bytes entry) (drop place ahead)) (Some len) → length bytes - place < len
    → IsAppended old new (value_in (value_at depth) width bytes entry from) None
value-passes depth width entry from place ahead bytes old new len front le outside is read large =
    let kind = slice_index bytes entry in
    rw (value-in_place (value_at depth) width bytes entry from place outside is, front-of_rest depth kind place ahead bytes front le)
    (passes place (length bytes - place) old new len (value_at depth kind (drop place ahead)) read large)

pub value-none : (depth width entry from place : ℕ) (ahead bytes old new : List ℕ) → IsFrontOf ahead bytes → place ≤ length bytes
    → is_inlined width (slice_index bytes entry) ≡ false → value_place width bytes entry from ≡ Some place
    → IsAppended old new (value_at depth (slice_index bytes entry) (drop place ahead)) None
    → IsAppended old new (value_in (value_at depth) width bytes entry from) None
value-none depth width entry from place ahead bytes old new front le outside is read =
    let kind = slice_index bytes entry in
    rw (value-in_place (value_at depth) width bytes entry from place outside is, front-of_rest depth kind place ahead bytes front le)
    (none_there place (length bytes - place) old new (value_at depth kind (drop place ahead)) read)

-- the first bytes of a text, from a place on
pub text-front_of : (ahead bytes : List ℕ) (place len : ℕ) → IsFrontOf ahead bytes → place + len ≤ length bytes → take len (drop place ahead) ≡ take len (drop place bytes)
text-front_of ahead bytes place len front fits =
    sym (ap (take len) (rest-front ahead bytes place front (omega (arith, fits))) ∙ take-take len (length bytes - place) (drop place ahead) (omega (arith, fits)))
