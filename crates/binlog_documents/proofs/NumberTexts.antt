-- Texts that are numbers of JSON, and that each of those is ASCII.
use Rattle.std.proofs.Common.{◌≡◌, ℕ, pos, negsuc, suc, ◌+◌, ◌-◌, ◌^◌, ◌<◌, ◌≤◌, ◌==◌, ◌&&◌, ◌||◌, Bool, true, false, cond, List, [], ◌∷◌, ◌++◌, length, take, drop, nat_lt, Option, Some, None, option_and_then, inl, inr, refl, sym, ap, ◌∙◌, append-nil, lt-ltb, arith}
use Rattle.std.specs.Prelude.{not, ◌-ℤ◌}
use Rattle.std.specs.List.{list_all, prefix_len}
use Rattle.std.specs.Char.{is_ascii_digit}
use Rattle.std.specs.Fmt.{signed_decimal}
use Rattle.std.specs.Str.{IsAscii}
use Rattle.std.proofs.lemmas.Bool.{ne_eqb, eqb-true, ltb-true, ltb-false, or_cases}
use Rattle.std.proofs.lemmas.List.{drop_at}
use Rattle.std.proofs.lemmas.Str.Ascii.{IsAscii-nil, IsAscii-cons}
use Rattle.json.specs.Word.{head, after_digits, after_minus, after_sign, after_whole, after_fraction, after_exponent, after_number}
use Rattle.json.specs.Print.{IsNumber}
use Rattle.json.proofs.Printed.Decimals.{IsNumber-signed_decimal}
use Rattle.binlog_documents.specs.Opaques.{without_zeros, point_text, scaled_text}
use Rattle.binlog_documents.proofs.Digits.{AreDigits, front, rest, digit_range}

-- ---- signed integers, by two's complement

pub signed_number : (n half last : ℕ) → n ≤ last → half ≤ 2 ^ 63 → last < half + 2 ^ 63 → IsNumber (signed_decimal (cond (nat_lt n half) (pos n) (pos n -ℤ pos (suc last))))
signed_number n half last within small few = at (nat_lt n half) refl
  where
    at : (b : Bool) → nat_lt n half ≡ b → IsNumber (signed_decimal (cond b (pos n) (pos n -ℤ pos (suc last))))
    at true e = let below : n < half = ltb-true n half e in IsNumber-signed_decimal (pos n) (omega arith)
    at false e = let from : half ≤ n = ltb-false n half e in rw (lt-ltb n (suc last) (omega arith)) (IsNumber-signed_decimal (negsuc (suc last - suc n)) (omega arith))

-- ---- decimals

run : (ds behind : List ℕ) → AreDigits ds → prefix_len is_ascii_digit behind ≡ 0 → prefix_len is_ascii_digit (ds ++ behind) ≡ length ds
run [] behind p none = none
run (d ∷ ds) behind p none = ap (λ b. cond b (1 + prefix_len is_ascii_digit (ds ++ behind)) 0) p.0 ∙ omega (arith, run ds behind p.1 none)

digits_then : (d : ℕ) (ds behind : List ℕ) → AreDigits (d ∷ ds) → prefix_len is_ascii_digit behind ≡ 0 → after_digits (d ∷ ds ++ behind) ≡ Some behind
digits_then d ds behind p none =
    ap (λ n. cond (n == 0) None (Some (drop n (d ∷ ds ++ behind)))) (run (d ∷ ds) behind p none)
    ∙ ap (λ b. cond b None (Some (drop (length (d ∷ ds)) (d ∷ ds ++ behind)))) (ne_eqb (length (d ∷ ds)) 0 (λ e. omega arith))
    ∙ ap Some (drop_at (d ∷ ds) behind _ refl)

-- the digits in front of a point or the end
record IsWhole (text behind : List ℕ) : Type 0 where
  whole : after_whole text ≡ Some behind
  no_sign : (head text == 45) ≡ false

some_digits : (zero_first : Bool) (d : ℕ) (ds behind : List ℕ) → (d == 48) ≡ zero_first → AreDigits (d ∷ ds) → prefix_len is_ascii_digit behind ≡ 0 → IsWhole (without_zeros ds ++ behind) behind
    → IsWhole (cond zero_first (without_zeros ds) (d ∷ ds) ++ behind) behind
some_digits true d ds behind e p none later = later
some_digits false d ds behind e p none later =
    let range = digit_range d p.0 in
    record { whole = ap (λ b. cond b (Some (ds ++ behind)) (after_digits (d ∷ ds ++ behind))) e ∙ digits_then d ds behind p none; no_sign = ne_eqb d 45 (λ e. omega arith) }

whole_then : (ds behind : List ℕ) → AreDigits ds → prefix_len is_ascii_digit behind ≡ 0 → IsWhole (without_zeros ds ++ behind) behind
whole_then [] behind p none = record { whole = refl; no_sign = refl }
whole_then (d ∷ ds) behind p none = some_digits (d == 48) d ds behind refl p none (whole_then ds behind p.1 none)

point_stops : (ds : List ℕ) → prefix_len is_ascii_digit (point_text ds) ≡ 0
point_stops [] = refl
point_stops (d ∷ ds) = refl

fraction : (ds : List ℕ) → AreDigits ds → after_fraction (point_text ds) ≡ Some []
fraction [] p = refl
fraction (d ∷ ds) p = ap after_digits (sym (append-nil (d ∷ ds))) ∙ digits_then d ds [] p refl

unsigned : (count : ℕ) (ds : List ℕ) → AreDigits ds → (negative : Bool) → IsNumber ((cond negative (45 ∷ []) []) ++ (without_zeros (take count ds) ++ point_text (drop count ds)))
unfolding after_number
unsigned count ds p negative = signed negative
  where
    w : IsWhole (without_zeros (take count ds) ++ point_text (drop count ds)) (point_text (drop count ds))
    w = whole_then (take count ds) (point_text (drop count ds)) (front count ds p) (point_stops (drop count ds))

    parts : option_and_then after_exponent (option_and_then after_fraction (after_whole (without_zeros (take count ds) ++ point_text (drop count ds)))) ≡ Some []
    parts = ap (λ o. option_and_then after_exponent (option_and_then after_fraction o)) w.whole ∙ ap (option_and_then after_exponent) (fraction (drop count ds) (rest count ds p))

    signed : (b : Bool) → IsNumber ((cond b (45 ∷ []) []) ++ (without_zeros (take count ds) ++ point_text (drop count ds)))
    signed true = parts
    signed false =
        let text = without_zeros (take count ds) ++ point_text (drop count ds) in
        ap (λ b. option_and_then after_exponent (option_and_then after_fraction (after_whole (cond b (drop 1 text) text)))) w.no_sign ∙ parts

pub scaled_number : (negative : Bool) (count : ℕ) (ds : List ℕ) → AreDigits ds → IsNumber (scaled_text negative count ds)
scaled_number negative count ds p = unsigned count ds p (negative && not (list_all (λ d. d == 48) ds))

-- ---- each number is ASCII: what a part leaves is, and so is the part

record IsAsciiText (text : List ℕ) : Type 0 where
  ascii : IsAscii text

byte : (x : ℕ) (xs : List ℕ) → x < 128 → IsAsciiText xs → IsAsciiText (x ∷ xs)
byte x xs small p = record { ascii = IsAscii-cons x xs small p.ascii }

abbrev Leaves : Option (List ℕ) → Type 0
Leaves None = ⊥
Leaves (Some text) = IsAsciiText text

by_test : (b : Bool) (x y : Option (List ℕ)) (P : Type 0) → (b ≡ true → Leaves x → P) → (Leaves y → P) → Leaves (cond b x y) → P
by_test true x y P f g h = f refl h
by_test false x y P f g h = g h

passed : (t : List ℕ) → head t < 128 → IsAsciiText (drop 1 t) → IsAsciiText t
passed [] small p = record { ascii = IsAscii-nil }
passed (x ∷ xs) small p = byte x xs small p

skipped : (b : Bool) (t : List ℕ) → (b ≡ true → head t < 128) → IsAsciiText (cond b (drop 1 t) t) → IsAsciiText t
skipped true t small p = passed t (small refl) p
skipped false t small p = p

is : (c x : ℕ) → c < 128 → (x == c) ≡ true → x < 128
is c x small e = omega (arith, eqb-true x c e)

is_one : (c d x : ℕ) → c < 128 → d < 128 → ((x == c) || (x == d)) ≡ true → x < 128
is_one c d x p q e = elim (or_cases (x == c) (x == d) e) [ inl a ↦ is c x p a | inr b ↦ is d x q b ]

one_more : (b : Bool) (x n : ℕ) (xs : List ℕ) → is_ascii_digit x ≡ b → (IsAsciiText (drop n xs) → IsAsciiText xs) → IsAsciiText (drop (cond b (1 + n) 0) (x ∷ xs)) → IsAsciiText (x ∷ xs)
one_more true x n xs e more p =
    let next : 1 + n ≡ suc n = omega arith in
    let range = digit_range x e in
    byte x xs (omega arith) (more (rw next at p))
one_more false x n xs e more p = p

run_ascii : (t : List ℕ) → IsAsciiText (drop (prefix_len is_ascii_digit t) t) → IsAsciiText t
run_ascii [] p = p
run_ascii (x ∷ xs) p = one_more (is_ascii_digit x) x (prefix_len is_ascii_digit xs) xs refl (run_ascii xs) p

digits_ascii : (t : List ℕ) → Leaves (after_digits t) → IsAsciiText t
digits_ascii t = by_test (prefix_len is_ascii_digit t == 0) None _ _ (λ e h. absurd h) (run_ascii t)

exponent_ascii : (t : List ℕ) → Leaves (after_exponent t) → IsAsciiText t
exponent_ascii t =
    let u = drop 1 t in
    by_test ((head t == 101) || (head t == 69)) _ (Some t) _
    (λ e h. passed t (is_one 101 69 _ (omega arith) (omega arith) e) (skipped _ u (is_one 45 43 _ (omega arith) (omega arith)) (digits_ascii (after_sign u) h))) (λ h. h)

fraction_ascii : (t : List ℕ) → Leaves (after_fraction t) → IsAsciiText t
fraction_ascii t = by_test (head t == 46) _ (Some t) _ (λ e h. passed t (is 46 _ (omega arith) e) (digits_ascii (drop 1 t) h)) (λ h. h)

whole_ascii : (t : List ℕ) → Leaves (after_whole t) → IsAsciiText t
whole_ascii t = by_test (head t == 48) (Some (drop 1 t)) _ _ (λ e h. passed t (is 48 _ (omega arith) e) h) (digits_ascii t)

back : (f : List ℕ → Option (List ℕ)) → ((t : List ℕ) → Leaves (f t) → IsAsciiText t) → (o : Option (List ℕ)) → Leaves (option_and_then f o) → Leaves o
back f p None h = h
back f p (Some t) h = p t h

leaves : (o : Option (List ℕ)) → o ≡ Some [] → Leaves o
leaves None e = absurd cc
leaves (Some t) e = let same : t ≡ [] = cc in rw same (record { ascii = IsAscii-nil })

pub number_ascii : (t : List ℕ) → IsNumber t → IsAscii t
unfolding after_number
number_ascii t h =
    (skipped (head t == 45) t (is 45 _ (omega arith)) (whole_ascii (after_minus t) (back after_fraction fraction_ascii _ (back after_exponent exponent_ascii _ (leaves _ h))))).ascii
