-- The text of a float reads back as it: each layout is a numeral that is worth the shortest decimal.
use Rattle.std.proofs.Common.{◌≡◌, ◌∙◌, ℕ, zero, suc, ◌+◌, ◌-◌, ◌*◌, ◌%◌, ◌^◌, ◌<◌, ◌≤◌, ◌&&◌, Bool, true, false, cond, ltb, leb, T, not, List, [], ◌∷◌, ◌++◌, length, take, drop, replicate, codes, decimal, Some, inl, inr, refl, sym, ap, subst, arith, append-nil, append_assoc, eq-zero-or-pos, eq-eqb, ltb-true, ltb-false, pow-add, take-append-drop, length-drop, length-take}
use lib.Dec.{lit<}
use lib.Ieee.{Float, Format, hid, is_nan, of_bits, ones, top}
use lib.Ieee.Bits.{nan_bits_above, nan_bits_is}
use lib.Ieee.Scale.{round_same}
use Rattle.std.specs.Fmt.{sign_text}
use Rattle.std.specs.Float.Numeral.{IsWellFormed, Parts, numeral_digits, tens_down, tens_up, text_of}
use Rattle.std.specs.Float.Parse.{parse_float}
use Rattle.std.specs.Str.Parse.{AllDigits, digits_value}
use Rattle.std.proofs.lemmas.Bool.{and_parts, ne_eqb, le-ltb}
use Rattle.std.proofs.lemmas.Fmt.{decimal_is_IsNumeral, decimal_nonempty, length-decimal-le}
use Rattle.std.proofs.lemmas.List.{drop_all, length-append}
use Rattle.fast_float.specs.Rounding.{IsNearestBits}
use Rattle.fast_float.proofs.DigitsLemmas.{digits_value-append}
use Rattle.fast_float.proofs.ExactLemmas.{ten_to_pos}
use Rattle.fast_float.proofs.Extremes.{nearest_of_zero, tens_eq}
use Rattle.ryu.specs.Plain.{exponent_with, text_with}
use Rattle.ryu.specs.Sign.{IsSignAndSize}
use Rattle.ryu.proofs.Plus.{parse_float-text_with}
use Rattle.ryu.proofs.Signs.{parts, signed}
use Rattle.float_text.specs.Layout.{exponent_digits, exponent_text, layout, mantissa_text, pointed_text, size_text, small_text, whole_text, zeros}
use Rattle.float_text.specs.ReadBack.{TextsReadBack}
use Rattle.float_text.specs.Shortest.{IsFinite, shortest}
use Rattle.float_text.proofs.Coarsest.{read_of_test}
use Rattle.float_text.proofs.Found.{shortest_is_short}

-- the text is a numeral, which is worth n * 10 ^ power / 10 ^ 400
record Says (text : List ℕ) (n power : ℕ) : Type 0 where
  numeral : Parts
  is : text ≡ text_with true numeral
  formed : IsWellFormed numeral
  whole : 0 < length numeral.whole
  worth : numeral_digits numeral * 10 ^ tens_up numeral * 10 ^ 400 ≡ n * 10 ^ power * 10 ^ tens_down numeral

-- ---- digits

both : (xs ys : List ℕ) → AllDigits 10 xs → AllDigits 10 ys → AllDigits 10 (xs ++ ys)
both [] ys p q = q
both (x ∷ xs) ys p q = (p.0, both xs ys p.1 q)

front : (n : ℕ) (xs : List ℕ) → AllDigits 10 xs → AllDigits 10 (take n xs)
front zero xs p = tt
front (suc n) [] p = tt
front (suc n) (x ∷ xs) p = (p.0, front n xs p.1)

rest : (n : ℕ) (xs : List ℕ) → AllDigits 10 xs → AllDigits 10 (drop n xs)
rest zero xs p = p
rest (suc n) [] p = tt
rest (suc n) (x ∷ xs) p = rest n xs p.1

zeros_of : (n most : ℕ) → AllDigits 10 (take n (replicate most 48)) × (digits_value 10 (take n (replicate most 48)) ≡ 0)
zeros_of zero most = (tt, refl)
zeros_of (suc n) zero = (tt, refl)
zeros_of (suc n) (suc most) = let more = zeros_of n most in ((lit< tt, more.0), more.1)

zeros_are : (count : ℕ) → AllDigits 10 (zeros count) × (digits_value 10 (zeros count) ≡ 0)
zeros_are count = zeros_of count 16

zeros_length : (count : ℕ) → count ≤ 16 → length (zeros count) ≡ count
zeros_length count few = omega (arith, length-take count (codes "0000000000000000"))

-- ---- numerals

-- digits on both sides of the point, and no exponent
pointed_numeral : (whole fraction : List ℕ) (n power : ℕ) → AllDigits 10 whole → AllDigits 10 fraction → 0 < length whole
    → digits_value 10 (whole ++ fraction) * 10 ^ 0 * 10 ^ 400 ≡ n * 10 ^ power * 10 ^ (length fraction + 0) → Says (whole ++ 46 ∷ fraction) n power
pointed_numeral whole fraction n power w f some worth = record {
  numeral = record { whole = whole; point = true; fraction = fraction; exponent_negative = false; exponent = []; len = length (whole ++ (46 ∷ fraction ++ [])) };
  is = ap (λ (x : List ℕ). whole ++ 46 ∷ x) (sym (append-nil fraction));
  formed = record { whole_digits = w; fraction_digits = f; exponent_digits = tt; no_point = λ e. absurd cc; no_exponent = λ _. refl; len_is = refl };
  whole = some;
  worth = worth;
}

exponent_is : (negative : Bool) (ds : List ℕ) → 0 < length ds → exponent_with true negative ds ≡ 101 ∷ (cond negative 45 43 ∷ ds)
exponent_is negative [] some = absurd (omega arith)
exponent_is true (d ∷ ds) some = refl
exponent_is false (d ∷ ds) some = refl

-- one digit, perhaps a point and the others, and an exponent
exponent_numeral : (whole fraction exponent : List ℕ) (point negative : Bool) (n power : ℕ) → AllDigits 10 whole → AllDigits 10 fraction → AllDigits 10 exponent → 0 < length whole → 0 < length exponent
    → (point ≡ false → fraction ≡ [])
    → digits_value 10 (whole ++ fraction) * 10 ^ cond negative 0 (digits_value 10 exponent) * 10 ^ 400 ≡ n * 10 ^ power * 10 ^ (length fraction + cond negative (digits_value 10 exponent) 0)
    → Says ((whole ++ cond point (46 ∷ fraction) []) ++ 101 ∷ (cond negative 45 43 ∷ exponent)) n power
exponent_numeral whole fraction exponent point negative n power w f e some more none worth =
    let numeral : Parts = record {
      whole = whole;
      point = point;
      fraction = fraction;
      exponent_negative = negative;
      exponent = exponent;
      len = length (text_of (record { whole = whole; point = point; fraction = fraction; exponent_negative = negative; exponent = exponent; len = 0 }));
    } in
    record {
      numeral = numeral;
      is = append_assoc whole (cond point (46 ∷ fraction) []) (101 ∷ (cond negative 45 43 ∷ exponent))
          ∙ ap (λ (x : List ℕ). whole ++ (cond point (46 ∷ fraction) [] ++ x)) (sym (exponent_is negative exponent more));
      formed = record { whole_digits = w; fraction_digits = f; exponent_digits = e; no_point = none; no_exponent = λ q. absurd (omega (arith, ap length q)); len_is = refl };
      whole = some;
      worth = worth;
    }

-- ---- the layouts

turned : (n a b c : ℕ) → (n * a * b + 0) * 1 * c ≡ n * (c * a) * b
turned n a b c = grind arith

module _ (digits : List ℕ) (n : ℕ) (all : AllDigits 10 digits) (value : digits_value 10 digits ≡ n) (some : 0 < length digits) where
  pointed : (power : ℕ) → 400 < length digits + power → power < 400 → Says (pointed_text digits (length digits + power)) n power
  pointed power from few =
      let k = length digits + power - 400 in
      let len : length (drop k digits) + 0 ≡ 400 - power = omega (arith, length-drop k digits) in
      pointed_numeral (take k digits) (drop k digits) n power (front k digits all) (rest k digits all) (omega (arith, length-take k digits))
      (rw (take-append-drop k digits, value, len) (tens_eq n 0 400 power (400 - power) (omega arith)))

  whole : (power : ℕ) → 400 ≤ power → power ≤ 416 → Says (whole_text digits power) n power
  whole power from few =
      let k = power - 400 in
      let padded = digits ++ zeros k in
      let split : 10 ^ power ≡ 10 ^ 400 * 10 ^ k = ap (λ (x : ℕ). 10 ^ x) {x = power} {y = 400 + k} (omega arith) ∙ pow-add 10 400 k in
      let is : digits_value 10 (padded ++ 48 ∷ []) ≡ n * 10 ^ k * 10 ^ 1 + 0 =
      digits_value-append padded (48 ∷ [])
      ∙ ap (λ (x : ℕ). x * 10 ^ 1 + 0) (digits_value-append digits (zeros k) ∙ rw (value, (zeros_are k).1, zeros_length k (omega arith)) (omega arith)) in
      subst (λ (x : List ℕ). Says x n power) (append_assoc digits (zeros k) (codes ".0"))
      (pointed_numeral padded (48 ∷ []) n power (both digits (zeros k) all (zeros_are k).0) (lit< tt, tt) (omega (arith, length-append digits (zeros k)))
      (rw (is, split) (turned n (10 ^ k) (10 ^ 1) (10 ^ 400))))

  small : (power : ℕ) → 396 < length digits + power → length digits + power ≤ 400 → Says (small_text digits (length digits + power)) n power
  small power from few =
      let k = 400 - (length digits + power) in
      let fraction = zeros k ++ digits in
      let len : length fraction + 0 ≡ 400 - power = omega (arith, length-append (zeros k) digits, zeros_length k (omega arith)) in
      let is : digits_value 10 (48 ∷ fraction) ≡ n = digits_value-append (zeros k) digits ∙ rw (value, (zeros_are k).1) (omega arith) in
      pointed_numeral (48 ∷ []) fraction n power (lit< tt, tt) (both (zeros k) digits (zeros_are k).0 all) (omega arith)
      (rw (is, len) (tens_eq n 0 400 power (400 - power) (omega arith)))

  exponent_of : (e : ℕ) → e < 2 ^ 64 → AllDigits 10 (exponent_digits e) × (0 < length (exponent_digits e)) × (digits_value 10 (exponent_digits e) ≡ e)
  exponent_of e l = two (ltb e 10)
    where
      own : AllDigits 10 (decimal e) × (0 < length (decimal e)) × (digits_value 10 (decimal e) ≡ e)
      own = let d = decimal_is_IsNumeral e l in (d.0.1, decimal_nonempty e l, d.1)

      two : (b : Bool) → AllDigits 10 (cond b (48 ∷ decimal e) (decimal e)) × (0 < length (cond b (48 ∷ decimal e) (decimal e))) × (digits_value 10 (cond b (48 ∷ decimal e) (decimal e)) ≡ e)
      two true = ((lit< tt, own.0), omega arith, own.2)
      two false = own

  scientific : (power : ℕ) → length digits + power < 2 ^ 63 → Says (mantissa_text digits ++ exponent_text (length digits + power)) n power
  scientific power fits = by_sign (ltb 400 (length digits + power)) refl
    where
      place : ℕ
      place = length digits + power

      first : 0 < length (take 1 digits)
      first = omega (arith, length-take 1 digits)

      none : ltb 1 (length digits) ≡ false → drop 1 digits ≡ []
      none e = drop_all 1 digits (ltb-false 1 (length digits) e)

      made : (negative : Bool) (exponent : List ℕ) (e : ℕ) → AllDigits 10 exponent × (0 < length exponent) × (digits_value 10 exponent ≡ e)
          → n * 10 ^ cond negative 0 e * 10 ^ 400 ≡ n * 10 ^ power * 10 ^ (length digits - 1 + cond negative e 0) → Says (mantissa_text digits ++ 101 ∷ (cond negative 45 43 ∷ exponent)) n power
      made negative exponent e own worth =
          exponent_numeral (take 1 digits) (drop 1 digits) exponent (ltb 1 (length digits)) negative n power (front 1 digits all) (rest 1 digits all) own.0 first own.1 none
          (rw (take-append-drop 1 digits, value, own.2, length-drop 1 digits) worth)

      by_sign : (b : Bool) → ltb 400 place ≡ b → Says (mantissa_text digits ++ cond b (codes "e+" ++ exponent_digits (place - 401)) (codes "e-" ++ exponent_digits (401 - place))) n power
      by_sign true e =
          let up = ltb-true 400 place e in
          made false (exponent_digits (place - 401)) (place - 401) (exponent_of (place - 401) (omega arith)) (tens_eq n (place - 401) 400 power (length digits - 1 + 0) (omega (arith, up)))
      by_sign false e =
          let down = ltb-false 400 place e in
          made true (exponent_digits (401 - place)) (401 - place) (exponent_of (401 - place) (omega arith)) (tens_eq n 0 400 power (length digits - 1 + (401 - place)) (omega (arith, down)))

  choose : (b : Bool) (xs ys : List ℕ) (power : ℕ) → (b ≡ true → Says xs n power) → (b ≡ false → Says ys n power) → Says (cond b xs ys) n power
  choose true xs ys power p q = p refl
  choose false xs ys power p q = q refl

  layout_says : (power : ℕ) → length digits + power < 2 ^ 63 → Says (layout digits power) n power
  layout_says power fits =
      let place = length digits + power in
      choose (ltb 400 place && ltb place 417) _ _ power
      (λ e. let from : 400 < place = ltb-true 400 place (and_parts _ _ e).0 in
      let below : place < 417 = ltb-true place 417 (and_parts _ _ e).1 in
      choose (ltb power 400) _ _ power (λ less. pointed power from (ltb-true power 400 less)) (λ more. whole power (ltb-false power 400 more) (omega arith)))
      (λ _. choose (ltb 396 place && ltb place 401) _ _ power
      (λ e. let from : 396 < place = ltb-true 396 place (and_parts _ _ e).0 in
      let below : place < 401 = ltb-true place 401 (and_parts _ _ e).1 in
      small power from (omega arith))
      (λ _. scientific power fits))

-- ---- the float that the text reads as

read_numeral : (f : Format) (negative : Bool) (x : Float) (bits n power : ℕ) (text : List ℕ) → IsSignAndSize f x negative bits → IsNearestBits f (n * 10 ^ power) (10 ^ 400) bits → Says text n power
    → parse_float f (sign_text negative ++ text) ≡ Some x
read_numeral f negative x bits n power text split near says =
    let same = round_same f negative _ _ _ _ (ten_to_pos _) (ten_to_pos 400) says.worth in
    ap (λ (t : List ℕ). parse_float f (sign_text negative ++ t)) says.is
    ∙ parse_float-text_with f negative says.numeral says.formed says.whole
    ∙ ap Some (same ∙ signed f x negative bits _ _ split near.0)

zero_says : Says (codes "0.0") 0 400
zero_says = pointed_numeral (48 ∷ []) (48 ∷ []) 0 400 (lit< tt, tt) (lit< tt, tt) (omega arith) (omega arith)

size_reads : (f : Format) (negative : Bool) (x : Float) (bits : ℕ) → bits < ones f * hid f → IsSignAndSize f x negative bits → parse_float f (sign_text negative ++ size_text f bits) ≡ Some x
size_reads f negative x bits below split =
    elim (eq-zero-or-pos bits) [
      | inl none ↦
          rw (eq-eqb bits 0 none)
          (read_numeral f negative x bits 0 400 (codes "0.0") split (subst (IsNearestBits f (0 * 10 ^ 400) (10 ^ 400)) (sym none) (nearest_of_zero f (0 * 10 ^ 400) (10 ^ 400) (ten_to_pos 400) (omega arith))) zero_says)
      | inr some ↦
          let F : IsFinite f bits = record { some = some; below = below } in
          let short = shortest_is_short f bits F in
          let n = (shortest f bits).0 in
          let fits : n < 2 ^ 64 = omega (arith, short.few) in
          let own = decimal_is_IsNumeral n fits in
          rw (ne_eqb bits 0 (λ e. omega arith))
          (read_numeral f negative x bits n (shortest f bits).1 (layout (decimal n) (shortest f bits).1) split (read_of_test f bits n (shortest f bits).1 F short.reads)
          (layout_says (decimal n) n own.0.1 own.1 (decimal_nonempty n fits) (shortest f bits).1 (omega (arith, short.power, length-decimal-le 19 n (omega arith) (omega (arith, short.few)) (omega (arith, short.few))))))
    ]

number_of : (f : Format) (bits : ℕ) → bits % top f < ones f * hid f → T (not (is_nan (of_bits f bits)))
number_of f bits finite =
    subst (λ (b : Bool). T (not b)) (sym (sym (nan_bits_is f bits) ∙ nan_bits_above f bits ∙ le-ltb (ones f * hid f) (bits % top f) (omega arith))) tt

pub text_reads_back : TextsReadBack
text_reads_back f bits width finite =
    size_reads f (leb (top f) bits) (of_bits f bits) (bits % top f) finite (parts f (of_bits f bits) bits refl width (number_of f bits finite))
