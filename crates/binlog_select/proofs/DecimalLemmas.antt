-- The digits of a number, read and written.
use Rattle.std.proofs.Common.{◌≡◌, ◌≢◌, ℕ, zero, suc, ◌+◌, ◌-◌, ◌*◌, ◌<◌, ◌≤◌, ◌^◌, true, false, List, [], ◌∷◌, length, get_or, drop, Some, None, MatchOption, decimal, sym, ap, ◌∙◌, refl, cond, lit<, arith}
use Rattle.std.specs.Char.{digit_value}
use Rattle.std.specs.Str.{all_ascii_digits}
use Rattle.std.specs.Str.Parse.{digits_value, digits_value_after}
use Rattle.std.proofs.lemmas.Bool.{true≢false}
use Rattle.std.proofs.lemmas.Bool.Decides.{nat_tests}
use Rattle.std.proofs.lemmas.List.{at_drop_more}
use Rattle.std.proofs.lemmas.Str.Parse.{IsNumeralModel, numerals_by_value, tells_all_ascii_digits}
use Rattle.std.proofs.lemmas.Fmt.{digits_decimal, digits_value-decimal, decimal_nonempty, decimal-digits_value, first_decimal, decimal_digit}
use Rattle.binlog_select.specs.Decimal.{is_number, number_of}

pub own_digits : IsNumeralModel (λ ds. all_ascii_digits ds ≡ true) (digits_value 10)
own_digits = numerals_by_value _ tells_all_ascii_digits

-- more digits make no smaller number
pub digits_value_after-le : (value : ℕ) (ds : List ℕ) → value ≤ digits_value_after 10 value ds
digits_value_after-le value [] = omega arith
digits_value_after-le value (c ∷ ds) = omega (arith, digits_value_after-le (value * 10 + digit_value c) ds)

pub digit_value-is : (c : ℕ) → 48 ≤ c → c ≤ 57 → digit_value c ≡ c - 48
digit_value-is c low high = grind (arith, nat_tests)

-- one digit more of a number
pub next_digit : (ds : List ℕ) (i value : ℕ) → i < length ds → 48 ≤ get_or ds i 0 → get_or ds i 0 ≤ 57
    → digits_value_after 10 value (drop i ds) ≡ digits_value_after 10 (value * 10 + (get_or ds i 0 - 48)) (drop (i + 1) ds)
next_digit ds i value below low high =
    at_drop_more (digits_value_after 10 value) ds i 0 below
    ∙ ap (λ x. digits_value_after 10 (value * 10 + x) (drop (i + 1) ds)) (digit_value-is (get_or ds i 0) low high)

-- a number from its three tests, and none where one fails
pub number_of-some : (ds : List ℕ) → 0 < length ds → all_ascii_digits ds ≡ true → digits_value 10 ds < 2 ^ 64 → number_of ds ≡ Some (digits_value 10 ds)
number_of-some ds some digits fits = grind (arith, nat_tests)

pub number_of-large : (ds : List ℕ) → 2 ^ 64 ≤ digits_value 10 ds → None ≡ number_of ds
number_of-large ds large = grind (arith, nat_tests)

pub number_of-decimal : (n : ℕ) → n < 2 ^ 64 → number_of (decimal n) ≡ Some n
number_of-decimal n fits =
    let same = digits_value-decimal own_digits n fits in
    number_of-some (decimal n) (decimal_nonempty n fits) (digits_decimal own_digits n fits) (omega arith) ∙ ap Some same

-- what begins with a zero and goes on is no number without leading zeros
pub leading_zero : (ds : List ℕ) → 1 < length ds → get_or ds 0 0 ≡ 48 → (n : ℕ) → n < 2 ^ 64 → ds ≡ decimal n → ⊥
leading_zero ds long first zero fits is =
    let one : length (decimal 0) ≡ 1 = ap length (decimal_digit 0 (lit< tt)) in
    absurd (omega (arith, ap length is))
leading_zero ds long first (suc n) fits is =
    let high = first_decimal (suc n) (omega arith) fits in
    absurd (omega (arith, ap (λ l. get_or l 0 0) is))

pub is_number-decimal : (n : ℕ) → n < 2 ^ 64 → is_number (decimal n) ≡ true
is_number-decimal n fits =
    let some = decimal_nonempty n fits in
    let digits = digits_decimal own_digits n fits in
    let same = digits_value-decimal own_digits n fits in
    grind (arith, nat_tests)

-- what a number reads from digits that don't begin so
pub plain_number_is : (ds : List ℕ) → (1 < length ds → get_or ds 0 0 ≡ 48 → ⊥)
    → MatchOption (number_of ds) ((n : ℕ) → n < 2 ^ 64 → ds ≢ decimal n) (λ n. ds ≡ decimal n)
plain_number_is ds plain =
    elim (is_number ds) as (λ b. is_number ds ≡ b → MatchOption (cond b (Some (digits_value 10 ds)) None) ((n : ℕ) → n < 2 ^ 64 → ds ≢ decimal n) (λ n. ds ≡ decimal n)) [
      | true ↦ λ is.
          let some : 0 < length ds = grind (arith, nat_tests) in
          sym (decimal-digits_value own_digits ds (grind (arith, nat_tests)) some
          (λ first. let short : 1 < length ds → ⊥ = λ long. plain long first in omega arith)
          (grind (arith, nat_tests)))
      | false ↦ λ is n fits same. absurd (true≢false (sym (is_number-decimal n fits) ∙ ap is_number (sym same) ∙ is))
    ] refl

-- once a digit more makes a number too large, so do all digits
pub overflows : (ds : List ℕ) (i value : ℕ) → i < length ds → 48 ≤ get_or ds i 0 → get_or ds i 0 ≤ 57
    → (value * 10 + (get_or ds i 0 - 48) < 2 ^ 64 → ⊥)
    → digits_value_after 10 value (drop i ds) ≡ digits_value 10 ds → None ≡ number_of ds
overflows ds i value below low high large so_far =
    let next = next_digit ds i value below low high in
    let more = digits_value_after-le (value * 10 + (get_or ds i 0 - 48)) (drop (i + 1) ds) in
    number_of-large ds (omega (arith, large, next, so_far, more))
