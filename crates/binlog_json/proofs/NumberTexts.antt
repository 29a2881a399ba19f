-- Numbers in decimal digits: how many these are, and that they are text.
use Rattle.std.proofs.Common.{◌≡◌, ◌∙◌, ℕ, zero, suc, ◌+◌, ◌*◌, ◌/◌, ◌%◌, ◌<◌, ◌≤◌, ◌^◌, [], ◌∷◌, ◌++◌, Bool, true, false, nat_lt, ltb-true, ltb-false, max, length, decimal, length-append, refl, ap, arith}
use Rattle.std.specs.Fmt.{digits}
use Rattle.std.proofs.Math.Nat.{pow-le-pow_right}
use Rattle.std.specs.Str.{IsUtf8}
use Rattle.std.proofs.lemmas.Grind.{pow_more}
use Rattle.std.proofs.lemmas.Str.{IsUtf8-from_ascii}
use Rattle.std.proofs.lemmas.Fmt.{decimal_by_steps, length-decimal-le, IsAscii-decimal}

more : (m k count : ℕ) → m / 10 < 10 ^ k → count ≡ k + 1 → m < 10 ^ count
more m k count below is =
    let wider : 10 ^ count ≡ 10 ^ k * 10 = rw is (pow_more 10 k) in
    omega (arith, below, wider)

-- a number is below the power of ten with as many zeros as it has digits
below_power : (n : ℕ) → n < 2 ^ 64 → n < 10 ^ length (decimal n)
below_power =
    decimal_by_steps (λ m ds. m < 10 ^ length ds) (λ m l. omega (arith, l)) (λ m ds l h. more m (length ds) (length (ds ++ (48 + m % 10) ∷ [])) h (length-append ds ((48 + m % 10) ∷ [])))

above : (b : Bool) (k count n : ℕ) → nat_lt k count ≡ b → 10 ^ k ≤ n → n < 10 ^ count → k < count
above true k count n test low high = ltb-true k count test
above false k count n test low high =
    let grows : 10 ^ count ≤ 10 ^ k = pow-le-pow_right {n = 10} (omega arith) (ltb-false k count test) in
    absurd (omega (arith, low, high, grows))

-- how many digits a number has, by its logarithm
digits_by_log : (k n : ℕ) → 10 ^ k ≤ n → n < 10 * 10 ^ k → n < 2 ^ 64 → k + 1 ≡ length (decimal n)
digits_by_log k n low high small =
    let most : length (decimal n) ≤ k + 1 = length-decimal-le (k + 1) n (omega arith) (omega (arith, high, pow_more 10 k)) small in
    let least : k < length (decimal n) = above (nat_lt k (length (decimal n))) k (length (decimal n)) n refl low (below_power n small) in
    omega (arith, most, least)

-- zero has as many as one
at_least_one : (n : ℕ) → length (decimal (max n 1)) ≡ length (decimal n)
unfolding digits
at_least_one zero = refl
at_least_one (suc n) = let same : max (suc n) 1 ≡ suc n = omega arith in ap (λ m. length (decimal m)) same

pub digits_counted : (k n m : ℕ) → m ≡ max n 1 → 10 ^ k ≤ m → m < 10 * 10 ^ k → n < 2 ^ 64 → k + 1 ≡ length (decimal n)
digits_counted k n m is low high small = digits_by_log k m low high (omega (arith, is)) ∙ ap (λ l. length (decimal l)) is ∙ at_least_one n

pub decimal_utf8 : (n : ℕ) → n < 2 ^ 64 → IsUtf8 (decimal n)
decimal_utf8 n small = IsUtf8-from_ascii (decimal n) (IsAscii-decimal n small)
