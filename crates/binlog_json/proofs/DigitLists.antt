-- The digits of a number, and what is shown of them.
use Rattle.std.proofs.Common.{◌≡◌, ◌∙◌, ℕ, zero, suc, ◌+◌, ◌-◌, ◌*◌, ◌/◌, ◌%◌, ◌^◌, ◌<◌, List, [], ◌∷◌, ◌++◌, length, take, drop, take_at, set, get_or, sym, ap, ap₂, subst, mul_comm, arith}
use Rattle.std.specs.List.{All}
use Rattle.std.specs.Str.{IsAscii, IsUtf8}
use Rattle.std.proofs.Math.Nat.{div-div-eq-div-mul, pow-suc}
use Rattle.std.proofs.Math.Seq.{take-length}
use Rattle.std.proofs.lemmas.Grind.{common_steps}
use Rattle.std.proofs.lemmas.List.{map-append, drop-map, take_all, take_more, take_more_set, take_rest}
use Rattle.std.proofs.lemmas.Str.{IsUtf8-from_ascii}
use Rattle.binlog_table.specs.Decimal.{digits_of}
use Rattle.binlog_table.specs.Extent.{fraction_len}
use Rattle.binlog_table.proofs.DecimalDigitLists.{digits_of-length}
use Rattle.binlog_json.specs.Texts.{digits_text}

-- the last digit stands behind those of a tenth of the number
pub digits_snoc : (d n : ℕ) → digits_of (suc d) n ≡ digits_of d (n / 10) ++ (n % 10 ∷ [])
digits_snoc zero n = ap (λ (k : ℕ). k % 10 ∷ []) (omega arith)
digits_snoc (suc d) n =
    let turned : 10 ^ suc d ≡ 10 * 10 ^ d = pow-suc 10 d ∙ mul_comm (10 ^ d) 10 in
    let first : n / 10 ^ suc d ≡ n / 10 / 10 ^ d = ap (λ (p : ℕ). n / p) turned ∙ sym (div-div-eq-div-mul n 10 (10 ^ d)) in
    ap₂ (λ (digit : ℕ) (others : List ℕ). digit ∷ others) (ap (λ (q : ℕ). q % 10) first) (digits_snoc d n)

-- those of a fraction of a second that are shown: all of them, or all but the last
pub all_shown : (precision n : ℕ) → precision % 2 ≡ 0 → digits_of precision n ≡ take precision (digits_of (2 * fraction_len precision) n)
all_shown precision n even =
    let count : precision ≡ 2 * fraction_len precision = omega (arith, even) in
    sym (take_all precision (digits_of precision n) (omega (arith, digits_of-length precision n))) ∙ ap (λ (k : ℕ). take precision (digits_of k n)) count

pub all_but_last_shown : (precision n : ℕ) → (precision % 2 ≡ 0 → ⊥) → digits_of precision (n / 10) ≡ take precision (digits_of (2 * fraction_len precision) n)
all_but_last_shown precision n odd =
    let count : suc precision ≡ 2 * fraction_len precision = omega (arith, odd) in
    sym (ap (take precision) (digits_snoc precision n) ∙ take_at (digits_of precision (n / 10)) (n % 10 ∷ []) precision (digits_of-length precision (n / 10))) ∙ ap (λ (k : ℕ). take precision (digits_of k n)) count

-- digits are ASCII
pub digits_ascii : (xs : List ℕ) → All (λ d. d < 10) xs → IsAscii (digits_text xs)
digits_ascii [] small zero = omega arith
digits_ascii [] small (suc i) = omega arith
digits_ascii (x ∷ xs) small zero = let first : x < 10 = small 0 0 (omega arith) in omega (arith, first)
digits_ascii (x ∷ xs) small (suc i) = digits_ascii xs (λ k d l. small (suc k) d (omega (arith, l))) i

-- the digits that were put into a buffer, one more
pub shown_more : (digits shown : List ℕ) (place : ℕ) → place < length digits → place < length shown → take place shown ≡ digits_text (take place digits)
    → take (place + 1) (set shown place (48 + get_or digits place 0)) ≡ digits_text (take (place + 1) digits)
shown_more digits shown place below room front =
    let digit = get_or digits place 0 in
    take_more_set shown place (48 + digit) room
    ∙ ap (λ (l : List ℕ). l ++ (48 + digit) ∷ []) front
    ∙ sym (map-append (λ d. 48 + d) (take place digits) (digit ∷ []))
    ∙ ap digits_text (sym (take_more digits place 0 below))

-- all of them
pub shown_whole : (digits shown : List ℕ) (place : ℕ) → place ≡ length digits → take place shown ≡ digits_text (take place digits) → take (length digits) shown ≡ digits_text digits
shown_whole digits shown place all front =
    ap (λ n. take n shown) (sym all) ∙ front ∙ ap (λ n. digits_text (take n digits)) all ∙ ap digits_text (take-length digits)

-- what is left of digits, as characters
pub left_shown : (digits shown : List ℕ) (at : ℕ) → shown ≡ digits_text digits → take (length shown - at) (drop at shown) ≡ digits_text (drop at digits)
left_shown digits shown at is =
    take_rest shown at ∙ ap (drop at) is ∙ drop-map (λ d. 48 + d) at digits

pub left_utf8 : (digits shown : List ℕ) (at : ℕ) → All (λ d. d < 10) digits → shown ≡ digits_text digits → IsUtf8 (take (length shown - at) (drop at shown))
left_utf8 digits shown at small is =
    let left : All (λ d. d < 10) (drop at digits) = grind (arith, common_steps) in
    subst IsUtf8 (sym (left_shown digits shown at is)) (IsUtf8-from_ascii _ (digits_ascii (drop at digits) left))
