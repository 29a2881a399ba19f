-- The text of a decimal that is given as two numbers.
use Rattle.std.proofs.Common.{◌≡◌, ◌∙◌, ℕ, zero, suc, ◌+◌, ◌-◌, ◌/◌, ◌%◌, ◌^◌, ◌<◌, ◌≤◌, ◌==◌, List, [], ◌∷◌, ◌++◌, Bool, not, ◌&&◌, length, take, drop, take_at, drop_at, set, decimal, inl, inr, refl, sym, ap, ap₂, subst, arith}
use Rattle.std.specs.List.{All, list_all}
use Rattle.std.specs.Str.{IsUtf8}
use Rattle.std.proofs.Math.Nat.{div-eq_of_lt, mul_comm, one-le-pow, pow-suc}
use Rattle.std.proofs.Math.Seq.{take-add}
use Rattle.std.proofs.lemmas.Bool.{cases_lt}
use Rattle.std.proofs.lemmas.Bool.Decides.{nat_tests}
use Rattle.std.proofs.lemmas.Fmt.{decimal_digit, decimal_step}
use Rattle.std.proofs.lemmas.List.{length-map, map-append, length-set, drop-set}
use Rattle.std.proofs.lemmas.List.Elements.{All-append}
use Rattle.std.proofs.lemmas.List.Folds.{list_all-append}
use Rattle.std.proofs.lemmas.Nat.{le-div, div_below}
use Rattle.std.proofs.lemmas.Str.{IsUtf8-from_ascii}
use Rattle.json.specs.Filled.{Placed}
use Rattle.json.specs.Print.{quoted}
use Rattle.binlog_table.specs.Decimal.{Decimal, digits_of}
use Rattle.binlog_table.specs.DecimalParts.{IsSplit, front_len}
use Rattle.binlog_table.proofs.DecimalDigitLists.{digits_of-length, digits_of-small, left-next}
use Rattle.binlog_json.specs.Texts.{digits_text, whole_text, point_text, sign_text, is_below_zero, decimal_text}
use Rattle.binlog_json.proofs.AsIs.{quoted_decimal}
use Rattle.binlog_json.proofs.DigitLists.{digits_ascii, digits_snoc}

pub digits_text-length : (width n : ℕ) → length (digits_text (digits_of width n)) ≡ width
digits_text-length width n = length-map (digits_of width n) (λ d. 48 + d) ∙ digits_of-length width n

pub digits_text-utf8 : (width n : ℕ) → IsUtf8 (digits_text (digits_of width n))
digits_text-utf8 width n = IsUtf8-from_ascii _ (digits_ascii (digits_of width n) (digits_of-small width n))

-- ---- characters, written from the right

-- one more in front of those that are written
char_before : (chars : List ℕ) (start place len number left char : ℕ) → 0 < place → place ≤ len → start + len ≤ length chars → left ≡ number / 10 ^ (len - place) → char ≡ 48 + left % 10
    → take (len - place) (drop (start + place) chars) ≡ digits_text (digits_of (len - place) number)
    → take (len - (place - 1)) (drop (start + (place - 1)) (set chars (start + (place - 1)) char)) ≡ digits_text (digits_of (len - (place - 1)) number)
char_before chars start place len number left char some few room left_is char_is written =
    let i = start + (place - 1) in
    let count : len - (place - 1) ≡ suc (len - place) = omega arith in
    let next : i + 1 ≡ start + place = omega arith in
    let here : drop i (set chars i char) ≡ char ∷ drop (start + place) chars = drop-set chars i char (omega arith) ∙ ap (λ (j : ℕ). char ∷ drop j chars) next in
    let first : char ≡ 48 + number / 10 ^ (len - place) % 10 = char_is ∙ ap (λ (n : ℕ). 48 + n % 10) left_is in
    rw (count, here) (ap₂ (λ (c : ℕ) (cs : List ℕ). c ∷ cs) first written)

pub pair_before : (chars : List ℕ) (start place len number left tens ones : ℕ) → 2 ≤ place → place ≤ len → start + len ≤ length chars → left ≡ number / 10 ^ (len - place)
    → tens ≡ 48 + left % 100 / 10 → ones ≡ 48 + left % 100 % 10 → take (len - place) (drop (start + place) chars) ≡ digits_text (digits_of (len - place) number)
    → take (len - (place - 2)) (drop (start + (place - 2)) (set (set chars (start + (place - 2) + 1) ones) (start + (place - 2)) tens)) ≡ digits_text (digits_of (len - (place - 2)) number)
pair_before chars start place len number left tens ones some few room left_is tens_is ones_is written =
    let one : ones ≡ 48 + left % 10 = omega (arith, ones_is) in
    let ten : tens ≡ 48 + left / 10 % 10 = omega (arith, tens_is) in
    let right = char_before chars start place len number left ones (omega (arith, some)) few room left_is one written in
    let next = left-next chars start place len number left (omega (arith, some)) few room left_is in
    let size = length-set chars (start + (place - 1)) ones in
    let both = char_before (set chars (start + (place - 1)) ones) start (place - 1) len number (left / 10) tens (omega (arith, some)) (omega (arith, few)) (omega (arith, room, size)) next ten right in
    let before : place - 2 ≡ place - 1 - 1 = omega arith in
    let behind : start + (place - 1 - 1) + 1 ≡ start + (place - 1) = omega (arith, some) in
    rw (before, behind) both

pub pair_left : (chars : List ℕ) (start place len number left : ℕ) → 2 ≤ place → place ≤ len → start + len ≤ length chars → left ≡ number / 10 ^ (len - place) → left / 100 ≡ number / 10 ^ (len - (place - 2))
pair_left chars start place len number left some few room left_is =
    let next = left-next chars start place len number left (omega (arith, some)) few room left_is in
    let after = left-next chars start (place - 1) len number (left / 10) (omega (arith, some)) (omega (arith, few)) room next in
    let before : place - 1 - 1 ≡ place - 2 = omega arith in
    let parted : left / 100 ≡ left / 10 / 10 = omega arith in
    parted ∙ after ∙ ap (λ (k : ℕ). number / 10 ^ (len - k)) before

pub last_before : (chars : List ℕ) (start len number left char : ℕ) → 1 ≤ len → start + len ≤ length chars → left ≡ number / 10 ^ (len - 1) → char ≡ 48 + left % 10
    → take (len - 1) (drop (start + 1) chars) ≡ digits_text (digits_of (len - 1) number) → take len (drop start (set chars start char)) ≡ digits_text (digits_of len number)
last_before chars start len number left char some room left_is char_is written =
    let whole = char_before chars start 1 len number left char (omega arith) some room left_is char_is written in
    let first : start + (1 - 1) ≡ start = omega arith in
    let count : len - (1 - 1) ≡ len = omega arith in
    rw (first, count) at whole

pub all_before : (chars : List ℕ) (start place len number : ℕ) → place ≡ 0 → take (len - place) (drop (start + place) chars) ≡ digits_text (digits_of (len - place) number)
    → take len (drop start chars) ≡ digits_text (digits_of len number)
all_before chars start place len number none written =
    let count : len - place ≡ len = omega (arith, none) in
    let first : start + place ≡ start = omega (arith, none) in
    rw (count, first) at written

pub digits_placed : (old new : List ℕ) (at width number : ℕ) → take at new ≡ take at old → length new ≡ length old → take width (drop at new) ≡ digits_text (digits_of width number)
    → Placed old new at (digits_text (digits_of width number)) (at + width)
digits_placed old new at width number before size written = record {
  bytes = take-add at width new ∙ ap₂ (λ (front back : List ℕ). front ++ back) before written;
  moved = ap (λ (n : ℕ). at + n) (sym (digits_text-length width number));
  len = size;
}

-- ---- a number of so many digits, without leading zeros

shown_decimal : (d n : ℕ) → 10 ^ d ≤ n → n < 10 ^ suc d → n < 2 ^ 64 → digits_text (digits_of (suc d) n) ≡ decimal n
shown_decimal zero n above below small =
    let few : n < 10 = omega (arith, below) in
    let last : n / 1 % 10 ≡ n = omega arith in
    ap (λ (k : ℕ). (48 + k) ∷ []) last ∙ sym (decimal_digit n few)
shown_decimal (suc d) n above below small =
    let scaled = pow-suc 10 d in
    let wide = pow-suc 10 (suc d) in
    let some : 1 ≤ 10 ^ d = one-le-pow d 10 (omega arith) in
    let many : 10 ≤ n = omega (arith, scaled, some, above) in
    let front = shown_decimal d (n / 10) (le-div (10 ^ d) n 10 (omega arith) (omega (arith, scaled, above))) (div_below n 10 (10 ^ suc d) (omega arith) (omega (arith, wide, below))) (omega (arith, small)) in
    ap digits_text (digits_snoc (suc d) n) ∙ map-append (λ k. 48 + k) (digits_of (suc d) (n / 10)) (n % 10 ∷ []) ∙ ap (λ (l : List ℕ). l ++ (48 + n % 10) ∷ []) front ∙ sym (decimal_step n many small)

skipped : (digit : ℕ) (others : List ℕ) → digit ≡ 0 → whole_text (digit ∷ others) ≡ whole_text others
skipped digit others none = rw none refl

kept : (digit : ℕ) (others : List ℕ) → 0 < digit → whole_text (digit ∷ others) ≡ digits_text (digit ∷ others)
kept digit others some = grind (arith, nat_tests)

-- the first of its digits
first_none : (d n : ℕ) → n < 10 ^ d → n / 10 ^ d % 10 ≡ 0
first_none d n less = ap (λ (q : ℕ). q % 10) (div-eq_of_lt less)

first_some : (d n : ℕ) → 10 ^ d ≤ n → n < 10 ^ suc d → 0 < n / 10 ^ d % 10
first_some d n above below =
    let some : 0 < 10 ^ d = one-le-pow d 10 (omega arith) in
    let one : 1 ≤ n / 10 ^ d = le-div 1 n (10 ^ d) some (omega (arith, above)) in
    let few : n / 10 ^ d < 10 = div_below n (10 ^ d) 10 some (subst (λ (p : ℕ). n < p) (pow-suc 10 d ∙ mul_comm (10 ^ d) 10) below) in
    omega (arith, one, few)

pub whole_is : (d n : ℕ) → n < 10 ^ d → n < 2 ^ 64 → whole_text (digits_of d n) ≡ decimal n
whole_is zero n below small =
    let none : n ≡ 0 = omega (arith, below) in
    sym (ap decimal none ∙ decimal_digit 0 (omega arith))
whole_is (suc d) n below small = elim (cases_lt n (10 ^ d)) [
  | inl less ↦ skipped (n / 10 ^ d % 10) (digits_of d n) (first_none d n less) ∙ whole_is d n less small
  | inr above ↦ kept (n / 10 ^ d % 10) (digits_of d n) (first_some d n above below) ∙ shown_decimal d n above below small
]

zeros_none : (digit n : ℕ) (rest : Bool) → 0 < digit → 0 < n → ((digit == 0) && rest) ≡ (n == 0)
zeros_none digit n rest some more = grind (arith, nat_tests)

-- all digits are zeros where the number is
zeros_is : (d n : ℕ) → n < 10 ^ d → list_all (λ x. x == 0) (digits_of d n) ≡ (n == 0)
zeros_is zero n below =
    let none : n ≡ 0 = omega (arith, below) in
    rw none refl
zeros_is (suc d) n below = elim (cases_lt n (10 ^ d)) [
  | inl less ↦ rw (first_none d n less) (zeros_is d n less)
  | inr above ↦
      let some : 0 < n = omega (arith, above, one-le-pow d 10 (omega arith)) in
      zeros_none (n / 10 ^ d % 10) n (list_all (λ x. x == 0) (digits_of d n)) (first_some d n above below) some
]

-- ---- the text of both numbers

pub quoted_split : (d : Decimal) (whole fraction : ℕ) → IsSplit d whole fraction → quoted (decimal_text d) ≡ 34 ∷ (decimal_text d ++ 34 ∷ [])
quoted_split d whole fraction split =
    quoted_decimal d (subst (All (λ (x : ℕ). x < 10)) (sym split.digits) (All-append (λ (x : ℕ). x < 10) (digits_of (front_len d) whole) (digits_of d.scale fraction) (digits_of-small (front_len d) whole) (digits_of-small d.scale fraction)))

split_zeros : (d : Decimal) (whole fraction : ℕ) → IsSplit d whole fraction → list_all (λ x. x == 0) d.digits ≡ ((whole == 0) && (fraction == 0))
split_zeros d whole fraction split =
    ap (list_all (λ x. x == 0)) split.digits ∙ list_all-append (λ x. x == 0) (digits_of (front_len d) whole) (digits_of d.scale fraction)
    ∙ ap₂ (λ (a b : Bool). a && b) (zeros_is (front_len d) whole split.front) (zeros_is d.scale fraction split.behind)

pub split_text : (d : Decimal) (whole fraction : ℕ) (sign : Bool) → IsSplit d whole fraction → whole < 2 ^ 64 → sign ≡ (d.negative && not ((whole == 0) && (fraction == 0)))
    → sign_text sign ++ (decimal whole ++ point_text (digits_of d.scale fraction)) ≡ decimal_text d
split_text d whole fraction sign split small sign_is =
    let len = digits_of-length (front_len d) whole in
    let sign_same : sign ≡ is_below_zero d = sign_is ∙ ap (λ (b : Bool). d.negative && not b) (sym (split_zeros d whole fraction split)) in
    let front : decimal whole ≡ whole_text (take (front_len d) d.digits) =
    sym (ap whole_text (ap (take (front_len d)) split.digits ∙ take_at (digits_of (front_len d) whole) (digits_of d.scale fraction) (front_len d) len) ∙ whole_is (front_len d) whole split.front small) in
    let behind : digits_of d.scale fraction ≡ drop (front_len d) d.digits =
    sym (ap (drop (front_len d)) split.digits ∙ drop_at (digits_of (front_len d) whole) (digits_of d.scale fraction) (front_len d) len) in
    ap₂ (λ (a b : List ℕ). a ++ b) (ap sign_text sign_same) (ap₂ (λ (a b : List ℕ). a ++ b) front (ap point_text behind))
