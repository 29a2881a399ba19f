-- Numbers of two and of four digits, days and times of day.
use Rattle.std.proofs.Common.{inl, inr, ◌≡◌, ◌∙◌, ℕ, suc, ◌+◌, ◌-◌, ◌<◌, ◌≤◌, ◌*◌, ◌/◌, ◌%◌, ◌==◌, List, [], ◌∷◌, ◌++◌, length, replicate, length-append, append_assoc, true, get_or, eqb-true, refl, sym, ap, arith}
use Rattle.std.specs.Fmt.{digits}
use Rattle.std.specs.Prelude.{decimal}
use Rattle.std.specs.Str.{IsAscii, IsUtf8, bytes_eq}
use Rattle.std.proofs.lemmas.Bool.{agree_below, agree_below_at, cases_lt}
use Rattle.std.proofs.lemmas.Slice.Eq.{bytes_eq-Decides}
use Rattle.std.proofs.lemmas.Fmt.{decimal_step, length-decimal-le}
use Rattle.std.proofs.lemmas.Str.{IsUtf8-from_ascii}
use Rattle.std.proofs.lemmas.Str.Ascii.{IsAscii-nil, IsAscii-cons}
use Rattle.binlog_json.specs.declared.digits.TheConstants.{PAIRS}
use Rattle.binlog_json.specs.Texts.{padded, day_text, clock_text}

abbrev pair : ℕ → List ℕ
pair n = (48 + n / 10) ∷ (48 + n % 10) ∷ []

all_pairs : agree_below (λ k. bytes_eq (padded 2 k) (pair k)) (λ k. true) 100 ≡ true
unfolding digits
all_pairs = refl

-- a number below 100 has its two digits
pub pair_is : (n : ℕ) → n < 100 → padded 2 n ≡ (48 + n / 10) ∷ (48 + n % 10) ∷ []
pair_is n below = (bytes_eq-Decides (padded 2 n) (pair n)).0 (agree_below_at (λ k. bytes_eq (padded 2 k) (pair k)) (λ k. true) 100 n all_pairs below)

short : (n : ℕ) → n < 100 → padded 4 n ≡ 48 ∷ 48 ∷ padded 2 n
short n below =
    let few : length (decimal n) ≤ 2 = length-decimal-le 2 n (omega arith) below (omega arith) in
    let more : 4 - length (decimal n) ≡ suc (suc (2 - length (decimal n))) = omega (arith, few) in
    ap (λ (k : ℕ). replicate k 48 ++ decimal n) more

long : (n : ℕ) → 100 ≤ n → n < 10000 → padded 4 n ≡ padded 2 (n / 100) ++ pair (n % 100)
long n above below =
    let front : n / 10 / 10 ≡ n / 100 = omega arith in
    let tens : n / 10 % 10 ≡ n % 100 / 10 = omega arith in
    let ones : n % 10 ≡ n % 100 % 10 = omega arith in
    let split : decimal (n / 100) ++ pair (n % 100) ≡ decimal n = rw (decimal_step n (omega arith) (omega arith), decimal_step (n / 10) (omega arith) (omega arith), append_assoc, front, tens, ones) refl in
    let counted : length (decimal (n / 100)) + 2 ≡ length (decimal n) = sym (length-append (decimal (n / 100)) (pair (n % 100))) ∙ ap length split in
    let fewer : 4 - length (decimal n) ≡ 2 - length (decimal (n / 100)) = omega (arith, counted) in
    rw (fewer, ← split) (simp append_assoc)

-- a number below 10,000 has its four digits
pub four_is : (n : ℕ) → n < 10000 → padded 4 n ≡ (48 + n / 100 / 10) ∷ (48 + n / 100 % 10) ∷ (48 + n % 100 / 10) ∷ (48 + n % 100 % 10) ∷ []
four_is n below = elim (cases_lt n 100) [
  | inl less ↦
      let none : n / 100 ≡ 0 = omega arith in
      let all : n % 100 ≡ n = omega arith in
      rw (none, all) (short n less ∙ ap (λ (l : List ℕ). 48 ∷ 48 ∷ l) (pair_is n less))
  | inr above ↦ long n above below ∙ ap (λ (l : List ℕ). l ++ pair (n % 100)) (pair_is (n / 100) (omega arith))
]

-- ---- days and times of day

pub day_is : (year month day : ℕ) → year < 10000 → month < 100 → day < 100
    → day_text year month day
    ≡ (48 + year / 100 / 10) ∷ (48 + year / 100 % 10) ∷ (48 + year % 100 / 10) ∷ (48 + year % 100 % 10) ∷ 45 ∷ (48 + month / 10) ∷ (48 + month % 10) ∷ 45 ∷ (48 + day / 10) ∷ (48 + day % 10) ∷ []
day_is year month day y m d = rw (four_is year y, pair_is month m, pair_is day d) refl

pub clock_is : (hour minute second : ℕ) → hour < 100 → minute < 100 → second < 100
    → clock_text hour minute second ≡ (48 + hour / 10) ∷ (48 + hour % 10) ∷ 58 ∷ (48 + minute / 10) ∷ (48 + minute % 10) ∷ 58 ∷ (48 + second / 10) ∷ (48 + second % 10) ∷ []
clock_is hour minute second h m s = rw (pair_is hour h, pair_is minute m, pair_is second s) refl

pair_ascii : (n : ℕ) (bs : List ℕ) → n < 100 → IsAscii bs → IsAscii ((48 + n / 10) ∷ (48 + n % 10) ∷ bs)
pair_ascii n bs below rest = IsAscii-cons (48 + n / 10) ((48 + n % 10) ∷ bs) (omega arith) (IsAscii-cons (48 + n % 10) bs (omega arith) rest)

-- they are text
pub day_utf8 : (year month day : ℕ) → year < 10000 → month < 100 → day < 100
    → IsUtf8 ((48 + year / 100 / 10) ∷ (48 + year / 100 % 10) ∷ (48 + year % 100 / 10) ∷ (48 + year % 100 % 10) ∷ 45 ∷ (48 + month / 10) ∷ (48 + month % 10) ∷ 45 ∷ (48 + day / 10) ∷ (48 + day % 10) ∷ [])
day_utf8 year month day y m d =
    let days = (48 + day / 10) ∷ (48 + day % 10) ∷ [] in
    let months = (48 + month / 10) ∷ (48 + month % 10) ∷ 45 ∷ days in
    let later = (48 + year % 100 / 10) ∷ (48 + year % 100 % 10) ∷ 45 ∷ months in
    IsUtf8-from_ascii _ (pair_ascii (year / 100) later (omega arith) (pair_ascii (year % 100) (45 ∷ months) (omega arith)
    (IsAscii-cons 45 months (omega arith) (pair_ascii month (45 ∷ days) m (IsAscii-cons 45 days (omega arith) (pair_ascii day [] d IsAscii-nil))))))

pub clock_utf8 : (hour minute second : ℕ) → hour < 100 → minute < 100 → second < 100
    → IsUtf8 ((48 + hour / 10) ∷ (48 + hour % 10) ∷ 58 ∷ (48 + minute / 10) ∷ (48 + minute % 10) ∷ 58 ∷ (48 + second / 10) ∷ (48 + second % 10) ∷ [])
clock_utf8 hour minute second h m s =
    let seconds = (48 + second / 10) ∷ (48 + second % 10) ∷ [] in
    let minutes = (48 + minute / 10) ∷ (48 + minute % 10) ∷ 58 ∷ seconds in
    IsUtf8-from_ascii _ (pair_ascii hour (58 ∷ minutes) h (IsAscii-cons 58 minutes (omega arith) (pair_ascii minute (58 ∷ seconds) m (IsAscii-cons 58 seconds (omega arith) (pair_ascii second [] s IsAscii-nil)))))

-- the table of pairs
pub tens_read : (n : ℕ) → n < 100 → get_or PAIRS (n * 2) 0 ≡ 48 + n / 10
tens_read n below = eqb-true (get_or PAIRS (n * 2) 0) (48 + n / 10) (agree_below_at (λ k. get_or PAIRS (k * 2) 0 == 48 + k / 10) (λ k. true) 100 n refl below)

pub ones_read : (n : ℕ) → n < 100 → get_or PAIRS (n * 2 + 1) 0 ≡ 48 + n % 10
ones_read n below = eqb-true (get_or PAIRS (n * 2 + 1) 0) (48 + n % 10) (agree_below_at (λ k. get_or PAIRS (k * 2 + 1) 0 == 48 + k % 10) (λ k. true) 100 n refl below)
