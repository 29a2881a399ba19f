-- The number in the last of eight bytes, from the number in all of them.
use Rattle.std.proofs.Common.{◌≡◌, ℕ, zero, suc, ◌+◌, ◌*◌, ◌-◌, ◌/◌, ◌^◌, ◌<◌, ◌≤◌, List, length, drop, get_or, refl, sym, ap, ◌∙◌, arith, pow-add}
use Rattle.std.proofs.Math.Nat.{add-mul-div_left, div-eq_of_lt, mul_assoc, pow-succ'}
use Rattle.std.proofs.lemmas.List.{get_or-drop, drop-drop}
use Rattle.byteorder.specs.Endian.{little_from, little_number}
use Rattle.byteorder.specs.Numbers.{little_from-lt}
use Rattle.binlog_table.proofs.PlainBytes.{AreBytes, drop_fits}

little_from-split : (i m w : ℕ) (xs : List ℕ) → little_from i (m + w) xs ≡ little_from i m xs + 256 ^ m * little_from (i + m) w xs
little_from-split i zero w xs =
    let same : i + 0 ≡ i = omega arith in
    let there : little_from (i + 0) w xs ≡ little_from i w xs = ap (λ (k : ℕ). little_from k w xs) same in
    let here : little_from i (zero + w) xs ≡ little_from i w xs = ap (λ (k : ℕ). little_from i k xs) (omega arith) in
    omega (arith, there, here)
little_from-split i (suc m) w xs =
    let rest = little_from-split (suc i) m w xs in
    let moved : suc i + m ≡ i + suc m = omega arith in
    let product : 256 * 256 ^ m * little_from (i + suc m) w xs ≡ 256 * (256 ^ m * little_from (i + suc m) w xs) = mul_assoc 256 (256 ^ m) (little_from (i + suc m) w xs) in
    let there : little_from (suc i) (m + w) xs ≡ little_from (suc i) m xs + 256 ^ m * little_from (i + suc m) w xs = rest ∙ ap (λ (k : ℕ). little_from (suc i) m xs + 256 ^ m * little_from k w xs) moved in
    let power : 256 ^ suc m ≡ 256 * 256 ^ m = pow-succ' 256 m in
    let front : suc m + w ≡ suc (m + w) = omega arith in
    ap (λ (k : ℕ). little_from i k xs) front ∙ ap (λ (n : ℕ). get_or xs i 0 + 256 * n) there ∙ (omega (arith, product) ∙ ap (λ (p : ℕ). get_or xs i 0 + 256 * little_from (suc i) m xs + p * little_from (i + suc m) w xs) (sym power))

little_from-drop : (i m w : ℕ) (xs : List ℕ) → little_from (m + i) w xs ≡ little_from i w (drop m xs)
little_from-drop i m zero xs = refl
little_from-drop i m (suc w) xs =
    let byte : get_or (drop m xs) i 0 ≡ get_or xs (m + i) 0 = get_or-drop m xs i 0 in
    let moved : m + suc i ≡ suc (m + i) = omega arith in
    let rest : little_from (suc (m + i)) w xs ≡ little_from (suc i) w (drop m xs) = ap (λ (k : ℕ). little_from k w xs) (sym moved) ∙ little_from-drop (suc i) m w xs in
    omega (arith, byte, rest)

power_of_two : (m : ℕ) → 2 ^ (8 * m) ≡ 256 ^ m
power_of_two zero = refl
power_of_two (suc m) =
    let there : 8 * suc m ≡ 8 * m + 8 = omega arith in
    let rest = power_of_two m in
    ap (λ (k : ℕ). 2 ^ k) there ∙ pow-add 2 (8 * m) 8 ∙ ap (λ (n : ℕ). n * 256) rest ∙ omega (arith, pow-succ' 256 m)

pub loaded : (bytes : List ℕ) (end w : ℕ) → AreBytes bytes → w ≤ 8 → 8 ≤ end
    → little_number 8 (drop (end - 8) bytes) / 2 ^ (64 - 8 * w) ≡ little_number w (drop (end - w) bytes)
loaded bytes end w fits few front =
    let xs = drop (end - 8) bytes in
    let m = 8 - w in
    let eight : m + w ≡ 8 = omega arith in
    let bits : 64 - 8 * w ≡ 8 * m = omega arith in
    let low : little_from 0 m xs < 256 ^ m = little_from-lt 0 m xs (drop_fits (end - 8) bytes fits) in
    let split : little_number 8 xs ≡ little_from 0 m xs + 256 ^ m * little_from (0 + m) w xs = ap (λ (k : ℕ). little_from 0 k xs) (sym eight) ∙ little_from-split 0 m w xs in
    let power : 2 ^ (64 - 8 * w) ≡ 256 ^ m = ap (λ (k : ℕ). 2 ^ k) bits ∙ power_of_two m in
    let none : little_from 0 m xs / 256 ^ m ≡ 0 = div-eq_of_lt low in
    let zero_front : m + 0 ≡ 0 + m = omega arith in
    let place : end - 8 + m ≡ end - w = omega arith in
    let behind : little_from (0 + m) w xs ≡ little_number w (drop (end - w) bytes) =
    ap (λ (k : ℕ). little_from k w xs) (sym zero_front) ∙ little_from-drop 0 m w xs ∙ ap (little_from 0 w) (drop-drop m (end - 8) bytes ∙ ap (λ (k : ℕ). drop k bytes) place) in
    let nothing : 0 + little_from (0 + m) w xs ≡ little_from (0 + m) w xs = omega arith in
    ap (λ (n : ℕ). n / 2 ^ (64 - 8 * w)) split ∙ ap (λ (d : ℕ). (little_from 0 m xs + 256 ^ m * little_from (0 + m) w xs) / d) power
    ∙ add-mul-div_left (little_from 0 m xs) (little_from (0 + m) w xs) (omega (arith, low))
    ∙ ap (λ (k : ℕ). k + little_from (0 + m) w xs) none ∙ nothing ∙ behind
