-- The number that limbs hold, limb by limb.
use Rattle.std.specs.Prelude.{◌≡◌, ℕ, zero, suc, ◌+◌, ◌-◌, ◌*◌, ◌/◌, ◌%◌, ◌^◌, ◌<◌, ◌≤◌, List, replicate, ◌∷◌, length, get_or, slice_index, set}
use mathlib.Core.Path.{refl, ap, ◌∙◌}
use mathlib.Core.Logic.{inl, inr}
use native.Mathlib.Omega.{arith}
use native.Mathlib.Numerals.{add-one}
use native.Mathlib.Nat.{eq-zero-or-pos, mul-le-mul_right, mul-le-mul_left, mul-pos, pow-suc, pow-zero}
use lib.Pow.{pow-add}
use lib.Seq.{get_or-set_same, get_or-set_other}
use Rattle.float_text.specs.Limbs.{weight, number_in, AreZeroFrom}

pub number_in-zero : (limbs : List ℕ) → number_in limbs 0 ≡ 0
unfolding number_in
number_in-zero limbs = refl

pub number_in-suc : (limbs : List ℕ) (i : ℕ) → number_in limbs (i + 1) ≡ number_in limbs i + get_or limbs i 0 * weight i
unfolding number_in
number_in-suc limbs i = rw add-one

pub weight-zero : weight 0 ≡ 1
unfolding weight
weight-zero = refl

pub weight-suc : (i : ℕ) → weight (i + 1) ≡ weight i * 2 ^ 64
unfolding weight
weight-suc i = rw add-one (pow-suc (2 ^ 64) i)

-- only the first limbs count
number_in_same : (xs ys : List ℕ) (n : ℕ) → ((i : ℕ) → i < n → get_or xs i 0 ≡ get_or ys i 0) → number_in xs n ≡ number_in ys n
unfolding number_in
number_in_same xs ys zero h = refl
number_in_same xs ys (suc n) h = λ j. number_in_same xs ys n (λ i l. h i (omega arith)) j + h n (omega arith) j * weight n

pub number_in-set : (limbs : List ℕ) (i limb : ℕ) → i < length limbs → number_in (set limbs i limb) (i + 1) ≡ number_in limbs i + limb * weight i
number_in-set limbs i limb h =
    number_in-suc (set limbs i limb) i
    ∙ (λ j. number_in_same (set limbs i limb) limbs i (λ k l. get_or-set_other limbs i k limb 0 (λ e. omega arith)) j + get_or-set_same limbs i limb 0 h j * weight i)

number_in-lt : (limbs : List ℕ) (n : ℕ) → ((i : ℕ) → get_or limbs i 0 < 2 ^ 64) → number_in limbs n < weight n
unfolding number_in weight
number_in-lt limbs zero h = omega arith
number_in-lt limbs (suc n) h = omega (arith, number_in-lt limbs n h, pow-suc (2 ^ 64) n, mul-le-mul_right (weight n) (h n))

-- limbs that are 0 add nothing
pub number_in_zeros : (limbs : List ℕ) (n m : ℕ) → AreZeroFrom limbs n → n ≤ m → number_in limbs m ≡ number_in limbs n
unfolding number_in
number_in_zeros limbs n zero z h = let e : 0 ≡ n = omega arith in ap (number_in limbs) e
number_in_zeros limbs n (suc m) z h =
    elim (eq-zero-or-pos (suc m - n)) [
      | inl e ↦ let s : suc m ≡ n = omega arith in ap (number_in limbs) s
      | inr p ↦ omega (arith, number_in_zeros limbs n m z (omega arith), ap (λ x. x * weight m) (z m (omega arith)))
    ]

-- one limb's step of a multiplication
pub carried : (done old limb factor carry w : ℕ) → done + carry * w ≡ old * factor → done + (limb * factor + carry) % 2 ^ 64 * w + (limb * factor + carry) / 2 ^ 64 * (w * 2 ^ 64) ≡ (old + limb * w) * factor
carried done old limb factor carry w h =
    let wide = limb * factor + carry in
    let parts : wide % 2 ^ 64 + wide / 2 ^ 64 * 2 ^ 64 ≡ limb * factor + carry = omega arith in
    omega (arith, ap (λ t. t * w) parts)

-- the highest limb that differs decides
pub number_in_less : (xs ys : List ℕ) (i : ℕ) → ((k : ℕ) → get_or xs k 0 < 2 ^ 64) → get_or xs i 0 < get_or ys i 0 → number_in xs (i + 1) < number_in ys (i + 1)
number_in_less xs ys i fit h = omega (arith, number_in-suc xs i, number_in-suc ys i, number_in-lt xs i fit, mul-le-mul_right (weight i) h)

pub all_zero : (n i : ℕ) → slice_index (replicate n 0) i ≡ 0
all_zero zero i = refl
all_zero (suc n) zero = refl
all_zero (suc n) (suc i) = all_zero n i

power_pos : (b k : ℕ) → 0 < b → 0 < b ^ k
power_pos b zero p = rw pow-zero (omega arith)
power_pos b (suc k) p = rw pow-suc (mul-pos (power_pos b k p) p)

-- k of the n factors are multiplied in first
pub some_factors : (b k x n : ℕ) → 0 < b → k ≤ n → (x * b ^ k * b ^ (n - k) ≡ x * b ^ n) × (x * b ^ k ≤ x * b ^ n) × (b ^ k ≤ b ^ n)
some_factors b k x n p h =
    let e : n ≡ k + (n - k) = omega arith in
    let s : b ^ n ≡ b ^ k * b ^ (n - k) = ap (λ y. b ^ y) e ∙ pow-add b k (n - k) in
    (omega (arith, ap (λ y. x * y) s), omega (arith, ap (λ y. x * y) s, mul-le-mul_left (x * b ^ k) (power_pos b (n - k) p)), omega (arith, s, mul-le-mul_left (b ^ k) (power_pos b (n - k) p)))

-- one limb, and zeros behind it
pub first_limb : (limbs : List ℕ) → number_in limbs 1 ≡ get_or limbs 0 0
unfolding number_in weight
first_limb limbs = omega arith

pub zero_behind : (limb i : ℕ) → 1 ≤ i → slice_index (limb ∷ replicate 35 0) i ≡ 0
zero_behind limb zero h = absurd (omega arith)
zero_behind limb (suc i) h = all_zero 35 i
