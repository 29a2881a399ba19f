-- What the leading bits of a power of ten say of a float and a decimal.
use Rattle.std.proofs.Common.{◌≡◌, ℕ, Less, Greater, ◌+◌, ◌-◌, ◌*◌, ◌/◌, ◌%◌, ◌^◌, ◌<◌, ◌≤◌, refl, sym, ap, ◌∙◌, arith, mul-pos, mul-le-mul_left, mul-le-mul_right, mul-lt-mul_of_pos_right, lt_of_mul-lt-mul_right, mul_assoc, pow_pos, pow_mono, pow-add, mod-eq_of_lt}
use Rattle.std.proofs.lemmas.Nat.{mul-le}
use borrow.Author.Tests.{lt-ltb, le-ltb, ne_eqb}
use lib.Ieee.{Format, low}
use Rattle.std.specs.Ordering.{nat_cmp}
use Rattle.fast_float.specs.Powers.{power_scale, IsRow}
use Rattle.fast_float.proofs.ExactLemmas.{ten_to_pos}
use Rattle.float_text.specs.Shortest.{size_in_units, scaled_num, scaled_den}

-- the product of a row and a factor, without its 64 last bits
abbrev pub cut : ℕ → ℕ → ℕ
cut t h = t / 2 ^ 64 * h + t % 2 ^ 64 * h / 2 ^ 64

cut_from : (t h : ℕ) → cut t h * 2 ^ 64 ≤ h * t
cut_from t h =
    let e : t ≡ t / 2 ^ 64 * 2 ^ 64 + t % 2 ^ 64 = omega arith in
    let words : h * t ≡ t / 2 ^ 64 * h * 2 ^ 64 + t % 2 ^ 64 * h = omega (arith, ap (λ x. h * x) e) in
    omega arith

cut_below : (t h : ℕ) → h < 2 ^ 64 → h * (t + 1) < (cut t h + 2) * 2 ^ 64
cut_below t h few =
    let e : t ≡ t / 2 ^ 64 * 2 ^ 64 + t % 2 ^ 64 = omega arith in
    let words : h * t ≡ t / 2 ^ 64 * h * 2 ^ 64 + t % 2 ^ 64 * h = omega (arith, ap (λ x. h * x) e) in
    omega arith

-- y * w / z is the float, and h * num / z the decimal, in one unit
module _ (y w h t num den l z n e : ℕ) (N : n * z ≡ y * w * den * l) (E : e * z ≡ h * num * l) (D : 0 < den) (L : 0 < l) where
  is_less : t * den ≤ num → y * w < h * t → n < e
  is_less from less =
      let a : y * w * den * l < h * t * den * l = mul-lt-mul_of_pos_right (mul-lt-mul_of_pos_right less D) L in
      let turn : h * t * den ≡ h * (t * den) = mul_assoc h t den in
      let b : h * (t * den) * l ≤ h * num * l = mul-le-mul_right l (mul-le-mul_left h from) in
      lt_of_mul-lt-mul_right z (omega (arith, N, E, a, b, ap (λ x. x * l) turn))

  is_greater : num < (t + 1) * den → h * (t + 1) < y * w → e < n
  is_greater below greater =
      let a : h * (t + 1) * den * l < y * w * den * l = mul-lt-mul_of_pos_right (mul-lt-mul_of_pos_right greater D) L in
      let turn : h * (t + 1) * den ≡ h * ((t + 1) * den) = mul_assoc h (t + 1) den in
      let most : num ≤ (t + 1) * den = omega arith in
      let b : h * num * l ≤ h * ((t + 1) * den) * l = mul-le-mul_right l (mul-le-mul_left h most) in
      lt_of_mul-lt-mul_right z (omega (arith, N, E, a, b, ap (λ x. x * l) turn))

module _ (f : Format) (bits m k h p t s : ℕ) (size : m * 2 ^ k ≡ size_in_units f bits) (least : 58 ≤ p) (row : IsRow (p - 58) t) (few : h < 2 ^ 64) (places : s + (power_scale (p - 58) + low f) ≡ k + 1203) where
  abbrev scale : ℕ
  scale = power_scale (p - 58)

  abbrev num : ℕ
  num = 10 ^ (p - 400) * 2 ^ 1266

  abbrev den : ℕ
  den = 10 ^ (400 - p) * 2 ^ scale

  up : p - 58 - 342 ≡ p - 400
  up = omega arith

  down : 342 - (p - 58) ≡ 400 - p
  down = omega arith

  from : t * den ≤ num
  from = rw (up, down) at row.from

  below : num < (t + 1) * den
  below = rw (up, down) at row.below

  -- the float and the decimal, over what both have of ten
  abbrev near_num : ℕ
  near_num = 2 * (m * 2 ^ k) * 10 ^ (400 - p)

  abbrev near_den : ℕ
  near_den = h * (2 ^ low f * 10 ^ (p - 400))

  abbrev rest : ℕ
  rest = 10 ^ (400 - (400 - p))

  twos : 2 * 2 ^ k * 2 ^ 1266 ≡ 2 ^ s * 2 ^ 64 * 2 ^ scale * 2 ^ low f
  twos =
      let sum : s + 64 + scale + low f ≡ k + 1 + 1266 = omega arith in
      let left : 2 * 2 ^ k ≡ 2 ^ (k + 1) = omega (arith, pow-add 2 k 1) in
      ap (λ x. x * 2 ^ 1266) left ∙ sym (pow-add 2 (k + 1) 1266) ∙ ap (λ x. 2 ^ x) (sym sum) ∙ pow-add 2 (s + 64 + scale) (low f)
      ∙ ap (λ x. x * 2 ^ low f) (pow-add 2 (s + 64) scale ∙ ap (λ x. x * 2 ^ scale) (pow-add 2 s 64))

  float_is : near_num * 2 ^ 1266 ≡ m * 2 ^ s * 2 ^ 64 * den * 2 ^ low f
  float_is = float_turned m (2 ^ k) (10 ^ (400 - p)) (2 ^ 1266) (2 ^ s) (2 ^ 64) (2 ^ scale) (2 ^ low f) twos
    where
      float_turned : (m a b c d e g i : ℕ) → 2 * a * c ≡ d * e * g * i → 2 * (m * a) * b * c ≡ m * d * e * (b * g) * i
      float_turned m a b c d e g i same =
          let left : 2 * (m * a) * b * c ≡ m * b * (2 * a * c) = grind arith in
          let right : m * b * (d * e * g * i) ≡ m * d * e * (b * g) * i = grind arith in
          left ∙ ap (λ x. m * b * x) same ∙ right

  decimal_is : near_den * 2 ^ 1266 ≡ h * num * 2 ^ low f
  decimal_is = decimal_turned h (2 ^ low f) (10 ^ (p - 400)) (2 ^ 1266)
    where
      decimal_turned : (h a b c : ℕ) → h * (a * b) * c ≡ h * (b * c) * a
      decimal_turned h a b c = grind arith

  whole_num : near_num * rest ≡ 2 * scaled_num f bits
  whole_num =
      let sum : 400 - p + (400 - (400 - p)) ≡ 400 = omega arith in
      let tens : 10 ^ (400 - p) * rest ≡ 10 ^ 400 = sym (pow-add 10 (400 - p) (400 - (400 - p))) ∙ ap (λ x. 10 ^ x) sum in
      num_turned (m * 2 ^ k) (10 ^ (400 - p)) rest ∙ ap (λ x. 2 * (m * 2 ^ k * x)) tens ∙ ap (λ x. 2 * (x * 10 ^ 400)) size
    where
      num_turned : (a b c : ℕ) → 2 * a * b * c ≡ 2 * (a * (b * c))
      num_turned a b c = grind arith

  whole_den : near_den * rest ≡ h * scaled_den f p
  whole_den =
      let sum : p - 400 + (400 - (400 - p)) ≡ p = omega arith in
      let tens : 10 ^ (p - 400) * rest ≡ 10 ^ p = sym (pow-add 10 (p - 400) (400 - (400 - p))) ∙ ap (λ x. 10 ^ x) sum in
      den_turned h (2 ^ low f) (10 ^ (p - 400)) rest ∙ ap (λ x. h * (2 ^ low f * x)) tens
    where
      den_turned : (h a b c : ℕ) → h * (a * b) * c ≡ h * (a * (b * c))
      den_turned h a b c = grind arith

  some_den : 0 < den
  some_den = mul-pos (ten_to_pos (400 - p)) (pow_pos scale)

  pub float_is_less : m * 2 ^ s < cut t h → Less ≡ nat_cmp (2 * scaled_num f bits) (h * scaled_den f p)
  float_is_less less =
      let close : m * 2 ^ s * 2 ^ 64 < h * t = omega (arith, cut_from t h) in
      let near = is_less (m * 2 ^ s) (2 ^ 64) h t num den (2 ^ low f) (2 ^ 1266) near_num near_den float_is decimal_is some_den (pow_pos (low f)) from close in
      let far : near_num * rest < near_den * rest = mul-lt-mul_of_pos_right near (ten_to_pos (400 - (400 - p))) in
      let all : 2 * scaled_num f bits < h * scaled_den f p = rw (whole_num, whole_den) at far in
      rw (lt-ltb (2 * scaled_num f bits) (h * scaled_den f p) all) refl

  pub float_is_greater : cut t h + 1 < m * 2 ^ s → Greater ≡ nat_cmp (2 * scaled_num f bits) (h * scaled_den f p)
  float_is_greater greater =
      let close : h * (t + 1) < m * 2 ^ s * 2 ^ 64 = omega (arith, cut_below t h few) in
      let near = is_greater (m * 2 ^ s) (2 ^ 64) h t num den (2 ^ low f) (2 ^ 1266) near_num near_den float_is decimal_is some_den (pow_pos (low f)) below close in
      let far : near_den * rest < near_num * rest = mul-lt-mul_of_pos_right near (ten_to_pos (400 - (400 - p))) in
      let all : h * scaled_den f p < 2 * scaled_num f bits = rw (whole_num, whole_den) at far in
      rw (le-ltb (2 * scaled_num f bits) (h * scaled_den f p) (omega (arith, all)), ne_eqb (2 * scaled_num f bits) (h * scaled_den f p) (λ e. omega (arith, all, e))) refl

-- no bit of the float is shifted out
pub shifted : (m s : ℕ) → m < 2 ^ 53 → s ≤ 74 → m * 2 ^ s % 2 ^ 128 ≡ m * 2 ^ s
shifted m s few small =
    let most : m * 2 ^ s ≤ 2 ^ 53 * 2 ^ 74 = mul-le m (2 ^ s) (2 ^ 53) (2 ^ 74) (omega arith) (pow_mono small) in
    mod-eq_of_lt (omega arith)
