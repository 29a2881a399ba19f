-- What the tests of the search say.
use Rattle.std.proofs.Common.{◌≡◌, ℕ, zero, suc, ◌+◌, ◌-◌, ◌*◌, ◌/◌, ◌%◌, ◌^◌, ◌<◌, ◌≤◌, Bool, true, false, eqb, refl, sym, ap, ◌∙◌, inl, inr, arith, eq-zero-or-pos, mul-le-mul_left, mul-le-mul_right, mul-pos}
use native.Mathlib.Nat.{lt_of_le_of_lt, mul-le-mul, mul-lt-mul_of_pos_right, pow-le-pow_right}
use lib.Dec.{lit≤, lit<}
use lib.Pow.{pow_pos, pow_mono, pow-add}
use borrow.Author.Tests.{lt-ltb, le-ltb, eq-eqb, ne_eqb}
use lib.Ieee.{Format, binary32, binary64, low, hid, ones, round, to_bits}
use Rattle.fast_float.specs.Rounding.{IsNearestBits}
use Rattle.fast_float.proofs.ExactLemmas.{ten_to_pos}
use Rattle.fast_float.proofs.Extremes.{nearest_of_zero, nearest_of_huge, round_tens}
use Rattle.std.specs.Ordering.{nat_cmp}
use Rattle.float_text.specs.Limbs.{weight}
use Rattle.float_text.specs.Shortest.{IsFinite, reads_as, size_in_units, scaled_num, scaled_den}
use Rattle.float_text.proofs.Interval.{bits_of_nearest}

pub test_is : (f : Format) (bits d e b : ℕ) → 58 ≤ e → IsNearestBits f (d * 10 ^ (e - 58 - 342)) (10 ^ (342 - (e - 58))) b → reads_as f bits d e ≡ eqb b bits
test_is f bits d e b l h =
    ap (λ x. eqb x bits) (ap (to_bits f) (sym (round_tens f d (e - 58 - 342) (342 - (e - 58)) e 400 (omega arith))) ∙ bits_of_nearest f _ _ b h)

pub zero_unread : (f : Format) (bits d e : ℕ) → IsFinite f bits → d ≡ 0 → reads_as f bits d e ≡ false
zero_unread f bits d e F z =
    let n : d * 10 ^ e ≡ 0 = rw z (omega arith) in
    let some = F.some in
    ap (λ x. eqb x bits) (bits_of_nearest f _ _ 0 (nearest_of_zero f (d * 10 ^ e) (10 ^ 400) (ten_to_pos 400) n)) ∙ ne_eqb 0 bits (λ q. omega arith)

pub huge_unread : (f : Format) (bits d e : ℕ) → IsFinite f bits → 0 < d → 708 < e → reads_as f bits d e ≡ false
huge_unread f bits d e F some l =
    let sum : 709 + (e - 709) ≡ e = omega arith in
    let p : 10 ^ e ≡ 10 ^ 709 * 10 ^ (e - 709) = ap (λ x. 10 ^ x) (sym sum) ∙ pow-add 10 709 (e - 709) in
    let a : 10 ^ 309 * 10 ^ 400 ≤ 10 ^ 709 = lit≤ tt in
    let b : 10 ^ 709 ≤ 10 ^ e = rw p (omega (arith, Rattle.std.proofs.Common.mul-le-mul_left (10 ^ 709) (ten_to_pos (e - 709)))) in
    let c : 10 ^ e ≤ d * 10 ^ e = omega (arith, mul-le-mul_right (10 ^ e) some) in
    let below = F.below in
    ap (λ x. eqb x bits) (bits_of_nearest f _ _ (ones f * hid f) (nearest_of_huge f (d * 10 ^ e) (10 ^ 400) (ten_to_pos 400) (omega arith))) ∙ ne_eqb (ones f * hid f) bits (λ q. omega arith)

-- ---- the comparison
same_order : (a b c : ℕ) → 0 < c → nat_cmp a b ≡ nat_cmp (a * c) (b * c)
same_order a b c C =
    elim (eq-zero-or-pos (b - a)) [
      | inr p ↦
          let l : a < b = omega arith in
          rw (lt-ltb a b l, lt-ltb (a * c) (b * c) (mul-lt-mul_of_pos_right l C)) refl
      | inl z ↦
          let l : b ≤ a = omega arith in
          elim (eq-zero-or-pos (a - b)) [
            | inl y ↦
                let e : a ≡ b = omega arith in
                rw (le-ltb a b l, le-ltb (a * c) (b * c) (mul-le-mul_right c l), eq-eqb a b e, eq-eqb (a * c) (b * c) (ap (λ x. x * c) e)) refl
            | inr q ↦
                let m : b < a = omega arith in
                let n : b * c < a * c = mul-lt-mul_of_pos_right m C in
                rw (le-ltb a b l, le-ltb (a * c) (b * c) (mul-le-mul_right c l), ne_eqb a b (λ x. omega arith), ne_eqb (a * c) (b * c) (λ x. omega arith)) refl
          ]
    ]

joined : (b i j k : ℕ) → i + j ≡ k → b ^ i * b ^ j ≡ b ^ k
joined b i j k e = sym (pow-add b i j) ∙ ap (λ x. b ^ x) e

pub compare_is : (f : Format) (bits m k halves p : ℕ) → m * 2 ^ k ≡ size_in_units f bits
    → nat_cmp (2 * m * 10 ^ (400 - p) * 2 ^ (k - low f)) (halves * 10 ^ (p - 400) * 2 ^ (low f - k)) ≡ nat_cmp (2 * scaled_num f bits) (halves * scaled_den f p)
compare_is f bits m k halves p e =
    let t = 10 ^ (400 - (400 - p)) in
    let s = 2 ^ (k - (k - low f)) in
    let a : 10 ^ (400 - p) * t ≡ 10 ^ 400 = joined 10 (400 - p) _ 400 (omega arith) in
    let b : 10 ^ (p - 400) * t ≡ 10 ^ p = joined 10 (p - 400) _ p (omega arith) in
    let c : 2 ^ (k - low f) * s ≡ 2 ^ k = joined 2 (k - low f) _ k (omega arith) in
    let d : 2 ^ (low f - k) * s ≡ 2 ^ low f = joined 2 (low f - k) _ (low f) (omega arith) in
    same_order _ _ (t * s) (mul-pos (ten_to_pos _) (pow_pos _)) ∙ (λ i. nat_cmp (left _ _ _ _ _ a c i) (right halves _ _ _ _ _ _ b d i))
  where
    left : (x y t s u : ℕ) → x * t ≡ u → y * s ≡ 2 ^ k → 2 * m * x * y * (t * s) ≡ 2 * (size_in_units f bits * u)
    left x y t s u a c =
        let turn : 2 * m * x * y * (t * s) ≡ 2 * (m * (y * s) * (x * t)) = grind arith in
        turn ∙ (λ i. 2 * (m * c i * a i)) ∙ ap (λ z. 2 * (z * u)) e

    right : (h x y t s u v : ℕ) → x * t ≡ u → y * s ≡ v → h * x * y * (t * s) ≡ h * (v * u)
    right h x y t s u v b d =
        let turn : h * x * y * (t * s) ≡ h * (y * s * (x * t)) = grind arith in
        turn ∙ (λ i. h * (d i * b i))

-- ---- the numbers that are compared fit their limbs
pub few_doublings : (f : Format) → ones f ≤ low f + 1000
few_doublings binary32 = omega arith
few_doublings binary64 = omega arith

most : 2 ^ 64 * 10 ^ 342 * 2 ^ 1074 < weight 36
unfolding weight
most = lit< tt

pub room : (a n j : ℕ) → a < 2 ^ 64 → n ≤ 342 → j ≤ 1074 → a * 10 ^ n * 2 ^ j < weight 36
room a n j A N J = let l : a ≤ 2 ^ 64 = omega arith in lt_of_le_of_lt (mul-le-mul (mul-le-mul l (pow-le-pow_right (lit< tt) N)) (pow_mono J)) most

pub room_of_tens : (a n : ℕ) → a < 2 ^ 64 → n ≤ 342 → a * 10 ^ n < weight 36
room_of_tens a n A N = let r = room a n 0 A N (omega arith) in omega (arith, r)

-- ---- zeros after the digits come off
pub stripped : (f : Format) (bits d e n : ℕ) → IsFinite f bits → 0 < d → d ≡ d / 10 ^ n * 10 ^ n → reads_as f bits d e ≡ true → (reads_as f bits (d / 10 ^ n) (e + n) ≡ true) × (e + n ≤ 708) × (0 < d / 10 ^ n) × (d / 10 ^ n ≤ d)
stripped f bits d e n F some whole h =
    let q = d / 10 ^ n in
    let same : q * 10 ^ (e + n) ≡ d * 10 ^ e = turned q (10 ^ e) (10 ^ n) (10 ^ (e + n)) d (pow-add 10 e n) whole in
    let read : reads_as f bits q (e + n) ≡ true = ap (λ x. eqb (to_bits f (round f false x (10 ^ 400))) bits) same ∙ h in
    let left : 0 < q =
    elim (eq-zero-or-pos q) [
      | inl z ↦ let none : q * 10 ^ n ≡ 0 = rw z (omega arith) in absurd (omega arith)
      | inr p ↦ p
    ]
    in (
      read,
      elim (eq-zero-or-pos (e + n - 708)) [
        | inl z ↦ omega arith
        | inr p ↦ absurd (mathlib.Core.Bool.true≢false (sym read ∙ huge_unread f bits q (e + n) F left (omega arith)))
      ],
      left,
      omega (arith, mul-le-mul_left q (ten_to_pos n), whole),
    )
  where
    turned : (q x y z d : ℕ) → z ≡ x * y → d ≡ q * y → q * z ≡ d * x
    turned q x y z d a b = ap (λ t. q * t) a ∙ regroup q x y ∙ ap (λ t. t * x) (sym b)
      where
        regroup : (q x y : ℕ) → q * (x * y) ≡ q * y * x
        regroup q x y = grind arith
