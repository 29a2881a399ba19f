-- The float's own digits: one more in the last place reads back from 18 digits on.
use Rattle.std.proofs.Common.{◌≡◌, ℕ, ◌+◌, ◌-◌, ◌*◌, ◌^◌, ◌<◌, ◌≤◌, true, false, sym, ap, ◌∙◌, inl, inr, arith, eq-zero-or-pos, mul-le-mul_right, mul-pos}
use native.Mathlib.Nat.{le_of_mul-le-mul_right}
use lib.Dec.{lit≤}
use lib.Pow.{pow_pos, pow_mono, pow-add}
use lib.Ieee.{Format, binary32, binary64, prec, low, hid, ones}
use Rattle.fast_float.proofs.Patterns.{shape}
use Rattle.fast_float.proofs.ExactLemmas.{ten_to_pos}
use Rattle.fast_float.proofs.Extremes.{nearest_of_zero, nearest_of_huge}
use Rattle.float_text.specs.Shortest.{IsFinite, reads_as, size_in_units, scaled_num, scaled_den}
use Rattle.float_text.proofs.Interval.{bits_of_nearest, itself, scaled_of, just_above}
use Rattle.float_text.proofs.Coarsest.{test_of_read}

-- a unit of the last place is less than half of the gap
under_gap : (d unit m gap : ℕ) → 0 < gap → 10 ^ 17 ≤ d → m ≤ 2 ^ 53 → d * unit ≤ m * gap → 2 * ((d + 1) * unit) < 2 * (m * gap) + gap
under_gap d unit m gap some many few l =
    let a : 10 ^ 17 * unit ≤ d * unit = mul-le-mul_right unit many in
    let b : m * gap ≤ 2 ^ 53 * gap = mul-le-mul_right gap few in
    omega arith

pub long_reads : (f : Format) (bits d e : ℕ) → IsFinite f bits → 10 ^ 17 ≤ d → d * scaled_den f e ≤ scaled_num f bits → scaled_num f bits < (d + 1) * scaled_den f e → reads_as f bits (d + 1) e ≡ true
long_reads f bits d e F many from below =
    let s = shape f in
    let r = scaled_of f bits F.below in
    let m = r.0 in
    let k = r.1.0 in
    let is = r.1.1 in
    let gap = 10 ^ 400 * 2 ^ k in
    let wide : 2 ^ prec f ≤ 2 ^ 53 = pow_mono {j = 53} (omega arith) in
    let fits = is.fits in
    let turn : m * gap ≡ m * 2 ^ k * 10 ^ 400 = grind arith in
    let size : m * gap ≡ scaled_num f bits = turn ∙ ap (λ x. x * 10 ^ 400) is.units_are in
    let decimal : (d + 1) * 10 ^ e * 2 ^ low f ≡ (d + 1) * scaled_den f e = grind arith in
    let near = under_gap d (scaled_den f e) m gap (mul-pos (ten_to_pos 400) (pow_pos k)) many (omega arith) (rw size from) in
    test_of_read f bits (d + 1) e (just_above f bits m k _ _ is (ten_to_pos 400) (rw (size, decimal) (omega arith)) (rw decimal near))

some_units : (f : Format) (bits : ℕ) → IsFinite f bits → 0 < size_in_units f bits
some_units f bits F =
    elim (eq-zero-or-pos (size_in_units f bits)) [
      | inr p ↦ p
      | inl z ↦
          let same : 0 ≡ bits = sym (bits_of_nearest f _ _ 0 (nearest_of_zero f _ _ (pow_pos (low f)) z)) ∙ bits_of_nearest f _ _ bits (itself f bits F.below) in
          let some = F.some in
          absurd (omega arith)
    ]

-- each float has 18 digits at the least power
pub long_at_least : (f : Format) (bits : ℕ) → IsFinite f bits → 10 ^ 17 * scaled_den f 58 ≤ scaled_num f bits
long_at_least f bits F =
    let small : 10 ^ 17 * (2 ^ low f * 10 ^ 58) ≤ 1 * 10 ^ 400 = elim f as (λ g. 10 ^ 17 * (2 ^ low g * 10 ^ 58) ≤ 1 * 10 ^ 400) [ binary32 ↦ lit≤ tt | binary64 ↦ lit≤ tt ] in
    native.Mathlib.Nat.le_trans small (mul-le-mul_right (10 ^ 400) (some_units f bits F))

-- and none at the power above the greatest
pub none_at_greatest : (f : Format) (bits : ℕ) → IsFinite f bits → scaled_num f bits < scaled_den f 709
none_at_greatest f bits F =
    elim (eq-zero-or-pos (scaled_den f 709 - scaled_num f bits)) [
      | inr p ↦ omega arith
      | inl z ↦
          let parts : 10 ^ 709 ≡ 10 ^ 309 * 10 ^ 400 = pow-add 10 309 400 in
          let turn : 2 ^ low f * 10 ^ 709 ≡ 10 ^ 309 * 2 ^ low f * 10 ^ 400 = ap (λ x. 2 ^ low f * x) parts ∙ shuffled _ _ _ in
          let huge : 10 ^ 309 * 2 ^ low f ≤ size_in_units f bits = le_of_mul-le-mul_right {k = 10 ^ 400} (rw (← turn) (omega arith)) (ten_to_pos 400) in
          let same : ones f * hid f ≡ bits = sym (bits_of_nearest f _ _ _ (nearest_of_huge f _ _ (pow_pos (low f)) huge)) ∙ bits_of_nearest f _ _ bits (itself f bits F.below) in
          let below = F.below in
          absurd (omega arith)
    ]
  where
    shuffled : (a b c : ℕ) → a * (b * c) ≡ b * a * c
    shuffled a b c = grind arith

pub next_den : (f : Format) (e : ℕ) → 0 < e → scaled_den f e ≡ 10 * scaled_den f (e - 1)
next_den f e some =
    let sum : e - 1 + 1 ≡ e = omega arith in
    let parts : 10 ^ e ≡ 10 ^ (e - 1) * 10 ^ 1 = ap (λ x. 10 ^ x) (sym sum) ∙ pow-add 10 (e - 1) 1 in
    omega (arith, ap (λ x. 2 ^ low f * x) parts)

-- where one more in the last place doesn't read back, there is a next power, with a 0 behind the digits
pub next_power : (f : Format) (bits d e : ℕ) → IsFinite f bits → 58 ≤ e → e ≤ 709 → d * scaled_den f e ≤ scaled_num f bits → scaled_num f bits < (d + 1) * scaled_den f e → reads_as f bits (d + 1) e ≡ false
    → (d < 10 ^ 17) × (58 ≤ e - 1) × (e - 1 ≤ 708) × (d * 10 * scaled_den f (e - 1) ≤ scaled_num f bits) × (scaled_num f bits < (d * 10 + 10) * scaled_den f (e - 1))
next_power f bits d e F least most from below unread =
    let few : d < 10 ^ 17 =
    elim (eq-zero-or-pos (10 ^ 17 - d)) [
      | inr p ↦ omega arith
      | inl z ↦ absurd (mathlib.Core.Bool.true≢false (sym (long_reads f bits d e F (omega arith) from below) ∙ unread))
    ]
    in
    let above : 58 < e =
    elim (eq-zero-or-pos (e - 58)) [
      | inr p ↦ omega arith
      | inl z ↦
          let is : e ≡ 58 = omega arith in
          let many : (d + 1) * scaled_den f 58 ≤ 10 ^ 17 * scaled_den f 58 = mul-le-mul_right (scaled_den f 58) (omega arith) in
          absurd (omega (arith, rw is at below, many, long_at_least f bits F))
    ]
    in
    let next = next_den f e (omega arith) in
    (few, omega arith, omega arith, omega (arith, ap (λ x. d * x) next, from), omega (arith, ap (λ x. (d + 1) * x) next, below))
