-- The closest of the decimals at one power that read back.
use Rattle.std.proofs.Common.{◌≡◌, ℕ, ◌+◌, ◌-◌, ◌*◌, ◌%◌, ◌^◌, ◌<◌, ◌≤◌, Bool, true, false, cond, ◌&&◌, refl, sym, ap, ◌∙◌, inl, inr, arith, eq-zero-or-pos, mul-le-mul_right, mul-pos, le-div_iff_mul-le, div-lt_iff_lt-mul}
use lib.Pow.{pow_pos}
use borrow.Author.Tests.{lt-ltb, le-ltb, eq-eqb, ne_eqb}
use lib.Ieee.{Format, low}
use Rattle.fast_float.proofs.ExactLemmas.{ten_to_pos}
use Rattle.float_text.specs.Shortest.{reads_as, scaled_num, scaled_den, floor_at, digits_at, is_above_half, closest_that_reads}
use Rattle.float_text.specs.Search.{IsBestUp, IsBestDown}
use Rattle.float_text.proofs.Interval.{IsFinite, squeeze, itself}
use Rattle.float_text.proofs.Coarsest.{IsRead, test_of_read, unread_of_test, between_decimals}

-- ---- the test for the closer of two neighbours
below_half : (num den q : ℕ) → 2 * num < (2 * q + 1) * den → is_above_half num den q ≡ false
below_half num den q l = rw (le-ltb ((2 * q + 1) * den) (2 * num) (omega arith), ne_eqb ((2 * q + 1) * den) (2 * num) (λ e. omega arith)) refl

above_half : (num den q : ℕ) → (2 * q + 1) * den < 2 * num → is_above_half num den q ≡ true
above_half num den q l = rw (lt-ltb ((2 * q + 1) * den) (2 * num) l) refl

even_half : (num den q : ℕ) → (2 * q + 1) * den ≡ 2 * num → q % 2 ≡ 0 → is_above_half num den q ≡ false
even_half num den q e z = rw (le-ltb ((2 * q + 1) * den) (2 * num) (omega arith), eq-eqb ((2 * q + 1) * den) (2 * num) e, z) refl

odd_half : (num den q : ℕ) → (2 * q + 1) * den ≡ 2 * num → q % 2 ≡ 1 → is_above_half num den q ≡ true
odd_half num den q e z = rw (le-ltb ((2 * q + 1) * den) (2 * num) (omega arith), eq-eqb ((2 * q + 1) * den) (2 * num) e, z) refl

-- ---- the choice between them
floor_chosen : (q : ℕ) (next : Bool) → closest_that_reads q true next false ≡ q
floor_chosen q next = refl

only_floor : (q : ℕ) (closer : Bool) → closest_that_reads q true false closer ≡ q
only_floor q true = refl
only_floor q false = refl

only_next : (d q : ℕ) (closer : Bool) → cond (closer && true) d (cond false q (cond true d 0)) ≡ d
only_next d q true = refl
only_next d q false = refl

module _ (f : Format) (bits d e : ℕ) (F : IsFinite f bits) (read : IsRead f bits d e) where
  abbrev A : ℕ
  A = scaled_num f bits

  abbrev B : ℕ
  B = scaled_den f e

  B_pos : 0 < B
  B_pos = mul-pos (pow_pos (low f)) (ten_to_pos e)

  read_below : (x : ℕ) → d ≤ x → x * B ≤ A → IsRead f bits x e
  read_below x h l =
      let turn : x * 10 ^ e * 2 ^ low f ≡ x * (2 ^ low f * 10 ^ e) = omega arith in
      squeeze f bits F _ _ _ _ _ _ (ten_to_pos 400) (pow_pos (low f)) (ten_to_pos 400) read (itself f bits F.below) (mul-le-mul_right (10 ^ 400) (mul-le-mul_right (10 ^ e) h)) (rw turn l)

  read_above : (x : ℕ) → x ≤ d → A ≤ x * B → IsRead f bits x e
  read_above x h l =
      let turn : x * 10 ^ e * 2 ^ low f ≡ x * (2 ^ low f * 10 ^ e) = omega arith in
      squeeze f bits F _ _ _ _ _ _ (pow_pos (low f)) (ten_to_pos 400) (ten_to_pos 400) (itself f bits F.below) read (rw turn l) (mul-le-mul_right (10 ^ 400) (mul-le-mul_right (10 ^ e) h))

  floor_is : (x : ℕ) → x * B ≤ A → A < (x + 1) * B → floor_at f bits e ≡ x
  floor_is x l h = let a = (le-div_iff_mul-le B_pos).1 l in let b = (div-lt_iff_lt-mul B_pos).1 h in omega arith

  -- the digits are the float's own, cut off
  from_floor : IsBestUp f bits d e → d * B ≤ A → digits_at f bits e ≡ d
  from_floor up l =
      elim up [
        | inl u ↦
            let is = floor_is d l (omega (arith, u)) in
            rw (is, test_of_read f bits d e read, below_half A B d u) (floor_chosen d (reads_as f bits (d + 1) e))
        | inr v ↦ elim v [
          | inl t ↦
              let is = floor_is d l (omega (arith, t.0, B_pos)) in
              rw (is, test_of_read f bits d e read, even_half A B d (sym t.0) t.1) (floor_chosen d (reads_as f bits (d + 1) e))
          | inr n ↦
              let is = floor_is d l (next_above n) in
              rw (is, test_of_read f bits d e read, n) (only_floor d (is_above_half A B d))
        ]
      ]
    where
      next_above : reads_as f bits (d + 1) e ≡ false → A < (d + 1) * B
      next_above unread =
          elim (eq-zero-or-pos ((d + 1) * B - A)) [
            | inl z ↦ absurd (unread_of_test f bits _ _ unread (read_below (d + 1) (omega arith) (omega arith)))
            | inr p ↦ omega arith
          ]

  -- or one more
  from_next : 0 < d → IsBestDown f bits d e → A < d * B → digits_at f bits e ≡ d
  from_next some down l =
      let q = d - 1 in
      let next : q + 1 ≡ d = omega arith in
      let odd : 2 * q + 1 ≡ 2 * d - 1 = omega arith in
      let last : q * B + B ≡ d * B = omega (arith, ap (λ x. x * B) next) in
      let half : (2 * d - 1) * B ≡ 2 * (q * B) + B = ap (λ x. x * B) (sym odd) ∙ omega arith in
      elim down [
        | inl u ↦
            let is = floor_is q (omega (arith, half, u)) (rw next l) in
            rw (is, next, test_of_read f bits d e read, above_half A B q (rw odd u)) refl
        | inr v ↦ elim v [
          | inl t ↦
              let is = floor_is q (omega (arith, half, t.0)) (rw next l) in
              rw (is, next, test_of_read f bits d e read, odd_half A B q (ap (λ x. x * B) odd ∙ sym t.0) (omega (arith, t.1))) refl
          | inr n ↦
              let is = floor_is q (prior n) (rw next l) in
              rw (is, next, test_of_read f bits d e read, n) (only_next d q (is_above_half A B q))
        ]
      ]
    where
      prior : reads_as f bits (d - 1) e ≡ false → (d - 1) * B ≤ A
      prior unread =
          elim (eq-zero-or-pos ((d - 1) * B - A)) [
            | inl z ↦ omega arith
            | inr p ↦ absurd (unread_of_test f bits _ _ unread (read_above (d - 1) (omega arith) (omega arith)))
          ]

  pub digits_is : 0 < d → IsBestUp f bits d e → IsBestDown f bits d e → digits_at f bits e ≡ d
  digits_is some up down =
      elim (eq-zero-or-pos (d * B - A)) [ inl z ↦ from_floor up (omega arith) | inr p ↦ from_next some down (omega arith) ]

  -- the float lies on this decimal's side of the point halfway to any other that reads back
  pub upper_side : (x : ℕ) → d < x → IsRead f bits x e → IsBestUp f bits d e → 2 * A ≤ (d + x) * B
  upper_side x l r up =
      let far : (2 * d + 1) * B ≤ (d + x) * B = mul-le-mul_right B (omega arith) in
      elim up [
        | inl u ↦ omega (arith, u, far)
        | inr v ↦ elim v [
          | inl t ↦ omega (arith, t.0, far)
          | inr n ↦ absurd (unread_of_test f bits _ _ n (between_decimals f bits (d + 1) e d e x e F read r (mul-le-mul_right (10 ^ e) (omega arith)) (mul-le-mul_right (10 ^ e) (omega arith))))
        ]
      ]

  pub lower_side : (x : ℕ) → x < d → IsRead f bits x e → IsBestDown f bits d e → (d + x) * B ≤ 2 * A
  lower_side x l r down =
      let near : (d + x) * B ≤ (2 * d - 1) * B = mul-le-mul_right B (omega arith) in
      elim down [
        | inl u ↦ omega (arith, u, near)
        | inr v ↦ elim v [
          | inl t ↦ omega (arith, t.0, near)
          | inr n ↦ absurd (unread_of_test f bits _ _ n (between_decimals f bits (d - 1) e x e d e F r read (mul-le-mul_right (10 ^ e) (omega arith)) (mul-le-mul_right (10 ^ e) (omega arith))))
        ]
      ]
