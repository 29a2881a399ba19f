-- Two decimals next to each other read back as two floats, where a float has more bits than they have digits.
use Rattle.std.proofs.Common.{◌≡◌, ℕ, zero, suc, ◌+◌, ◌-◌, ◌*◌, ◌/◌, ◌%◌, ◌^◌, ◌<◌, ◌≤◌, refl, sym, ap, ◌∙◌, subst, inl, inr, arith, eq-zero-or-pos, mul-le-mul_right, div-add-mod', mod-lt}
use native.Mathlib.Nat.{pow-le-pow_right}
use borrow.Author.Tests.{lt-ltb, le-ltb}
use lib.Dec.{lit<}
use lib.Pow.{pow_pos, pow-add}
use lib.Ieee.{Format, binary32, binary64, low, hid, ones}
use Rattle.fast_float.proofs.Patterns.{shape}
use Rattle.fast_float.proofs.ExactLemmas.{ten_to_pos}
use Rattle.float_text.specs.Shortest.{IsFinite, size_in_units, scaled_num, scaled_den}
use Rattle.float_text.proofs.Interval.{squeeze, itself, bits_of_nearest}
use Rattle.float_text.proofs.Coarsest.{IsRead}

-- ---- the gap between floats
-- the float with this field and this rest behind it, in units of the least float above 0
abbrev units : ℕ → ℕ → ℕ → ℕ
units h zero r = r
units h (suc q) r = (h + r) * 2 ^ q

next_rest : (h q r : ℕ) → units h q (r + 1) ≡ units h q r + 2 ^ (q - 1)
next_rest h zero r = omega arith
next_rest h (suc q) r = grind arith

next_field : (h q r : ℕ) → r + 1 ≡ h → units h (suc q) 0 ≡ units h q r + 2 ^ (q - 1)
next_field h zero r e = omega (arith, e)
next_field h (suc q) r e =
    let same : suc q - 1 ≡ q = omega arith in
    let sum : suc q ≡ q + 1 = omega arith in
    let twice : 2 ^ suc q ≡ 2 ^ q * 2 = ap (λ t. 2 ^ t) sum ∙ pow-add 2 q 1 in
    rw (same, twice) (subst (λ (x : ℕ). (x + 0) * (2 ^ q * 2) ≡ (x + r) * 2 ^ q + 2 ^ q) e (grind arith))

size_is : (f : Format) (bits : ℕ) → size_in_units f bits ≡ units (hid f) (bits / hid f) (bits % hid f)
size_is f bits =
    let s = shape f in
    let some : 0 < hid f = omega arith in
    elim (eq-zero-or-pos (hid f - bits)) [
      | inr p ↦
          let small : bits < hid f = omega arith in
          rw (lt-ltb bits (hid f) small, native.Mathlib.Nat.div-eq_of_lt small, Rattle.std.proofs.Common.mod-eq_of_lt small) refl
      | inl z ↦
          let many : hid f ≤ bits = omega arith in
          let field : 1 ≤ bits / hid f = (Rattle.std.proofs.Common.le-div_iff_mul-le some).1 (omega arith) in
          let more : bits / hid f ≡ suc (bits / hid f - 1) = omega arith in
          rw (le-ltb bits (hid f) many) (sym (ap (λ (q : ℕ). units (hid f) q (bits % hid f)) more))
    ]

same_field : (f : Format) (bits : ℕ) → bits % hid f + 1 < hid f → ((bits + 1) / hid f ≡ bits / hid f) × ((bits + 1) % hid f ≡ bits % hid f + 1)
same_field binary32 bits l = (omega arith, omega arith)
same_field binary64 bits l = (omega arith, omega arith)

other_field : (f : Format) (bits : ℕ) → bits % hid f + 1 ≡ hid f → ((bits + 1) / hid f ≡ suc (bits / hid f)) × ((bits + 1) % hid f ≡ 0)
other_field binary32 bits e = (omega arith, omega arith)
other_field binary64 bits e = (omega arith, omega arith)

no_less_field : (f : Format) (bits : ℕ) → bits / hid f ≤ (bits + 1) / hid f
no_less_field binary32 bits = omega arith
no_less_field binary64 bits = omega arith

-- from a float to the next one
next_size : (f : Format) (bits : ℕ) → size_in_units f (bits + 1) ≡ size_in_units f bits + 2 ^ (bits / hid f - 1)
next_size f bits =
    let s = shape f in
    let some : 0 < hid f = omega arith in
    let rest = mod-lt bits some in
    let h = hid f in
    elim (eq-zero-or-pos (h - (bits % h + 1))) [
      | inr p ↦
          let is = same_field f bits (omega arith) in
          rw (size_is f (bits + 1), size_is f bits, is.0, is.1) (next_rest h (bits / h) (bits % h))
      | inl z ↦
          let is = other_field f bits (omega arith) in
          rw (size_is f (bits + 1), size_is f bits, is.0, is.1) (next_field h (bits / h) (bits % h) (omega arith))
    ]

-- ---- the decimals
module _ (f : Format) (bits d e : ℕ) (F : IsFinite f bits) where
  -- what reads as a float is above the float before
  above_last : (last : ℕ) → last + 1 ≡ bits → IsRead f bits d e → scaled_num f last < d * scaled_den f e
  above_last last is r =
      elim (eq-zero-or-pos (d * scaled_den f e - scaled_num f last)) [
        | inr p ↦ omega arith
        | inl z ↦
            let below = F.below in
            let turn : d * 10 ^ e * 2 ^ low f ≡ d * (2 ^ low f * 10 ^ e) = omega arith in
            let step : size_in_units f bits ≡ size_in_units f last + 2 ^ (last / hid f - 1) = subst (λ (b : ℕ). size_in_units f b ≡ size_in_units f last + 2 ^ (last / hid f - 1)) is (next_size f last) in
            let less : size_in_units f last ≤ size_in_units f bits = omega arith in
            let from : d * (2 ^ low f * 10 ^ e) ≤ size_in_units f last * 10 ^ 400 = omega arith in
            let read = squeeze f bits F _ _ _ _ _ _ (ten_to_pos 400) (pow_pos (low f)) (pow_pos (low f)) r (itself f bits F.below) (rw turn from) (mul-le-mul_right (2 ^ low f) less) in
            let same : bits ≡ last = sym (bits_of_nearest f _ _ bits read) ∙ bits_of_nearest f _ _ last (itself f last (omega arith)) in
            absurd (omega arith)
      ]

  -- and below the next one
  below_next : bits + 1 < ones f * hid f → IsRead f bits d e → d * scaled_den f e < scaled_num f (bits + 1)
  below_next some r =
      elim (eq-zero-or-pos (scaled_num f (bits + 1) - d * scaled_den f e)) [
        | inr p ↦ omega arith
        | inl z ↦
            let turn : d * 10 ^ e * 2 ^ low f ≡ d * (2 ^ low f * 10 ^ e) = omega arith in
            let step = next_size f bits in
            let less : size_in_units f bits ≤ size_in_units f (bits + 1) = omega arith in
            let to : size_in_units f (bits + 1) * 10 ^ 400 ≤ d * (2 ^ low f * 10 ^ e) = omega arith in
            let read = squeeze f bits F _ _ _ _ _ _ (pow_pos (low f)) (ten_to_pos 400) (pow_pos (low f)) (itself f bits F.below) r (mul-le-mul_right (2 ^ low f) less) (rw turn to) in
            let same : bits ≡ bits + 1 = sym (bits_of_nearest f _ _ bits read) ∙ bits_of_nearest f _ _ (bits + 1) (itself f (bits + 1) some) in
            absurd (omega arith)
      ]

-- With X, Y, Z floats in a row, and d and d + 1 times B between X and Z
too_close : (B T d h X Y Z g less : ℕ) → X * T < d * B → (d + 1) * B < Z * T → Z ≡ Y + g → Y ≡ X + less → less ≤ g → h * g ≤ Y → 2 * d < h → ⊥
too_close B T d h X Y Z g less from to upper lower narrow many few =
    let t = g * T in
    let z : Z * T ≡ Y * T + g * T = rw upper (grind arith) in
    let y : Y * T ≡ X * T + less * T = rw lower (grind arith) in
    let n : less * T ≤ g * T = mul-le-mul_right T narrow in
    let small : B ≤ 2 * t = omega arith in
    let wide : B * d ≤ 2 * t * d = mul-le-mul_right d small in
    let base : h * g * T ≤ Y * T = mul-le-mul_right T many in
    let most : (2 * d + 1) * t ≤ h * t = mul-le-mul_right t (omega arith) in
    omega (arith, from, wide, base, most, y, n)

module _ (f : Format) (bits d e : ℕ) (F : IsFinite f bits) where
  pub apart : hid f ≤ bits → bits + 1 < ones f * hid f → 2 * d < hid f → IsRead f bits d e → IsRead f bits (d + 1) e → ⊥
  apart many some few r more =
      let s = shape f in
      let last = bits - 1 in
      let is : last + 1 ≡ bits = omega arith in
      let gap = 2 ^ (bits / hid f - 1) in
      let fields : last / hid f ≤ bits / hid f = subst (λ (b : ℕ). last / hid f ≤ b / hid f) is (no_less_field f last) in
      let narrow : 2 ^ (last / hid f - 1) ≤ gap = pow-le-pow_right (lit< tt) (omega arith) in
      let lower : size_in_units f bits ≡ size_in_units f last + 2 ^ (last / hid f - 1) = subst (λ (b : ℕ). size_in_units f b ≡ size_in_units f last + 2 ^ (last / hid f - 1)) is (next_size f last) in
      let size : (hid f + bits % hid f) * gap ≡ size_in_units f bits = rw (le-ltb bits (hid f) many) refl in
      let whole : hid f * gap ≤ (hid f + bits % hid f) * gap = mul-le-mul_right gap (omega arith) in
      too_close (scaled_den f e) (10 ^ 400) d (hid f) _ _ _ gap _ (above_last f bits d e F last is r) (below_next f bits (d + 1) e F some more) (next_size f bits) lower narrow (rw size at whole) few
