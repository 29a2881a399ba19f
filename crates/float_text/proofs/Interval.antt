-- Which decimals read back: those between two that do.
use Rattle.std.proofs.Common.{◌≡◌, ℕ, zero, suc, ◌+◌, ◌-◌, ◌*◌, ◌/◌, ◌%◌, ◌^◌, ◌<◌, ◌≤◌, Bool, true, false, not, cond, leb, ltb, eqb, T, refl, sym, ap, ◌∙◌, subst, inl, inr, arith, eq-zero-or-pos, mod-lt, mod-eq_of_lt, div-add-mod', div-lt_iff_lt-mul, mul-pos, le_antisymm}
use native.Mathlib.Nat.{le_of_mul-le-mul_right, mul-div_cancel, mul-le-mul_right}
use lib.Pow.{pow_pos}
use borrow.Author.Tests.{lt-ltb, le-ltb}
use lib.Ieee.{Float, Format, nan, inf, fin, prec, low, hid, ones, top, size, up, down, round, le, of_bits, to_bits, fits, is_nan}
use lib.Ieee.Bits.{of_bits-to_bits, to_bits-of_bits, of_bits-fits, nan_bits_is, nan_bits_above}
use lib.Ieee.Fits.{down_pos, round-fits}
use lib.Ieee.Exact.{HasValue}
use lib.Ieee.Order.{round_mono}
use lib.Ieee.Positive.{positive, positive_of_value, positive-finite, between, values_of_le}
use lib.Ieee.Scale.{round_val, round_under}
use Rattle.fast_float.specs.Rounding.{scaled_bits, IsNearestBits}
use Rattle.fast_float.proofs.Patterns.{shape, field_units, of_bits_value}
use Rattle.fast_float.proofs.RoundingLemmas.{nearest_of_near}
pub use Rattle.float_text.specs.Shortest.{IsFinite, size_in_units}

-- the pattern of a float that is `units` of the least float above 0
pattern_of : (f : Format) (x : Float) (units : ℕ) → HasValue x false units (2 ^ low f) → to_bits f x ≡ (size units - prec f) * hid f + units / 2 ^ (size units - prec f)
unfolding to_bits
pattern_of f nan units v = absurd v
pattern_of f (inf s) units v = absurd v
pattern_of f (fin s m e) units v =
    let is : m * up e * 2 ^ low f / down e ≡ units = ap (λ (n : ℕ). n / down e) v.1 ∙ mul-div_cancel units (down_pos e) in
    (λ i. cond (v.0 i) (top f) 0 + (size (is i) - prec f) * hid f + is i / 2 ^ (size (is i) - prec f)) ∙ omega arith

-- floats with one value are one
same_float : (f : Format) (x y : Float) (units : ℕ) → T (fits f x) → T (fits f y) → HasValue x false units (2 ^ low f) → HasValue y false units (2 ^ low f) → x ≡ y
same_float f x y units p q v w =
    sym (of_bits-to_bits f x p) ∙ ap (of_bits f) (pattern_of f x units v ∙ sym (pattern_of f y units w)) ∙ of_bits-to_bits f y q

not_nan : (f : Format) (bits : ℕ) → bits ≤ ones f * hid f → T (not (is_nan (of_bits f bits)))
not_nan f bits h =
    let s = shape f in
    let small : bits < top f = omega arith in
    subst (λ (b : Bool). T (not b)) (sym (sym (nan_bits_is f bits) ∙ nan_bits_above f bits ∙ le-ltb (ones f * hid f) (bits % top f) (rw (mod-eq_of_lt small) h))) tt

-- the bits that a decimal reads as are the only ones
pub bits_of_nearest : (f : Format) (num den bits : ℕ) → IsNearestBits f num den bits → to_bits f (round f false num den) ≡ bits
bits_of_nearest f num den bits h =
    let s = shape f in
    let least = h.1 in
    ap (to_bits f) (sym h.0) ∙ to_bits-of_bits f bits (omega arith) (not_nan f bits h.1)

pub nearest_of_bits : (f : Format) (num den bits : ℕ) → bits ≤ ones f * hid f → to_bits f (round f false num den) ≡ bits → IsNearestBits f num den bits
nearest_of_bits f num den bits h e = (ap (of_bits f) (sym e) ∙ of_bits-to_bits f _ (round-fits f false num den), h)

module _ (f : Format) (bits : ℕ) (F : IsFinite f bits) where
  abbrev units : ℕ
  units = field_units f (bits / hid f) (bits % hid f)

  value_is : HasValue (of_bits f bits) false units (2 ^ low f)
  value_is =
      let s = shape f in
      let some : 0 < hid f = omega arith in
      subst (λ (b : ℕ). HasValue (of_bits f b) false units (2 ^ low f)) (div-add-mod' bits (hid f))
      (of_bits_value f (bits / hid f) (bits % hid f) ((div-lt_iff_lt-mul some).1 F.below) (mod-lt bits some))

  some_units : (field rest : ℕ) → 0 < field * hid f + rest → 0 < field_units f field rest
  some_units zero rest h = omega arith
  some_units (suc field) rest h = let s = shape f in let some : 0 < hid f + rest = omega arith in mul-pos some (pow_pos field)

  is_positive : T (positive (of_bits f bits))
  is_positive = positive_of_value _ _ _ value_is (some_units (bits / hid f) (bits % hid f) (subst (λ (b : ℕ). 0 < b) (sym (div-add-mod' bits (hid f))) F.some))

  -- what lies between two fractions that round to a float rounds to it
  pub squeeze : (a b c d p q : ℕ) → 0 < b → 0 < d → 0 < q → IsNearestBits f a b bits → IsNearestBits f c d bits → a * q ≤ p * b → p * d ≤ c * q → IsNearestBits f p q bits
  squeeze a b c d p q B D Q first last from to =
      let x = of_bits f bits in
      let y = round f false p q in
      let xy : T (le x y) = subst (λ z. T (le z y)) (sym first.0) (round_mono f a b p q B Q from) in
      let yx : T (le y x) = subst (λ z. T (le y z)) (sym last.0) (round_mono f p q c d Q D to) in
      let positive_y = between x y x is_positive is_positive xy yx in
      let value_y = round_val f p q (round_under f p q (positive-finite y positive_y)) in
      let some = pow_pos (low f) in
      let same =
      le_antisymm (le_of_mul-le-mul_right (values_of_le x y _ _ _ _ is_positive positive_y value_is value_y xy) some)
      (le_of_mul-le-mul_right (values_of_le y x _ _ _ _ positive_y is_positive value_y value_is yx) some) in
      (same_float f x y _ (of_bits-fits f bits) (round-fits f false p q) value_is (subst (λ (n : ℕ). HasValue y false n (2 ^ low f)) (sym same) value_y), first.1)

-- a float's bits, as a significand and an exponent
pub record IsScaled (f : Format) (bits m k : ℕ) : Type 0 where
  pub fits : m < 2 ^ prec f
  pub normal : 0 < k → hid f ≤ m
  pub bits_are : scaled_bits f m k ≡ bits
  pub units_are : m * 2 ^ k ≡ size_in_units f bits

pub scaled_of : (f : Format) (bits : ℕ) → bits < ones f * hid f → (m : ℕ) × ((k : ℕ) × IsScaled f bits m k)
scaled_of f bits F =
    let s = shape f in
    let some : 0 < hid f = omega arith in
    elim (eq-zero-or-pos (hid f - bits)) [
      | inr p ↦
          let small : bits < hid f = omega arith in
          let one : bits * 2 ^ 0 ≡ bits = omega arith in
          (bits, (0, record { fits = omega arith; normal = λ z. absurd (omega arith); bits_are = omega arith; units_are = rw (lt-ltb bits (hid f) small) one }))
      | inl z ↦
          let many : hid f ≤ bits = omega arith in
          let rest : bits % hid f < hid f = mod-lt bits some in
          let all = div-add-mod' bits (hid f) in
          let field : 1 ≤ bits / hid f = (Rattle.std.proofs.Common.le-div_iff_mul-le some).1 (omega arith) in
          let less : bits / hid f - 1 + 1 ≡ bits / hid f = omega arith in
          let sum : (bits / hid f - 1) * hid f + (hid f + bits % hid f) ≡ bits = omega (arith, all, ap (λ x. x * hid f) less) in
          (hid f + bits % hid f, (bits / hid f - 1, record { fits = omega arith; normal = λ _. omega arith; bits_are = omega (arith, sum); units_are = rw (le-ltb bits (hid f) many) refl }))
    ]

-- a decimal less than half of a gap above a float, or the float itself, reads as it
pub just_above : (f : Format) (bits m k num den : ℕ) → IsScaled f bits m k → 0 < den → m * (den * 2 ^ k) ≤ num * 2 ^ low f → 2 * (num * 2 ^ low f) < 2 * (m * (den * 2 ^ k)) + den * 2 ^ k
    → IsNearestBits f num den bits
just_above f bits m k num den S D from below =
    let fits = S.fits in
    let gap : 0 < den * 2 ^ k = mul-pos D (pow_pos k) in
    subst (IsNearestBits f num den) S.bits_are
    (nearest_of_near f num den m k D (omega arith) S.normal (λ K. let l = mul-le-mul_right (den * 2 ^ k) (S.normal K) in omega arith) (omega arith) below)

-- a float reads as itself
pub itself : (f : Format) (bits : ℕ) → bits < ones f * hid f → IsNearestBits f (size_in_units f bits) (2 ^ low f) bits
itself f bits F =
    let r = scaled_of f bits F in
    let m = r.0 in
    let k = r.1.0 in
    let turn : m * (2 ^ low f * 2 ^ k) ≡ m * 2 ^ k * 2 ^ low f = omega arith in
    let same : m * (2 ^ low f * 2 ^ k) ≡ size_in_units f bits * 2 ^ low f = turn ∙ ap (λ x. x * 2 ^ low f) r.1.1.units_are in
    let gap : 0 < 2 ^ low f * 2 ^ k = mul-pos (pow_pos (low f)) (pow_pos k) in
    just_above f bits m k _ _ r.1.1 (pow_pos (low f)) (omega arith) (omega arith)
