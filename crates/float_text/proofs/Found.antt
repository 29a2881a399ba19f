-- Each finite float has a decimal of at most 18 digits that reads back, so its shortest decimal is one, and its text is a number of JSON.
use Rattle.std.proofs.Common.{◌≡◌, ℕ, zero, suc, ◌+◌, ◌-◌, ◌*◌, ◌%◌, ◌^◌, ◌<◌, ◌≤◌, Bool, true, false, cond, nat_le, List, codes, ◌++◌, [], inl, inr, ◌⊎◌, refl, sym, ap, ◌∙◌, subst, arith, eq-zero-or-pos, mul-pos, mul-le-mul_left, le-div_iff_mul-le, div-lt_iff_lt-mul}
use Rattle.std.proofs.Math.Nat.{div-mul-le_self, lt-div-mul-add}
use native.Mathlib.Nat.{pow-le-pow_right}
use lib.Dec.{lit<}
use lib.Pow.{pow_pos}
use lib.Ieee.{Format, low, top, hid, ones}
use Rattle.std.proofs.lemmas.Bool.{cases_Bool}
use Rattle.std.proofs.lemmas.Fmt.{length-decimal-le}
use Rattle.fast_float.proofs.ExactLemmas.{ten_to_pos}
use Rattle.json.specs.Print.{IsNumber}
use Rattle.float_text.specs.JsonSizes.{IsJsonSize}
use Rattle.float_text.specs.Layout.{size_text, number_text}
use Rattle.float_text.specs.Shortest.{IsFinite, reads_as, scaled_num, scaled_den, floor_at, is_above_half, closest_that_reads, digits_at, coarsest, shortest}
use Rattle.float_text.proofs.Generated.{none_at_greatest, next_power}
use Rattle.float_text.proofs.Json.{zero_size, some_size}
use Rattle.float_text.proofs.Tests.{zero_unread}

module _ (f : Format) (bits : ℕ) (F : IsFinite f bits) where
  den_pos : (e : ℕ) → 0 < scaled_den f e
  den_pos e = mul-pos (pow_pos (low f)) (ten_to_pos e)

  floor_from : (e : ℕ) → floor_at f bits e * scaled_den f e ≤ scaled_num f bits
  floor_from e = div-mul-le_self (scaled_num f bits) (scaled_den f e)

  floor_below : (e : ℕ) → scaled_num f bits < (floor_at f bits e + 1) * scaled_den f e
  floor_below e = omega (arith, lt-div-mul-add {a = scaled_num f bits} (den_pos e))

  -- at this power the float's own digits, with 1 more in the last place, read back, and are few
  record IsReached (e : ℕ) : Type 0 where
    few : floor_at f bits e < 10 ^ 18
    reads : reads_as f bits (floor_at f bits e + 1) e ≡ true

  reach : (power : ℕ) → 58 ≤ power → power ≤ 709 → floor_at f bits power < 10 ^ 18 → (e : ℕ) × (e ≤ power) × IsReached e
  reach zero least most few = absurd (omega arith)
  reach (suc p) least most few =
      elim (cases_Bool (reads_as f bits (floor_at f bits (suc p) + 1) (suc p))) [
        | inl read ↦ (suc p, omega arith, record { few = few; reads = read })
        | inr unread ↦
            let next = next_power f bits (floor_at f bits (suc p)) (suc p) F least most (floor_from (suc p)) (floor_below (suc p)) unread in
            let same : suc p - 1 ≡ p = omega arith in
            let below : floor_at f bits p < floor_at f bits (suc p) * 10 + 10 = (div-lt_iff_lt-mul (den_pos p)).1 (subst (λ e. scaled_num f bits < (floor_at f bits (suc p) * 10 + 10) * scaled_den f e) same next.4) in
            let found = reach p (omega (arith, next.1)) (omega arith) (omega (arith, next.0, below)) in
            (found.0, omega (arith, found.1), found.2)
      ]

  -- digits that are chosen are one of the two next to the float, and read back
  record IsChosen (e d : ℕ) : Type 0 where
    some : 0 < d
    few : d ≤ floor_at f bits e + 1
    reads : reads_as f bits d e ≡ true

  some_floor : (e : ℕ) → reads_as f bits (floor_at f bits e) e ≡ true → 0 < floor_at f bits e
  some_floor e read =
      elim (eq-zero-or-pos (floor_at f bits e)) [
        | inl none ↦ absurd (mathlib.Core.Bool.true≢false (sym read ∙ zero_unread f bits (floor_at f bits e) e F none))
        | inr p ↦ p
      ]

  floor_chosen : (e : ℕ) → reads_as f bits (floor_at f bits e) e ≡ true → IsChosen e (floor_at f bits e)
  floor_chosen e read = record { some = some_floor e read; few = omega arith; reads = read }

  next_chosen : (e : ℕ) → reads_as f bits (floor_at f bits e + 1) e ≡ true → IsChosen e (floor_at f bits e + 1)
  next_chosen e read = record { some = omega arith; few = omega arith; reads = read }

  chosen : (e : ℕ) (x y closer : Bool) → reads_as f bits (floor_at f bits e) e ≡ x → reads_as f bits (floor_at f bits e + 1) e ≡ y
      → IsChosen e (closest_that_reads (floor_at f bits e) x y closer) ⊎ ((closest_that_reads (floor_at f bits e) x y closer ≡ 0) × (y ≡ false))
  chosen e x true true p q = inl (next_chosen e q)
  chosen e true true false p q = inl (floor_chosen e p)
  chosen e false true false p q = inl (next_chosen e q)
  chosen e true false true p q = inl (floor_chosen e p)
  chosen e true false false p q = inl (floor_chosen e p)
  chosen e false false true p q = inr (refl, refl)
  chosen e false false false p q = inr (refl, refl)

  at_power : (e : ℕ) → IsChosen e (digits_at f bits e) ⊎ ((digits_at f bits e ≡ 0) × (reads_as f bits (floor_at f bits e + 1) e ≡ false))
  at_power e = chosen e _ _ (is_above_half (scaled_num f bits) (scaled_den f e) (floor_at f bits e)) refl refl

  -- the shortest decimal's digits are few, and read back
  pub record IsShort (s : ℕ × ℕ) (most : ℕ) : Type 0 where
    pub some : 0 < s.0
    pub few : s.0 ≤ 10 ^ 18
    pub power : s.1 ≤ most
    pub reads : reads_as f bits s.0 s.1 ≡ true

  kept : (n d : ℕ) → 0 < d → coarsest f bits n d ≡ (d, n)
  unfolding coarsest
  kept n zero some = absurd (omega arith)
  kept zero (suc d) some = refl
  kept (suc n) (suc d) some = refl

  floor_falls : (e n : ℕ) → e ≤ n → floor_at f bits n ≤ floor_at f bits e
  floor_falls e n l =
      let wider : scaled_den f e ≤ scaled_den f n = mul-le-mul_left (2 ^ low f) (pow-le-pow_right (lit< tt) l) in
      let product : floor_at f bits n * scaled_den f e ≤ floor_at f bits n * scaled_den f n = mul-le-mul_left (floor_at f bits n) wider in
      (le-div_iff_mul-le (den_pos e)).1 (omega (arith, product, floor_from n))

  found : (e n : ℕ) → e ≤ n → IsReached e → IsChosen n (digits_at f bits n) → IsShort (coarsest f bits n (digits_at f bits n)) n
  found e n l r c =
      rw (kept n (digits_at f bits n) c.some)
      (record { some = c.some; few = omega (arith, c.few, floor_falls e n l, r.few); power = omega arith; reads = c.reads })

  missed : (e n : ℕ) → e ≤ n → IsReached e → reads_as f bits (floor_at f bits n + 1) n ≡ false → n ≤ e → ⊥
  missed e n l r unread most =
      let same : e ≡ n = omega arith in
      mathlib.Core.Bool.true≢false (sym (subst (λ k. reads_as f bits (floor_at f bits k + 1) k ≡ true) same r.reads) ∙ unread)

  passed : (n d : ℕ) → d ≡ 0 → coarsest f bits (suc n) d ≡ coarsest f bits n (digits_at f bits n)
  unfolding coarsest
  passed n d is = ap (coarsest f bits (suc n)) is

  from_power : (e n : ℕ) → e ≤ n → IsReached e → IsShort (coarsest f bits n (digits_at f bits n)) n
  from_power e zero l r = elim (at_power zero) [
    | inl c ↦ found e zero l r c
    | inr none ↦ absurd (missed e zero l r none.1 (omega arith))
  ]
  from_power e (suc n) l r = elim (at_power (suc n)) [
    | inl c ↦ found e (suc n) l r c
    | inr none ↦
        let less : e ≤ n = elim (eq-zero-or-pos (suc n - e)) [ inl z ↦ absurd (missed e (suc n) l r none.1 (omega arith)) | inr p ↦ omega arith ] in
        let short = from_power e n less r in
        rw (passed n (digits_at f bits (suc n)) none.0) (record { some = short.some; few = short.few; power = omega (arith, short.power); reads = short.reads })
  ]

  pub shortest_is_short : IsShort (shortest f bits) 709
  shortest_is_short =
      let none : floor_at f bits 709 < 1 = (div-lt_iff_lt-mul (den_pos 709)).1 (omega (arith, none_at_greatest f bits F)) in
      let reached = reach 709 (omega arith) (omega arith) (omega arith) in
      from_power reached.0 709 (omega (arith, reached.1)) reached.2

  size_is_number : IsJsonSize (size_text f bits)
  size_is_number =
      let short = shortest_is_short in
      some_size f bits (shortest f bits) F refl short.reads (omega (arith, short.few)) (omega (arith, length-decimal-le 19 (shortest f bits).0 (omega arith) (omega (arith, short.few)) (omega (arith, short.few)))) short.power

sized : (f : Format) (bits : ℕ) → bits < ones f * hid f → IsJsonSize (size_text f bits)
sized f bits below = elim (eq-zero-or-pos bits) [
  | inl none ↦ zero_size f bits none
  | inr some ↦ size_is_number f bits (record { some = some; below = below })
]

signed : (negative : Bool) (size : List ℕ) → IsJsonSize size → IsNumber (cond negative (codes "-") [] ++ size)
signed true size p = p.negative
signed false size p = p.alone

-- the text of each finite float is a number of JSON
pub number_text_is_number : (f : Format) (bits : ℕ) → bits % top f < ones f * hid f → IsNumber (number_text f bits)
number_text_is_number f bits finite = signed (nat_le (top f) bits) (size_text f (bits % top f)) (sized f (bits % top f) finite)
