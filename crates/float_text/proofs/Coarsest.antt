-- The power that no decimal above reads back at, and the digits there.
use Rattle.std.proofs.Common.{◌≡◌, ℕ, zero, suc, ◌+◌, ◌-◌, ◌*◌, ◌/◌, ◌^◌, ◌<◌, ◌≤◌, Bool, true, false, T, refl, sym, ap, ◌∙◌, subst, inl, inr, arith, eq-zero-or-pos, mul-le-mul_right}
use native.Mathlib.Nat.{le_of_lt, mul-le-mul, pow-le-pow_right}
use lib.Pow.{pow-add}
use borrow.Author.Tests.{eq-eqb, ne_eqb}
use lib.Dec.{eqb→eq, lit<}
use lib.Ieee.{Format}
use Rattle.fast_float.specs.Rounding.{IsNearestBits}
use Rattle.fast_float.proofs.ExactLemmas.{ten_to_pos}
use Rattle.float_text.specs.Shortest.{reads_as, floor_at, digits_at, closest_that_reads, is_above_half, scaled_num, scaled_den, coarsest, shortest}
use Rattle.float_text.proofs.Interval.{IsFinite, squeeze, bits_of_nearest, nearest_of_bits}

-- the decimal's nearest float has these bits
abbrev pub IsRead : Format → ℕ → ℕ → ℕ → Type 0
IsRead f bits d e = IsNearestBits f (d * 10 ^ e) (10 ^ 400) bits

pub read_of_test : (f : Format) (bits d e : ℕ) → IsFinite f bits → reads_as f bits d e ≡ true → IsRead f bits d e
read_of_test f bits d e F h = let b = F.below in nearest_of_bits f _ _ bits (omega arith) (eqb→eq _ _ (subst (λ (x : Bool). T x) (sym h) tt))

pub test_of_read : (f : Format) (bits d e : ℕ) → IsRead f bits d e → reads_as f bits d e ≡ true
test_of_read f bits d e h = eq-eqb _ _ (bits_of_nearest f _ _ bits h)

pub test_of_unread : (f : Format) (bits d e : ℕ) → IsFinite f bits → ¬ (IsRead f bits d e) → reads_as f bits d e ≡ false
test_of_unread f bits d e F n = ne_eqb _ _ (λ q. let b = F.below in n (nearest_of_bits f _ _ bits (omega arith) q))

pub unread_of_test : (f : Format) (bits d e : ℕ) → reads_as f bits d e ≡ false → ¬ (IsRead f bits d e)
unread_of_test f bits d e h r = mathlib.Core.Bool.true≢false (sym (test_of_read f bits d e r) ∙ h)

pub between_decimals : (f : Format) (bits d e a i b j : ℕ) → IsFinite f bits → IsRead f bits a i → IsRead f bits b j → a * 10 ^ i ≤ d * 10 ^ e → d * 10 ^ e ≤ b * 10 ^ j → IsRead f bits d e
between_decimals f bits d e a i b j F first last p q =
    let t = ten_to_pos 400 in
    squeeze f bits F _ _ _ _ _ _ t t t first last (mul-le-mul_right (10 ^ 400) p) (mul-le-mul_right (10 ^ 400) q)

module _ (f : Format) (bits d e : ℕ) (F : IsFinite f bits) (read : IsRead f bits d e) (below : reads_as f bits (d / 10) (e + 1) ≡ false) (above : reads_as f bits (d / 10 + 1) (e + 1) ≡ false) where
  ten : (x : ℕ) → x * 10 ^ (e + 1) ≡ x * 10 * 10 ^ e
  ten x = omega (arith, ap (λ t. x * t) (pow-add 10 e 1))

  -- no decimal at the next power reads back: it, or one of the two that don't, would lie between it and the one that does
  none_next : (x : ℕ) → IsRead f bits x (e + 1) → ⊥
  none_next x r =
      elim (eq-zero-or-pos (x - d / 10)) [
        | inl z ↦
            let least : x ≤ d / 10 = omega arith in
            let under : d / 10 * 10 ≤ d = omega arith in
            unread_of_test f bits _ _ below (between_decimals f bits _ _ x (e + 1) d e F r read (mul-le-mul_right (10 ^ (e + 1)) least) (rw ten (mul-le-mul_right (10 ^ e) under)))
        | inr p ↦
            let most : d / 10 + 1 ≤ x = omega arith in
            let over : d ≤ (d / 10 + 1) * 10 = omega arith in
            unread_of_test f bits _ _ above (between_decimals f bits _ _ d e x (e + 1) F read r (rw ten (mul-le-mul_right (10 ^ e) over)) (mul-le-mul_right (10 ^ (e + 1)) most))
      ]

  -- nor at a greater one
  pub none_coarser : (x i : ℕ) → e < i → IsRead f bits x i → ⊥
  none_coarser x i l r =
      let sum : i - (e + 1) + (e + 1) ≡ i = omega arith in
      let same : x * 10 ^ i ≡ x * 10 ^ (i - (e + 1)) * 10 ^ (e + 1) = omega (arith, ap (λ t. x * t) (ap (λ t. 10 ^ t) (sym sum) ∙ pow-add 10 (i - (e + 1)) (e + 1))) in
      none_next (x * 10 ^ (i - (e + 1))) (subst (λ n. IsNearestBits f n (10 ^ 400) bits) same r)

  pub none_at : (i : ℕ) → e < i → digits_at f bits i ≡ 0
  none_at i l =
      let no : (x : ℕ) → reads_as f bits x i ≡ false = λ x. test_of_unread f bits x i F (none_coarser x i l) in
      let floor = floor_at f bits i in
      (λ j. closest_that_reads floor (no floor j) (no (floor + 1) j) (is_above_half (scaled_num f bits) (scaled_den f i) floor)) ∙ nothing (is_above_half (scaled_num f bits) (scaled_den f i) floor) floor
    where
      nothing : (next_is_closer : Bool) (floor : ℕ) → closest_that_reads floor false false next_is_closer ≡ 0
      nothing true floor = refl
      nothing false floor = refl

  -- another decimal at this power is in the same ten
  pub same_ten : (x : ℕ) → IsRead f bits x e → x < (d / 10 + 1) * 10
  same_ten x r =
      elim (eq-zero-or-pos ((d / 10 + 1) * 10 - x)) [
        | inr p ↦ omega arith
        | inl z ↦
            let over : d ≤ (d / 10 + 1) * 10 = omega arith in
            let most : (d / 10 + 1) * 10 ≤ x = omega arith in
            absurd (none_next (d / 10 + 1) (between_decimals f bits _ _ d e x e F read r (rw ten (mul-le-mul_right (10 ^ e) over)) (rw ten (mul-le-mul_right (10 ^ e) most))))
      ]

kept : (f : Format) (bits k d : ℕ) → coarsest f bits k (suc d) ≡ (suc d, k)
unfolding coarsest
kept f bits zero d = refl
kept f bits (suc k) d = refl

found : (f : Format) (bits k d : ℕ) → 0 < d → digits_at f bits k ≡ d → coarsest f bits k (digits_at f bits k) ≡ (d, k)
found f bits k zero some is = absurd (omega arith)
found f bits k (suc d) some is = ap (coarsest f bits k) is ∙ kept f bits k d

passed : (f : Format) (bits n : ℕ) → digits_at f bits (suc n) ≡ 0 → coarsest f bits (suc n) (digits_at f bits (suc n)) ≡ coarsest f bits n (digits_at f bits n)
unfolding coarsest
passed f bits n is = ap (coarsest f bits (suc n)) is

coarsest_from : (f : Format) (bits d e n : ℕ) → e ≤ n → 0 < d → digits_at f bits e ≡ d → ((i : ℕ) → e < i → digits_at f bits i ≡ 0) → coarsest f bits n (digits_at f bits n) ≡ (d, e)
coarsest_from f bits d e zero l some is none =
    let z : e ≡ 0 = omega arith in
    subst (λ k. coarsest f bits 0 (digits_at f bits 0) ≡ (d, k)) (sym z) (found f bits 0 d some (subst (λ k. digits_at f bits k ≡ d) z is))
coarsest_from f bits d e (suc n) l some is none =
    elim (eq-zero-or-pos (suc n - e)) [
      | inl z ↦
          let t : e ≡ suc n = omega arith in
          subst (λ k. coarsest f bits (suc n) (digits_at f bits (suc n)) ≡ (d, k)) (sym t) (found f bits (suc n) d some (subst (λ k. digits_at f bits k ≡ d) t is))
      | inr p ↦ passed f bits n (none (suc n) (omega arith)) ∙ coarsest_from f bits d e n (omega arith) some is none
    ]

pub shortest_is : (f : Format) (bits d e : ℕ) → e ≤ 709 → 0 < d → digits_at f bits e ≡ d → ((i : ℕ) → e < i → digits_at f bits i ≡ 0) → shortest f bits ≡ (d, e)
shortest_is f bits d e l some is none = coarsest_from f bits d e 709 l some is none

-- Of all decimals that read back, that of the greatest power has the fewest digits: with more than n digits, where another has n, a 1
-- with zeros would lie between the two, and read back at a greater power.
pub few_digits : (f : Format) (bits d e : ℕ) → IsFinite f bits → reads_as f bits d e ≡ true → ((x i : ℕ) → reads_as f bits x i ≡ true → i ≤ e) → (x i n : ℕ) → reads_as f bits x i ≡ true → 0 < n → x < 10 ^ n → d < 10 ^ n
few_digits f bits d e F read greatest x i n other some small =
    elim (eq-zero-or-pos (10 ^ n - d)) [
      | inr p ↦ omega arith
      | inl z ↦
          let many : 10 ^ n ≤ d = omega arith in
          let one : 1 * 10 ^ (e + n) ≡ 10 ^ n * 10 ^ e = omega (arith, pow-add 10 e n) in
          let from : x * 10 ^ i ≤ 10 ^ n * 10 ^ e = mul-le-mul (le_of_lt small) (pow-le-pow_right (lit< tt) (greatest x i other)) in
          let to : 10 ^ n * 10 ^ e ≤ d * 10 ^ e = mul-le-mul_right (10 ^ e) many in
          let between = between_decimals f bits 1 (e + n) x i d e F (read_of_test f bits x i F other) (read_of_test f bits d e F read) (rw one from) (rw one to) in
          let least = greatest 1 (e + n) (test_of_read f bits 1 (e + n) between) in
          absurd (omega arith)
    ]
