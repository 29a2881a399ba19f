-- A decimal with no other next to it that reads back is the shortest.
use Rattle.std.proofs.Common.{◌≡◌, ℕ, ◌+◌, ◌-◌, ◌*◌, ◌/◌, ◌%◌, ◌^◌, ◌<◌, ◌≤◌, true, refl, sym, subst, ap, inl, inr, arith, eq-zero-or-pos, mul-le-mul_right}
use lib.Pow.{pow-add}
use lib.Ieee.{Format, prec, hid, ones, binary32, binary64}
use Rattle.float_text.specs.Closest.{IsCoarsest, IsClosestAbove, IsClosestBelow}
use Rattle.float_text.specs.Search.{IsAlone}
use Rattle.float_text.specs.Shortest.{IsFinite, reads_as, shortest}
use Rattle.float_text.proofs.Closest.{digits_is, upper_side, lower_side}
use Rattle.float_text.proofs.Apart.{apart}
use Rattle.float_text.proofs.Coarsest.{IsRead, read_of_test, test_of_unread, unread_of_test, between_decimals, none_at, none_coarser, shortest_is}

-- the hidden bit, as the code has it
pub hidden_is : (f : Format) (digits : ℕ) → digits ≡ prec f → 1 * 2 ^ (digits - 1) % 18446744073709551616 ≡ hid f
hidden_is binary32 digits is = rw is refl
hidden_is binary64 digits is = rw is refl

module _ (f : Format) (bits d e : ℕ) (F : IsFinite f bits) (read : reads_as f bits d e ≡ true) where
  ten : (x : ℕ) → x * 10 ^ (e + 1) ≡ x * 10 * 10 ^ e
  ten x = omega (arith, ap (λ t. x * t) (pow-add 10 e 1))

  -- where the float has more bits: a decimal at the next power would have one of the two neighbours between it and this one
  pub alone_of : 0 < d % 10 → hid f ≤ bits → bits + 1 < ones f * hid f → 2 * d < hid f → IsAlone f bits d e
  alone_of last many some few =
      let own = read_of_test f bits d e F read in
      let before : d - 1 + 1 ≡ d = omega arith in
      let up = test_of_unread f bits (d + 1) e F (apart f bits d e F many some few own) in
      let down = test_of_unread f bits (d - 1) e F (λ r. apart f bits (d - 1) e F many some (omega arith) r (subst (λ x. IsRead f bits x e) (sym before) own)) in
      let under : d / 10 * 10 ≤ d - 1 = omega arith in
      let over : d + 1 ≤ (d / 10 + 1) * 10 = omega arith in
      let less : d - 1 ≤ d = omega arith in
      let more : d ≤ d + 1 = omega arith in
      record {
        up = up;
        down = down;
        below = test_of_unread f bits (d / 10) (e + 1) F (λ r. unread_of_test f bits (d - 1) e down
            (between_decimals f bits (d - 1) e (d / 10) (e + 1) d e F r own (rw ten (mul-le-mul_right (10 ^ e) under)) (mul-le-mul_right (10 ^ e) less)));
        above = test_of_unread f bits (d / 10 + 1) (e + 1) F (λ r. unread_of_test f bits (d + 1) e up
            (between_decimals f bits (d + 1) e d e (d / 10 + 1) (e + 1) F own r (mul-le-mul_right (10 ^ e) more) (rw ten (mul-le-mul_right (10 ^ e) over))));
      }

  module _ (alone : IsAlone f bits d e) where
    pub alone_is : 0 < d → e ≤ 708 → (d, e) ≡ shortest f bits
    alone_is some top =
        let own = read_of_test f bits d e F read in
        sym (shortest_is f bits d e (omega arith) some (digits_is f bits d e F own some (inr (inr alone.up)) (inr (inr alone.down))) (none_at f bits d e F own alone.below alone.above))

    pub alone_coarsest : IsCoarsest f bits e
    alone_coarsest x i h =
        elim (eq-zero-or-pos (i - e)) [
          | inl z ↦ omega arith
          | inr p ↦ absurd (none_coarser f bits d e F (read_of_test f bits d e F read) alone.below alone.above x i (omega arith) (read_of_test f bits x i F h))
        ]

    pub alone_above : IsClosestAbove f bits d e
    alone_above x l h = upper_side f bits d e F (read_of_test f bits d e F read) x l (read_of_test f bits x e F h) (inr (inr alone.up))

    pub alone_below : IsClosestBelow f bits d e
    alone_below x l h = lower_side f bits d e F (read_of_test f bits d e F read) x l (read_of_test f bits x e F h) (inr (inr alone.down))
