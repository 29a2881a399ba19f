-- The digits of a decimal are read from its groups.
use Rattle.std.proofs.Common.{◌≡◌, ◌∙◌, ℕ, zero, suc, ◌+◌, ◌-◌, ◌/◌, ◌%◌, ◌^◌, ◌<◌, ◌≤◌, ◌==◌, Bool, true, false, nat_lt, nat_le, List, [], ◌∷◌, ◌++◌, length, replicate, decimal, Some, refl, sym, ap, subst, le-leb, true≢false, arith}
use native.Mathlib.Nat.{pow-le-pow_right}
use Rattle.std.specs.Str.Parse.{AllDigits, digits_value}
use Rattle.std.proofs.lemmas.Bool.Decides.{nat_tests}
use borrow.Author.Tests.{lt-ltb}
use Rattle.std.proofs.lemmas.Fmt.{decimal-digits_value}
use Rattle.std.proofs.lemmas.Int.Digits.{digits_value-lt}
use Rattle.std.proofs.lemmas.List.{drop_at, length-append, length-replicate}
use Rattle.std.proofs.lemmas.Str.Parse.{IsNumeralModel}
use Rattle.byteorder.specs.Endian.{big_number}
use Rattle.byteorder.specs.Numbers.{big_from-append}
use Rattle.binlog_documents.specs.Opaques.{decimal_opaque, digits_in, group_len, group_text, groups, padded, plain}
use Rattle.binlog_documents.specs.DecimalDigits.{AreGroups, DecimalsAreShown}

own : IsNumeralModel (AllDigits 10) (digits_value 10)
own = record { to = λ ds p. p; from = λ ds p. p; same = λ ds p. refl }

below : (ds : List ℕ) → AllDigits 10 ds → length ds ≤ 9 → digits_value 10 ds < 2 ^ 64
below ds all few =
    let most : 10 ^ length ds ≤ 10 ^ 9 = pow-le-pow_right (omega arith) few in
    omega (arith, digits_value-lt 10 ds all, most)

-- digits are what is written of their number, with zeros in front
padded_back : (d : ℕ) (rest : List ℕ) → AllDigits 10 (d ∷ rest) → length rest ≤ 8 → padded (suc (length rest)) (digits_value 10 (d ∷ rest)) ≡ d ∷ rest
padded_back d [] all few =
    let is : decimal (digits_value 10 (d ∷ [])) ≡ d ∷ [] = decimal-digits_value own (d ∷ []) all (omega arith) (λ _. refl) (below (d ∷ []) all (omega arith)) in
    rw is refl
padded_back d (e ∷ more) all few = by_test (d == 48) refl (padded_back e more all.1 (omega (arith, few)))
  where
    digits : List ℕ
    digits = d ∷ e ∷ more

    by_test : (b : Bool) → (d == 48) ≡ b → padded (suc (length more)) (digits_value 10 (e ∷ more)) ≡ e ∷ more
        → padded (suc (suc (length more))) (digits_value 10 digits) ≡ digits
    by_test true is rest =
        let first : d ≡ 48 = grind (arith, nat_tests, is) in
        let text = decimal (digits_value 10 (e ∷ more)) in
        let fits : length text ≤ suc (length more) =
        omega (arith, ap length rest, length-append (replicate (suc (length more) - length text) 48) text, length-replicate {A = ℕ} (suc (length more) - length text) 48) in
        let one_more : suc (suc (length more)) - length text ≡ suc (suc (length more) - length text) = omega (arith, fits) in
        rw (first, one_more) (ap (λ (x : List ℕ). 48 ∷ x) rest)
    by_test false is rest =
        let no_zero : d ≡ 48 → ⊥ = λ e. let yes : (d == 48) ≡ true = grind (arith, nat_tests, e) in true≢false (sym yes ∙ is) in
        let text : decimal (digits_value 10 digits) ≡ digits = decimal-digits_value own digits all (omega arith) (λ e. absurd (no_zero e)) (below digits all (omega (arith, few))) in
        let none : suc (suc (length more)) - length digits ≡ 0 = omega arith in
        rw (text, none) refl

group_back : (group : List ℕ) (size : ℕ) → AllDigits 10 group → length group ≡ size → size ≤ 9 → group_text size (digits_value 10 group) ≡ group
group_back [] size all len few =
    let none : size ≡ 0 = omega (arith, len) in
    rw none refl
group_back (d ∷ rest) size all len few =
    let is : size ≡ suc (length rest) = omega (arith, len) in
    let some : (suc (length rest) == 0) ≡ false = grind (arith, nat_tests) in
    rw (is, some) (padded_back d rest all (omega (arith, len, few)))

abbrev AreFew : List ℕ → Type 0
AreFew [] = Unit {0}
AreFew (size ∷ sizes) = (size ≤ 9) × AreFew sizes

digits_read : (sizes digits bytes : List ℕ) → AreFew sizes → AreGroups sizes digits bytes → digits_in sizes bytes ≡ Some digits
unfolding digits_in
digits_read [] digits bytes few h = rw (h.0, h.1) refl
digits_read (size ∷ sizes) digits bytes few h =
    let group = h.0 in let more = h.1 in let number = h.2 in let others = h.3 in
    let small : nat_le size 9 ≡ true = le-leb size 9 few.0 in
    let room : nat_le (group_len size) (length (number ++ others)) ≡ true = le-leb (group_len size) _ (omega (arith, length-append number others, h.8)) in
    let value : big_number (group_len size) (number ++ others) ≡ digits_value 10 group = big_from-append (group_len size) number others (omega (arith, h.8)) ∙ h.9 in
    let bound : digits_value 10 group < 10 ^ size = subst (λ (k : ℕ). digits_value 10 group < 10 ^ k) h.6 (digits_value-lt 10 group h.7) in
    let fits : nat_lt (digits_value 10 group) (10 ^ size) ≡ true = lt-ltb _ _ bound in
    rw (h.5, small, room, value, fits, drop_at number others (group_len size) h.8, digits_read sizes more others few.1 h.10, group_back group size h.7 h.6 few.0, h.4) refl

nines : (n last : ℕ) → last ≤ 9 → AreFew (replicate n 9 ++ last ∷ [])
nines zero last few = (few, tt)
nines (suc n) last few = (omega arith, nines n last few)

pub decimals_are_shown : DecimalsAreShown
unfolding decimal_opaque
decimals_are_shown negative front behind digits bytes is =
    let few : AreFew (groups front behind) = (omega arith, nines (front / 9 + behind / 9) (behind % 9) (omega arith)) in
    let whole : front + behind - behind ≡ front = omega arith in
    rw (is.precise, is.sign, whole, digits_read (groups front behind) digits (plain negative bytes) few is.grouped) refl
