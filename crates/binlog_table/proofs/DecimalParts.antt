-- Two groups of digits as one number, and a decimal's digits as those of two numbers.
use Rattle.std.proofs.Common.{◌≡◌, ℕ, zero, suc, ◌+◌, ◌-◌, ◌*◌, ◌/◌, ◌%◌, ◌^◌, ◌<◌, ◌≤◌, Bool, true, List, [], ◌∷◌, ◌++◌, length, Option, Some, None, IsSome, IfSome, is_some, option_map, refl, sym, ap, ap₂, subst, ◌∙◌, append_assoc, append-nil, zero-add, arith}
use Rattle.std.specs.Prelude.{unwrap_or}
use Rattle.std.proofs.Math.Nat.{div-div-eq-div-mul, mul-add-div_right, one-le-pow, pow-suc}
use Rattle.std.proofs.lemmas.Nat.{pow-add, div-mul-add, mul-add-lt}
use Rattle.binlog_table.specs.Decimal.{◌and_then◌, digits_of, group_at, nines_at, digits_at}
use Rattle.binlog_table.specs.DecimalParts.{IsSplit, front_at, behind_at}
use Rattle.binlog_table.proofs.Options.{and_then_assoc, goes_on}

-- ---- the digits of a sum

tens_moved : (x p : ℕ) → x * (p * 10) ≡ x * 10 * p
tens_moved x p = grind arith

-- the last digits of a number don't depend on those in front of them
digits_of-last : (d x y : ℕ) → digits_of d (x * 10 ^ d + y) ≡ digits_of d y
digits_of-last zero x y = refl
digits_of-last (suc d) x y =
    let moved : x * 10 ^ suc d + y ≡ x * 10 * 10 ^ d + y = ap (λ (p : ℕ). x * p + y) (pow-suc 10 d) ∙ ap (λ (n : ℕ). n + y) (tens_moved x (10 ^ d)) in
    let divided : (x * 10 ^ suc d + y) / 10 ^ d ≡ x * 10 + y / 10 ^ d = ap (λ (n : ℕ). n / 10 ^ d) moved ∙ mul-add-div_right (one-le-pow d 10 (omega arith)) (x * 10) y in
    let first : (x * 10 ^ suc d + y) / 10 ^ d % 10 ≡ y / 10 ^ d % 10 = omega (arith, divided) in
    ap₂ (λ (digit : ℕ) (others : List ℕ). digit ∷ others) first (ap (digits_of d) moved ∙ digits_of-last d (x * 10) y)

pub digits_of-joined : (a b x y : ℕ) → y < 10 ^ b → digits_of (a + b) (x * 10 ^ b + y) ≡ digits_of a x ++ digits_of b y
digits_of-joined zero b x y small = ap (λ (k : ℕ). digits_of k (x * 10 ^ b + y)) (zero-add b) ∙ digits_of-last b x y
digits_of-joined (suc a) b x y small =
    let n = x * 10 ^ b + y in
    let count : suc a + b ≡ suc (a + b) = omega arith in
    let turned : a + b ≡ b + a = omega arith in
    let divided : n / 10 ^ (a + b) ≡ x / 10 ^ a =
    ap (λ (k : ℕ). n / 10 ^ k) turned ∙ ap (λ (p : ℕ). n / p) (pow-add 10 b a) ∙ sym (div-div-eq-div-mul n (10 ^ b) (10 ^ a)) ∙ ap (λ (q : ℕ). q / 10 ^ a) (div-mul-add x (10 ^ b) y small) in
    ap (λ (k : ℕ). digits_of k n) count
    ∙ ap₂ (λ (digit : ℕ) (others : List ℕ). digit ∷ others) (ap (λ (q : ℕ). q % 10) divided) (digits_of-joined a b x y small)

pub joined_small : (a b d x y : ℕ) → a + b ≡ d → x < 10 ^ a → y < 10 ^ b → x * 10 ^ b + y < 10 ^ d
joined_small a b d x y all front last =
    let turned : b + a ≡ d = omega (arith, all) in
    subst (λ (k : ℕ). x * 10 ^ b + y < k) (sym (pow-add 10 b a) ∙ ap (λ (k : ℕ). 10 ^ k) turned) (mul-add-lt x (10 ^ b) y (10 ^ a) front last)

-- the digits of two groups
two_groups : (a b d x y : ℕ) → a + b ≡ d → y < 10 ^ b → digits_of d (x * 10 ^ b + y) ≡ digits_of a x ++ digits_of b y
two_groups a b d x y all small = ap (λ (k : ℕ). digits_of k (x * 10 ^ b + y)) (sym all) ∙ digits_of-joined a b x y small

-- ---- the digits in front of the point

pub front-two : (d : ℕ) (bytes : List ℕ) → 9 ≤ d → d ≤ 17 → (group_at (d % 9) bytes and_then λ a. group_at 9 a.1 and_then λ b. Some (a.0 ++ b.0, b.1)) ≡ front_at d bytes
unfolding front_at nines_at
front-two d bytes many few = let one : d / 9 ≡ 1 = omega arith in rw one (simp (and_then_assoc, append-nil))

pub front-short : (d x : ℕ) (bytes rest : List ℕ) → d < 9 → Some (digits_of (d % 9) x, rest) ≡ group_at (d % 9) bytes → Some (digits_of d x, rest) ≡ front_at d bytes
unfolding front_at nines_at
front-short d x bytes rest few some =
    let len : d % 9 ≡ d = omega arith in
    let none : d / 9 ≡ 0 = omega arith in
    rw (← some, none) (ap (λ (ds : List ℕ). Some (ds, rest)) (sym (append-nil (digits_of (d % 9) x) ∙ ap (λ (k : ℕ). digits_of k x) len)))

pub front-long : (d x y : ℕ) (bytes middle rest : List ℕ) → 9 ≤ d → d ≤ 17 → y < 10 ^ 9 → Some (digits_of (d % 9) x, middle) ≡ group_at (d % 9) bytes → Some (digits_of 9 y, rest) ≡ group_at 9 middle
    → Some (digits_of d (x * 10 ^ 9 + y), rest) ≡ front_at d bytes
front-long d x y bytes middle rest many few small first last =
    ap (λ (ds : List ℕ). Some (ds, rest)) (two_groups (d % 9) 9 d x y (omega arith) small) ∙ goes_on (group_at 9 middle) (digits_of 9 y, rest) _ _ last (goes_on (group_at (d % 9) bytes) (digits_of (d % 9) x, middle) _ _ first (front-two d bytes many few))

-- ---- the digits behind the point

pub behind-two : (d : ℕ) (bytes : List ℕ) → 9 ≤ d → d ≤ 17 → (group_at 9 bytes and_then λ a. group_at (d % 9) a.1 and_then λ b. Some (a.0 ++ b.0)) ≡ behind_at d bytes
unfolding behind_at nines_at
behind-two d bytes many few = let one : d / 9 ≡ 1 = omega arith in rw one (simp (and_then_assoc, append-nil))

pub behind-short : (d : ℕ) (bytes rest : List ℕ) (read : Option ℕ) → d < 9 → option_map (λ (n : ℕ). (digits_of (d % 9) n, rest)) read ≡ group_at (d % 9) bytes → option_map (digits_of d) read ≡ behind_at d bytes
unfolding behind_at nines_at
behind-short d bytes rest read few is = let none : d / 9 ≡ 0 = omega arith in rw (none, ← is) (by_read read)
  where
    by_read : (r : Option ℕ) → option_map (digits_of d) r ≡ (option_map {U = List ℕ × List ℕ} (λ n. (digits_of (d % 9) n, rest)) r and_then λ b. Some b.0)
    by_read None = refl
    by_read (Some n) = let len : d % 9 ≡ d = omega arith in ap (λ (k : ℕ). Some (digits_of k n)) (sym len)

pub behind-long : (d x y : ℕ) (bytes middle rest : List ℕ) → 9 ≤ d → d ≤ 17 → y < 10 ^ (d % 9) → Some (digits_of 9 x, middle) ≡ group_at 9 bytes → Some (digits_of (d % 9) y, rest) ≡ group_at (d % 9) middle
    → Some (digits_of d (x * 10 ^ (d % 9) + y)) ≡ behind_at d bytes
behind-long d x y bytes middle rest many few small first last =
    ap (λ (ds : List ℕ). Some ds) (two_groups 9 (d % 9) d x y (omega arith) small) ∙ goes_on (group_at (d % 9) middle) (digits_of (d % 9) y, rest) _ _ last (goes_on (group_at 9 bytes) (digits_of 9 x, middle) _ _ first (behind-two d bytes many few))

-- ---- all digits

pub parts-all : (p s : ℕ) (bytes : List ℕ) → (front_at (p - s) bytes and_then λ f. behind_at s f.1 and_then λ e. Some (f.0 ++ e)) ≡ digits_at p s bytes
unfolding digits_at front_at behind_at
parts-all p s bytes = simp (and_then_assoc, append_assoc)

-- ---- the whole decimal

pub split_some : (p s : ℕ) (digits : Option (List ℕ)) (read : Option (ℕ × ℕ)) → option_map (λ (n : ℕ × ℕ). digits_of (p - s) n.0 ++ digits_of s n.1) read ≡ digits → is_some digits ≡ true → IsSome read
split_some p s digits None is some = absurd (cc)
split_some p s digits (Some n) is some = refl

pub split_is : (p s : ℕ) (negative : Bool) (digits : Option (List ℕ)) (read : Option (ℕ × ℕ)) → length (unwrap_or digits []) ≡ p
    → option_map (λ (n : ℕ × ℕ). digits_of (p - s) n.0 ++ digits_of s n.1) read ≡ digits → IfSome read (λ n. n.0 < 10 ^ (p - s)) → IfSome read (λ n. n.1 < 10 ^ s)
    → IfSome read (λ n. IsSplit (record { negative = negative; digits = unwrap_or digits []; scale = s }) n.0 n.1)
split_is p s negative digits None len is front behind = tt
split_is p s negative digits (Some n) len is front behind = record {
  digits = ap (λ (o : Option (List ℕ)). unwrap_or o []) (sym is) ∙ ap (λ (k : ℕ). digits_of (k - s) n.0 ++ digits_of s n.1) (sym len);
  front = subst (λ (k : ℕ). n.0 < 10 ^ (k - s)) (sym len) front;
  behind = behind;
}
