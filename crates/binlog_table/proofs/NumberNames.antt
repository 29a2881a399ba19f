-- Columns by their numbers: their names are distinct.
use Rattle.std.proofs.Common.{◌≡◌, ℕ, zero, suc, ◌+◌, ◌<◌, ◌≤◌, ◌^◌, Bool, true, false, List, [], ◌∷◌, ◌++◌, length, add-one, refl, sym, ap, ◌∙◌, arith}
use Rattle.std.specs.Prelude.{codes, decimal}
use Rattle.std.specs.Str.{bytes_eq}
use Rattle.std.proofs.lemmas.Bool.{false_from_ne_true}
use Rattle.std.proofs.lemmas.Fmt.{decimal_injective}
use Rattle.std.proofs.lemmas.Slice.Eq.{bytes_eq-Decides}
use Rattle.binlog_table.specs.Names.{number_name, number_names, is_among, are_distinct}

-- one more
number_names-suc : (first n : ℕ) → number_names first (suc n) ≡ number_names first n ++ number_name (first + n) ∷ []
number_names-suc first zero = let same : first ≡ first + 0 = omega arith in ap (λ (k : ℕ). number_name k ∷ []) same
number_names-suc first (suc n) =
    let same : first + 1 + n ≡ first + suc n = omega arith in
    ap (λ (xs : List (List ℕ)). number_name first ∷ xs) (number_names-suc (first + 1) n ∙ ap (λ (k : ℕ). number_names (first + 1) n ++ number_name k ∷ []) same)

pub number_names-more : (first n : ℕ) → number_names first (n + 1) ≡ number_names first n ++ number_name (first + n) ∷ []
number_names-more first n = ap (number_names first) (add-one n) ∙ number_names-suc first n

number_name-injective : (m n : ℕ) → m < 2 ^ 64 → n < 2 ^ 64 → number_name m ≡ number_name n → m ≡ n
number_name-injective m n lm ln e = let same : decimal m ≡ decimal n = cc in decimal_injective m n lm ln same

-- a number stands in none behind it
not_among : (number first n : ℕ) → number < first → first + n ≤ 2 ^ 64 → is_among (number_name number) (number_names first n) ≡ false
not_among number first zero lt few = refl
not_among number first (suc n) lt few =
    let other : bytes_eq (number_name number) (number_name first) ≡ false = false_from_ne_true _ (λ e.
    let same : number ≡ first = number_name-injective number first (omega arith) (omega arith) ((bytes_eq-Decides (number_name number) (number_name first)).0 e) in omega arith) in
    rw other (not_among number (first + 1) n (omega arith) (omega arith))

pub number_names-distinct : (first n : ℕ) → first + n ≤ 2 ^ 64 → are_distinct (number_names first n) ≡ true
number_names-distinct first zero few = refl
number_names-distinct first (suc n) few = rw (not_among first (first + 1) n (omega arith) (omega arith)) (number_names-distinct (first + 1) n (omega arith))
