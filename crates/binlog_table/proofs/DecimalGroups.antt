-- Groups one after another.
use Rattle.std.proofs.Common.{◌≡◌, ℕ, suc, List, Some, option_map, is_some, refl, sym, ap, ◌∙◌}
use Rattle.binlog_table.specs.Decimal.{◌and_then◌, nines_at, digits_at, after_group, after_nines, after_digits}
use Rattle.binlog_table.proofs.Options.{and_then_assoc, map-then, is_some-map}

-- one group of nine more, and none
pub after_nines-suc : (n : ℕ) (bytes : List ℕ) → after_nines (suc n) bytes ≡ (after_group 9 bytes and_then λ rest. after_nines n rest)
unfolding after_nines nines_at after_group
after_nines-suc n bytes = simp (map-then, and_then_assoc)

pub after_nines-zero : (bytes : List ℕ) → after_nines 0 bytes ≡ Some bytes
unfolding after_nines nines_at
after_nines-zero bytes = refl

-- whether there is an answer doesn't depend on the digits
pub digits-some : (p s : ℕ) (bytes : List ℕ) → is_some (digits_at p s bytes) ≡ is_some (after_digits p s bytes)
unfolding digits_at after_digits after_group after_nines
digits-some p s bytes =
    let none : List ℕ → ℕ = λ digits. 0 in
    let same : option_map none (digits_at p s bytes) ≡ option_map none (after_digits p s bytes) = simp (map-then, and_then_assoc) in
    sym (is_some-map none (digits_at p s bytes)) ∙ ap is_some same ∙ is_some-map none (after_digits p s bytes)
