-- Packed numbers, one after another.
use Rattle.std.proofs.Common.{◌≡◌, ℕ, zero, suc, ◌+◌, ◌-◌, ◌<◌, ◌≤◌, min, List, [], ◌∷◌, ◌++◌, length, drop, slice_get, option_map, unwrap_or, Some, None, append_assoc, append-nil, refl, ap, sym, subst, ◌∙◌, ⊎_elim, arith}
use Rattle.std.proofs.lemmas.Bool.{cases_lt}
use Rattle.binlog_table.specs.Packed.{packed_at}
use Rattle.binlog_types.specs.ColumnTypes.{numbers_from, numbers_in}

left_one : (n i : ℕ) → i < n → n - i ≡ suc (n - (i + 1))
left_one n i h = omega arith

pub numbers-more : (numbers bytes total : List ℕ) (n i : ℕ) (x : ℕ × ℕ) → i < n → numbers ++ numbers_from (n - i) bytes ≡ total → packed_at bytes ≡ Some x
    → (numbers ++ x.0 ∷ []) ++ numbers_from (n - (i + 1)) (drop x.1 bytes) ≡ total
unfolding numbers_from
numbers-more numbers bytes total n i x below so_far is =
    let step : numbers ++ numbers_from (suc (n - (i + 1))) bytes ≡ total = subst (λ (k : ℕ). numbers ++ numbers_from k bytes ≡ total) (left_one n i below) so_far in
    rw append_assoc (rw is at step)

pub numbers-none : (numbers bytes total : List ℕ) (k : ℕ) → numbers ++ numbers_from k bytes ≡ total → packed_at bytes ≡ None → numbers ≡ total
unfolding numbers_from
numbers-none numbers bytes total zero so_far is = sym (append-nil numbers) ∙ so_far
numbers-none numbers bytes total (suc k) so_far is = sym (append-nil numbers) ∙ (rw is at so_far)

pub numbers-end : (numbers bytes total : List ℕ) (n i : ℕ) → n ≤ i → numbers ++ numbers_from (n - i) bytes ≡ total → numbers ≡ total
unfolding numbers_from
numbers-end numbers bytes total n i past so_far =
    let none : n - i ≡ 0 = omega arith in
    let last : numbers ++ numbers_from zero bytes ≡ total = subst (λ (k : ℕ). numbers ++ numbers_from k bytes ≡ total) none so_far in
    sym (append-nil numbers) ∙ last

-- the number at an index, where as many are read as that needs
read_at : (m n i : ℕ) (bytes : List ℕ) → i < m → i < n → slice_get (numbers_from m bytes) i ≡ slice_get (numbers_from n bytes) i
unfolding numbers_from
read_at zero n i bytes a b = absurd (omega arith)
read_at (suc m) zero i bytes a b = absurd (omega arith)
read_at (suc m) (suc n) zero bytes a b =
    elim (packed_at bytes) as (λ p. slice_get (unwrap_or (option_map (λ x. x.0 ∷ numbers_from m (drop x.1 bytes)) p) []) zero ≡ slice_get (unwrap_or (option_map (λ x. x.0 ∷ numbers_from n (drop x.1 bytes)) p) []) zero)
    [ None ↦ refl | Some x ↦ refl ]
read_at (suc m) (suc n) (suc i) bytes a b =
    elim (packed_at bytes) as (λ p. slice_get (unwrap_or (option_map (λ x. x.0 ∷ numbers_from m (drop x.1 bytes)) p) []) (suc i) ≡ slice_get (unwrap_or (option_map (λ x. x.0 ∷ numbers_from n (drop x.1 bytes)) p) []) (suc i))
    [ None ↦ refl | Some x ↦ read_at m n i (drop x.1 bytes) (omega arith) (omega arith) ]

-- No more numbers are read than there are columns.
pub enough : (count index : ℕ) (bytes : List ℕ) → index < count → slice_get (numbers_from (min count (length bytes)) bytes) index ≡ slice_get (numbers_in bytes) index
enough count index bytes below =
    ⊎_elim
    (λ (within : index < length bytes). read_at (min count (length bytes)) (length bytes) index bytes (omega arith) within)
    (λ (past : length bytes ≤ index). let all : min count (length bytes) ≡ length bytes = omega arith in ap (λ (n : ℕ). slice_get (numbers_from n bytes) index) all)
    (cases_lt index (length bytes))
