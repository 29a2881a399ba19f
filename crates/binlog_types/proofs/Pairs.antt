-- The collations of columns, and the loop over pairs of an index and a collation.
use Rattle.std.proofs.Common.{◌≡◌, ℕ, ◌<◌, List, [], ◌∷◌, length, map, min, drop, get_or, slice_get, Option, Some, None, refl, sym, ap, ◌∙◌, arith}
use Rattle.std.proofs.Math.Seq.{drop-nil}
use Rattle.std.proofs.lemmas.List.FromFn.{get_or-map-range_with_len}
use Rattle.std.specs.List.{range_with_len}
use Rattle.std.specs.Option.{option_or}
use Rattle.binlog_types.specs.ColumnTypes.{numbers_from, numbers_in, other_for, collation_at}
use Rattle.binlog_types.proofs.Numbers.{enough}

or_none : (o : Option ℕ) → option_or o None ≡ o
or_none None = refl
or_none (Some x) = refl

-- no pair is left: an odd number may stand alone
pub no_pair_left : (others : List (Option ℕ)) (rest pairs : List ℕ) (k : ℕ) → length rest < 2
    → option_or (get_or others k None) (other_for k rest) ≡ other_for k pairs → get_or others k None ≡ other_for k pairs
no_pair_left others [] pairs k few found = sym (or_none (get_or others k None)) ∙ found
no_pair_left others (i ∷ []) pairs k few found = sym (or_none (get_or others k None)) ∙ found
no_pair_left others (i ∷ collation ∷ rest) pairs k few found = absurd (omega arith)

-- what stands behind the first number, if there is one
pub behind_first : (numbers : List ℕ) (n : ℕ) → n ≡ min (length numbers) 1 → drop n numbers ≡ drop 1 numbers
behind_first [] n is = drop-nil n
behind_first (x ∷ xs) n is = let one : n ≡ 1 = omega arith in ap (λ (m : ℕ). drop m (x ∷ xs)) one

-- what the column at an index has, where others are listed by their indices
pub collation_found : (each usual : List ℕ) (count index : ℕ) → index < count
    → option_or (slice_get (numbers_from (min count (length each)) each) index) (option_or (get_or (map (λ (i : ℕ). other_for i (drop 1 usual)) (range_with_len 0 count)) index None) (slice_get usual 0))
    ≡ collation_at (record { each = numbers_in each; usual = usual }) index
collation_found each usual count index below =
    rw (enough count index each below, get_or-map-range_with_len (λ (i : ℕ). other_for i (drop 1 usual)) 0 count index index None below (omega arith))
