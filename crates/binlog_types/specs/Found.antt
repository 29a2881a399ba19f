-- The words of private functions.
use Rattle.std.specs.Prelude.{ℕ, List, map, Option, None, slice_get, slice_index_or, if◌then◌else◌}
use Rattle.std.specs.List.{range_with_len}
use Rattle.std.specs.Option.{option_or}
use Rattle.binlog_types.specs.ColumnTypes.{Collations, collation_at, is_text, is_named, other_for}
use Rattle.binlog_types.specs.declared.types.Seen.{Seen}

-- the collation of a column of this type behind those that were seen, where the collations of texts, and of ENUM and SET, are listed
abbrev pub listed_collation : ℕ → List (Option ℕ) → List (Option ℕ) → Seen → Option ℕ
listed_collation real texts names seen =
    if is_text real then slice_index_or texts seen.texts None else (if is_named real then slice_index_or names seen.names None else None)

-- for each index below a count the number of the first pair that is for it
abbrev pub others_below : ℕ → List ℕ → List (Option ℕ)
others_below count pairs = map (λ index. other_for index pairs) (range_with_len 0 count)

-- a column's own collation, else the one of the pair that is for it, else the usual one, the first of its field
abbrev pub collation_among : List ℕ → List (Option ℕ) → List ℕ → ℕ → Option ℕ
collation_among own others usual index = option_or (slice_get own index) (option_or (slice_index_or others index None) (slice_get usual 0))

-- the collations of so many columns that have one
abbrev pub first_collations : ℕ → Collations → List (Option ℕ)
first_collations count collations = map (collation_at collations) (range_with_len 0 count)
