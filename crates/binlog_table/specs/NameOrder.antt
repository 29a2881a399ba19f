-- Columns in the order of their names.
use Rattle.std.specs.Prelude.{◌≡◌, ℕ, ◌+◌, ◌<◌, false, List, [], length, map, take, slice_index_or}
use Rattle.std.specs.List.{All, range_with_len}
use Rattle.std.specs.List.Sorted.{IsPermutation, IsStrictlySortedBy}
use Rattle.std.specs.Cmp.Lexicographic.{slice_cmp}
use Rattle.std.specs.Ordering.{nat_cmp, is_lt}
use denote.Ref.{Bor}

abbrev pub name_of : List (List ℕ) → ℕ → List ℕ
name_of names column = slice_index_or names column []

-- Each column stands once, and each name is below the next, byte by byte.
pub record IsNameOrder (names : List (List ℕ)) (order : List ℕ) : Type 0 where
  pub each : IsPermutation (range_with_len 0 (length names)) order
  pub ascending : IsStrictlySortedBy (slice_cmp nat_cmp) (map (name_of names) order)

-- ---- names with their columns

abbrev pub name_in : Bor (List ℕ) × ℕ → List ℕ
name_in entry = entry.0.now

abbrev pub column_in : Bor (List ℕ) × ℕ → ℕ
column_in entry = entry.1

-- the first n names with their columns, from the left
pub record AreNumbered (names : List (List ℕ)) (n : ℕ) (entries : List (Bor (List ℕ) × ℕ)) : Type 0 where
  pub names_are : map name_in entries ≡ take n names
  pub columns_are : map column_in entries ≡ range_with_len 0 n
  pub each : All (λ e. name_of names (column_in e) ≡ name_in e) entries

-- all names with their columns, none above the next
pub record AreSorted (names : List (List ℕ)) (entries : List (Bor (List ℕ) × ℕ)) : Type 0 where
  pub names_are : IsPermutation names (map name_in entries)
  pub columns_are : IsPermutation (range_with_len 0 (length names)) (map column_in entries)
  pub each : All (λ e. name_of names (column_in e) ≡ name_in e) entries
  pub ascending : (k : ℕ) → k + 1 < length (map name_in entries) → is_lt (slice_cmp nat_cmp (name_of (map name_in entries) (k + 1)) (name_of (map name_in entries) k)) ≡ false
