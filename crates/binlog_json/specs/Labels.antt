-- The names of columns as they stand in front of members, kept behind one another.
use Rattle.std.specs.Prelude.{◌≡◌, ℕ, ◌-◌, ◌<◌, ◌≤◌, List, [], ◌∷◌, ◌++◌, length, take, drop, slice_index_or, true}
use Rattle.std.specs.Str.{is_utf8}
use Rattle.json.specs.Print.{quoted}
use Rattle.binlog_table.specs.NameOrder.{name_of}

-- a comma, the name as a string, and a colon
abbrev pub label_text : List (List ℕ) → ℕ → List ℕ
label_text names column = 44 ∷ (quoted (name_of names column) ++ 58 ∷ [])

-- between these places the column's label stands
pub record IsLabel (names : List (List ℕ)) (text : List ℕ) (column : ℕ) (bounds : ℕ × ℕ) : Type 0 where
  pub ordered : bounds.0 ≤ bounds.1
  pub within : bounds.1 ≤ length text
  pub is : take (bounds.1 - bounds.0) (drop bounds.0 text) ≡ label_text names column
  pub utf8 : is_utf8 (label_text names column) ≡ true

-- the first columns' labels
abbrev pub AreWritten : List (List ℕ) → List ℕ → List (ℕ × ℕ) → Type 0
AreWritten names text bounds = (column : ℕ) → column < length bounds → IsLabel names text column (slice_index_or bounds column (0, 0))

-- all columns' labels
pub record AreLabels (names : List (List ℕ)) (text : List ℕ) (bounds : List (ℕ × ℕ)) : Type 0 where
  pub each : AreWritten names text bounds
  pub all : length bounds ≡ length names
