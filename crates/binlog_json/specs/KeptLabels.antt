-- What calls say of the labels that are kept of a table's columns.
use Rattle.std.specs.Prelude.{◌≡◌, ℕ, ◌<◌, List, [], ◌∷◌, ◌++◌, Bool, length, take}
use Rattle.std.specs.Borrow.{Bor}
use Rattle.json.specs.Print.{quoted}
use Rattle.binlog_table.specs.NameOrder.{name_of}
use Rattle.binlog_json.specs.Growth.{Gains}
use Rattle.binlog_json.specs.Joining.{comma_if}
use Rattle.binlog_json.specs.Labels.{AreLabels, label_text}
use Rattle.binlog_json.specs.LineBytes.{line_bytes}
use Rattle.binlog_json.specs.declared.labels.Labels.{Labels}
use Rattle.binlog_json.specs.declared.lines.Line.{Line}

-- they are those of columns of these names
abbrev pub HasLabels : Labels → List (List ℕ) → Type 0
HasLabels labels names = AreLabels names (line_bytes labels.text) labels.bounds.items

-- there are some names whose labels they are, that of the column among them
abbrev pub HasLabelOf : Labels → ℕ → Type 0
HasLabelOf labels column = (names : List (List ℕ)) × (HasLabels labels names × (column < length names))

-- so many bytes of what is answered are the column's label
abbrev pub GivesLabel : Labels → ℕ → Bor (List ℕ) × ℕ → Type 0
GivesLabel labels column result =
    (names : List (List ℕ)) → HasLabels labels names → column < length names → take result.1 result.0.now ≡ label_text names column

-- a line has the column's label behind what it said, without the comma where nothing stands before it
abbrev pub GainsLabel : Labels → ℕ → Bool → Line → Line → Type 0
GainsLabel labels column later old new =
    (names : List (List ℕ)) → HasLabels labels names → column < length names → Gains old new (comma_if later ++ (quoted (name_of names column) ++ 58 ∷ []))
