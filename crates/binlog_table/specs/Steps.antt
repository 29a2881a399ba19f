-- How a walk passes a value over.
use Rattle.std.specs.Prelude.{◌≡◌, ◌≤◌, ◌<◌, ℕ, List, length, get_or, true, is_some}
use Rattle.binlog_table.specs.declared.column.Column.{Column}
use Rattle.binlog_table.specs.declared.extent.Extent.TheVariants.{Fixed, Prefixed}
use Rattle.binlog_table.specs.declared.steps.Step.{Step}
use Rattle.binlog_table.specs.declared.steps.Pass.{Pass}
use Rattle.binlog_table.specs.declared.steps.Pass.TheVariants.{Plain, Counted, Judged}
use Rattle.binlog_table.specs.Extent.{HasExtent, extent_of}
use Rattle.binlog_table.specs.Value.{value_of}

-- each whole value of the column means something
abbrev pub AlwaysMeans : Column → Type 0
AlwaysMeans column = (text : List ℕ) → HasExtent (extent_of column.layout) text → is_some (value_of column text) ≡ true

abbrev pub IsPassOf : Column → ℕ → Pass → Type 0
IsPassOf column len Plain = (extent_of column.layout ≡ Fixed len) × AlwaysMeans column
IsPassOf column len Counted = (extent_of column.layout ≡ Prefixed len) × (1 ≤ len) × (len ≤ 8) × AlwaysMeans column
IsPassOf column len Judged = extent_of column.layout ≡ Fixed len

-- so the values of the column are passed over
abbrev pub IsStepOf : Column → Step → Type 0
IsStepOf column step = IsPassOf column step.len step.pass

-- the steps are those of the first columns, one for each
abbrev pub AreFirstSteps : ℕ → List Column → List Step → Type 0
AreFirstSteps n columns steps =
    (length steps ≡ n) × ((i : ℕ) → (column : Column) → (step : Step) → i < n → column ≡ get_or columns i column → step ≡ get_or steps i step → IsStepOf column step)

-- of all columns
abbrev pub AreSteps : List Column → List Step → Type 0
AreSteps columns steps = AreFirstSteps (length columns) columns steps
