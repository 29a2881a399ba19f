-- Kinds of changes: a change is of a row, or else a statement.
use Rattle.std.specs.Prelude.{Bool, true, false}
use Rattle.binlog_select.specs.declared.kind.ChangeKind.{ChangeKind}
use Rattle.binlog_select.specs.declared.kind.ChangeKind.TheVariants.{Statement}

abbrev pub is_row : ChangeKind → Bool
is_row Statement = false
is_row other = true
