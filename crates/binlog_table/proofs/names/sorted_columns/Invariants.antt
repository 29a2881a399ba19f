use Rattle.std.proofs.Common.{◌≡◌, map, take}
use Rattle.binlog_table.specs.NameOrder.{column_in}
use Rattle.binlog_table.proofs.names.sorted_columns.Given as goal

abbrev pub invariant-loop-column : goal.invariant-loop-column
invariant-loop-column l = l.columns.items ≡ map column_in (take l.column-index l.sorted)
