use Rattle.std.proofs.Common.{◌≡◌, drop}
use Rattle.binlog_table.proofs.row_view.RowView.value.Given as goal

abbrev pub invariant-loop : goal.invariant-loop
invariant-loop l = l.cells ≡ drop l.counter l.self.cells
