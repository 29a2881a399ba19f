use Rattle.std.proofs.Common.{append_assoc, sym, refl, append-nil, arith}
use Rattle.binlog_json.proofs.ColumnTexts.{past_is_absent, absent_is, present_is, column_is}
use Rattle.binlog_json.proofs.image.append_column.Goals as goal

pub returns-then-column-column_count : goal.returns-then-column-column_count
returns-then-column-column_count c =
    rw (past_is_absent c.args.image.now c.args.column (let count = c.column_count.ensures.cells in omega arith)) (record { text = sym (append-nil _); later = refl })

pub returns-in-Absent : goal.returns-in-Absent
returns-in-Absent c =
    rw (absent_is c.args.image.now c.args.column c.cell-cell.result (rw c.requires.row at c.cell-cell.ensures) c.in-Absent.is) (record { text = sym (append-nil _); later = refl })

pub returns-in_ok-append_value-in_default : goal.returns-in_ok-append_value-in_default
returns-in_ok-append_value-in_default c =
    let at = rw c.requires.row at c.cell-cell.ensures in
    let below = c.column_count.ensures.names in
    let label = c.in_ok-append_label-in_default.ensures c.args.image.now.table.names c.requires.labels (omega arith) in
    record {
      text = rw (column_is c.args.later c.args.image.now c.args.column c.cell-cell.result at c.in_default.not-Absent, c.in_ok-append_value-in_default.ensures, label) (simp append_assoc);
      later = rw (present_is c.args.image.now c.args.column c.cell-cell.result at c.in_default.not-Absent) refl;
    }
