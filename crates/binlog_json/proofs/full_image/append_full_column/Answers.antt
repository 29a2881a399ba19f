use Rattle.std.proofs.Common.{append_assoc, ◌≡◌, sym, refl, append-nil, arith}
use Rattle.std.proofs.lemmas.Option.{get_or_from_slice_get}
use Rattle.binlog_table.specs.Value.{view, absent}
use Rattle.binlog_table.specs.MapWords.{value_names_in}
use Rattle.binlog_json.specs.FullValues.{full_data, full_value}
use Rattle.binlog_json.proofs.ColumnTexts.{past_is_absent, absent_is, present_is, column_is_by}
use Rattle.binlog_json.proofs.full_image.append_full_column.Goals as goal

pub returns-then-column-column_count : goal.returns-then-column-column_count
returns-then-column-column_count c =
    rw (past_is_absent c.args.image.now c.args.column (let count = c.column_count.ensures.cells in omega arith)) (record { text = sym (append-nil _); later = refl })

pub returns-in-Absent : goal.returns-in-Absent
returns-in-Absent c =
    rw (absent_is c.args.image.now c.args.column c.cell-cell.result (rw c.requires.row at c.cell-cell.ensures) c.in-Absent.is) (record { text = sym (append-nil _); later = refl })

pub returns-in_ok-append_full_value-in_default : goal.returns-in_ok-append_full_value-in_default
returns-in_ok-append_full_value-in_default c =
    let at = rw c.requires.row at c.cell-cell.ensures in
    let below = c.column_count.ensures.names in
    let label = c.in_ok-append_label-in_default.ensures c.args.image.now.table.names c.requires.labels (omega arith) in
    let declared = rw c.requires.types at c.type_at-column_type.ensures in
    let value = full_data c.type_at-column_type.result (value_names_in c.args.image.now.table c.args.column) (view c.cell-cell.result) in
    let value_is : full_value c.args.image.now c.args.column ≡ value = rw (get_or_from_slice_get c.args.image.now.cells c.args.column (view c.cell-cell.result) absent at, declared) refl in
    record {
      text = rw (column_is_by (full_value c.args.image.now) value c.args.later c.args.image.now c.args.column c.cell-cell.result at c.in_default.not-Absent value_is, c.in_ok-append_full_value-in_default.ensures, label) (simp append_assoc);
      later = rw (present_is c.args.image.now c.args.column c.cell-cell.result at c.in_default.not-Absent) refl;
    }
