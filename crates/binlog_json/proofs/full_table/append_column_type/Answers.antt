use Rattle.std.proofs.Common.{◌≡◌, ◌∙◌, ap, slice_index_or, List}
use Rattle.binlog_types.specs.declared.column_type.ColumnType.{ColumnType}
use Rattle.binlog_types.specs.ColumnTypes.{types_of}
use Rattle.binlog_json.specs.LineBytes.{line_bytes}
use Rattle.binlog_json.specs.FullValues.{unknown_type}
use Rattle.binlog_json.proofs.TypeLists.{type_written}
use Rattle.binlog_json.proofs.full_table.append_column_type.Goals as goal

pub returns : goal.returns
returns c =
    let declared : c.type_at-column_type.result ≡ slice_index_or (types_of c.args.map.now.sections) c.args.column unknown_type =
    c.type_at-column_type.ensures ∙ ap (λ (ts : List ColumnType). slice_index_or ts c.args.column unknown_type) c.requires.types in
    type_written c.append.result c.args.map.now c.args.column (line_bytes c.args.out.now) (line_bytes c.append_member_name.new.out) (line_bytes c.append.new.out) c.column_name.result.now (line_bytes c.clear.new.self)
    (line_bytes c.append_type.new.out) c.as_str.result.now c.type_at-column_type.result c.column_name.ensures c.clear.ensures.bytes declared c.in_ok-append_member_name.ensures c.in_ok-append_type.ensures c.as_str.ensures.value
    c.append.ensures
