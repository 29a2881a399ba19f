use Rattle.binlog_json.specs.LineBytes.{line_bytes}
use Rattle.std.proofs.Common.{arith}
use Rattle.binlog_json.proofs.TypeLists.{types_more, types_end}
use Rattle.binlog_json.proofs.full_table.append_types.Goals as goal

pub loop-column-preserved : goal.loop-column-preserved
loop-column-preserved c =
    types_more c.args.map.now c.loop-column.column (line_bytes c.loop-column.out) (line_bytes c.append_comma.new.out) (line_bytes c.append_column_type.new.out) _ c.loop-column.later
    (omega arith) c.in_ok-append_comma.ensures c.in_ok-append_column_type.ensures c.loop-column.invariant

pub returns : goal.returns
returns c =
    types_end c.args.map.now (line_bytes c.args.out.now) (line_bytes c.push_str.new.self) (line_bytes c.loop-column.out) (line_bytes c.push_str-2.new.self) c.loop-column.column c.loop-column.later
    (omega arith) c.in_ok-push_str.ensures.bytes c.loop-column.invariant c.in_ok-push_str-2.ensures.bytes
