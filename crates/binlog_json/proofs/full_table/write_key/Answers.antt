use Rattle.binlog_json.specs.LineBytes.{line_bytes}
use Rattle.binlog_json.proofs.FullLines.{names_more, names_end}
use Rattle.binlog_json.proofs.full_table.write_key.Goals as goal

pub loop-column-preserved : goal.loop-column-preserved
loop-column-preserved c =
    names_more c.args.map.now.names c.key-columns.result.now c.loop-column.column-index (line_bytes c.loop-column.text) (line_bytes c.append_comma.new.out) (line_bytes c.append.new.out) c.column_name.result.now _ c.loop-column.later
    c.loop-column-test.true c.in_ok-append_comma.ensures c.in_ok-append.ensures c.column_name.ensures c.loop-column.invariant

pub returns : goal.returns
returns c =
    names_end c.push_str-2.result c.args.map.now c.key-columns.result.now c.loop-column.column-index (line_bytes c.clear.new.self) (line_bytes c.push_str.new.self) (line_bytes c.loop-column.text) (line_bytes c.push_str-2.new.self) c.loop-column.later
    c.key-columns.ensures.value c.loop-column-test.false c.clear.ensures.bytes c.in_ok-push_str.ensures.bytes c.loop-column.invariant c.push_str-2.ensures.bytes
