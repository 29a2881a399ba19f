use Rattle.binlog_json.specs.LineBytes.{line_bytes}
use Rattle.binlog_json.proofs.ColumnTexts.{members_more_by, members_end_by}
use Rattle.binlog_json.specs.FullValues.{full_value}
use Rattle.binlog_json.proofs.full_image.append_full_image.Goals as goal

pub loop-column-preserved : goal.loop-column-preserved
loop-column-preserved c =
    members_more_by (full_value c.args.image.now) c.args.image.now c.name_order-column-items.result.now _ (line_bytes c.loop-column.out) (line_bytes c.append_full_column.new.out) c.loop-column.column-index
    c.loop-column.later c.in_ok-later.later c.loop-column-test.true c.loop-column.invariant c.in_ok-later.ensures.text c.in_ok-later.ensures.later

pub returns : goal.returns
returns c =
    members_end_by (full_value c.args.image.now) c.args.image.now c.name_order-column-items.result.now (line_bytes c.args.out.now) (line_bytes c.push_str.new.self) (line_bytes c.loop-column.out) (line_bytes c.push_str-2.new.self) c.loop-column.column-index
    c.loop-column.later c.loop-column.invariant c.loop-column-test.false c.in_ok-push_str.ensures.bytes c.in_ok-push_str-2.ensures.bytes c.name_order-column-items.ensures
