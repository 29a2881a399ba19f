use Rattle.binlog_json.specs.LineBytes.{line_bytes}
use Rattle.binlog_json.proofs.JsonNulls.{text_next, text_end, stands_next, stands_end}
use Rattle.binlog_json.proofs.json_nulls.append_names_of.Goals as goal

pub loop-column-preserved : goal.loop-column-preserved
loop-column-preserved c = record {
  text = text_next c.args.side.now c.args.image.now c.name_order-column-items.result.now _ (line_bytes c.loop-column.line) (line_bytes c.append_name.new.line) c.loop-column.column-index c.loop-column.stands c.in_ok-stands.stands
      c.loop-column-test.true c.loop-column.invariant.text c.in_ok-stands.ensures.text c.in_ok-stands.ensures.later;
  stands = stands_next c.args.side.now c.args.image.now c.name_order-column-items.result.now c.loop-column.column-index c.loop-column.stands c.in_ok-stands.stands _
      c.loop-column-test.true c.loop-column.invariant.stands c.in_ok-stands.ensures.later;
}

pub returns : goal.returns
returns c = record {
  text = text_end c.args.side.now c.args.image.now c.name_order-column-items.result.now (line_bytes c.args.line.now) (line_bytes c.loop-column.line) c.loop-column.column-index c.args.later c.loop-column.stands
      c.loop-column-test.false c.name_order-column-items.ensures c.loop-column.invariant.text;
  later = stands_end c.args.side.now c.args.image.now c.name_order-column-items.result.now c.loop-column.column-index c.args.later c.loop-column.stands
      c.loop-column-test.false c.name_order-column-items.ensures c.loop-column.invariant.stands;
}
