use Rattle.binlog_json.specs.LineBytes.{line_bytes}
use Rattle.std.proofs.Common.{arith}
use Rattle.std.proofs.lemmas.Grind.{common_steps}
use Rattle.binlog_json.proofs.LabelTexts.{each_more, longer_labels, named_label, named_utf8}
use Rattle.binlog_json.proofs.labels.write_labels.Goals as goal

pub loop-column-preserved : goal.loop-column-preserved
loop-column-preserved c = record {
  each = each_more c.args.map.now.names (line_bytes c.loop-column.text) (line_bytes c.append_member_name.new.out) c.loop-column.bounds.items c.push.new.self.items c.loop-column.column
      c.loop-column.invariant.each c.loop-column.invariant.count
      (named_label c.args.map.now.names (line_bytes c.loop-column.text) (line_bytes c.push_str.new.self) (line_bytes c.append_member_name.new.out) c.loop-column.column c.column_name.result.now c.column_name.ensures c.in_ok-push_str.ensures.bytes c.in_ok-append_member_name.ensures)
      (named_utf8 c.args.map.now.names c.loop-column.column c.column_name.result.now c.column_name.ensures c.column_name.utf8)
      (grind (arith, common_steps));
  count = grind (arith, common_steps);
}

pub returns : goal.returns
returns c = record {
  each = longer_labels c.args.map.now.names (line_bytes c.loop-column.text) _ (line_bytes c.push_str-2.new.self) c.loop-column.bounds.items c.loop-column.invariant.each c.in_ok-push_str-2.ensures.bytes;
  all = grind (arith, common_steps);
}
