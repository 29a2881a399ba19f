use Rattle.std.proofs.Common.{codes, decimal}
use Rattle.binlog_json.specs.LineBytes.{line_bytes}
use Rattle.binlog_json.proofs.LineParts.{then_two}
use Rattle.binlog_json.proofs.full_writer.append_time.Goals as goal

pub returns : goal.returns
returns c =
    then_two c.append_number.result (line_bytes c.args.line.now) (line_bytes c.push_str.new.self) (line_bytes c.append_number.new.out) (codes ",\"committed\":") (decimal c.args.time)
    c.in_ok-push_str.ensures.bytes c.append_number.ensures
