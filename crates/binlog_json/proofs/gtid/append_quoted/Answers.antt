use Rattle.std.proofs.Common.{◌∙◌}
use Rattle.binlog_json.specs.LineBytes.{line_bytes}
use Rattle.binlog_json.proofs.LineParts.{gtid_written}
use Rattle.binlog_json.proofs.gtid.append_quoted.Goals as goal

pub returns : goal.returns
returns c =
    gtid_written c.push-3.result (line_bytes c.args.out.now) (line_bytes c.push.new.self) (line_bytes c.push_str.new.self) (line_bytes c.push-2.new.self) (line_bytes c.push_number.new.self)
    (line_bytes c.push-3.new.self) c.as_str.result.now c.args.source c.args.number c.in_ok-push.ensures.bytes c.in_ok-push_str.ensures.bytes c.in_ok-push-2.ensures.bytes
    c.in_ok-push_number.ensures.bytes c.push-3.ensures.bytes (c.as_str.ensures.value ∙ c.in_ok-take.ensures)
