use Rattle.binlog_json.specs.LineBytes.{line_bytes}
use Rattle.binlog_json.proofs.LineParts.{raw_written}
use Rattle.binlog_json.proofs.values.append_raw.Goals as goal

pub returns : goal.returns
returns c =
    raw_written c.push_str-2.result (line_bytes c.args.out.now) (line_bytes c.push_str.new.self) (line_bytes c.append_base64.new.out) (line_bytes c.push_str-2.new.self) c.args.bytes.now
    c.in_ok-push_str.ensures.bytes c.in_ok-append_base64.ensures c.push_str-2.ensures.bytes
