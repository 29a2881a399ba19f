use Rattle.std.proofs.Common.{string_bytes}
use Rattle.binlog_json.proofs.LineParts.{encoded_written}
use Rattle.binlog_json.proofs.values.append_encoded.Goals as goal

pub returns : goal.returns
returns c =
    encoded_written c.push_str-2.result (string_bytes c.args.out.now) (string_bytes c.push_str.new.self) (string_bytes c.append_base64.new.out) (string_bytes c.push_str-2.new.self) c.args.bytes.now
    c.in_ok-push_str.ensures.bytes c.in_ok-append_base64.ensures c.push_str-2.ensures.bytes
