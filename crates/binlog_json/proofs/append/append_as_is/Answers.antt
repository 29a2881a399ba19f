use Rattle.binlog_json.specs.LineBytes.{line_bytes}
use Rattle.binlog_json.proofs.AsIs.{quoted_as_is}
use Rattle.binlog_json.proofs.LineParts.{in_quotes}
use Rattle.binlog_json.proofs.append.append_as_is.Goals as goal

pub returns : goal.returns
returns c = in_quotes c.push-2.result (line_bytes c.args.out.now) _ _ _ c.args.text.now c.in_ok-push.ensures.bytes c.in_ok-push_str.ensures.bytes c.push-2.ensures.bytes (quoted_as_is c.args.text.now c.requires)
