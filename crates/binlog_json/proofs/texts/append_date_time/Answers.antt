use Rattle.binlog_json.specs.LineBytes.{line_bytes}
use Rattle.binlog_json.proofs.AsIs.{quoted_date_time}
use Rattle.binlog_json.proofs.LineParts.{in_quotes}
use Rattle.binlog_json.proofs.texts.append_date_time.Goals as goal

pub returns : goal.returns
returns c = in_quotes c.push-2.result (line_bytes c.args.out.now) _ _ _ _ c.in_ok-push.ensures.bytes c.in_ok-push_date_time.ensures c.push-2.ensures.bytes (quoted_date_time c.args.time)
