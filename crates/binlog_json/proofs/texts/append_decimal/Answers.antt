use Rattle.binlog_json.specs.LineBytes.{line_bytes}
use Rattle.binlog_json.proofs.LineParts.{in_quotes}
use Rattle.binlog_json.proofs.texts.append_decimal.Goals as goal

pub returns : goal.returns
returns c = in_quotes c.push-2.result (line_bytes c.args.out.now) _ _ _ _ c.in_ok-push.ensures.bytes c.in_ok-push_decimal.ensures.text c.push-2.ensures.bytes c.in_ok-push_decimal.ensures.as_is
