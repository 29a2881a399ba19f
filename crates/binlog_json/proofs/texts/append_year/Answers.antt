use Rattle.binlog_json.specs.LineBytes.{line_bytes}
use Rattle.binlog_json.proofs.AsIs.{quoted_number}
use Rattle.binlog_json.proofs.LineParts.{in_quotes}
use Rattle.binlog_json.proofs.texts.append_year.Goals as goal

pub returns : goal.returns
returns c = in_quotes c.push-2.result (line_bytes c.args.out.now) _ _ _ _ c.in_ok-push.ensures.bytes (rw c.from.ensures at c.in_ok-push_padded.ensures) c.push-2.ensures.bytes (quoted_number 4 c.args.year)
