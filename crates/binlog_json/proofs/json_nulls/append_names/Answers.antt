use Rattle.std.proofs.Common.{◌∙◌, sym, true}
use Rattle.binlog_feed.specs.Changes.{view}
use Rattle.binlog_json.specs.LineBytes.{line_bytes}
use Rattle.binlog_json.proofs.JsonNulls.{nulls_written}
use Rattle.binlog_json.proofs.json_nulls.append_names.Goals as goal

pub returns-in_ok-push : goal.returns-in_ok-push
returns-in_ok-push c =
    nulls_written (view c.args.change.now) (line_bytes c.args.line.now) (line_bytes c.append_names_after.new.line) (line_bytes c.append_names_before.new.line) (line_bytes c.push.new.self) c.in_ok-later.later true
    c.in_ok-later.ensures.text c.in_ok-later.ensures.later c.in_ok-later-2.ensures.text (sym c.if-later.true ∙ c.in_ok-later-2.ensures.later) c.in_ok-push.ensures.bytes
