use Rattle.std.proofs.Common.{◌∙◌, sym}
use Rattle.binlog_feed.specs.Changes.{view}
use Rattle.binlog_json.specs.LineBytes.{line_bytes}
use Rattle.binlog_json.proofs.JsonNulls.{none_written}
use Rattle.binlog_json.proofs.json_nulls.append_json_nulls.Goals as goal

pub returns-then-not-table : goal.returns-then-not-table
returns-then-not-table c =
    none_written (view c.args.change.now) c.args.table.now.types.items (line_bytes c.args.line.now) c.requires.types (sym c.requires.documents ∙ c.if-not-table.true)
