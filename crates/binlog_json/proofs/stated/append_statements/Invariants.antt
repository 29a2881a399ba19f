use Rattle.std.proofs.Common.{◌≡◌, ◌++◌, drop, false}
use Rattle.binlog_feed.specs.Changes.{view}
use Rattle.binlog_json.specs.Json.{items_text}
use Rattle.binlog_json.specs.LineBytes.{line_bytes}
use Rattle.binlog_json.proofs.StatedLines.{statement_items}
use Rattle.binlog_json.proofs.stated.append_statements.Given as goal

abbrev pub invariant-loop-number : goal.invariant-loop-number
invariant-loop-number l =
    line_bytes l.line ++ items_text l.later (statement_items (drop l.number (view l.change).statements)) ≡ line_bytes l.initial.line ++ items_text false (statement_items (view l.change).statements)
