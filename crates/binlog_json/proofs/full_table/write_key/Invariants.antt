use Rattle.binlog_json.specs.LineBytes.{line_bytes}
use Rattle.std.proofs.Common.{◌≡◌, ◌++◌, drop, false}
use Rattle.binlog_json.specs.Json.{items_text}
use Rattle.binlog_json.proofs.FullLines.{names_items}
use Rattle.binlog_json.proofs.full_table.write_key.Given as goal

abbrev pub invariant-loop-column : goal.invariant-loop-column
invariant-loop-column l =
    line_bytes l.text ++ items_text l.later (names_items l.map.names (drop l.column-index l.columns)) ≡ line_bytes l.initial.text ++ items_text false (names_items l.map.names l.columns)
