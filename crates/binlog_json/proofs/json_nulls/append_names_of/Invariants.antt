use Rattle.binlog_json.specs.LineBytes.{line_bytes}
use Rattle.std.proofs.Common.{◌≡◌, ◌++◌, drop}
use Rattle.binlog_json.specs.FullWritten.{names_text, stands_behind}
use Rattle.binlog_json.proofs.JsonNulls.{nulls_listed}
use Rattle.binlog_json.proofs.json_nulls.append_names_of.Given as goal

abbrev pub invariant-loop-column : goal.invariant-loop-column
invariant-loop-column l = record {
  text : line_bytes l.line ++ names_text l.stands (nulls_listed l.side l.image (drop l.column-index l.column-items)) ≡ line_bytes l.initial.line ++ names_text l.later (nulls_listed l.side l.image l.column-items);
  stands : stands_behind l.stands (nulls_listed l.side l.image (drop l.column-index l.column-items)) ≡ stands_behind l.later (nulls_listed l.side l.image l.column-items);
}
