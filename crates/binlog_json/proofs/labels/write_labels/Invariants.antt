use Rattle.binlog_json.specs.LineBytes.{line_bytes}
use Rattle.std.proofs.Common.{◌≡◌, length}
use Rattle.binlog_json.specs.Labels.{AreWritten}
use Rattle.binlog_json.proofs.labels.write_labels.Given as goal

abbrev pub invariant-loop-column : goal.invariant-loop-column
invariant-loop-column l = record {
  each : AreWritten l.map.names (line_bytes l.text) l.bounds.items;
  count : length l.bounds.items ≡ l.column;
}
