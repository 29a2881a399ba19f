use Rattle.binlog_json.specs.LineBytes.{line_bytes}
use Rattle.std.proofs.Common.{◌≡◌, ◌++◌, drop, false}
use Rattle.binlog_json.specs.Json.{members_text}
use Rattle.binlog_json.specs.Listed.{listed}
use Rattle.binlog_json.proofs.image.append_image.Given as goal

abbrev pub invariant-loop-column : goal.invariant-loop-column
invariant-loop-column l =
    (line_bytes l.out) ++ members_text l.later (listed l.image (drop l.column-index l.column-items)) ≡ line_bytes l.initial.out ++ members_text false (listed l.image l.column-items)
