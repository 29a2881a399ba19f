use Rattle.binlog_json.specs.LineBytes.{line_bytes}
use Rattle.std.proofs.Common.{◌≡◌, ◌++◌, false}
use Rattle.binlog_json.specs.Json.{members_text}
use Rattle.binlog_json.proofs.TypeLists.{types_from}
use Rattle.binlog_json.proofs.full_table.append_types.Given as goal

abbrev pub invariant-loop-column : goal.invariant-loop-column
invariant-loop-column l = line_bytes l.out ++ members_text l.later (types_from l.map l.column) ≡ line_bytes l.initial.out ++ members_text false (types_from l.map 0)
