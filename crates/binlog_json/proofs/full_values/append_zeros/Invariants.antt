use Rattle.std.proofs.Common.{◌≡◌, ◌++◌, replicate}
use Rattle.binlog_json.proofs.full_values.append_zeros.Given as goal

abbrev pub invariant-loop : goal.invariant-loop
invariant-loop l = l.bytes.items ≡ l.initial.bytes.items ++ replicate l.counter 0
