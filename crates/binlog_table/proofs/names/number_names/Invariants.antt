use Rattle.std.proofs.Common.{◌≡◌, map, vec_len}
use Rattle.std.specs.String.{string_bytes}
use Rattle.binlog_table.specs.Names.{number_names}
use Rattle.binlog_table.proofs.names.number_names.Given as goal

abbrev pub invariant-loop-column : goal.invariant-loop-column
invariant-loop-column l = record {
  count : vec_len l.names ≡ l.column;
  names : map string_bytes l.names.items ≡ number_names 1 l.column;
}
