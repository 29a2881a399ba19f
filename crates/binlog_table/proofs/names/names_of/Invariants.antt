use Rattle.std.proofs.Common.{◌≡◌, ◌-◌, map, vec_len}
use Rattle.std.specs.String.{string_bytes}
use Rattle.binlog_table.specs.Names.{names_at}
use Rattle.binlog_table.proofs.Prepended.{prepended}
use Rattle.binlog_table.proofs.names.names_of.Given as goal

abbrev pub invariant-loop : goal.invariant-loop
invariant-loop l = record {
  count : vec_len l.names ≡ l.counter;
  read : prepended (map string_bytes l.names.items) (names_at (l.count - l.counter) l.rest) ≡ names_at l.count l.bytes;
}
