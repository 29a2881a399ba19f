use Rattle.std.proofs.Common.{◌≡◌, ◌++◌, ◌-◌}
use Rattle.binlog_types.specs.ColumnTypes.{numbers_from}
use Rattle.binlog_types.proofs.collations.numbers_from.Given as goal

abbrev pub invariant-loop : goal.invariant-loop
invariant-loop l = l.numbers.items ++ numbers_from (l.most - l.counter) l.rest ≡ numbers_from l.most l.bytes
