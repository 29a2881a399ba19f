use Rattle.std.proofs.Common.{◌≡◌, ◌-◌, map}
use Rattle.binlog_table.specs.Names.{strings_at}
use Rattle.binlog_table.proofs.Prepended.{prepended}
use Rattle.binlog_table.proofs.value_names.strings_of.Given as goal

abbrev pub invariant-loop : goal.invariant-loop
invariant-loop l = prepended (map (λ v. v.items) l.strings.items) (strings_at (l.count - l.counter) l.rest) ≡ strings_at l.count l.bytes
