use Rattle.std.proofs.Common.{map}
use Rattle.std.specs.String.{string_bytes}
use Rattle.binlog_table.specs.NameOrder.{AreNumbered}
use Rattle.binlog_table.proofs.names.numbered_names.Given as goal

abbrev pub invariant-loop-column : goal.invariant-loop-column
invariant-loop-column l = AreNumbered (map string_bytes l.names) l.column l.entries.items
