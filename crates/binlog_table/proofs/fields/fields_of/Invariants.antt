use Rattle.std.proofs.Common.{length}
use Rattle.binlog_table.specs.Fields.{fields_from, no_fields}
use Rattle.binlog_table.specs.FieldsShown.{fields_view}
use Rattle.binlog_table.proofs.FieldLoop.{FieldsLeft}
use Rattle.binlog_table.proofs.fields.fields_of.Given as goal

abbrev pub invariant-loop-rest : goal.invariant-loop-rest
invariant-loop-rest l = FieldsLeft (fields_view l.fields) l.rest (fields_from (length l.bytes) no_fields l.bytes)

abbrev pub decreases-loop-rest : goal.decreases-loop-rest
decreases-loop-rest l = length l.rest
