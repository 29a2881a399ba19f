use Rattle.binlog_table.proofs.ValueNameReadings.{lists-one, value_names-found, value_names-only}
use Rattle.binlog_table.proofs.laws.value_names_are_read.Goals as goal

pub returns : goal.returns
returns c = record { found = value_names-found; only = value_names-only; one = lists-one }
