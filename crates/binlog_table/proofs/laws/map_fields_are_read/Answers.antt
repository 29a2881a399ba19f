use Rattle.binlog_table.proofs.MapListReadings.{column_names-found, column_names-only, key-found, key-only}
use Rattle.binlog_table.proofs.laws.map_fields_are_read.Goals as goal

pub returns : goal.returns
returns c = record { names_found = column_names-found; names_only = column_names-only; key_found = key-found; key_only = key-only }
