use Rattle.binlog_table.proofs.AllRows.{rows_of-found, rows_of-only, rows-one}
use Rattle.binlog_table.proofs.RowsBodies.{rows_parts-one}
use Rattle.binlog_table.proofs.laws.rows_bodies_have_one_reading.Goals as goal

pub returns : goal.returns
returns c = record { head = rows_parts-one; found = rows_of-found; only = rows_of-only; one = rows-one }
