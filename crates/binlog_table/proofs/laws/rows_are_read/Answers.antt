use Rattle.binlog_table.proofs.AllRows.{rows_in-found, rows_in-only}
use Rattle.binlog_table.proofs.laws.rows_are_read.Goals as goal

pub returns : goal.returns
returns c = record { found = rows_in-found; only = λ columns before after bytes rows h. rows_in-only columns before after rows bytes h }
