use Rattle.binlog_documents.proofs.DoublesReadBack.{doubles_read_back}
use Rattle.binlog_documents.proofs.DecimalDigits.{decimals_are_shown}
use Rattle.binlog_documents.proofs.Moments.{dates_are_shown, moments_are_shown, spans_are_shown}
use Rattle.binlog_documents.proofs.laws.values_are_shown.Goals as goal

pub returns : goal.returns
returns c = record { doubles = doubles_read_back; decimals = decimals_are_shown; dates = dates_are_shown; moments = moments_are_shown; spans = spans_are_shown }
