use Rattle.std.proofs.Common.{length}
use Rattle.binlog_documents.proofs.decimal.+push_digits.Given as goal

abbrev pub decreases-push_digits : goal.decreases-push_digits
decreases-push_digits l = length l.groups.now
