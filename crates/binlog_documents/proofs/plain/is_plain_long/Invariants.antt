use Rattle.std.proofs.Common.{◌-◌, ◌≤◌, length}
use Rattle.binlog_documents.specs.PlainText.{PlainBetween}
use Rattle.binlog_documents.proofs.plain.is_plain_long.Given as goal

abbrev pub invariant-loop-at : goal.invariant-loop-at
invariant-loop-at g l = (l.at ≤ length l.text) × PlainBetween g.row.LIMIT l.text 0 l.at

abbrev pub decreases-loop-at : goal.decreases-loop-at
decreases-loop-at g l = length l.text - l.at
