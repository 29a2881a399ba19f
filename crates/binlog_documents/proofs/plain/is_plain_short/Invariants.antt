use Rattle.binlog_documents.specs.PlainText.{PlainBetween}
use Rattle.binlog_documents.proofs.plain.is_plain_short.Given as goal

abbrev pub invariant-loop-byte : goal.invariant-loop-byte
invariant-loop-byte g l = PlainBetween g.row.LIMIT l.text 0 l.byte-index
