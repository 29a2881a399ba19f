use Rattle.binlog_documents.proofs.bytes.+length_at.Given as goal

abbrev pub decreases-length_at : goal.decreases-length_at
decreases-length_at l = l.most
