use Rattle.binlog_documents.proofs.Spelled.{document_only, document_one}
use Rattle.binlog_documents.proofs.ReadIsSpelled.{document_found}
use Rattle.binlog_documents.proofs.laws.documents_are_read.Goals as goal

pub returns : goal.returns
returns c = record { found = document_found; only = document_only; one = document_one }
