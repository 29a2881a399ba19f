use Rattle.binlog_documents.proofs.JsonTexts.{documents_are_json}
use Rattle.binlog_documents.proofs.laws.documents_are_json.Goals as goal

pub returns : goal.returns
returns c = documents_are_json
