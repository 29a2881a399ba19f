use Rattle.binlog_documents.proofs.Texts.{text-is, text-is_none}
use Rattle.binlog_documents.proofs.bytes.utf8_text.Goals as goal

pub returns-in-Ok : goal.returns-in-Ok
returns-in-Ok c = text-is c.args.bytes.now c.in-Ok.text.now c.in-Ok.ensures.cases.0 c.in-Ok.ensures.cases.1

pub returns-in-Err : goal.returns-in-Err
returns-in-Err c = text-is_none c.args.bytes.now c.in-Err.ensures.cases.0
