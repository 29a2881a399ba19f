use Rattle.binlog_documents.proofs.PlainStrings.{scalar-is_text}
use Rattle.binlog_documents.proofs.documents.append_scalar_at.Goals as goal

pub returns-then-kind-eq-TEXT-clause-text : goal.returns-then-kind-eq-TEXT-clause-text
returns-then-kind-eq-TEXT-clause-text c = rw (scalar-is_text c.args.kind c.args.bytes.now c.if-kind-eq-TEXT.true) c.append_text_at.ensures.text
