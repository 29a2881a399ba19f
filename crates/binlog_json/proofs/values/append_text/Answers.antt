use Rattle.binlog_documents.proofs.PlainText.{plain_utf8}
use Rattle.binlog_json.proofs.values.append_text.Goals as goal

pub returns-then-is_plain : goal.returns-then-is_plain
returns-then-is_plain c = rw (plain_utf8 c.args.bytes.now (c.is_plain.ensures.0 c.if-is_plain.true)) c.append_plain.ensures
