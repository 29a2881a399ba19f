use Rattle.std.proofs.lemmas.Str.{is_utf8-from_IsUtf8}
use Rattle.binlog_documents.proofs.PlainText.{plain_utf8}
use Rattle.binlog_json.proofs.Utf8.{not_utf8}
use Rattle.binlog_json.proofs.full_values.append_utf8_text.Goals as goal

pub returns-then-is_plain : goal.returns-then-is_plain
returns-then-is_plain c = rw (plain_utf8 c.args.bytes.now (c.is_plain.ensures.0 c.if-is_plain.true)) c.append_plain.ensures

pub returns-in-Ok : goal.returns-in-Ok
returns-in-Ok c = rw (is_utf8-from_IsUtf8 _ c.in-Ok.ensures.cases.1, ← c.in-Ok.ensures.cases.0) c.append.ensures

pub returns-in-Err : goal.returns-in-Err
returns-in-Err c = rw (not_utf8 _ c.in-Err.ensures.cases.0) c.append_in_charset.ensures
