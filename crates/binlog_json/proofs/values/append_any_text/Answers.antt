use Rattle.std.proofs.lemmas.Str.{is_utf8-from_IsUtf8}
use Rattle.binlog_json.proofs.Utf8.{not_utf8}
use Rattle.binlog_json.proofs.values.append_any_text.Goals as goal

pub returns-in-Ok : goal.returns-in-Ok
returns-in-Ok c = rw (is_utf8-from_IsUtf8 _ c.in-Ok.ensures.cases.1, ← c.in-Ok.ensures.cases.0) c.append.ensures

pub returns-in-Err : goal.returns-in-Err
returns-in-Err c = rw (not_utf8 _ c.in-Err.ensures.cases.0) c.append_encoded.ensures
