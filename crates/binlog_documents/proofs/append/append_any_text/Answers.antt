use Rattle.std.proofs.Common.{refl}
use Rattle.binlog_documents.specs.Drafts.{said}
use Rattle.binlog_documents.proofs.PlainStrings.{plain-string}
use Rattle.binlog_documents.proofs.append.append_any_text.Goals as goal

pub returns-then-is_plain : goal.returns-then-is_plain
returns-then-is_plain c = plain-string c.args.bytes.now (said c.args.out.now) (said c.push_string.new.self) (c.if-is_plain.ensures.0 refl) c.in_ok-push_string.ensures
