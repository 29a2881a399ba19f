use Rattle.std.proofs.Common.{refl, take}
use Rattle.binlog_documents.specs.Drafts.{said}
use Rattle.binlog_documents.proofs.PlainStrings.{plain-string, plain-front}
use Rattle.binlog_documents.proofs.append.append_text.Goals as goal

pub returns-then-is_plain_front : goal.returns-then-is_plain_front
returns-then-is_plain_front c =
    let plain = plain-front c.args.bytes.now c.args.len c.requires (c.if-is_plain_front.ensures.0 refl) in
    plain-string (take c.args.len c.args.bytes.now) (said c.args.out.now) (said c.push_first_string.new.self) plain c.in_ok-push_first_string.ensures
