use Rattle.std.proofs.Common.{◌≡◌, ℕ, List, refl, subst}
use Rattle.json.specs.Print.{escape}
use Rattle.binlog_documents.specs.Drafts.{said}
use Rattle.binlog_documents.proofs.PlainText.{plain_escape}
use Rattle.binlog_documents.proofs.Quoting.{in_quotes}
use Rattle.binlog_documents.proofs.append.append_quoted.Goals as goal

pub returns : goal.returns
returns c =
    let plain = subst (λ (t : List ℕ). escape t ≡ t) c.as_bytes.ensures.value (plain_escape 255 c.as_bytes.result.now (c.if-not-is_plain.ensures.0 refl)) in
    in_quotes c.push_string.result (said c.args.out.now) (said c.push_string.new.self) c.args.text.now c.as_bytes-2.result.now c.as_bytes-2.ensures.value plain c.push_string.ensures
