use Rattle.std.proofs.Common.{◌≡◌, ℕ, List, refl, subst}
use Rattle.json.specs.Print.{escape}
use Rattle.binlog_documents.proofs.PlainText.{plain_escape}
use Rattle.binlog_json.proofs.append.Quoter.append.Goals as goal

pub append_as_is-requires : goal.append_as_is-requires
append_as_is-requires c = subst (λ (t : List ℕ). escape t ≡ t) c.as_bytes.ensures.value (plain_escape 255 c.as_bytes.result.now (c.if-not-is_plain.ensures.0 refl))
