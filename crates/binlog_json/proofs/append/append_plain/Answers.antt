use Rattle.std.proofs.Common.{◌≡◌, ℕ, List, sym, subst}
use Rattle.json.specs.Print.{escape}
use Rattle.binlog_documents.proofs.PlainText.{plain_escape, plain_text}
use Rattle.binlog_json.proofs.append.append_plain.Goals as goal

pub from_utf8_unchecked-requires : goal.from_utf8_unchecked-requires
from_utf8_unchecked-requires c = plain_text c.args.text.now c.requires

pub append_as_is-requires : goal.append_as_is-requires
append_as_is-requires c = subst (λ (t : List ℕ). escape t ≡ t) (sym c.from_utf8_unchecked.ensures) (plain_escape 128 c.args.text.now c.requires)
