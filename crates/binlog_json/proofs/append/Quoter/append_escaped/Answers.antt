use Rattle.std.proofs.Common.{◌≡◌, subst, sym, arith}
use Rattle.std.proofs.lemmas.Grind.{common_steps}
use Rattle.std.specs.Str.{IsUtf8}
use Rattle.json.specs.Print.{print}
use Rattle.binlog_documents.proofs.Quoting.{print_string}
use Rattle.binlog_json.proofs.append.Quoter.append_escaped.Goals as goal

pub from_utf8_unchecked-requires : goal.from_utf8_unchecked-requires
from_utf8_unchecked-requires c =
    let is : c.deref.result.now ≡ print c.string-written.new.self.tokens = grind (arith, common_steps) in
    subst IsUtf8 (sym is) c.into_inner.ensures.utf8

pub returns : goal.returns
returns c =
    let text = print_string c.args.text.now in
    grind (arith, common_steps)
