use Rattle.std.proofs.Common.{arith}
use Rattle.std.proofs.lemmas.Grind.{common_steps}
use Rattle.binlog_documents.proofs.Quoting.{print_string}
use Rattle.binlog_documents.proofs.quote.push_quoted.Goals as goal

pub returns : goal.returns
returns c =
    let text = print_string c.args.text.now in
    grind (arith, common_steps)
