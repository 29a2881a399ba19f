use Rattle.std.proofs.Common.{subst, sym}
use Rattle.binlog_select.specs.SetText.{IsFirstBadBy}
use Rattle.binlog_select.proofs.ReadingLemmas.{elements-some}
use Rattle.binlog_select.proofs.set_text.read.Goals as goal

pub returns-clause-refused : goal.returns-clause-refused
returns-clause-refused c = λ at is.
    subst (λ es. IsFirstBadBy c.args.profile es at) (sym (elements-some c.args.text.now c.trimmed.result.now c.trimmed.ensures c.if-is_empty.ensures)) (c.read_elements.ensures.refused at is)
