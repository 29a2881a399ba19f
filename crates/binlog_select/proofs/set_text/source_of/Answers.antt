use Rattle.std.proofs.lemmas.Bool.{false≢true}
use Rattle.binlog_select.proofs.SetTextLemmas.{source_of-none}
use Rattle.binlog_select.proofs.set_text.source_of.Goals as goal

pub returns-in-Err : goal.returns-in-Err
returns-in-Err c = source_of-none c.args.text.now c.if-text-ne-LENGTH.false (λ uuid read. absurd (false≢true (c.in-Err.ensures.ok.1 (uuid, read))))
