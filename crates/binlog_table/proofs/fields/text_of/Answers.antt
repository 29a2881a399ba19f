use Rattle.binlog_table.proofs.FirstFaults.{text-ok}
use Rattle.binlog_table.proofs.fields.text_of.Goals as goal

pub returns-in-Ok : goal.returns-in-Ok
returns-in-Ok c = text-ok c.args.bytes.now c.in-Ok.text.now c.in-Ok.ensures.cases.0 c.in-Ok.ensures.cases.1
