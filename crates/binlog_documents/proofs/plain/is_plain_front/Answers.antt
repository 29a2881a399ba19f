use Rattle.binlog_documents.proofs.PlainText.{from_first}
use Rattle.binlog_documents.proofs.plain.is_plain_front.Goals as goal

pub returns : goal.returns
returns g c = from_first g.row.LIMIT c.args.text.now c.args.count c.requires.text c.requires.count
