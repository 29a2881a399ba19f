use Rattle.std.proofs.Common.{arith}
use Rattle.binlog_documents.proofs.PlainText.{from_lanes}
use Rattle.binlog_documents.proofs.plain.is_plain_4.Goals as goal

pub returns : goal.returns
returns g c = from_lanes g.row.LIMIT c.args.text.now c.args.at 4 c.requires (omega arith)
