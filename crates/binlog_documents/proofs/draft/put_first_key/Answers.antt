use Rattle.json.proofs.Printed.Places.{Placed-then}
use Rattle.binlog_documents.proofs.draft.put_first_key.Goals as goal

pub returns : goal.returns
returns c = Placed-then c.put_byte-begin.ensures (Placed-then c.put_first-end.ensures c.put.ensures)
