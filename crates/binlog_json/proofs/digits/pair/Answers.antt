use Rattle.binlog_json.proofs.Pairs.{tens_read, ones_read}
use Rattle.binlog_json.proofs.digits.pair.Goals as goal

pub returns : goal.returns
returns c = rw c.from-at.ensures (record { tens = tens_read c.args.number c.requires; ones = ones_read c.args.number c.requires })
