use Rattle.std.proofs.Common.{arith}
use Rattle.binlog_json.proofs.NumberTexts.{digits_counted}
use Rattle.binlog_json.proofs.pieces.count_digits.Goals as goal

pub returns : goal.returns
returns c = digits_counted c.ilog10.result c.args.number c.max.result c.max.ensures c.ilog10.ensures.power_le c.ilog10.ensures.next_power_gt (omega arith)
