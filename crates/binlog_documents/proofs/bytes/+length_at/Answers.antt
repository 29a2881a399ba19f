use Rattle.std.proofs.Common.{◌-◌, arith}
use Rattle.binlog_documents.proofs.Lengths.{limit-fits, longer-length, short-length}
use Rattle.binlog_documents.proofs.bytes.+length_at.Goals as goal

pub returns-then-first-lt128-clause-few : goal.returns-then-first-lt128-clause-few
returns-then-first-lt128-clause-few t c = short-length c.from-first.result c.args.most (omega arith) (omega arith)

pub overflow_mul-result : goal.overflow_mul-result
overflow_mul-result t c = let limit = limit-fits (c.args.most - 1) (omega arith) in omega (arith, c.in_ok-above.ensures.few)

pub overflow_add-result : goal.overflow_add-result
overflow_add-result t c = let limit = limit-fits (c.args.most - 1) (omega arith) in omega (arith, c.in_ok-above.ensures.few)

pub returns-clause-few : goal.returns-clause-few
returns-clause-few t c = longer-length c.from-first.result c.in_ok-above.above c.args.most (omega arith) (omega arith) c.in_ok-above.ensures.few
