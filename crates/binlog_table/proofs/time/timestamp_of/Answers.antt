use Rattle.binlog_table.proofs.time.timestamp_of.Goals as goal
use Rattle.binlog_table.specs.Value
use Rattle.std.proofs.Common.{arith}
use Rattle.std.proofs.lemmas.Grind.{common_steps}

pub returns-in_err-fraction : goal.returns-in_err-fraction
unfolding Value.timestamp_of
returns-in_err-fraction c = grind (arith, common_steps)

pub returns : goal.returns
unfolding Value.timestamp_of
returns c = grind (arith, common_steps)
