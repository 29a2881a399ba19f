use Rattle.binlog_table.proofs.time.time_of.Goals as goal
use Rattle.binlog_table.specs.Value
use Rattle.std.proofs.Common.{arith}
use Rattle.std.proofs.lemmas.Grind.{common_steps}

pub returns-then-hour-ge1024 : goal.returns-then-hour-ge1024
unfolding Value.time_of
returns-then-hour-ge1024 c = grind (arith, common_steps)

pub returns : goal.returns
unfolding Value.time_of
returns c = grind (arith, common_steps)
