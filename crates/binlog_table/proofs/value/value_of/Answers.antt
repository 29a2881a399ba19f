use Rattle.binlog_table.proofs.value.value_of.Goals as goal
use Rattle.binlog_table.specs.Value
use Rattle.std.proofs.Common.{arith}
use Rattle.std.proofs.lemmas.Grind.{common_steps}

pub returns-in-Timestamp : goal.returns-in-Timestamp
unfolding Value.value_of
returns-in-Timestamp c = grind (arith, common_steps)

pub returns-in-DateTime : goal.returns-in-DateTime
unfolding Value.value_of
returns-in-DateTime c = grind (arith, common_steps)

pub returns-in-Time : goal.returns-in-Time
unfolding Value.value_of
returns-in-Time c = grind (arith, common_steps)

pub returns-in-Decimal : goal.returns-in-Decimal
unfolding Value.value_of
returns-in-Decimal c = grind (arith, common_steps)
