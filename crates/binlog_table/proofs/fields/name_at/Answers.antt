use Rattle.binlog_table.proofs.fields.name_at.Goals as goal
use Rattle.binlog_table.specs.Fields
use Rattle.std.proofs.Common.{arith}
use Rattle.std.proofs.lemmas.Grind.{common_steps}

pub returns-in_default : goal.returns-in_default
unfolding Fields.name_at
returns-in_default c = grind (arith, common_steps)

pub returns-then-len-gt250 : goal.returns-then-len-gt250
unfolding Fields.name_at
returns-then-len-gt250 c = grind (arith, common_steps)

pub returns-in-Err : goal.returns-in-Err
unfolding Fields.name_at
returns-in-Err c = grind (arith, common_steps)

pub returns : goal.returns
unfolding Fields.name_at
returns c = grind (arith, common_steps)
