use Rattle.binlog_table.proofs.layout.pair_layout.Goals as goal
use Rattle.std.proofs.Common.{arith}
use Rattle.std.proofs.lemmas.Grind.{common_steps}

pub returns-in-Some : goal.returns-in-Some
returns-in-Some c = grind (arith, common_steps)

pub returns-in-None : goal.returns-in-None
returns-in-None c = grind (arith, common_steps)

pub returns-in-Some-decimal_layout : goal.returns-in-Some-decimal_layout
returns-in-Some-decimal_layout c = grind (arith, common_steps)

pub returns-in-None-decimal_layout : goal.returns-in-None-decimal_layout
returns-in-None-decimal_layout c = grind (arith, common_steps)

pub returns-then-first-eq48 : goal.returns-then-first-eq48
returns-then-first-eq48 c = grind (arith, common_steps)

pub returns-else-first-eq48 : goal.returns-else-first-eq48
returns-else-first-eq48 c = grind (arith, common_steps)

pub returns-in_default : goal.returns-in_default
returns-in_default c = grind (arith, common_steps)
