use Rattle.binlog_table.proofs.value.known_value.Goals as goal
use Rattle.binlog_table.specs.Value
use Rattle.std.proofs.Common.{arith}
use Rattle.std.proofs.lemmas.Grind.{common_steps}

pub returns-then-column : goal.returns-then-column
unfolding Value.value_of
returns-then-column c = grind (arith, common_steps)

pub returns-else-column : goal.returns-else-column
unfolding Value.value_of
returns-else-column c = grind (arith, common_steps)

pub returns-after-byte-eq0 : goal.returns-after-byte-eq0
unfolding Value.value_of
returns-after-byte-eq0 c = grind (arith, common_steps)

pub returns-in-Date : goal.returns-in-Date
unfolding Value.value_of
returns-in-Date c = grind (arith, common_steps)

pub returns-in-Text : goal.returns-in-Text
unfolding Value.value_of
returns-in-Text c = grind (arith, common_steps)

pub returns-in-Raw : goal.returns-in-Raw
unfolding Value.value_of
returns-in-Raw c = grind (arith, common_steps)

pub returns-in-Float : goal.returns-in-Float
unfolding Value.value_of
returns-in-Float c = grind (arith, common_steps)

pub returns-in-Bits : goal.returns-in-Bits
unfolding Value.value_of
returns-in-Bits c = grind (arith, common_steps)

pub returns-in-Enum : goal.returns-in-Enum
unfolding Value.value_of
returns-in-Enum c = grind (arith, common_steps)

pub returns-in-Set : goal.returns-in-Set
unfolding Value.value_of
returns-in-Set c = grind (arith, common_steps)
